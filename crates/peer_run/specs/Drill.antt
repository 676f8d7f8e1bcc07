-- What `drill` does: two stores of generated rows meet, and how that went is written.
use Rattle.std.specs.Prelude.{ℕ, ◌/◌, List, [], length, Some, None}
use Rattle.willow_area.specs.declared.area.Area.{Area}
use Rattle.willow_entry.specs.Row.{live, join}
use Rattle.exchange_rules.specs.Items.{to_left, to_right, counted}
use Rattle.sync_core.specs.Flat.{TurnValue}
use Rattle.peer_listing.specs.Summary.{drill_summary}
use Rattle.peer_listing.specs.declared.summary.DrillCounts.{DrillCounts}
use Rattle.peer_rows.specs.Drilled.{generated_rows}
use Rattle.peer_stage.specs.Steps.{Step, OnOutput}
use Rattle.peer_stage.specs.Stages.{Writes}
use Rattle.peer_stage.specs.declared.outcome.Done.{Done}
use Rattle.peer_stage.specs.declared.outcome.Done.TheVariants as done
use Rattle.peer_run.specs.Exchanged.{boxed, met}
use Rattle.peer_run.specs.Offered.{no_limits}

-- any subspace, every path and all times
abbrev pub full_area : Area
full_area = record { subspace = None; path = []; times = record { start = 0; end = None } }

-- the turns of the generated rows below n and those below half of it, rounded down, over everything
abbrev pub drilled : ℕ → List TurnValue
drilled n = met (generated_rows n) (generated_rows (n / 2)) (boxed (Some full_area)) no_limits

-- the live rows of both sides before and after, and the items and turns of the exchange
abbrev pub drill_counts : ℕ → DrillCounts
drill_counts n =
    record {
      rows = n;
      left = length (live (generated_rows n));
      right = length (live (generated_rows (n / 2)));
      left_after = length (join (generated_rows n) (to_left (drilled n)));
      right_after = length (join (generated_rows (n / 2)) (to_right (drilled n)));
      items = counted (drilled n);
      turns = length (drilled n);
    }

-- what a drill writes
unfoldable pub drill_text : ℕ → List ℕ
drill_text n = drill_summary (drill_counts n)

-- It writes how the meeting went.
abbrev pub Drills : ℕ → Step Done
Drills rows = OnOutput (Writes (drill_text rows) done.Made)
