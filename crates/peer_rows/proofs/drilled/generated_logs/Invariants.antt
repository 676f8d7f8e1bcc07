use Rattle.std.proofs.Common.{◌≡◌, ◌-◌, ◌≤◌}
use Rattle.peer_listing.specs.Generator.{generator_namespace}
use Rattle.peer_rows.specs.RowLogs.{HasTaken}
use Rattle.auth_entry.specs.Rows.{entry_row}
use Rattle.peer_rows.specs.Drilled.{generated_rows}
use Rattle.peer_rows.proofs.drilled.generated_logs.Given as goal

abbrev pub invariant-both : goal.invariant-both
invariant-both g l =
    record {
      within : l.made ≤ l.middle;
      checks : g.C.Checker.judged_in l.checker ≡ generator_namespace;
      whole : HasTaken entry_row (generated_rows l.made) l.whole;
      half : HasTaken entry_row (generated_rows l.made) l.half;
      whole_namespace : l.whole.namespace ≡ generator_namespace;
      half_namespace : l.half.namespace ≡ generator_namespace;
    }

abbrev pub decreases-both : goal.decreases-both
decreases-both g l = l.middle - l.made

abbrev pub invariant-others : goal.invariant-others
invariant-others g l =
    record {
      within : l.made ≤ l.rows;
      checks : g.C.Checker.judged_in l.checker ≡ generator_namespace;
      whole : HasTaken entry_row (generated_rows l.made) l.whole;
      whole_namespace : l.whole.namespace ≡ generator_namespace;
    }

abbrev pub decreases-others : goal.decreases-others
decreases-others g l = l.rows - l.made
