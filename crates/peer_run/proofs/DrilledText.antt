-- What a drill tells, from what both logs hold then.
use Rattle.std.proofs.Common.{◌≡◌, ℕ, ◌/◌, List, length, Some, sym, ap, ◌∙◌, subst}
use Rattle.std.specs.List.{All}
use Rattle.std.proofs.lemmas.List.{length-map}
use Rattle.std.proofs.lemmas.List.Elements.{All-from_recursion}
use Rattle.willow_entry.specs.Frame.{HasFrame}
use Rattle.willow_entry.specs.Row.{RowValue, live}
use Rattle.auth_entry.specs.Authorised.{AuthorisedValue}
use Rattle.sync_hello.specs.declared.version.TheConstants.{HIGHEST_VERSION}
use Rattle.sync_pair.specs.Meeting.{turn_bytes}
use Rattle.peer_listing.specs.Summary.{drill_summary}
use Rattle.peer_listing.specs.declared.summary.DrillCounts.{DrillCounts}
use Rattle.peer_rows.specs.Drilled.{generated_rows}
use Rattle.auth_entry.specs.Rows.{entry_row}
use Rattle.peer_rows.specs.Logged.{live_rows}
use Rattle.ns_state.specs.Log.{StateValue}
use Rattle.peer_rows.specs.RowLogs.{HasTaken}
use Rattle.peer_rows.proofs.Taken.{taken_live}
use Rattle.peer_run.specs.Drill.{drilled, drill_counts, drill_text, full_area}
use Rattle.peer_run.specs.Exchanged.{boxed, AreMet}
use Rattle.peer_run.specs.Offered.{no_limits}
use Rattle.peer_run.specs.declared.exchanging.Exchanged.{Exchanged}
use Rattle.peer_run.proofs.DrilledRows.{generated_framed}
use Rattle.peer_run.proofs.Members.{live_all}

-- ---- what a log holds

module _ (n : ℕ) (log : StateValue AuthorisedValue) (takes : HasTaken entry_row (generated_rows n) log) where
  pub drilled_framed : All HasFrame (live_rows log)
  drilled_framed = subst (All HasFrame) (sym (taken_live entry_row (generated_rows n) log takes)) (All-from_recursion HasFrame (live (generated_rows n)) (live_all HasFrame (generated_rows n) (generated_framed n)))

-- as many are held as are live of those offered
held_count : (seen : List RowValue) (log : StateValue AuthorisedValue) (count : ℕ) → HasTaken entry_row seen log → count ≡ length (live_rows log) → count ≡ length (live seen)
held_count seen log count takes is = is ∙ ap length (taken_live entry_row seen log takes)

-- ---- the text

counts_of : (rows left right left_after right_after items turns : ℕ) → DrillCounts
counts_of rows left right left_after right_after items turns = record { rows = rows; left = left; right = right; left_after = left_after; right_after = right_after; items = items; turns = turns }

same_numbers : (a b : DrillCounts) → a.rows ≡ b.rows → a.left ≡ b.left → a.right ≡ b.right → a.left_after ≡ b.left_after → a.right_after ≡ b.right_after → a.items ≡ b.items → a.turns ≡ b.turns
    → counts_of a.rows a.left a.right a.left_after a.right_after a.items a.turns ≡ counts_of b.rows b.left b.right b.left_after b.right_after b.items b.turns
same_numbers a b rows left right left_after right_after items turns = cc

same_counts : (a b : DrillCounts) → a.rows ≡ b.rows → a.left ≡ b.left → a.right ≡ b.right → a.left_after ≡ b.left_after → a.right_after ≡ b.right_after → a.items ≡ b.items → a.turns ≡ b.turns → a ≡ b
unfolding counts_of
same_counts a b rows left right left_after right_after items turns = same_numbers a b rows left right left_after right_after items turns

module _ (n : ℕ) (left right left' right' : StateValue AuthorisedValue) (x : Exchanged) (takes : HasTaken entry_row (generated_rows n) left) (takes_too : HasTaken entry_row (generated_rows (n / 2)) right)
    (is : AreMet (generated_rows n) (generated_rows (n / 2)) (boxed (Some full_area)) no_limits left' right' x) where
  pub is_drill_text : (counts : DrillCounts) (text : List ℕ) → counts.rows ≡ n → counts.left ≡ length (live_rows left) → counts.right ≡ length (live_rows right) → counts.left_after ≡ length (live_rows left') → counts.right_after ≡ length (live_rows right')
      → counts.items ≡ x.items → counts.turns ≡ length x.turns.items → text ≡ drill_summary counts → text ≡ drill_text n
  unfolding drill_text
  is_drill_text counts text rows one other one_after other_after items turns text_is =
      text_is
      ∙ ap drill_summary
      (same_counts counts (drill_counts n) rows (held_count (generated_rows n) left counts.left takes one) (held_count (generated_rows (n / 2)) right counts.right takes_too other)
      (held_count _ left' counts.left_after is.left.taken one_after) (held_count _ right' counts.right_after is.right.taken other_after) (items ∙ is.items)
      (turns ∙ sym (length-map x.turns.items (λ t. t.items)) ∙ ap length is.turns ∙ length-map (drilled n) (turn_bytes HIGHEST_VERSION)))
