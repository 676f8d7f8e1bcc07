-- Rows that were written outside the times of a box.
use Rattle.std.proofs.Common.{◌≡◌, ◌⊎◌, inl, inr, ℕ, ◌≤◌, ◌<◌, true, false, List, [], get_or, Option, Some, None, leb-true, arith}
use Rattle.std.proofs.lemmas.Bool.{false_from_ne_true}
use Rattle.std.proofs.lemmas.List.Elements.{recursion_from_All}
use Rattle.willow_area.specs.Boxes.{Ranges}
use Rattle.willow_area.specs.Times.{Times, in_times, ends_by}
use Rattle.willow_area.proofs.Membership.{time_in, IsBefore, below}
use Rattle.willow_entry.specs.Row.{RowValue}
use Rattle.block_store.specs.InBox.{is_in, rows_in}
use Rattle.block_store.specs.Times.{AreWritten}
use Rattle.block_store.proofs.Narrowing.{in_box_is}
use Rattle.block_store.proofs.Spans.{filter_none}

-- a time between two is outside a range that starts behind the later one or ends by the earlier one
time_outside : (times : Times) (earliest time latest : ℕ) → (latest < times.start) ⊎ (ends_by times.end earliest ≡ true) → earliest ≤ time → time ≤ latest → in_times times time ≡ true → ⊥
time_outside times earliest time latest (inl h) le ge t = omega (arith, (time_in times time t).0)
time_outside times earliest time latest (inr h) le ge t = behind times.end h (time_in times time t).1 where
  behind : (end : Option ℕ) → ends_by end earliest ≡ true → IsBefore time end → ⊥
  behind None e b = cc
  behind (Some end) e b = omega (arith, leb-true end earliest e, below time end b)

pub none_written_in : (area : Ranges) (rows : List RowValue) (earliest latest : ℕ) → AreWritten earliest latest rows → (latest < area.times.start) ⊎ (ends_by area.times.end earliest ≡ true) → rows_in area rows ≡ []
none_written_in area rows earliest latest written apart =
    filter_none (is_in area) rows (recursion_from_All (λ r. is_in area r ≡ false) rows (λ k d lt.
    let r = get_or rows k d in
    let w = written k d lt in
    false_from_ne_true (is_in area r) (λ h. time_outside area.times earliest r.entry.timestamp latest apart w.0 w.1 (in_box_is area r h).time_in)))
