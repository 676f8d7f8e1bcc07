use Rattle.std.proofs.Common.{◌≡◌, ℕ, List, Contains, Some, slice_get, sym, ◌∙◌}
use Rattle.std.proofs.lemmas.Option.{slice_get_within, get_or_from_slice_get}
use Rattle.log_trials.proofs.walks.nth_slot.Goals as goal

stands_there : (slots : List ℕ) (n slot : ℕ) → slice_get slots n ≡ Some slot → Contains slots slot
stands_there slots n slot e = (n, slice_get_within slots n slot e, get_or_from_slice_get slots n slot slot e)

pub next-at-requires : goal.next-at-requires
next-at-requires c = stands_there c.args.index.now.slots c.loop-passed._passed c.in_ok-at.field-0 (sym c.loop-passed.invariant ∙ c.in_ok-at.was)

pub loop-passed-preserved : goal.loop-passed-preserved
loop-passed-preserved c = c.next-at.ensures c.loop-passed._passed (sym c.loop-passed.invariant ∙ c.in_ok-at.was)
