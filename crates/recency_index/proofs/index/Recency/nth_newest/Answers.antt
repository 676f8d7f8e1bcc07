use Rattle.std.proofs.Common.{◌≡◌, ◌≤◌, Some, MatchOption, length, slice_get, sym, ap, ◌∙◌, subst}
use Rattle.recency_index.specs.Recency.{AreNewestFirst}
use Rattle.recency_index.proofs.Pairs.{newest_first}
use Rattle.recency_index.proofs.Taken.{nth_item}
use Rattle.recency_index.proofs.index.Recency.nth_newest.Goals as goal

pub returns-in_err-slot-clause-newest_first : goal.returns-in_err-slot-clause-newest_first
returns-in_err-slot-clause-newest_first c = subst AreNewestFirst (ap (λ v. v.items) c.self.view_is) (newest_first c.self.inside.items c.self.invariant)

pub returns-clause-newest_first : goal.returns-clause-newest_first
returns-clause-newest_first c = subst AreNewestFirst (ap (λ v. v.items) c.self.view_is) (newest_first c.self.inside.items c.self.invariant)

pub returns-clause-item : goal.returns-clause-item
returns-clause-item c =
    subst (λ v. MatchOption c.get.result (length v.items ≤ c.args.n) (λ item. slice_get v.items c.args.n ≡ Some item.now)) c.self.view_is
    (nth_item c.self.inside.items c.self.invariant c.args.n c.in_ok-slot.slot (sym c.nth_slot.ensures ∙ c.in_ok-slot.was) c.get.result c.get.ensures)
