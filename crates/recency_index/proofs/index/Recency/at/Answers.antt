use Rattle.std.proofs.Common.{MatchOption, Contains, subst}
use Rattle.recency_index.specs.Recency.{IsItemAt}
use Rattle.recency_index.proofs.Taken.{item_of_slot}
use Rattle.recency_index.proofs.index.Recency.at.Goals as goal

pub returns : goal.returns
returns c =
    subst (λ v. MatchOption c.get.result (Contains v.slots c.args.slot → ⊥) (λ item. IsItemAt v c.args.slot item.now)) c.self.view_is
    (item_of_slot c.self.inside.items c.self.invariant c.args.slot c.get.result c.get.ensures)
