use Rattle.std.proofs.Common.{◌≡◌, length, sym, ap, ◌∙◌, subst}
use Rattle.std.proofs.lemmas.List.{length-map}
use Rattle.recency_index.specs.Recency.{AreNewestFirst}
use Rattle.recency_index.proofs.Pairs.{newest_first}
use Rattle.recency_index.proofs.index.Recency.first.Goals as goal

pub returns-clause-as_many : goal.returns-clause-as_many
returns-clause-as_many c =
    subst (λ v. length v.slots ≡ length v.items) c.self.view_is
    (length-map c.self.inside.items.by_rank (λ pair. pair.0) ∙ sym (length-map c.self.inside.items.by_rank (λ pair. pair.1)))

pub returns-clause-newest_first : goal.returns-clause-newest_first
returns-clause-newest_first c = subst AreNewestFirst (ap (λ v. v.items) c.self.view_is) (newest_first c.self.inside.items c.self.invariant)
