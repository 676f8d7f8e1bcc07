use Rattle.std.proofs.Common.{map, subst}
use Rattle.willow_entry.specs.Row.{IsCoveringAt}
use Rattle.willow_entry.proofs.Between.{live-kept}
use Rattle.flat_store.proofs.store.offer.Goals as goal

pub returns-in-Some-clause-rows : goal.returns-in-Some-clause-rows
returns-in-Some-clause-rows g c =
    live-kept _ _ c.in-Some.by c.requires.is_live
    (subst (λ l. IsCoveringAt (map g.R.Row.value l) c.in-Some.by (g.R.Row.value c.args.row)) c.deref.ensures.value c.in-Some.ensures.found)
