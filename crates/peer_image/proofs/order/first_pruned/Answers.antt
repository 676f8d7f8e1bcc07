use Rattle.std.proofs.Common.{[], map, refl, sym, subst}
use Rattle.peer_image.specs.Fronts.{Suffices, seen}
use Rattle.peer_image.proofs.KeptFronts.{suffices_none}
use Rattle.peer_image.proofs.order.first_pruned.Goals as goal

pub returns-clause-found : goal.returns-clause-found
returns-clause-found g c =
    c.pruned_behind.ensures.found []
    (record { counted = refl; sufficient = subst (λ l. Suffices [] (map (seen g.R.Row.value) l)) (sym c.new.ensures.items) suffices_none; rising = c.requires.rising })
