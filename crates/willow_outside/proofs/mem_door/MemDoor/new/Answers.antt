use Rattle.willow_outside.specs.Links.{IsFresh}
use Rattle.willow_outside.proofs.FirstOut.{each-from_all}
use Rattle.willow_outside.proofs.mem_door.MemDoor.new.Goals as goal

pub invariant_of-result : goal.invariant_of-result
invariant_of-result g c =
    rw c.new.ensures.to_come (each-from_all (λ l. IsFresh (g.L.Link.facts l)) _ c.requires)
