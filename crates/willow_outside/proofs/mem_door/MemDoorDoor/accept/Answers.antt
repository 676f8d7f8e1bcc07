use Rattle.std.proofs.Common.{◌≡◌, ◌∷◌}
use Rattle.willow_outside.specs.Links.{IsFresh}
use Rattle.willow_outside.proofs.FirstOut.{first_out-first, first_out-rest}
use Rattle.willow_outside.proofs.mem_door.MemDoorDoor.accept.Goals as goal

pub invariant_of-self-2 : goal.invariant_of-self-2
invariant_of-self-2 g c =
    let next : c.self.inside.traffic.to_come.items ≡ c.hand_out.result ∷ c.hand_out.new.self.to_come.items = cc in
    first_out-rest (λ l. IsFresh (g.L.Link.facts l)) _ _ _ next c.self.invariant

pub returns-clause-fresh : goal.returns-clause-fresh
returns-clause-fresh g c =
    let next : c.self.inside.traffic.to_come.items ≡ c.hand_out.result ∷ c.hand_out.new.self.to_come.items = cc in
    first_out-first (λ l. IsFresh (g.L.Link.facts l)) _ _ _ next c.self.invariant
