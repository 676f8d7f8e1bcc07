use Rattle.std.proofs.Common.{subst, MatchOption, vec_capacity}
use Rattle.link_arena.specs.Arena.{Holds, IsVacant}
use Rattle.link_arena.proofs.Sounds.{value_told}
use Rattle.link_arena.proofs.arena.Arena.get.Goals as goal

pub returns : goal.returns
returns g c =
    subst (λ a. MatchOption c.value_of.result (IsVacant a c.args.slot) (λ value. Holds a c.args.slot value.now)) c.self.view_is
    (value_told _ _ _ _ _ _ _ _ _ c.self.invariant.3 (vec_capacity c.self.inside.slots) _ c.value_of.result (rw c.deref.ensures.value at c.value_of.ensures))
