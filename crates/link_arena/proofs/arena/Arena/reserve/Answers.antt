use Rattle.std.proofs.Common.{arith, ap, ◌∙◌, sym, length}
use Rattle.link_arena.proofs.Sounds.{key_length}
use Rattle.link_arena.proofs.arena.Arena.reserve.Goals as goal

pub returns-clause-room : goal.returns-clause-room
returns-clause-room g c =
    let held = sym (key_length _ _ _ _ _ _ _ _ _ c.self.invariant.3) ∙ ap (λ a. length a.by_key) c.self.view_is in
    let all = c.self.invariant.3.all in
    omega (arith, held, all, c.in_ok-reserve.ensures.ok)
