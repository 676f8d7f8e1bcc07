use Rattle.std.proofs.Common.{◌≡◌, subst, slice_get, refl}
use Rattle.link_arena.specs.Arena.{in_order, slots_in}
use Rattle.link_arena.proofs.Sounds.{first_told}
use Rattle.link_arena.proofs.arena.Arena.first_by.Goals as goal

pub returns : goal.returns
returns g c =
    subst (λ a. c.least.result ≡ slice_get (slots_in (in_order c.args.order a)) 0) c.self.view_is
    (first_told _ _ _ _ _ _ _ _ _ c.self.invariant.3 _ c.self.inside.tops refl refl c.args.order c.least.result (rw (c.deref.ensures.value, c.of.ensures) at c.least.ensures))
