use Rattle.std.proofs.Common.{◌≡◌, ℕ, ◌+◌, Some, subst, slice_get, ◌∙◌, ap}
use Rattle.link_arena.specs.Arena.{in_order, slots_in}
use Rattle.link_arena.specs.Slots.{afters}
use Rattle.link_arena.proofs.Sounds.{next_told}
use Rattle.link_arena.proofs.arena.Arena.next_by.Goals as goal

pub returns : goal.returns
returns g c =
    subst (λ a. (i : ℕ) → slice_get (slots_in (in_order c.args.order a)) i ≡ Some c.args.slot → c.ends_at.result.after ≡ slice_get (slots_in (in_order c.args.order a)) (i + 1)) c.self.view_is
    (λ i there. c.ends_at.ensures.after ∙ ap (λ slots. afters c.args.order slots c.args.slot) c.deref.ensures.value ∙ next_told _ _ _ _ _ _ _ _ _ c.self.invariant.3 _ c.args.order c.args.slot i there)
