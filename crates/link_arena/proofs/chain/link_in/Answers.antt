use Rattle.std.proofs.Common.{arith, refl, ◌∙◌}
use Rattle.link_arena.specs.Slots.{afters, befores}
use Rattle.link_arena.proofs.Chains.{nexts_linked, previous_linked}
use Rattle.link_arena.proofs.chain.link_in.Goals as goal

pub returns-clause-chained : goal.returns-clause-chained
returns-clause-chained g c = λ first last can chained. record {
  nexts = nexts_linked (afters c.args.order c.args.slots.now) (afters c.args.order c.point_before.new.slots) (afters c.args.order c.point_before-2.new.slots) _ first last _ _ _ can
      (λ h. c.point_before.ensures.after _ ∙ c.point_after.ensures.set _ refl h)
      (λ s e. c.point_before.ensures.after s ∙ c.point_after.ensures.others s e)
      (λ z e h. c.point_before-2.ensures.after z ∙ c.point_after-2.ensures.set z e (omega arith))
      (λ s e. c.point_before-2.ensures.after s ∙ c.point_after-2.ensures.others s e)
      chained.nexts;
  previous = previous_linked (befores c.args.order c.args.slots.now) (befores c.args.order c.point_after-2.new.slots) (befores c.args.order c.point_before-2.new.slots) _ first last _ _ _ can
      (λ h. c.point_after-2.ensures.before _ ∙ c.point_before.ensures.set _ refl (omega arith))
      (λ s e. c.point_after-2.ensures.before s ∙ (c.point_before.ensures.others s e ∙ c.point_after.ensures.before s))
      (λ z e h. c.point_before-2.ensures.set z e (omega arith))
      (λ s e. c.point_before-2.ensures.others s e)
      chained.previous;
}
