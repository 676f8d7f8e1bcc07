use Rattle.std.proofs.Common.{arith, ◌∙◌}
use Rattle.link_arena.specs.Slots.{afters, befores}
use Rattle.link_arena.proofs.Chains.{unlinked, unlinked_back}
use Rattle.link_arena.proofs.chain.link_out.Goals as goal

pub returns-clause-chained : goal.returns-clause-chained
returns-clause-chained g c = λ first last can chained. record {
  nexts = unlinked (afters c.args.order c.args.slots.now) (afters c.args.order c.point_before.new.slots) _ first last _ _ _ can
      (λ z e h. c.point_before.ensures.after z ∙ c.point_after.ensures.set z e h)
      (λ s e. c.point_before.ensures.after s ∙ c.point_after.ensures.others s e)
      chained.nexts;
  previous = unlinked_back (befores c.args.order c.args.slots.now) (befores c.args.order c.point_before.new.slots) _ first last _ _ _ can
      (λ z e h. c.point_before.ensures.set z e (omega arith))
      (λ s e. c.point_before.ensures.others s e ∙ c.point_after.ensures.before s)
      chained.previous;
}
