use Rattle.std.proofs.Common.{All, take_all, refl, subst, arith}
use Rattle.std.proofs.lemmas.List.Elements.{All-more}
use Rattle.mesh_core.specs.Given.{IsAmong}
use Rattle.mesh_trials.proofs.checks.are_among.Goals as goal

pub loop-event-preserved : goal.loop-event-preserved
loop-event-preserved c =
    All-more (IsAmong c.args.nodes) c.args.events.now c.loop-event.event-index c.event-item.result c.loop-event-test.true c.loop-event.invariant (subst (IsAmong c.args.nodes) c.event-item.is (c.if-not-is_among.ensures refl))

pub returns : goal.returns
returns c = λ told. subst (All (IsAmong c.args.nodes)) (take_all c.loop-event.event-index c.args.events.now (omega (arith, c.loop-event-test.false))) c.loop-event.invariant
