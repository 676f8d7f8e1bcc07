use Rattle.std.proofs.Common.{arith}
use Rattle.std.proofs.lemmas.Result.{IfOk-weaker}
use Rattle.mesh_core.proofs.Runs.{begun, goes_on, done, done_alike, are_run, are_live, only_reached, cover_reached, hold_all, agree}
use Rattle.mesh_core.proofs.run.run_events.Goals as goal

pub loop-event-init : goal.loop-event-init
loop-event-init c = begun c.args.version c.args.nodes c.args.events.now c.in_ok-mesh.mesh c.in_ok-mesh.ensures.as_many c.in_ok-mesh.ensures.empty

pub loop-event-preserved : goal.loop-event-preserved
loop-event-preserved c =
    let at = c.loop-event in
    let new = c.in_ok-mesh-2 in
    goes_on c.args.version c.args.nodes c.args.events.now at.event-index at.mesh c.event-item.result at.invariant c.requires.among c.loop-event-test.true c.event-item.is new.mesh c.known.ensures new.ensures.as_many new.ensures.rows

pub returns-clause-run : goal.returns-clause-run
returns-clause-run c =
    let a = c.args in
    let over = done a.version a.nodes a.events.now c.loop-event.event-index c.loop-event.mesh c.loop-event.invariant (omega (arith, c.loop-event-test.false)) in
    IfOk-weaker c.snapshots.result _ _ (λ v is. are_run a.version a.nodes a.events.now v.items (done_alike a.version a.nodes a.events.now c.loop-event.mesh v.items over is)) c.snapshots.ensures

pub returns-clause-live : goal.returns-clause-live
returns-clause-live c =
    let a = c.args in
    let over = done a.version a.nodes a.events.now c.loop-event.event-index c.loop-event.mesh c.loop-event.invariant (omega (arith, c.loop-event-test.false)) in
    IfOk-weaker c.snapshots.result _ _ (λ v is. are_live a.version a.nodes a.events.now v.items (done_alike a.version a.nodes a.events.now c.loop-event.mesh v.items over is)) c.snapshots.ensures

pub returns-clause-only : goal.returns-clause-only
returns-clause-only c =
    let a = c.args in
    let over = done a.version a.nodes a.events.now c.loop-event.event-index c.loop-event.mesh c.loop-event.invariant (omega (arith, c.loop-event-test.false)) in
    IfOk-weaker c.snapshots.result _ _ (λ v is. only_reached a.version a.nodes a.events.now v.items (done_alike a.version a.nodes a.events.now c.loop-event.mesh v.items over is)) c.snapshots.ensures

pub returns-clause-reached : goal.returns-clause-reached
returns-clause-reached c = λ apart.
    let a = c.args in
    let over = done a.version a.nodes a.events.now c.loop-event.event-index c.loop-event.mesh c.loop-event.invariant (omega (arith, c.loop-event-test.false)) in
    IfOk-weaker c.snapshots.result _ _ (λ v is. cover_reached a.version a.nodes a.events.now v.items (done_alike a.version a.nodes a.events.now c.loop-event.mesh v.items over is) apart) c.snapshots.ensures

pub returns-clause-all : goal.returns-clause-all
returns-clause-all c = λ apart.
    let a = c.args in
    let over = done a.version a.nodes a.events.now c.loop-event.event-index c.loop-event.mesh c.loop-event.invariant (omega (arith, c.loop-event-test.false)) in
    IfOk-weaker c.snapshots.result _ _ (λ v is. hold_all a.version a.nodes a.events.now v.items (done_alike a.version a.nodes a.events.now c.loop-event.mesh v.items over is) apart) c.snapshots.ensures

pub returns-clause-agree : goal.returns-clause-agree
returns-clause-agree c = λ apart.
    let a = c.args in
    let over = done a.version a.nodes a.events.now c.loop-event.event-index c.loop-event.mesh c.loop-event.invariant (omega (arith, c.loop-event-test.false)) in
    IfOk-weaker c.snapshots.result _ _ (λ v is. agree a.version a.nodes a.events.now v.items (done_alike a.version a.nodes a.events.now c.loop-event.mesh v.items over is) apart) c.snapshots.ensures
