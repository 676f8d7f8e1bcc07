use Rattle.std.proofs.Common.{Bool, sym, subst, ap}
use Rattle.lms_core.specs.Use.{peer_rules}
use Rattle.sync_link.specs.Plans.{planned}
use Rattle.sub_hub.specs.Seen.{hub_seen}
use Rattle.peer_run.specs.LogFiles.{file_states}
use Rattle.peer_run.specs.Preparing.{nonce_of}
use Rattle.peer_run.specs.Visiting.{Attends}
use Rattle.peer_run.proofs.KeptPumps.{no_file_kept, no_file_stops}
use Rattle.peer_run.proofs.sessions.run_sessions.Goals as goal

pub returns-then-awaited-clause-attends : goal.returns-then-awaited-clause-attends
returns-then-awaited-clause-attends g c =
    subst (λ (awaited : Bool). Attends (record { awaited = awaited; follows = c.args.follow; place = c.args.place.now }) c.args.plan.ask (λ draw. planned peer_rules c.args.state.namespace c.args.plan (nonce_of draw)) c.args.signers.items c.args.draws.now c.args.state (g.D.Door.facts c.args.door.now) (g.D.Door.facts c.attend.new.door) (hub_seen (λ w. (goal.Watcher-dyn g (w.vtable, w.value)).told w.value) c.args.hub.now) (hub_seen (λ w. (goal.Watcher-dyn g (w.vtable, w.value)).told w.value) c.attend.new.hub) c.attend.result)
    (sym c.if-awaited.true) c.attend.ensures.attends

pub returns-else-awaited-clause-attends : goal.returns-else-awaited-clause-attends
returns-else-awaited-clause-attends g c =
    subst (λ (awaited : Bool). Attends (record { awaited = awaited; follows = c.args.follow; place = c.args.place.now }) c.args.plan.ask (λ draw. planned peer_rules c.args.state.namespace c.args.plan (nonce_of draw)) c.args.signers.items c.args.draws.now c.args.state (g.D.Door.facts c.args.door.now) (g.D.Door.facts c.call.new.door) (hub_seen (λ w. (goal.Watcher-dyn g (w.vtable, w.value)).told w.value) c.args.hub.now) (hub_seen (λ w. (goal.Watcher-dyn g (w.vtable, w.value)).told w.value) c.args.hub.now) c.call.result)
    (sym c.if-awaited.false) (c.call.ensures (hub_seen (λ w. (goal.Watcher-dyn g (w.vtable, w.value)).told w.value) c.args.hub.now))

pub returns-else-awaited-clause-kept : goal.returns-else-awaited-clause-kept
returns-else-awaited-clause-kept g c = no_file_kept c.args.state.log (file_states g.K.Disk.facts c.args.file.now) c.call.result (ap (file_states g.K.Disk.facts) (c.requires.call c.if-awaited.false).1)

pub returns-else-awaited-clause-stopped : goal.returns-else-awaited-clause-stopped
returns-else-awaited-clause-stopped g c = no_file_stops (file_states g.K.Disk.facts c.args.file.now) c.call.result
