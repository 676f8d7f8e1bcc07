use Rattle.std.proofs.Common.{◌≡◌, ◌∙◌, map, sym, subst, rules}
use Rattle.sub_hub.specs.Seen.{hub_seen}
use Rattle.peer_run.specs.Accepting.{AreReceived}
use Rattle.peer_run.specs.Hearing.{HaveHeardSeen}
use Rattle.peer_run.specs.LogFiles.{file_states}
use Rattle.peer_run.specs.LogPumping.{KeepsUpTo}
use Rattle.peer_run.proofs.LinksTold.{received_as}
use Rattle.peer_run.proofs.accepting.receive.Goals as goal

pub returns-clause-received : goal.returns-clause-received
returns-clause-received g c =
    let accepted = c.scoped-door.result.3 in
    let did = c.scoped-door.ensures.1 in
    let old = g.D.Door.facts c.args.door.now in
    let links = map g.L.Link.facts c.join-links.result.0.items in
    let partings = c.join-links.result.1.items in
    let so : AreReceived c.args.hall.now c.args.guests.items old (g.D.Door.facts c.scoped-door.result.0.now) partings links c.from.result.items accepted.stopped =
    received_as accepted.workers.host c.args.hall.now c.args.guests.items accepted.unused.items c.from.result.items old (g.D.Door.facts c.scoped-door.result.0.now) accepted.workers.begun partings links accepted.stopped did.3 c.from.ensures.0 did.4 c.join-links.ensures in
    let same : c.hand_back_door.new.door ≡ c.door-1.given.0 = search rules in
    subst (λ door. AreReceived c.args.hall.now c.args.guests.items old (g.D.Door.facts door) partings links c.from.result.items accepted.stopped) (sym c.hand_back_door.ensures ∙ same) so

pub returns-clause-heard : goal.returns-clause-heard
returns-clause-heard g c =
    let accepted = c.scoped-door.result.3 in
    let did = c.scoped-door.ensures.1 in
    let same : c.hand_back.new.hub ≡ c.hub-1.given.0 = search rules in
    subst
    (λ hub. HaveHeardSeen c.args.hall.now.cell.namespace c.args.own.seen accepted.own.seen accepted.stopped (hub_seen (λ w. (goal.Watcher-dyn g (w.vtable, w.value)).told w.value) c.args.hub.now)
    (hub_seen (λ w. (goal.Watcher-dyn g (w.vtable, w.value)).told w.value) hub) accepted.left)
    (sym c.hand_back.ensures ∙ same) did.6

pub returns-clause-kept : goal.returns-clause-kept
returns-clause-kept g c =
    let accepted = c.scoped-door.result.3 in
    let did = c.scoped-door.ensures.1 in
    let same : c.hand_back_file.new.file ≡ c.file-1.given.0 = search rules in
    subst (λ file. KeepsUpTo c.args.own.seen accepted.own.seen accepted.stopped (file_states g.K.Disk.facts c.args.file.now) (file_states g.K.Disk.facts file)) (sym c.hand_back_file.ensures ∙ same) did.7
