use Rattle.std.proofs.Common.{subst}
use Rattle.sub_hub.specs.Seen.{hub_seen}
use Rattle.peer_stage.specs.World.{World}
use Rattle.peer_run.specs.Hosting.{DoesHost}
use Rattle.peer_run.specs.declared.sessions.HostWords.{HostWords}
use Rattle.peer_run.proofs.run.run_afar.Goals as goal

pub returns-in-Sync : goal.returns-in-Sync
returns-in-Sync g c =
    rw c.in-Sync.is (λ others.
    let old : World = record others { shelf = g.H.Shelf.facts c.args.shelf.now; door = g.D.Door.facts c.args.door.now; noise = g.N.Noise.facts c.args.noise.now; bay = g.B.Bay.facts c.args.bay.now; hub = hub_seen (λ w. (goal.Watcher-dyn g (w.vtable, w.value)).told w.value) c.args.hub.now } in
    let new : World = record others { shelf = g.H.Shelf.facts c.host.new.shelf; door = g.D.Door.facts c.host.new.door; noise = g.N.Noise.facts c.host.new.noise; bay = g.B.Bay.facts c.host.new.bay; hub = hub_seen (λ w. (goal.Watcher-dyn g (w.vtable, w.value)).told w.value) c.host.new.hub } in
    subst (λ (words : HostWords). DoesHost words old new c.host.result) c.calling_words-words.ensures (c.host.ensures others))
