use Rattle.std.proofs.Common.{rules, subst}
use Rattle.sub_hub.specs.Seen.{hub_seen}
use Rattle.peer_words.specs.Commands.{IsWords}
use Rattle.peer_words.specs.declared.command.Command.{Command}
use Rattle.peer_run.proofs.WholeWatch.{watched_some}
use Rattle.peer_run.proofs.run.run_command.Goals as goal

pub returns-in-Join : goal.returns-in-Join
returns-in-Join g c =
    rw c.in-Join.is (λ others. c.join.ensures (record others { shelf = g.H.Shelf.facts c.args.shelf.now; noise = g.N.Noise.facts c.args.noise.now; hub = hub_seen (λ w. (goal.Watcher-dyn g (w.vtable, w.value)).told w.value) c.args.hub.now }))

pub returns-in-Show : goal.returns-in-Show
returns-in-Show g c =
    rw c.in-Show.is (λ others. c.show.ensures (record others { shelf = g.H.Shelf.facts c.args.shelf.now; noise = g.N.Noise.facts c.args.noise.now; hub = hub_seen (λ w. (goal.Watcher-dyn g (w.vtable, w.value)).told w.value) c.args.hub.now }))

pub returns-in-Gen : goal.returns-in-Gen
returns-in-Gen g c =
    rw c.in-Gen.is (λ others. c.generate.ensures (record others { shelf = g.H.Shelf.facts c.args.shelf.now; input = g.I.Source.facts c.args.input.now; noise = g.N.Noise.facts c.args.noise.now; hub = hub_seen (λ w. (goal.Watcher-dyn g (w.vtable, w.value)).told w.value) c.args.hub.now }))

pub returns-in-Drill : goal.returns-in-Drill
returns-in-Drill g c =
    rw c.in-Drill.is (λ others. c.drill.ensures (record others { shelf = g.H.Shelf.facts c.args.shelf.now; input = g.I.Source.facts c.args.input.now; noise = g.N.Noise.facts c.args.noise.now; hub = hub_seen (λ w. (goal.Watcher-dyn g (w.vtable, w.value)).told w.value) c.args.hub.now }))

pub returns-in-Meet : goal.returns-in-Meet
returns-in-Meet g c =
    rw c.in-Meet.is (λ others. c.meet.ensures (record others { input = g.I.Source.facts c.args.input.now; noise = g.N.Noise.facts c.args.noise.now; hub = hub_seen (λ w. (goal.Watcher-dyn g (w.vtable, w.value)).told w.value) c.args.hub.now }))

pub returns-in-Watch : goal.returns-in-Watch
returns-in-Watch g c =
    rw c.in-Watch.is (λ others. c.watch.ensures (record others { output = g.O.Sink.facts c.args.output.now; noise = g.N.Noise.facts c.args.noise.now }))

pub watch-requires : goal.watch-requires
watch-requires g c =
    let words = c.requires.words in
    (search rules, watched_some words.0 c.in-Watch.image c.in-Watch.area (subst (λ (command : Command). IsWords words.0 command) c.in-Watch.is words.1))

pub returns-in_default : goal.returns-in_default
returns-in_default g c = λ others. c.run_maker.ensures (record others { hub = hub_seen (λ w. (goal.Watcher-dyn g (w.vtable, w.value)).told w.value) c.args.hub.now })
