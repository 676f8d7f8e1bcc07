use Rattle.std.proofs.lemmas.Result.{err_from_is_err_and}
use Rattle.peer_make.proofs.Drawn.{takes_within}
use Rattle.peer_make.proofs.making.draw_all.Goals as goal

pub returns-in_err-put_draw-clause-draws : goal.returns-in_err-put_draw-clause-draws
returns-in_err-put_draw-clause-draws g c =
    let p = err_from_is_err_and c.from_residual-in_err-put_draw.result c.from_residual-in_err-put_draw.ensures.1 in
    let old = g.N.Noise.facts c.args.noise.now in
    let between = g.N.Noise.facts c.loop.noise in
    let new = g.N.Noise.facts c.draw.new.noise in
    rw (p.1, p.2)
    (takes_within c.args.count c.loop.counter old between new c.loop.draws.items c.in_ok-words.words c.loop-test.true c.loop.invariant.many c.loop.invariant.taken c.in_ok-words.ensures.draws.1)
