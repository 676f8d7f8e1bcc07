use Rattle.std.proofs.Common.{rules, ◌≡◌}
use Rattle.peer_make.specs.Making.{drawn_key}
use Rattle.peer_make.proofs.Drawn.{drawn}
use Rattle.peer_make.proofs.making.draw_key.Goals as goal

pub returns-clause-draws : goal.returns-clause-draws
returns-clause-draws g c =
    let made : c.make.result ≡ drawn_key c.args.height c.in_ok-first.first c.in_ok-seed.seed = search rules in
    drawn c.args.height (g.N.Noise.facts c.args.noise.now) (g.N.Noise.facts c.draw.new.noise) (g.N.Noise.facts c.draw-2.new.noise) c.in_ok-first.first c.in_ok-seed.seed c.make.result
    c.in_ok-first.ensures.draws c.in_ok-seed.ensures.draws made
