use Rattle.std.proofs.Common.{◌≡◌, length, All}
use Rattle.willow_outside.specs.Draws.{IsDraw}
use Rattle.peer_make.specs.Making.{TakesDraws}
use Rattle.peer_make.proofs.making.draw_all.Given as goal

abbrev pub invariant-loop : goal.invariant-loop
invariant-loop g l = record {
  many : length l.draws.items ≡ l.counter;
  are : All IsDraw l.draws.items;
  taken : TakesDraws (g.N.Noise.facts l.initial.noise) (g.N.Noise.facts l.noise) l.draws.items;
  faults : (g.N.Noise.facts l.noise).faults ≡ (g.N.Noise.facts l.initial.noise).faults;
}
