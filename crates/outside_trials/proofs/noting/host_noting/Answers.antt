use Rattle.std.proofs.Common.{ap, arith, rules}
use Rattle.link_host.specs.Begun.{WorkersValue}
use Rattle.outside_trials.proofs.noting.host_noting.Goals as goal

pub scoped-door-requires : goal.scoped-door-requires
scoped-door-requires g c =
    let is = c.in_ok-workers.ensures in
    record { at = λ a. ((ap (λ (w : WorkersValue _ _). w.host) is, ap (λ (w : WorkersValue _ _). w.begun) is, omega (arith, ap (λ (w : WorkersValue _ _). w.room) is)), search (rules, c.type_bounds)) }
