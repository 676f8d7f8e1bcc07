use Rattle.std.proofs.Common.{◌≡◌, ◌-◌, arith, inl, inr, refl}
use Rattle.std.proofs.lemmas.Result.{err_from_is_err_and}
use Rattle.spelling.specs.Reading.{many_at}
use Rattle.spelling.proofs.Loop.{read_on, read_ends, read_all}
use Rattle.cap_codec.specs.Reading.{delegation_at}
use Rattle.cap_codec.proofs.Asking.{asks_now, delegation_asks, nothing_read}
use Rattle.cap_codec.proofs.Loops.{one_longer}
use Rattle.cap_codec.proofs.capability.read_delegations.Goals as goal

pub returns-in_err-delegation-clause-read : goal.returns-in_err-delegation-clause-read
returns-in_err-delegation-clause-read c =
    let p = err_from_is_err_and c.from_residual.result c.from_residual.ensures.1 in
    rw (p.1, p.2) (read_ends delegation_at c.in_err-delegation.field-0.0 c.loop.delegations.items c.args.count c.loop.counter c.loop.input (many_at delegation_at c.args.count c.args.input.now) c.loop-test.true c.in_err-delegation.ensures.gives c.loop.invariant.0)

pub returns-in_err-delegation-clause-asked : goal.returns-in_err-delegation-clause-asked
returns-in_err-delegation-clause-asked c = λ wants.
    let p = err_from_is_err_and c.from_residual.result c.from_residual.ensures.1 in
    (omega (arith, c.loop-test.true), asks_now c.args.input.now c.loop.input c.loop.invariant.2 (c.in_err-delegation.ensures.asked cc))

pub returns-in_err-push-clause-asked : goal.returns-in_err-push-clause-asked
returns-in_err-push-clause-asked c = λ wants.
    (omega (arith, c.loop-test.true), asks_now c.args.input.now c.loop.input c.loop.invariant.2 (delegation_asks c.loop.input c.in_ok-delegation.delegation c.read_delegation.new.input c.in_ok-delegation.ensures.gives))

pub loop-init : goal.loop-init
loop-init c =
    let whole : c.args.count - 0 ≡ c.args.count = omega arith in (
      rw (c.new-delegations.ensures.items, whole) (nothing_read (many_at delegation_at c.args.count c.args.input.now)),
      rw c.new-delegations.ensures.items refl,
      inl refl,
    )

pub loop-preserved : goal.loop-preserved
loop-preserved c = (
  rw c.in_ok-push.ensures.items (read_on delegation_at c.loop.delegations.items c.args.count c.loop.counter c.loop.input c.read_delegation.new.input c.in_ok-delegation.delegation (many_at delegation_at c.args.count c.args.input.now) c.loop-test.true c.in_ok-delegation.ensures.gives c.loop.invariant.0),
  rw c.in_ok-push.ensures.items (one_longer c.loop.delegations.items c.in_ok-delegation.delegation c.loop.counter c.loop.invariant.1),
  inr (asks_now c.args.input.now c.loop.input c.loop.invariant.2 (delegation_asks c.loop.input c.in_ok-delegation.delegation c.read_delegation.new.input c.in_ok-delegation.ensures.gives)),
)

pub returns-clause-read : goal.returns-clause-read
returns-clause-read c = read_all delegation_at c.loop.delegations.items c.args.count c.loop.counter c.loop.input (many_at delegation_at c.args.count c.args.input.now) c.loop-test.false c.loop.invariant.0
