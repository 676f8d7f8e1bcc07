use Rattle.std.proofs.Common.{◌≡◌, ◌-◌, arith}
use Rattle.std.proofs.lemmas.Result.{err_from_is_err_and}
use Rattle.spelling.specs.Reading.{bytes_at, many_at}
use Rattle.spelling.proofs.Loop.{read_on, read_ends, read_all}
use Rattle.sync_msg.proofs.OneDimension.{nothing_read}
use Rattle.sync_msg.proofs.read.read_prints.Goals as goal

pub returns-in_err-print : goal.returns-in_err-print
returns-in_err-print c =
    let p = err_from_is_err_and c.from_residual.result c.from_residual.ensures.1 in
    rw (p.1, p.2) (record { gives = read_ends (bytes_at 32) c.in_err-print.field-0.0 c.loop.prints c.args.count c.loop.counter c.loop.input (many_at (bytes_at 32) c.args.count c.args.input.now) c.loop-test.true c.in_err-print.ensures.gives c.loop.invariant })

pub loop-init : goal.loop-init
loop-init c =
    let whole : c.args.count - 0 ≡ c.args.count = omega arith in
    rw (c.new-prints.ensures, whole) (nothing_read (many_at (bytes_at 32) c.args.count c.args.input.now))

pub loop-preserved : goal.loop-preserved
loop-preserved c =
    rw c.in_ok-push.ensures.added (read_on (bytes_at 32) c.loop.prints c.args.count c.loop.counter c.loop.input c.array.new.self c.in_ok-print.print (many_at (bytes_at 32) c.args.count c.args.input.now) c.loop-test.true c.in_ok-print.ensures.gives c.loop.invariant)

pub returns : goal.returns
returns c = record { gives = read_all (bytes_at 32) c.loop.prints c.args.count c.loop.counter c.loop.input (many_at (bytes_at 32) c.args.count c.args.input.now) c.loop-test.false c.loop.invariant }
