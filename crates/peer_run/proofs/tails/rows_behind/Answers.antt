use Rattle.std.proofs.Common.{◌≡◌, [], drop, ap, arith}
use Rattle.std.specs.List.{sum_by}
use Rattle.std.proofs.lemmas.List.{drop_all}
use Rattle.peer_run.specs.Telling.{rows_told}
use Rattle.peer_run.proofs.tails.rows_behind.Goals as goal

pub returns : goal.returns
returns c =
    let none : drop c.loop-end.end-index c.args.ends.now ≡ [] = drop_all c.loop-end.end-index c.args.ends.now c.loop-end-test.false in
    let zero : sum_by rows_told (drop c.loop-end.end-index c.args.ends.now) ≡ 0 = ap (sum_by rows_told) none in
    omega (arith, c.loop-end.invariant.counted, c.loop-end.invariant.fits, zero)
