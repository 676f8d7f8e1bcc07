use Rattle.std.proofs.Common.{true, arith}
use Rattle.block_store.proofs.BlockRuns.{run_by_keys, all_of_keys}
use Rattle.block_store.proofs.reading.runs.several_run.Goals as goal

pub returns-then-has_all_of_keys-clause-run : goal.returns-then-has_all_of_keys-clause-run
returns-then-has_all_of_keys-clause-run g c =
    let q = c.requires in
    let whole = c.has_all_of_keys.ensures.whole.0 c.if-has_all_of_keys.true in
    run_by_keys g.R.Row.value c.args.area.now c.args.listing.now.pieces.items c.args.from c.args.to _ q.from q.to q.low q.high c.has_all_of_keys.ensures.rising
    (λ _. all_of_keys g.R.Row.value c.args.area.now c.args.listing.now.pieces.items c.args.from c.args.to true q.from q.to q.low q.high whole.0 whole.1)

pub returns-else-has_all_of_keys-clause-run : goal.returns-else-has_all_of_keys-clause-run
returns-else-has_all_of_keys-clause-run g c =
    let q = c.requires in
    run_by_keys g.R.Row.value c.args.area.now c.args.listing.now.pieces.items c.args.from c.args.to _ q.from q.to q.low q.high c.has_all_of_keys.ensures.rising
    (λ empty k d le lt. absurd (omega (arith, q.none empty)))
