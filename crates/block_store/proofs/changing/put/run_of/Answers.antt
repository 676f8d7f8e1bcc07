use Rattle.std.proofs.Common.{◌≡◌, ◌+◌, ◌-◌, length, take, drop, subst, ap, ap₂, ◌∙◌, arith}
use Rattle.std.proofs.lemmas.List.{length-append}
use Rattle.willow_entry.specs.Row.{left_of}
use Rattle.block_store.specs.Blocks.{block_rows, block_values, index_of}
use Rattle.block_store.proofs.Pieces.{values_cut, values_cut_behind, values_long}
use Rattle.block_store.proofs.Extensions.{none_counted}
use Rattle.block_store.proofs.Putting.{behind_run_stays, run_counted}
use Rattle.block_store.proofs.changing.put.run_of.Goals as goal

pub pruned_in-requires : goal.pruned_in-requires
pruned_in-requires g c =
    let value = g.R.Row.value in
    let pieces = c.args.pieces.now in
    let from = c.args.at.block in
    let to = c.blocks_to-to.result in
    omega (
      arith,
      values_long value pieces,
      ap length (values_cut value pieces from),
      ap length (values_cut_behind value pieces from to c.blocks_to-to.ensures.from),
      length-append (block_values value (take from pieces)) (block_values value (drop from pieces)),
      length-append (block_values value (take (to - from) (drop from pieces))) (block_values value (drop to pieces)),
      c.requires.few,
    )

pub returns-clause-stays : goal.returns-clause-stays
returns-clause-stays g c =
    let value = g.R.Row.value in
    let pieces = c.args.pieces.now in
    let to = c.blocks_to-to.result in
    behind_run_stays (value c.args.row.now) value pieces (index_of pieces c.run_end-end.result) to (omega (arith, values_long value (take to pieces), c.blocks_to-to.ensures.upto)) c.run_end-end.ensures.stays

pub returns-clause-pruned : goal.returns-clause-pruned
returns-clause-pruned g c =
    let value = g.R.Row.value in
    let pieces = c.args.pieces.now in
    let from = c.args.at.block in
    let to = c.blocks_to-to.result in
    c.pruned_in.ensures.count
    ∙ run_counted (value c.args.row.now) value pieces from to (index_of pieces c.args.at) c.blocks_to-to.ensures.from c.requires.place (omega (arith, values_long value (take from pieces))) (returns-clause-stays g c)

pub returns-then-end-at-2-clause-stays : goal.returns-then-end-at-2-clause-stays
returns-then-end-at-2-clause-stays g c =
    let value = g.R.Row.value in
    let pieces = c.args.pieces.now in
    let to = c.blocks_to-to.result in
    behind_run_stays (value c.args.row.now) value pieces (index_of pieces c.run_end-end.result) to (omega (arith, values_long value (take to pieces), c.blocks_to-to.ensures.upto)) c.run_end-end.ensures.stays

pub returns-then-end-at-2-clause-pruned : goal.returns-then-end-at-2-clause-pruned
returns-then-end-at-2-clause-pruned g c =
    let row = g.R.Row.value c.args.row.now in
    let pieces = c.args.pieces.now in
    let rows = block_values g.R.Row.value pieces in
    let same : index_of pieces c.run_end-end.result ≡ index_of pieces c.args.at = ap₂ (λ block row. length (block_rows (take block pieces)) + row) c.if-end-at.true c.if-end-at-2.true in
    none_counted rows row (index_of pieces c.args.at) c.requires.place (subst (λ n. left_of row (drop n rows) ≡ drop n rows) same c.run_end-end.ensures.stays)
