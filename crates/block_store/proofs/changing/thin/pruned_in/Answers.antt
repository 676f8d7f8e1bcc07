use Rattle.std.proofs.Common.{◌+◌, count_by, take, take_all, get_or, sym, ap, ap₂, ◌∙◌, arith}
use Rattle.std.proofs.lemmas.List.Sums.{count_by-le-length}
use Rattle.willow_entry.specs.Row.{is_dominating}
use Rattle.block_store.specs.Blocks.{block_values}
use Rattle.block_store.specs.Held.{values_of}
use Rattle.block_store.proofs.Pieces.{values_more, values_long, rows_within}
use Rattle.block_store.proofs.Thinning.{counted_append}
use Rattle.block_store.proofs.changing.thin.pruned_in.Goals as goal

pub overflow_add-count : goal.overflow_add-count
overflow_add-count g c =
    let test = is_dominating (g.R.Row.value c.args.row.now) in
    let pieces = c.args.pieces.now in
    let at = c.loop-at.at in
    let piece = c.index-pieces-at.result in
    let part = ap (λ (b : _). count_by test (values_of g.R.Row.value b.rows.items)) c.deref.ensures in
    omega (
      arith,
      c.loop-at.invariant.counted,
      c.pruned_of-count.ensures,
      part,
      counted_append test (block_values g.R.Row.value (take at pieces)) (values_of g.R.Row.value (get_or pieces at piece).block.value.rows.items),
      ap (count_by test) (values_more g.R.Row.value pieces at piece (omega arith)),
      count_by-le-length test (block_values g.R.Row.value (take (at + 1) pieces)),
      values_long g.R.Row.value (take (at + 1) pieces),
      values_long g.R.Row.value pieces,
      rows_within pieces (at + 1),
      c.requires,
    )

pub loop-at-preserved : goal.loop-at-preserved
loop-at-preserved g c =
    let test = is_dominating (g.R.Row.value c.args.row.now) in
    let pieces = c.args.pieces.now in
    let at = c.loop-at.at in
    let piece = c.index-pieces-at.result in
    record {
      counted = ap₂ (λ m n. m + n) c.loop-at.invariant.counted (c.pruned_of-count.ensures ∙ ap (λ (b : _). count_by test (values_of g.R.Row.value b.rows.items)) c.deref.ensures)
          ∙ sym (ap (count_by test) (values_more g.R.Row.value pieces at piece (omega arith)) ∙ counted_append test (block_values g.R.Row.value (take at pieces)) (values_of g.R.Row.value (get_or pieces at piece).block.value.rows.items));
    }

pub returns-clause-count : goal.returns-clause-count
returns-clause-count g c =
    c.loop-at.invariant.counted ∙ ap (λ l. count_by (is_dominating (g.R.Row.value c.args.row.now)) (block_values g.R.Row.value l)) (take_all c.loop-at.at c.args.pieces.now (omega arith))
