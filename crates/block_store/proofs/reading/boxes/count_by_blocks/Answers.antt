use Rattle.std.proofs.Common.{◌≡◌, ◌+◌, length, take, sym, ap, ◌∙◌, subst, arith}
use Rattle.std.proofs.lemmas.List.{length-append}
use Rattle.willow_entry.specs.Row.{IsRising}
use Rattle.block_store.specs.Blocks.{block_values}
use Rattle.block_store.specs.Held.{rows_of}
use Rattle.block_store.specs.InBox.{is_in, rows_in}
use Rattle.block_store.specs.Starts.{values_at}
use Rattle.block_store.proofs.BlockRuns.{none_in_front, all_in_front, in_more}
use Rattle.block_store.proofs.Pieces.{values_long}
use Rattle.block_store.proofs.Spans.{filter_fewer, front_short}
use Rattle.block_store.proofs.Spots.{starts_rise}
use Rattle.block_store.proofs.reading.boxes.count_by_blocks.Goals as goal

pub loop-i-init : goal.loop-i-init
loop-i-init g c = ap length (sym (none_in_front g.R.Row.value c.args.area.now c.args.listing.now.pieces.items c.args.run.now c.requires))

pub count_in_block-count-requires : goal.count_in_block-count-requires
count_in_block-count-requires g c = subst IsRising (sym c.block.ensures.rows) c.block.ensures.rising

-- the count with the block's, as the rows are with those of the block
counted : (g : _) (c : goal.After-count_in_block-count g) → c.loop-i.count + c.count_in_block-count.result ≡ length (rows_in c.args.area.now (block_values g.R.Row.value (take (c.loop-i.i + 1) c.args.listing.now.pieces.items)))
counted g c =
    let area = c.args.area.now in
    let pieces = c.args.listing.now.pieces.items in
    let here = c.count_in_block-count.ensures ∙ ap (λ l. length (rows_in area l)) c.block.ensures.rows in
    let more = ap length (in_more g.R.Row.value area pieces c.loop-i.i (omega (arith, c.block_behind-i-end.ensures.within))) in
    omega (arith, here, more, c.loop-i.invariant, length-append (rows_in area (block_values g.R.Row.value (take c.loop-i.i pieces))) (rows_in area (values_at g.R.Row.value pieces c.loop-i.i)))

pub overflow_add-count : goal.overflow_add-count
overflow_add-count g c =
    let pieces = c.args.listing.now.pieces.items in
    let front = take (c.loop-i.i + 1) pieces in
    omega (arith, counted g c, filter_fewer (is_in c.args.area.now) (block_values g.R.Row.value front), values_long g.R.Row.value front, front_short (λ q. rows_of q.block.value.rows.items) pieces (c.loop-i.i + 1), c.args.listing.now.few)

pub loop-i-preserved : goal.loop-i-preserved
loop-i-preserved g c = counted g c

pub returns : goal.returns
returns g c =
    let pieces = c.args.listing.now.pieces.items in
    c.loop-i.invariant ∙ ap length (all_in_front g.R.Row.value c.args.area.now pieces c.args.run.now c.requires c.loop-i.i
    (omega (arith, c.block_behind-i-end.ensures.behind, starts_rise pieces c.block_behind-i-end.result c.loop-i.i c.loop-i-test.false)))
