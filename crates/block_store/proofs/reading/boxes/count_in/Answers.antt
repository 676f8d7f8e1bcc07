use Rattle.std.proofs.Common.{◌-◌, sym, ap₂, ◌∙◌}
use Rattle.block_store.specs.Blocks.{block_values, index_of}
use Rattle.block_store.specs.InBox.{is_in}
use Rattle.block_store.proofs.Spans.{exact_count}
use Rattle.block_store.proofs.reading.boxes.count_in.Goals as goal

pub returns-then-run : goal.returns-then-run
returns-then-run g c =
    let pieces = c.args.listing.now.pieces.items in
    let run = c.run_of-run.result in
    let is = c.run_of-run.ensures.run in
    ap₂ (λ m n. m - n) c.position.ensures.position c.position-then-run.ensures.position
    ∙ sym (exact_count (is_in c.args.area.now) (block_values g.R.Row.value pieces) (index_of pieces run.from) (index_of pieces run.to) is.between.order is.between.before (is.all_in c.if-run.true) is.between.behind is.between.within)
