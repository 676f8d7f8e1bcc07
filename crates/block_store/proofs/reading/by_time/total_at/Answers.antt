use Rattle.std.proofs.Common.{◌≡◌, ◌+◌, [], ◌∷◌, ◌++◌, take, get_or, sym, ap, ap₂, ◌∙◌, arith}
use Rattle.std.proofs.lemmas.List.Elements.{filter_more}
use Rattle.lane_sum.specs.Totals.{sum_of, total_by}
use Rattle.lane_sum.proofs.TotalLaws.{total_joined}
use Rattle.block_store.specs.Blocks.{block_values}
use Rattle.block_store.specs.ByTime.{found_at, passes_at}
use Rattle.block_store.specs.BytesAt.{row_bytes_at}
use Rattle.block_store.specs.InBox.{is_in}
use Rattle.block_store.proofs.reading.by_time.total_at.Goals as goal

pub loop-i-preserved : goal.loop-i-preserved
loop-i-preserved g c =
    let rows = block_values g.R.Row.value c.args.listing.now.pieces.items in
    let area = c.args.area.now in
    let ats = c.args.ats.now in
    let i = c.loop-i.i in
    let before = found_at area rows (take i ats) in
    let here = found_at area rows (get_or ats i 0 ∷ []) in
    let more : found_at area rows (take (i + 1) ats) ≡ before ++ here = filter_more (passes_at (is_in area) rows) ats i 0 (omega arith) in
    record {
      added = c.add-total.ensures.sum ∙ ap₂ sum_of c.loop-i.invariant.added c.leaf_at-part.ensures.total ∙ total_joined (row_bytes_at rows) before here ∙ ap (total_by (row_bytes_at rows)) (sym more);
      few = omega (arith, c.loop-i.invariant.few, c.leaf_at-part.ensures.steps);
    }
