use Rattle.std.proofs.Common.{◌≡◌, ◌+◌, cond, get_or, sym, ap, ap₂, ◌∙◌, arith}
use Rattle.std.proofs.lemmas.List.Filters.{length-filter_more}
use Rattle.block_store.specs.Blocks.{block_values}
use Rattle.block_store.specs.ByTime.{passes_at}
use Rattle.block_store.specs.InBox.{is_in}
use Rattle.block_store.proofs.reading.by_time.count_at.Goals as goal

pub loop-i-preserved : goal.loop-i-preserved
loop-i-preserved g c =
    let test = passes_at (is_in c.args.area.now) (block_values g.R.Row.value c.args.listing.now.pieces.items) in
    let ats = c.args.ats.now in
    let i = c.loop-i.i in
    let one : c.one_if-count.result ≡ cond (test (get_or ats i 0)) 1 0 = c.one_if-count.ensures.value ∙ ap (λ b. cond b 1 0) c.is_found.ensures in
    record {
      counted = ap₂ (λ m n. m + n) c.loop-i.invariant.counted one ∙ sym (length-filter_more test ats i 0 (omega arith));
      fits = omega (arith, c.one_if-count.ensures.small);
    }
