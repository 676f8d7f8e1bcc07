use Rattle.std.proofs.Common.{[], ◌∷◌, ◌++◌, cond, get_or, sym, ap₂, ◌∙◌, arith}
use Rattle.std.proofs.lemmas.List.Elements.{filter_more}
use Rattle.block_store.specs.Blocks.{block_values}
use Rattle.block_store.specs.ByTime.{passes_at}
use Rattle.block_store.specs.InBox.{is_in}
use Rattle.block_store.proofs.reading.by_time.found_at.Goals as goal

pub loop-i-preserved : goal.loop-i-preserved
loop-i-preserved g c =
    let test = passes_at (is_in c.args.area.now) (block_values g.R.Row.value c.args.listing.now.pieces.items) in
    let ats = c.args.ats.now in
    let i = c.loop-i.i in
    c.in_ok-note.ensures ∙ ap₂ (λ l b. l ++ cond b (get_or ats i 0 ∷ []) []) c.loop-i.invariant c.is_found.ensures ∙ sym (filter_more test ats i 0 (omega arith))
