use Rattle.std.proofs.Common.{ℕ, List, [], ◌∷◌, ◌++◌, sym, ap₂, ◌∙◌, arith}
use Rattle.std.proofs.lemmas.List.FromFn.{map-range_with_len_more}
use Rattle.block_store.specs.Blocks.{block_values}
use Rattle.block_store.specs.ByTime.{time_at}
use Rattle.block_store.proofs.reading.by_time.stamps_of.Goals as goal

pub loop-at-preserved : goal.loop-at-preserved
loop-at-preserved g c =
    let rows = block_values g.R.Row.value c.args.listing.now.pieces.items in
    let stamp : ℕ → ℕ × ℕ = λ at. (time_at rows at, at) in
    let at = c.loop-at.at in
    c.in_ok-push.ensures.items ∙ ap₂ (λ (l : List (ℕ × ℕ)) (t : ℕ). l ++ (t, at) ∷ []) c.loop-at.invariant c.time_at.ensures
    ∙ sym (map-range_with_len_more stamp 0 at at (omega arith))
