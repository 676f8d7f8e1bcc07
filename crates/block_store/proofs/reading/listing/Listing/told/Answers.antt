use Rattle.std.proofs.Common.{◌≡◌, ◌<◌, ◌≤◌, ◌-◌, length, map, get_or, slice_get, Some, MatchOption, sym, ap, ◌∙◌, subst, arith}
use Rattle.block_store.specs.Held.{rows_of, values_of}
use Rattle.block_store.specs.Leaves.{row_leaf}
use Rattle.block_store.proofs.BlockRuns.{summary_at}
use Rattle.block_store.proofs.Spots.{row_there, start_read}
use Rattle.block_store.proofs.reading.listing.Listing.told.Goals as goal

pub told_at-requires : goal.told_at-requires
told_at-requires g c =
    let value = g.R.Row.value in
    let pieces = c.args.self.now.pieces.items in
    let block = c.block_at-block.result in
    let piece = c.in_ok-piece.piece.now in
    let kept = c.index.result.now in
    let listed = c.deref.ensures.value in
    let within : block < length pieces = subst (λ l. block < length l) listed c.in_ok-piece.ensures.lookup.3.0 in
    let is : piece ≡ get_or pieces block piece = c.in_ok-piece.ensures.lookup.1 ∙ ap (λ l. get_or l block piece) listed in
    let rows = c.deref-3.ensures.value ∙ ap (λ b. b.rows.items) c.deref-2.ensures in
    let summed = summary_at value pieces block piece kept within (c.index.ensures ∙ ap (λ l. get_or l block kept) c.args.self.now.summed) in
    c.leaves-leaves.ensures ∙ ap (λ s. s.1) summed
    ∙ ap (λ q. map row_leaf (values_of value q.block.value.rows.items)) (sym is)
    ∙ ap (λ l. map row_leaf (values_of value l)) (sym rows)

pub returns-clause-row : goal.returns-clause-row
returns-clause-row g c =
    let pieces = c.args.self.now.pieces.items in
    let block = c.block_at-block.result in
    let piece = c.in_ok-piece.piece.now in
    let first = c.index-2.result.now in
    let listed = c.deref.ensures.value in
    let within : block < length pieces = subst (λ l. block < length l) listed c.in_ok-piece.ensures.lookup.3.0 in
    let is : piece ≡ get_or pieces block piece = c.in_ok-piece.ensures.lookup.1 ∙ ap (λ l. get_or l block piece) listed in
    let rows = c.deref-3.ensures.value ∙ ap (λ b. b.rows.items) c.deref-2.ensures in
    let start = start_read c.args.self.now.starts.items pieces block first first c.args.self.now.placed c.block_at-block.ensures.within c.index-2.ensures in
    let here = subst (λ l. MatchOption c.told_at.result (length l ≤ c.args.at - first) (λ found. slice_get (rows_of l) (c.args.at - first) ≡ Some found.0.now)) rows c.told_at.ensures.row in
    row_there (λ found. found.0.now) pieces block first c.args.at piece within is start
    (omega (arith, start, c.block_at-block.ensures.from)) (c.block_at-block.ensures.below within) c.told_at.result here
