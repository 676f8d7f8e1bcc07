use Rattle.std.proofs.Common.{◌≡◌, ◌<◌, ◌≤◌, ◌-◌, length, get_or, slice_get, Some, MatchOption, ap, ◌∙◌, subst, arith}
use Rattle.block_store.specs.Held.{rows_of}
use Rattle.block_store.proofs.Spots.{row_there, start_read}
use Rattle.block_store.proofs.reading.listing.Listing.held.Goals as goal

pub returns : goal.returns
returns g c =
    let found = c.in_ok-piece.ensures.lookup in
    let pieces = c.args.self.now.pieces.items in
    let block = c.block_at-block.result in
    let piece = c.in_ok-piece.piece.now in
    let listed = c.deref.ensures.value in
    let within : block < length pieces = subst (λ l. block < length l) listed found.3.0 in
    let is : piece ≡ get_or pieces block piece = found.1 ∙ ap (λ l. get_or l block piece) listed in
    let start = start_read c.args.self.now.starts.items pieces block c.index.result.now c.index.result.now c.args.self.now.placed c.block_at-block.ensures.within c.index.ensures in
    let rows = c.deref-3.ensures.value ∙ ap (λ b. b.rows.items) c.deref-2.ensures in
    let held = subst (λ l. MatchOption c.held_at.result (length l ≤ c.args.at - c.index.result.now) (λ row. slice_get (rows_of l) (c.args.at - c.index.result.now) ≡ Some row.now.value)) rows c.held_at.ensures in
    row_there (λ row. row.now.value) pieces block c.index.result.now c.args.at piece within is start (omega (arith, start, c.block_at-block.ensures.from)) (c.block_at-block.ensures.below within) c.held_at.result held
