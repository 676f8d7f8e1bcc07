use Rattle.std.proofs.Common.{◌≡◌, true, false, Some, get_or, subst, arith}
use Rattle.std.specs.List.Sorted.{IsPartitionPoint}
use Rattle.block_store.specs.Blocks.{block_values, index_of}
use Rattle.block_store.specs.Ends.{is_before_path}
use Rattle.block_store.proofs.BlockRuns.{run_by_tests}
use Rattle.block_store.proofs.Narrowing.{copied_is, path_start_first, path_before, path_behind, path_inside}
use Rattle.block_store.proofs.Pieces.{values_long}
use Rattle.block_store.proofs.Spots.{spot_within}
use Rattle.block_store.proofs.reading.runs.path_run.Goals as goal

pub returns-clause-run : goal.returns-clause-run
returns-clause-run g c =
    let value = g.R.Row.value in
    let pieces = c.args.listing.now.pieces.items in
    let area = c.args.area.now in
    let key = c.args.key.now in
    let rows = block_values value pieces in
    let from = c.path_spot-from.result in
    let to = c.path_spot-to.result in
    let p = subst (λ start. IsPartitionPoint (λ r. is_before_path key (Some start) r ≡ true) (λ r. is_before_path key (Some start) r ≡ false) rows (index_of pieces from)) c.path_start.ensures c.path_spot-from.ensures.point in
    let q = subst (λ end. IsPartitionPoint (λ r. is_before_path key end r ≡ true) (λ r. is_before_path key end r ≡ false) rows (index_of pieces to)) (copied_is c.path_end.result area.paths.end c.path_end.ensures) c.path_spot-to.ensures.point in
    run_by_tests value area pieces from to c.has_all_times-exact.result (is_before_path key (Some area.paths.start)) (is_before_path key area.paths.end)
    c.path_spot-from.ensures.spot c.path_spot-to.ensures.spot p q
    (λ r h. path_start_first key area.paths.start area.paths.end r c.has_all_times-exact.ensures.rising.paths_rise h)
    (λ k d lt. (path_before area (get_or rows k d) key (c.requires.only k d lt), path_behind area (get_or rows k d) key (c.requires.only k d lt)))
    (λ exact k d le lt. path_inside area (get_or rows k d) key c.requires.inside (c.has_all_times-exact.ensures.times.0 exact)
    (p.1 k d le (omega (arith, values_long value pieces, spot_within pieces to c.path_spot-to.ensures.spot))) (q.0 k d (omega arith) lt))
