use Rattle.std.proofs.Common.{◌≡◌, ◌<◌, ◌∷◌, ◌++◌, [], length, take, drop, cond, get_or, slice_get, Some, sym, ap, ap₂, ◌∙◌, subst, arith}
use Rattle.std.proofs.lemmas.Option.{slice_get-get_or}
use Rattle.willow_entry.specs.Pruning.{IsPlace}
use Rattle.willow_entry.specs.Row.{is_dominating, left_of, place_cmp}
use Rattle.block_store.specs.Positions.{positions}
use Rattle.block_store.specs.Blocks.{block_values, index_of}
use Rattle.block_store.proofs.Extensions.{below_stays}
use Rattle.block_store.proofs.Finding.{item_of}
use Rattle.block_store.proofs.Pieces.{values_long}
use Rattle.block_store.proofs.Positions.{positions-none, positions-front, positions-more}
use Rattle.block_store.proofs.changing.offer.dominated_from.Goals as goal

pub loop-at-init : goal.loop-at-init
loop-at-init g c =
    let r = g.R.Row.value c.args.row.now in
    let rows = block_values g.R.Row.value c.args.pieces.now in
    let first = c.index_of-at.result in
    let place : IsPlace place_cmp r rows first = subst (IsPlace place_cmp r rows) (sym c.index_of-at.ensures.index) c.requires.place in
    record {
      spot = c.requires.spot;
      index = sym c.index_of-at.ensures.index;
      found = c.new-found.ensures.items ∙ sym (positions-none (is_dominating r) (take first rows) (below_stays r (take first rows) place.below));
    }

pub loop-at-preserved : goal.loop-at-preserved
loop-at-preserved g c =
    let r = g.R.Row.value c.args.row.now in
    let rows = block_values g.R.Row.value c.args.pieces.now in
    let at = c.loop-at.at in
    let inside : at < length rows = omega (arith, values_long g.R.Row.value c.args.pieces.now, c.index_of-at-end.ensures.bound) in
    let d = item_of rows (omega arith) in
    let here : slice_get rows (index_of c.args.pieces.now c.loop-at.spot) ≡ Some (get_or rows at d) = ap (slice_get rows) c.loop-at.invariant.index ∙ slice_get-get_or rows at d inside in
    let passes = c.prunes_at.ensures (get_or rows at d) here in
    record {
      spot = c.next-spot.ensures.spot;
      index = omega (arith, c.next-spot.ensures.index, c.loop-at.invariant.index);
      found = c.in_ok-note.ensures ∙ ap₂ (λ l b. l ++ cond b (at ∷ []) []) c.loop-at.invariant.found passes ∙ sym (positions-more (is_dominating r) rows at d inside);
    }

pub returns : goal.returns
returns g c =
    let r = g.R.Row.value c.args.row.now in
    let rows = block_values g.R.Row.value c.args.pieces.now in
    let end = c.index_of-at-end.result in
    let last : c.loop-at.at ≡ end = omega (arith, c.index_of-at.ensures.index, c.index_of-at-end.ensures.index, c.run_end-end.ensures.from) in
    let stays = subst (λ n. left_of r (drop n rows) ≡ drop n rows) (sym c.index_of-at-end.ensures.index) c.run_end-end.ensures.stays in
    c.loop-at.invariant.found ∙ ap (λ n. positions (is_dominating r) (take n rows)) last
    ∙ positions-front (is_dominating r) rows end (omega (arith, values_long g.R.Row.value c.args.pieces.now, c.index_of-at-end.ensures.bound)) stays
