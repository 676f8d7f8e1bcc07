use Rattle.std.proofs.Common.{Some, length, sym, ap, ◌∙◌, subst}
use Rattle.willow_entry.specs.Pruning.{IsPlace}
use Rattle.willow_entry.specs.Row.{place_cmp}
use Rattle.willow_entry.proofs.Between.{rising_live}
use Rattle.block_store.specs.Blocks.{block_values, index_of}
use Rattle.block_store.specs.Front.{front}
use Rattle.block_store.proofs.Covered.{front_whole, found_at, passed_at, none_left}
use Rattle.block_store.proofs.looking.place.place_or_cover.Goals as goal

pub covered_in_front-requires-clause-rising : goal.covered_in_front-requires-clause-rising
covered_in_front-requires-clause-rising g c = rising_live _ c.requires.is_live

pub own_place-at-requires : goal.own_place-at-requires
own_place-at-requires g c = rising_live _ c.requires.is_live

-- the row is its own longest front
pub returns-then-is_covered_at-clause-covered : goal.returns-then-is_covered_at-clause-covered
returns-then-is_covered_at-clause-covered g c =
    let r = g.R.Row.value c.args.row.now in
    let rows = block_values g.R.Row.value c.args.pieces.now in
    let at = index_of c.args.pieces.now c.own_place-at.result in
    let place : IsPlace place_cmp (front r (length r.entry.path)) rows at = subst (λ t. IsPlace place_cmp t rows at) (sym (front_whole r)) c.own_place-at.ensures.place in
    let found = c.is_covered_at.ensures.found c.if-is_covered_at.true in
    found_at rows r (length r.entry.path) at c.in_default.ensures.none place found.0 found.1 ∙ ap (λ n. Some n) (sym c.index_of.ensures.index)

pub returns-clause-free : goal.returns-clause-free
returns-clause-free g c =
    let r = g.R.Row.value c.args.row.now in
    let rows = block_values g.R.Row.value c.args.pieces.now in
    let at = index_of c.args.pieces.now c.own_place-at.result in
    let place : IsPlace place_cmp (front r (length r.entry.path)) rows at = subst (λ t. IsPlace place_cmp t rows at) (sym (front_whole r)) c.own_place-at.ensures.place in
    none_left rows r (passed_at rows r (length r.entry.path) at c.in_default.ensures.none place (rising_live rows c.requires.is_live)
    (c.is_covered_at.ensures.not_found c.if-is_covered_at.false))
