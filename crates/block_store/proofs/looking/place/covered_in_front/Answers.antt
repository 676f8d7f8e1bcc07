use Rattle.std.proofs.Common.{Some, length, sym, ap, ◌∙◌, arith}
use Rattle.block_store.specs.Blocks.{block_values, index_of}
use Rattle.block_store.proofs.Covered.{from_fewest, found_at, passed_at, reach_shorter}
use Rattle.block_store.proofs.looking.place.covered_in_front.Goals as goal

pub loop-count-init : goal.loop-count-init
loop-count-init g c = from_fewest (block_values g.R.Row.value c.args.pieces.now) (g.R.Row.value c.args.row.now) c.args.fewest c.requires.fewest

pub returns-then-is_covered_at-clause-found : goal.returns-then-is_covered_at-clause-found
returns-then-is_covered_at-clause-found g c =
    let r = g.R.Row.value c.args.row.now in
    let at = index_of c.args.pieces.now c.place_near-at.result in
    let found = c.is_covered_at.ensures.found c.if-is_covered_at.true in
    found_at _ r c.loop-count.count at c.loop-count.invariant c.place_near-at.ensures.place found.0 found.1 ∙ ap (λ n. Some n) (sym c.index_of.ensures.index)

pub loop-count-preserved : goal.loop-count-preserved
loop-count-preserved g c =
    passed_at _ _ c.loop-count.count (index_of c.args.pieces.now c.place_near-at.result) c.loop-count.invariant c.place_near-at.ensures.place c.requires.rising
    (c.is_covered_at.ensures.not_found c.if-is_covered_at.false)

pub returns-clause-none : goal.returns-clause-none
returns-clause-none g c =
    let r = g.R.Row.value c.args.row.now in
    reach_shorter (block_values g.R.Row.value c.args.pieces.now) r c.loop-count.count (length r.entry.path) (omega (arith, ap (λ e. length e.path) c.entry.ensures.entry)) c.loop-count.invariant
