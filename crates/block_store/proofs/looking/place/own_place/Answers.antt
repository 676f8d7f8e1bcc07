use Rattle.std.proofs.Common.{length, ap, ◌∙◌, subst}
use Rattle.willow_entry.specs.Pruning.{IsPlace}
use Rattle.willow_entry.specs.Row.{place_cmp}
use Rattle.block_store.specs.Blocks.{block_values, index_of}
use Rattle.block_store.specs.Front.{front}
use Rattle.block_store.proofs.Covered.{front_whole}
use Rattle.block_store.proofs.looking.place.own_place.Goals as goal

pub returns-clause-place : goal.returns-clause-place
returns-clause-place g c =
    let r = g.R.Row.value c.args.row.now in
    let whole = c.count.ensures ∙ ap (λ e. length e.path) c.entry.ensures.entry in
    subst (λ t. IsPlace place_cmp t (block_values g.R.Row.value c.args.pieces.now) (index_of c.args.pieces.now c.place.result)) (ap (front r) whole ∙ front_whole r) c.place.ensures.place
