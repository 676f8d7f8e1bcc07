use Rattle.std.proofs.Common.{◌++◌, not, take, take_all, get_or, append-nil, append_assoc, sym, ap, ◌∙◌, arith}
use Rattle.std.proofs.lemmas.List.Elements.{filter-append}
use Rattle.willow_entry.specs.Row.{is_dominating, left_of}
use Rattle.block_store.specs.Blocks.{block_values}
use Rattle.block_store.specs.Held.{values_of}
use Rattle.block_store.specs.declared.block.Piece.{Piece}
use Rattle.block_store.proofs.Pieces.{values_more}
use Rattle.block_store.proofs.Growing.{grown_same, grown_on}
use Rattle.block_store.proofs.changing.thin.add_thinned.Goals as goal

pub loop-at-init : goal.loop-at-init
loop-at-init g c = record { values = sym (append-nil (block_values g.R.Row.value c.args.fresh.now.items)); grown = grown_same c.args.fresh.now.items }

pub loop-at-preserved : goal.loop-at-preserved
loop-at-preserved g c =
    let r = g.R.Row.value c.args.row.now in
    let old = block_values g.R.Row.value c.args.fresh.now.items in
    let pieces = c.args.pieces.now in
    let at = c.loop-at.at in
    let piece = c.index-pieces-at.result in
    let rows = values_of g.R.Row.value (get_or pieces at piece).block.value.rows.items in
    let now = block_values g.R.Row.value (take at pieces) in
    record {
      grown = grown_on c.args.fresh.now.items c.loop-at.fresh.items c.thin.new.fresh.items c.loop-at.invariant.grown c.in_ok-thin.ensures.grown;
      values = c.in_ok-thin.ensures.values
          ∙ ap (λ l. l ++ left_of r (values_of g.R.Row.value piece.block.value.rows.items)) c.loop-at.invariant.values
          ∙ ap (λ (p : Piece g.row.R.Denot g.R.Row). (old ++ left_of r now) ++ left_of r (values_of g.R.Row.value p.block.value.rows.items)) c.index-pieces-at.is
          ∙ append_assoc old (left_of r now) (left_of r rows)
          ∙ ap (λ l. old ++ l) (sym (filter-append (λ s. not (is_dominating r s)) now rows) ∙ ap (left_of r) (sym (values_more g.R.Row.value pieces at piece (omega arith))));
    }

pub returns-clause-values : goal.returns-clause-values
returns-clause-values g c =
    c.loop-at.invariant.values ∙ ap (λ l. block_values g.R.Row.value c.args.fresh.now.items ++ left_of (g.R.Row.value c.args.row.now) (block_values g.R.Row.value l)) (take_all c.loop-at.at c.args.pieces.now (omega arith))
