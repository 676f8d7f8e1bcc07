use Rattle.std.proofs.Common.{◌≡◌, ◌<◌, ◌++◌, ◌∷◌, [], if◌then◌else◌, length, take_all, get_or, append-nil, sym, ap, ◌∙◌, Global, arith}
use Rattle.std.specs.declared.sync.Arc.{Arc}
use Rattle.std.proofs.lemmas.List.{length-map, get_or-map}
use Rattle.willow_entry.specs.Row.{RowValue, is_dominating, left_of}
use Rattle.block_store.specs.Held.{values_of}
use Rattle.block_store.proofs.Thinning.{left_more}
use Rattle.block_store.proofs.changing.thin.add_left.Goals as goal

pub loop-at-init : goal.loop-at-init
loop-at-init g c = record { rows = sym (append-nil (values_of g.R.Row.value c.args.kept.now.items)); few = omega arith }

pub loop-at-preserved : goal.loop-at-preserved
loop-at-preserved g c =
    let value : Arc g.row.R.Denot Global → RowValue = λ a. g.R.Row.value a.value in
    let r = g.R.Row.value c.args.row.now in
    let rows = values_of g.R.Row.value c.args.rows.now in
    let held = c.index-rows-at.result in
    let at = c.loop-at.at in
    let inside : at < length rows = omega (arith, length-map c.args.rows.now value) in
    let here : get_or rows at (value held) ≡ value held = get_or-map value c.args.rows.now at held (value held) (omega arith) ∙ ap value (sym c.index-rows-at.is) in
    record {
      rows = c.in_ok-keep.ensures.rows ∙ ap (λ l. l ++ (if c.prunes-goes.result then [] else value held ∷ [])) c.loop-at.invariant.rows
          ∙ left_more r (values_of g.R.Row.value c.args.kept.now.items) rows at (value held) inside here c.prunes-goes.result (c.prunes-goes.ensures ∙ ap (λ x. is_dominating r (g.R.Row.value x)) c.deref.ensures);
      few = omega (arith, c.loop-at.invariant.few, c.keep.ensures.few);
    }

pub returns-clause-rows : goal.returns-clause-rows
returns-clause-rows g c =
    c.loop-at.invariant.rows ∙ ap (λ l. values_of g.R.Row.value c.args.kept.now.items ++ left_of (g.R.Row.value c.args.row.now) l) (take_all c.loop-at.at (values_of g.R.Row.value c.args.rows.now) (omega (arith, length-map c.args.rows.now (λ a. g.R.Row.value a.value))))
