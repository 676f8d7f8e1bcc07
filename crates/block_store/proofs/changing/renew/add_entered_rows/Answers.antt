use Rattle.std.proofs.Common.{◌≡◌, ◌++◌, ◌∷◌, [], map, take, drop, append_assoc, sym, ap, ap₂, ◌∙◌, Global}
use Rattle.std.specs.declared.sync.Arc.{Arc}
use Rattle.std.specs.List.{take-map, drop-map}
use Rattle.willow_entry.specs.Row.{RowValue, left_of}
use Rattle.block_store.proofs.changing.renew.add_entered_rows.Goals as goal

pub returns-clause-rows : goal.returns-clause-rows
returns-clause-rows g c =
    let value : Arc g.row.R.Denot Global → RowValue = λ a. g.R.Row.value a.value in
    let r = g.R.Row.value c.args.held.now.value in
    let at = c.args.at in
    let rows = c.args.rows.now in
    let old = map value c.args.all.now.items in
    let front : map value c.add_rows.new.all.items ≡ old ++ take at (map value rows) =
    c.in_ok-add_rows.ensures.rows ∙ ap (λ l. old ++ map value l) c.split_at.ensures.front ∙ ap (λ l. old ++ l) (sym (take-map value at rows)) in
    let behind : map value c.split_at.result.1.now ≡ drop at (map value rows) = ap (map value) c.split_at.ensures.back ∙ sym (drop-map value at rows) in
    let left = left_of r (drop at (map value rows)) in
    c.in_ok-add_left.ensures.rows
    ∙ ap₂ (λ l m. l ++ m) (c.in_ok-add_row.ensures.rows ∙ ap (λ l. l ++ r ∷ []) front) (ap₂ left_of (ap g.R.Row.value c.deref.ensures) behind)
    ∙ append_assoc (old ++ take at (map value rows)) (r ∷ []) left
    ∙ append_assoc old (take at (map value rows)) (r ∷ left)
