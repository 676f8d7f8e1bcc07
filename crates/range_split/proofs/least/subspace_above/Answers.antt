use Rattle.std.proofs.Common.{◌≡◌, ◌&&◌, sym, ap, ap₂, ◌∙◌, is_gt}
use Rattle.std.specs.Bool.{then_some}
use Rattle.willow_area.specs.Boxes.{in_box}
use Rattle.willow_entry.specs.Entry.{bytes_cmp}
use Rattle.willow_entry.specs.declared.entry.Entry.{Entry}
use Rattle.block_store.specs.InBox.{is_in}
use Rattle.range_split.proofs.LeastKeys.{least_in-one}
use Rattle.range_split.proofs.least.subspace_above.Goals as goal
use Rattle.range_split.proofs.least.subspace_above.Goals.{then-inside, else-inside}

pub returns : goal.returns
returns g c =
    let area = c.args.area.now in
    let low = c.args.low.now in
    let row = g.R.Row.value c.args.row.now in
    let over = is_gt (bytes_cmp row.entry.subspace low) in
    let inside : c.includes-inside.result ≡ is_in area row = c.includes-inside.ensures ∙ ap (λ (e : Entry). in_box area e.subspace e.path e.timestamp) c.entry-entry.ensures.entry in
    let passes : c.if-inside.then_some ≡ (is_in area row && over) = elim c.if-inside.branch [
      | then-inside w ↦ w.then_some-is ∙ w.is_above.ensures ∙ ap (λ (e : Entry). is_gt (bytes_cmp e.subspace low)) c.entry-entry.ensures.entry ∙ sym (ap (λ b. b && over) (sym inside ∙ w.if-inside.true))
      | else-inside w ↦ w.then_some-is ∙ w.if-inside.false ∙ sym (ap (λ b. b && over) (sym inside ∙ w.if-inside.false))
    ] in
    c.then_some.ensures ∙ ap₂ then_some passes (ap (λ (e : Entry). e.subspace) c.entry-entry.ensures.entry) ∙ sym (least_in-one low area row)
