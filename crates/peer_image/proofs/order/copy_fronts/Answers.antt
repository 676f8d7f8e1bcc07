use Rattle.std.proofs.Common.{◌+◌, [], ◌∷◌, ◌++◌, map, take, true, false, sym, ap, ◌∙◌}
use Rattle.std.proofs.lemmas.List.{append-nil, map-append}
use Rattle.peer_image.proofs.Places.{passed_is}
use Rattle.peer_image.proofs.OrderBehind.{copied_on}
use Rattle.peer_image.proofs.order.copy_fronts.Goals.{then-is_at_inner_prefix+in_ok-copy+in_ok-push, else-is_at_inner_prefix}
use Rattle.peer_image.proofs.order.copy_fronts.Goals as goal

pub loop-row-preserved : goal.loop-row-preserved
loop-row-preserved g c =
    let value = g.R.Row.value in
    let rows = map value c.args.rows.now in
    let k = c.loop-row.row-index in
    let next = value c.row-item.result in
    let kept = map value c.loop-row.kept.items in
    let passed = passed_is value c.args.rows.now k c.row-item.result c.loop-row-test.true c.row-item.is in
    elim c.if-is_at_inner_prefix.branch [
      | then-is_at_inner_prefix+in_ok-copy+in_ok-push w ↦
          copied_on (value c.args.last.now) (map value c.args.kept.now.items) kept (map value c.if-is_at_inner_prefix.kept.items) (take k rows) (take (k + 1) rows) next true c.loop-row.invariant (sym c.is_at_inner_prefix.ensures ∙ w.if-is_at_inner_prefix.true)
          (ap (λ v. map value v.items) w.kept-is ∙ ap (map value) w.in_ok-push.ensures.items ∙ map-append value c.loop-row.kept.items _ ∙ ap (λ v. kept ++ v ∷ []) w.in_ok-copy.ensures) passed
      | else-is_at_inner_prefix w ↦
          copied_on (value c.args.last.now) (map value c.args.kept.now.items) kept (map value c.if-is_at_inner_prefix.kept.items) (take k rows) (take (k + 1) rows) next false c.loop-row.invariant (sym c.is_at_inner_prefix.ensures ∙ w.if-is_at_inner_prefix.false)
          (ap (λ v. map value v.items) w.kept-is ∙ sym (append-nil kept)) passed
    ]
