use Rattle.std.proofs.Common.{◌≡◌, ◌+◌, [], ◌∷◌, ◌++◌, map, length, take, refl, sym, ap, ◌∙◌, arith}
use Rattle.std.proofs.lemmas.List.{length-map, length-take-le, map-append}
use Rattle.peer_image.specs.Fronts.{numbered, seen}
use Rattle.peer_image.proofs.Places.{passed_is}
use Rattle.peer_image.proofs.KeptFronts.{entry_of, numbered-push}
use Rattle.peer_image.proofs.order.numbered.Goals as goal

pub loop-row-init : goal.loop-row-init
unfolding numbered
loop-row-init g c = record { counted = refl; made = ap (map (seen g.R.Row.value)) c.in_ok-fronts.ensures.items }

pub loop-row-preserved : goal.loop-row-preserved
loop-row-preserved g c =
    let value = g.R.Row.value in
    let rows = map value c.args.rows.now in
    let k = c.loop-row.row-index in
    let next = value c.row-item.result in
    let long : length (take k rows) ≡ k = length-take-le k rows (omega (arith, c.loop-row-test.true, length-map c.args.rows.now value)) in
    let at : c.loop-row.at + 1 ≡ 1 + length (take k rows) = omega (arith, long, c.loop-row.invariant.counted) in
    record {
      counted = omega (arith, c.loop-row.invariant.counted);
      made =
          ap (map (seen value)) c.in_ok-push.ensures.items
          ∙ map-append (seen value) c.loop-row.fronts.items _
          ∙ ap (λ l. l ++ entry_of (c.loop-row.at + 1) next ∷ []) c.loop-row.invariant.made
          ∙ ap (λ n. numbered 1 (take k rows) ++ entry_of n next ∷ []) at
          ∙ sym (numbered-push 1 (take k rows) next)
          ∙ ap (numbered 1) (sym (passed_is value c.args.rows.now k c.row-item.result c.loop-row-test.true c.row-item.is));
    }
