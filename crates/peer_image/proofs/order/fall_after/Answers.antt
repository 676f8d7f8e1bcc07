use Rattle.std.proofs.Common.{◌≡◌, ◌+◌, false, true, [], map, drop, Some, sym, ap, ◌∙◌, arith, is_lt}
use Rattle.std.proofs.lemmas.List.{length-map, drop_all}
use Rattle.willow_entry.specs.Row.{inner_place_cmp}
use Rattle.peer_image.specs.declared.refusal.ImageRefusal.TheVariants.{NotRising}
use Rattle.peer_image.specs.Order.{fall_after}
use Rattle.peer_image.proofs.Falls.{fall_end, falls, rises}
use Rattle.peer_image.proofs.Places.{left_is}
use Rattle.peer_image.proofs.order.fall_after.Goals as goal

pub returns-then-not-is_lt : goal.returns-then-not-is_lt
returns-then-not-is_lt g c =
    let value = g.R.Row.value in
    let k = c.loop-row.row-index in
    let last = value c.loop-row.last.now in
    let next = value c.row-item.result in
    let rest = drop (k + 1) (map value c.args.others.now) in
    let e : is_lt (inner_place_cmp last next) ≡ false = cc in
    ap (λ n. Some (NotRising n)) (omega (arith, c.loop-row.invariant.counted))
    ∙ sym (falls (k + 2) last next rest e)
    ∙ ap (fall_after (k + 2) last) (sym (left_is value c.args.others.now k c.row-item.result c.loop-row-test.true c.row-item.is))
    ∙ c.loop-row.invariant.left

pub loop-row-preserved : goal.loop-row-preserved
loop-row-preserved g c =
    let value = g.R.Row.value in
    let k = c.loop-row.row-index in
    let last = value c.loop-row.last.now in
    let next = value c.row-item.result in
    let rest = drop (k + 1) (map value c.args.others.now) in
    let e : is_lt (inner_place_cmp last next) ≡ true = cc in
    record {
      counted = omega (arith, c.loop-row.invariant.counted);
      left =
          ap (λ n. fall_after n next rest) (omega arith)
          ∙ sym (rises (k + 2) last next rest e)
          ∙ ap (fall_after (k + 2) last) (sym (left_is value c.args.others.now k c.row-item.result c.loop-row-test.true c.row-item.is))
          ∙ c.loop-row.invariant.left;
    }

pub returns : goal.returns
returns g c =
    let value = g.R.Row.value in
    let k = c.loop-row.row-index in
    let others = map value c.args.others.now in
    let last = value c.loop-row.last.now in
    let none : drop k others ≡ [] = drop_all k others (omega (arith, c.loop-row-test.false, length-map c.args.others.now value)) in
    sym (fall_end (k + 2) last) ∙ ap (fall_after (k + 2) last) (sym none) ∙ c.loop-row.invariant.left
