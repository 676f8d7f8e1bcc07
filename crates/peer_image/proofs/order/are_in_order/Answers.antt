use Rattle.std.proofs.Common.{◌≡◌, ◌++◌, None, length, map, sym, ◌∙◌}
use Rattle.std.proofs.lemmas.List.{length-map}
use Rattle.peer_image.specs.Fronts.{StandBehind, seen}
use Rattle.peer_image.specs.Order.{order_refusal, pruned_after}
use Rattle.peer_image.proofs.OrderBehind.{all_sufficient, order_behind, order_rises, tells_as}
use Rattle.peer_image.proofs.order.are_in_order.Goals as goal

pub rise_behind-requires-clause-rising : goal.rise_behind-requires-clause-rising
rise_behind-requires-clause-rising g c = order_rises (map g.R.Row.value c.args.fronts.now) c.requires.in_order

pub returns-then-not-rise_behind-clause-order : goal.returns-then-not-rise_behind-clause-order
returns-then-not-rise_behind-clause-order g c =
    let value = g.R.Row.value in
    let earlier = map value c.args.fronts.now in
    let rows = map value c.args.rows.now in
    (λ yes. absurd cc, λ none. sym c.if-not-rise_behind.true ∙ c.rise_behind.ensures.1 (order_rises (earlier ++ rows) none))

pub returns-clause-order : goal.returns-clause-order
returns-clause-order g c =
    let value = g.R.Row.value in
    let earlier = map value c.args.fronts.now in
    let rows = map value c.args.rows.now in
    let up = c.rise_behind.ensures.0 c.if-not-rise_behind.false in
    let stand : StandBehind earlier (map (seen value) c.in_ok-kept.kept.items) (length c.args.fronts.now) rows =
    rw (c.in_ok-kept.ensures, sym (length-map c.args.fronts.now value)) (all_sufficient earlier rows up) in
    let is : c.in_ok-pruned.pruned ≡ pruned_after earlier rows = c.in_ok-pruned.ensures.found earlier stand in
    tells_as c.in_ok-pruned.pruned c.is_none.result (order_refusal (earlier ++ rows) ≡ None) c.is_none.ensures (rw is (order_behind earlier rows c.requires.in_order up))
