use Rattle.std.proofs.Common.{All, length, ap, sym, subst, arith}
use Rattle.std.proofs.lemmas.List.{length-map}
use Rattle.std.proofs.lemmas.Result.{IfOk-weaker}
use Rattle.willow_area.specs.AreaBox.{area_box}
use Rattle.willow_entry.specs.Frame.{HasFrame}
use Rattle.block_store.specs.BoxKinds.{IsOfOneNamespace}
use Rattle.cap_codec.specs.Rows.{row_of}
use Rattle.mesh_core.specs.Held.{nodes_of}
use Rattle.mesh_core.proofs.Rooms.{few_rows, one_namespace, all_framed, sends_left, sends_right}
use Rattle.mesh_core.proofs.meeting.exchange.Goals as goal

pub meet_rows-requires-clause-left_few : goal.meet_rows-requires-clause-left_few
meet_rows-requires-clause-left_few c =
    let hold = c.requires.generated in
    let i = c.args.left in
    omega (arith, few_rows (nodes_of c.args.stores.now i) (hold.generated i) (hold.live i), ap length c.in_ok-own.ensures, length-map c.in_ok-own.own row_of)

pub meet_rows-requires-clause-right_few : goal.meet_rows-requires-clause-right_few
meet_rows-requires-clause-right_few c =
    let hold = c.requires.generated in
    let i = c.args.right in
    omega (arith, few_rows (nodes_of c.args.stores.now i) (hold.generated i) (hold.live i), ap length c.in_ok-others.ensures, length-map c.in_ok-others.others row_of)

pub meet_rows-requires-clause-left_one : goal.meet_rows-requires-clause-left_one
meet_rows-requires-clause-left_one c =
    subst IsOfOneNamespace (sym c.in_ok-own.ensures) (one_namespace (nodes_of c.args.stores.now c.args.left) (c.requires.generated.generated c.args.left))

pub meet_rows-requires-clause-right_one : goal.meet_rows-requires-clause-right_one
meet_rows-requires-clause-right_one c =
    subst IsOfOneNamespace (sym c.in_ok-others.ensures) (one_namespace (nodes_of c.args.stores.now c.args.right) (c.requires.generated.generated c.args.right))

pub meet_rows-requires-clause-left_framed : goal.meet_rows-requires-clause-left_framed
meet_rows-requires-clause-left_framed c =
    subst (All HasFrame) (sym c.in_ok-own.ensures) (all_framed (nodes_of c.args.stores.now c.args.left) (c.requires.generated.generated c.args.left))

pub meet_rows-requires-clause-right_framed : goal.meet_rows-requires-clause-right_framed
meet_rows-requires-clause-right_framed c =
    subst (All HasFrame) (sym c.in_ok-others.ensures) (all_framed (nodes_of c.args.stores.now c.args.right) (c.requires.generated.generated c.args.right))

pub returns-clause-to_left : goal.returns-clause-to_left
returns-clause-to_left c =
    let s = nodes_of c.args.stores.now in
    IfOk-weaker c.meet_rows.result _ _
    (λ run is. sends_left c.args.version c.in_ok-own.own c.in_ok-others.others (s c.args.left) (s c.args.right) (area_box c.args.area.now) c.in_ok-own.ensures c.in_ok-others.ensures run is)
    c.meet_rows.ensures.meeting

pub returns-clause-to_right : goal.returns-clause-to_right
returns-clause-to_right c =
    let s = nodes_of c.args.stores.now in
    IfOk-weaker c.meet_rows.result _ _
    (λ run is. sends_right c.args.version c.in_ok-own.own c.in_ok-others.others (s c.args.left) (s c.args.right) (area_box c.args.area.now) c.in_ok-own.ensures c.in_ok-others.ensures run is)
    c.meet_rows.ensures.meeting
