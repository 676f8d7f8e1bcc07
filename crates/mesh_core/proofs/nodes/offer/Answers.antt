use Rattle.std.proofs.Common.{rules, ◌≡◌, ◌∷◌, [], List, map, length, ap, ◌∙◌, subst, arith}
use Rattle.std.proofs.lemmas.Result.{on_ok_weaker}
use Rattle.willow_entry.specs.Row.{RowValue, join}
use Rattle.cap_codec.specs.Rows.{RawValue, row_of}
use Rattle.peer_listing.specs.Generator.{generated}
use Rattle.mesh_core.specs.Held.{nodes_of, IsNodeSet}
use Rattle.mesh_core.proofs.Rooms.{few_rows}
use Rattle.mesh_core.proofs.Stores.{offered}
use Rattle.mesh_core.proofs.nodes.offer.Goals as goal

pub take_at-requires-clause-few : goal.take_at-requires-clause-few
take_at-requires-clause-few c =
    let one : c.push.new.self.items ≡ c.in_ok-generated_row.field-0 ∷ [] = search (rules, c.in_ok-push.ensures.items, c.new-rows.ensures.items) in
    let hold = c.requires.generated in
    let i = c.args.node in
    omega (arith, few_rows (nodes_of c.args.stores.now.items i) (hold.generated i) (hold.live i), ap length one)

pub returns-clause-offered : goal.returns-clause-offered
returns-clause-offered c = λ version.
    let one : c.push.new.self.items ≡ c.in_ok-generated_row.field-0 ∷ [] = search (rules, c.in_ok-push.ensures.items, c.new-rows.ensures.items) in
    let old = c.args.stores.now.items in
    let new = c.take_at.new.stores.items in
    let i = c.args.node in
    let rows : map row_of c.push.new.self.items ≡ row_of (generated c.args.row) ∷ [] = ap (map row_of) one ∙ ap (λ (r : RawValue). row_of r ∷ []) c.in_ok-generated_row.ensures.row in
    on_ok_weaker c.take_at.result
    (λ is. offered version old new i (row_of (generated c.args.row)) (subst (λ (l : List RowValue). IsNodeSet old i (join (nodes_of old i) l) new) rows is))
    c.take_at.ensures.set
