use Rattle.std.proofs.Common.{map, length, ap, sym, ◌∙◌, subst, arith}
use Rattle.std.proofs.lemmas.List.{length-map}
use Rattle.std.proofs.lemmas.Result.{on_ok_weaker}
use Rattle.willow_entry.specs.Row.{AreLive, join}
use Rattle.cap_codec.specs.Rows.{row_of}
use Rattle.mesh_core.specs.Held.{nodes_of}
use Rattle.mesh_core.proofs.Stores.{at_node, set_at}
use Rattle.mesh_core.proofs.taking.take_at.Goals as goal

pub take_rows-requires-clause-few : goal.take_rows-requires-clause-few
take_rows-requires-clause-few c =
    let same = at_node c.args.stores.now.items c.args.node c.index_mut.result.now c.requires.within c.index_mut.ensures.value in
    omega (arith, ap length same, length-map c.index_mut.result.now row_of, c.requires.few)

pub take_rows-requires-clause-live : goal.take_rows-requires-clause-live
take_rows-requires-clause-live c =
    subst AreLive (sym (at_node c.args.stores.now.items c.args.node c.index_mut.result.now c.requires.within c.index_mut.ensures.value)) c.requires.live

pub returns-clause-set : goal.returns-clause-set
returns-clause-set c =
    let same = at_node c.args.stores.now.items c.args.node c.index_mut.result.now c.requires.within c.index_mut.ensures.value in
    on_ok_weaker c.take_rows.result
    (λ e. set_at c.args.stores.now.items c.args.node c.take_rows.new.store (join (nodes_of c.args.stores.now.items c.args.node) (map row_of c.args.rows.items)) c.requires.within
    (e ∙ ap (λ l. join l (map row_of c.args.rows.items)) same))
    c.take_rows.ensures
