use Rattle.std.proofs.Common.{◌≡◌, ◌∷◌}
use Rattle.std.specs.Vec.Iter.{into_iter_items}
use Rattle.mesh_core.proofs.Come.{one_comes, room_for_one}
use Rattle.mesh_core.proofs.taking.take_rows.Goals as goal

pub take_row-requires : goal.take_row-requires
take_row-requires g c =
    let left = into_iter_items c.loop-row.row-iterator in
    let more = into_iter_items c.next.new.self in
    let next : left ≡ c.in-Some.row ∷ more = c.in-Some.ensures.steps.0 in
    record { few = room_for_one g.R.Row.value c.args.store.now c.args.rows.items c.loop-row.yielded left c.loop-row.store c.loop-row.invariant c.in-Some.row more next 4294967296 c.requires.few }

pub loop-row-preserved : goal.loop-row-preserved
loop-row-preserved g c =
    let left = into_iter_items c.loop-row.row-iterator in
    let more = into_iter_items c.next.new.self in
    let next : left ≡ c.in-Some.row ∷ more = c.in-Some.ensures.steps.0 in
    one_comes g.R.Row.value c.args.store.now c.args.rows.items c.loop-row.yielded left c.loop-row.store c.loop-row.invariant c.in-Some.row more next
    c.take_row.new.store c.in_ok-take_row.ensures.rows c.take_row.ensures.few
