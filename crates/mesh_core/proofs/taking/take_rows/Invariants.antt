use Rattle.std.specs.Vec.Iter.{into_iter_items}
use Rattle.mesh_core.proofs.Come.{HaveCome}
use Rattle.mesh_core.proofs.taking.take_rows.Given as goal

abbrev pub invariant-loop-row : goal.invariant-loop-row
invariant-loop-row g l = HaveCome g.R.Row.value l.fn.store l.fn.rows.items l.yielded (into_iter_items l.row-iterator) l.store
