use Rattle.mesh_core.proofs.Putting.{ArePut}
use Rattle.mesh_core.proofs.plain.plain.Given as goal

abbrev pub invariant-loop-at : goal.invariant-loop-at
invariant-loop-at l = ArePut l.store l.at l.rows
