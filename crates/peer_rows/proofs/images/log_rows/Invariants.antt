use Rattle.std.specs.Vec.Iter.{into_iter_items}
use Rattle.peer_rows.proofs.Imaged.{HasTakenSome}
use Rattle.peer_rows.proofs.images.log_rows.Given as goal

abbrev pub invariant-loop-row : goal.invariant-loop-row
invariant-loop-row g l = HasTakenSome l.fn.image.namespace l.fn.image.rows.items l.yielded (into_iter_items l.row-iterator) (g.C.Checker.judged_in l.checker) l.intake
