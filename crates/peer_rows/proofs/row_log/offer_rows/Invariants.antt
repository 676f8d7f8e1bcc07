use Rattle.std.specs.Vec.Iter.{into_iter_items}
use Rattle.peer_rows.proofs.Taken.{HasOffered}
use Rattle.peer_rows.proofs.row_log.offer_rows.Given as goal

abbrev pub invariant-loop-row : goal.invariant-loop-row
invariant-loop-row g l = HasOffered g.R.Row.value l.fn.log l.fn.rows.items l.yielded (into_iter_items l.row-iterator) l.log
