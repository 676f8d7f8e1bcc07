use Rattle.std.specs.Vec.Iter.{into_iter_items}
use Rattle.peer_run.proofs.Opened.{HasOpened}
use Rattle.peer_run.proofs.opening.open_log.Given as goal

abbrev pub invariant-loop-judged : goal.invariant-loop-judged
invariant-loop-judged g l = HasOpened l.fn.image.namespace l.fn.image.rows.items (into_iter_items l.judged-iterator) l.opening
