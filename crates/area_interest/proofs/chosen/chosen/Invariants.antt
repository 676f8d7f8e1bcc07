use Rattle.std.specs.Vec.Iter.{into_iter_items}
use Rattle.area_interest.specs.Kept.{is_kept}
use Rattle.area_interest.proofs.Keeping.{HasKept}
use Rattle.area_interest.proofs.chosen.chosen.Given as goal

abbrev pub invariant-loop-row : goal.invariant-loop-row
invariant-loop-row g l = HasKept g.R.Row.value (is_kept l.last) l.fn.rows.items l.yielded (into_iter_items l.row-iterator) l.store
