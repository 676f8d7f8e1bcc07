use Rattle.recency_index.proofs.Taken.{AreTakenSoFar}
use Rattle.recency_index.proofs.index.take_all.Given as goal

abbrev pub ghosts-take : goal.ghosts-take
ghosts-take a = record { name = a.blank.name; parts = a.blank.parts }

abbrev pub invariant-loop-item : goal.invariant-loop-item
invariant-loop-item l = AreTakenSoFar l.fn.items l.items l.gone l.item-index
