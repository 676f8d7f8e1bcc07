use Rattle.std.proofs.Common.{◌-◌, length}
use Rattle.sync_follow.specs.Hearing.{TakesFront}
use Rattle.sync_follow.proofs.take.take_all.Given as goal

abbrev pub invariant-taking : goal.invariant-taking
invariant-taking l = record { front : TakesFront l.area l.fn.place l.place l.bytes l.taken l.fn.came.items l.came.items }

abbrev pub decreases-taking : goal.decreases-taking
decreases-taking l = length l.bytes - l.taken
