use Rattle.std.proofs.Common.{drop}
use Rattle.std.specs.Vec.Iter.{into_iter_items}
use Rattle.peer_run.proofs.Paired.{HasPaired}
use Rattle.peer_run.proofs.hosting.guests_of.Given as goal

-- `drop 1`: the first pass has no guest
abbrev pub invariant-loop-signer : goal.invariant-loop-signer
invariant-loop-signer l = HasPaired (drop 1 l.fn.passes.items) l.fn.signers.items l.draws l.guests.items (into_iter_items l.passes) l.yielded (into_iter_items l.signer-iterator)
