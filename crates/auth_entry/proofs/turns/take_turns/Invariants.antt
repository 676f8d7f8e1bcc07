use Rattle.std.proofs.Common.{All}
use Rattle.auth_entry.specs.Batch.{IsTold}
use Rattle.auth_entry.proofs.turns.take_turns.Given as goal

abbrev pub invariant-turns : goal.invariant-turns
invariant-turns g l = All (IsTold g.S.Verify.rules l.pendings) l.told.items
