use Rattle.std.proofs.Common.{◌≡◌}
use Rattle.lms_core.specs.Use.{uses_from}
use Rattle.lms_core.proofs.key.LmsKey.signers.Given as goal

abbrev pub invariant-loop-offset : goal.invariant-loop-offset
invariant-loop-offset l = l.signers.items ≡ uses_from l.self l.self.next l.offset
