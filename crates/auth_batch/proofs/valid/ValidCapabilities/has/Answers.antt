use Rattle.std.proofs.Common.{sym, ap, subst}
use Rattle.auth_batch.proofs.Remembered.{AllKnown, promoted_known}
use Rattle.auth_batch.proofs.valid.ValidCapabilities.has.Goals as goal

pub invariant_of-self : goal.invariant_of-self
invariant_of-self g c = record {
  valid = subst (AllKnown g.S.Verify.rules) (ap (λ e. e.entries) (sym c.promote.ensures.entries))
      (promoted_known g.S.Verify.rules c.args.self.now.spellings.entries c.hash_of-hash.result c.args.self.now.valid);
}
