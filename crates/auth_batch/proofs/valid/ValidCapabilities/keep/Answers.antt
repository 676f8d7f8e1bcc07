use Rattle.std.proofs.Common.{◌∙◌}
use Rattle.auth_batch.proofs.Remembered.{kept_known}
use Rattle.auth_batch.proofs.valid.ValidCapabilities.keep.Goals as goal

pub invariant_of-self : goal.invariant_of-self
invariant_of-self g c = record {
  valid = kept_known g.S.Verify.rules c.args.self.now.spellings c.put.new.self c.hash_of.result c.in_ok-spelling.spelling c.args.row.now.token.capability c.args.self.now.valid
      c.known.ensures.token_fits.capability_fits (c.in_ok-spelling.ensures.items ∙ c.capability_bytes.ensures) c.requires c.put.result c.put.ensures.entries c.put.ensures.err;
}
