use Rattle.std.proofs.Common.{◌≡◌, slice_index, sym}
use Rattle.scheme_core.proofs.Accepting.{accepts_claim-other}
use Rattle.scheme_core.proofs.together.verify_other.Goals as goal

pub returns-then-to_bytes-eq0 : goal.returns-then-to_bytes-eq0
returns-then-to_bytes-eq0 g c =
    let claim = c.args.claim.now in
    let kind : slice_index claim.key 0 ≡ 0 = rw (sym c.to_bytes.ensures.bytes) c.if-to_bytes-eq0.true in
    accepts_claim-other g.S.Verify.rules claim c.requires.open c.requires.other kind
