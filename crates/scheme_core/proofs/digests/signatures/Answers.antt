use Rattle.std.proofs.Common.{◌≡◌, length, arith}
use Rattle.scheme_core.proofs.Made.{digests-in_vec}
use Rattle.scheme_core.proofs.digests.signatures.Goals as goal

pub returns : goal.returns
returns c =
    let messages = c.deref-2.result.now in
    let long : length messages ≡ c.in_ok-made.made.len = omega (arith, c.in_ok-made.ensures.len, c.len.ensures, c.deref-2.ensures.len) in
    digests-in_vec c.in_ok-made.made.len c.sha256_all.new.digests _ messages c.args.claims.now long c.sha256_all.ensures
    (rw c.deref-2.ensures.value c.in_ok-messages.ensures)
