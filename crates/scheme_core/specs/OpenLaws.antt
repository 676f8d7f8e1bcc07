-- What holds of open signatures, for the laws of what makes them.
use Rattle.std.proofs.Common.{◌≡◌, ◌==◌, ◌≤◌, ◌++◌, ℕ, bytes_eq, true, List, length, slice_index, sym, ap, subst, ◌∙◌, lit≤}
use Rattle.std.proofs.lemmas.Bool.{and_parts}
use Rattle.std.proofs.lemmas.Slice.Eq.{bytes_eq-Decides}
use Rattle.sha2.proofs.Facts256.{length-sha256}
use Rattle.scheme_core.specs.Open.{open_accepts, open_signature}
use Rattle.scheme_core.specs.declared.signer.TheConstants.{MAX_SIGNATURE}

-- an open signature has 32 bytes, which is within what a signature may have
pub open_accepts-short : (key message signature : List ℕ) → open_accepts key message signature ≡ true → length signature ≤ MAX_SIGNATURE
unfolding open_accepts
open_accepts-short key message signature accepted =
    let made = open_signature key message in
    let parts = and_parts (slice_index key 0 == 0) (bytes_eq signature made) accepted in
    let same : signature ≡ made = (bytes_eq-Decides signature made).0 parts.1 in
    subst (λ (n : ℕ). n ≤ MAX_SIGNATURE) (sym (ap length same ∙ length-sha256 (key ++ message))) (lit≤ tt)
