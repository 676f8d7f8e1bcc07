-- The open signature of a message is accepted, and nothing else is.
use Rattle.std.proofs.Common.{◌≡◌, ℕ, Bool, true, false, ◌&&◌, List, slice_index}
use Rattle.std.proofs.lemmas.Slice.Eq.{bytes_eq-Decides}
use Rattle.std.proofs.lemmas.Bool.{eq-eqb}
use Rattle.scheme_core.specs.Open.{open_accepts, open_signature}

both : (a b : Bool) → a ≡ true → b ≡ true → (a && b) ≡ true
both true b p q = q
both false b p q = p

pub open_accepts_own : (key message signature : List ℕ) → slice_index key 0 ≡ 0 → signature ≡ open_signature key message → open_accepts key message signature ≡ true
unfolding open_accepts
open_accepts_own key message signature kind same =
    both _ _ (eq-eqb (slice_index key 0) 0 kind) ((bytes_eq-Decides signature (open_signature key message)).1 same)
