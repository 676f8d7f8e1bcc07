-- The open signature is the only one that is accepted.
use Rattle.std.proofs.Common.{◌≡◌, ℕ, true, List, slice_index, ◌==◌}
use Rattle.std.specs.Str.{bytes_eq}
use Rattle.std.proofs.lemmas.Slice.Eq.{bytes_eq-Decides}
use Rattle.std.proofs.lemmas.Bool.{and_parts}
use Rattle.scheme_core.specs.Open.{open_accepts, open_signature}

pub only_signed : (key message signature : List ℕ) → open_accepts key message signature ≡ true → signature ≡ open_signature key message
unfolding open_accepts
only_signed key message signature accepted =
    (bytes_eq-Decides signature (open_signature key message)).0 (and_parts (slice_index key 0 == 0) (bytes_eq signature (open_signature key message)) accepted).1
