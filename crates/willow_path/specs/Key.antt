-- Keys: a kind and a body of 32 bytes.
use Rattle.std.specs.Prelude.{◌≡◌, ℕ, ◌≤◌, List, ◌∷◌, length, slice_index}
use Rattle.spelling.specs.Form.{AreBytes}
use Rattle.spelling.specs.Front.{Front, Whole, ◌>>=◌}
use Rattle.spelling.specs.Reading.{byte_up_to, bytes_at}

-- 33 bytes, of which the first, the kind, is 0 or 1
pub record IsKey (bytes : List ℕ) : Type 0 where
  pub whole : length bytes ≡ 33
  pub kind : slice_index bytes 0 ≤ 1
  pub bytes_fit : AreBytes bytes

-- a key is spelled as its bytes; wrong as soon as its kind is known to be none
unfoldable pub key_at : List ℕ → Front (List ℕ)
key_at bytes = do
  kind ← byte_up_to 1 bytes
  body ← bytes_at 32 kind.1
  Whole (kind.0 ∷ body.0) body.1
