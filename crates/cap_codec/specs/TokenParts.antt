-- The two parts of a token's bytes: the spelling of a capability in front, and one signature field behind it.
use Rattle.std.specs.Prelude.{◌≡◌, ℕ, List}
use Rattle.mc_cap.specs.Forms.{capability_spelling}
use Rattle.mc_cap.specs.Signature.{signature_spelling}
use Rattle.cap_codec.specs.Rows.{IsToken, token_spelling}
use Rattle.cap_codec.specs.Spelled.{token_of}

-- the bytes spell a token, and nothing else
pub record SpellsToken (bytes : List ℕ) : Type 0 where
  pub fits : IsToken (token_of bytes)
  pub spelled : bytes ≡ token_spelling (token_of bytes)

-- the spelling of the capability in front of bytes that spell a token
abbrev pub capability_in : List ℕ → List ℕ
capability_in bytes = capability_spelling (token_of bytes).capability

-- the signature field behind it
abbrev pub signature_in : List ℕ → List ℕ
signature_in bytes = signature_spelling (token_of bytes).signature
