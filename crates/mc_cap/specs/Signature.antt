-- Signatures as fields.
use Rattle.std.specs.Prelude.{ℕ, List}
use Rattle.std.specs.Int.{w16, to_be_bytes}
use Rattle.spelling.specs.Spelling.{text_spelling, IsText}
use Rattle.scheme_core.specs.declared.signer.TheConstants.{MAX_SIGNATURE}

-- no more bytes than a signature may have
abbrev pub IsSignature : List ℕ → Type 0
IsSignature = IsText MAX_SIGNATURE

-- the number of the bytes in two bytes, and the bytes
abbrev pub signature_spelling : List ℕ → List ℕ
signature_spelling = text_spelling (to_be_bytes w16)
