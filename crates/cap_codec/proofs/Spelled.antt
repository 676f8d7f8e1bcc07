-- A row is told by its entry and its body's bytes.
use Rattle.std.proofs.Common.{◌≡◌, ℕ, List, length, refl, sym, ap, subst, ◌∙◌}
use Rattle.spelling.proofs.Joining.{alone}
use Rattle.willow_entry.specs.EntryForm.{entry_spelling}
use Rattle.mc_cap.specs.Forms.{capability_spelling}
use Rattle.mc_cap.specs.Signature.{signature_spelling}
use Rattle.cap_codec.specs.declared.token.WriteToken.{WriteToken}
use Rattle.cap_codec.specs.Rows.{RawValue, IsRaw, IsToken, token_spelling, raw_spelling}
use Rattle.cap_codec.specs.Spelled.{no_token, whole_or, token_of, spelled_row}
use Rattle.cap_codec.specs.TokenParts.{SpellsToken, capability_in, signature_in}
use Rattle.cap_codec.proofs.CapReads.{token-reads}
use Rattle.cap_codec.proofs.RowReads.{token_part}

token_again : (t : WriteToken) → IsToken t → token_of (token_spelling t) ≡ t
unfolding token_of
token_again t fits = ap (whole_or no_token) (alone token-reads t fits)

-- the parts of a token's spelling
pub capability_again : (t : WriteToken) → IsToken t → capability_in (token_spelling t) ≡ capability_spelling t.capability
capability_again t fits = ap (λ (u : WriteToken). capability_spelling u.capability) (token_again t fits)

pub signature_again : (t : WriteToken) → IsToken t → signature_in (token_spelling t) ≡ signature_spelling t.signature
signature_again t fits = ap (λ (u : WriteToken). signature_spelling u.signature) (token_again t fits)

pub spells_again : (t : WriteToken) → IsToken t → SpellsToken (token_spelling t)
spells_again t fits =
    let same = sym (token_again t fits) in
    record { fits = subst IsToken same fits; spelled = ap token_spelling same }

-- nothing is lost where the token is kept as bytes
pub spelled_again : (body : List ℕ) (r : RawValue) → IsRaw r → body ≡ raw_spelling r → spelled_row r.entry body ≡ r
spelled_again body r fits spelled =
    let with_token : WriteToken → RawValue = λ t. record { entry = r.entry; token = t } in
    ap with_token (ap token_of (token_part body r (length (entry_spelling r.entry)) spelled refl) ∙ token_again r.token fits.token_fits)

-- the entry and the body of a row are those of a row that keeps no more
pub spelled_fits : (body : List ℕ) (r : RawValue) (n : ℕ) → IsRaw r → body ≡ raw_spelling r → n ≡ length (capability_spelling r.token.capability)
    → IsRaw (spelled_row r.entry body) × (body ≡ raw_spelling (spelled_row r.entry body)) × (n ≡ length (capability_spelling (spelled_row r.entry body).token.capability))
spelled_fits body r n fits spelled long =
    let same = sym (spelled_again body r fits spelled) in
    (subst IsRaw same fits, spelled ∙ ap raw_spelling same, long ∙ ap (λ (x : RawValue). length (capability_spelling x.token.capability)) same)
