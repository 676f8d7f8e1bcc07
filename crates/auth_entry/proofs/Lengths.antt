-- How long a row's body can be: an authorised row fits a frame.
use Rattle.std.proofs.Common.{◌≡◌, ℕ, ◌+◌, ◌≤◌, List, length, None, arith}
use Rattle.std.proofs.lemmas.List.{length-append}
use Rattle.scheme_core.specs.Rules.{Rules}
use Rattle.willow_entry.specs.EntryForm.{entry_spelling, IsEntry}
use Rattle.willow_entry.specs.declared.entry.Entry.{Entry}
use Rattle.willow_entry.proofs.SpelledLength.{entry_length, path_long}
use Rattle.mc_cap.specs.Signature.{signature_spelling}
use Rattle.mc_cap.specs.Forms.{capability_spelling}
use Rattle.mc_cap.specs.declared.check.TheConstants.{MAX_DELEGATIONS}
use Rattle.cap_codec.specs.Rows.{RawValue, IsRaw, FitsFrame, token_spelling, raw_spelling}
use Rattle.cap_codec.proofs.CapabilityLengths.{most_of_path, most_of_signature, most_of_capability, signature_within, capability_within}
use Rattle.auth_entry.specs.Authorised.{row_refusal}
use Rattle.auth_entry.proofs.Meaning.{authorised_means}

-- ---- the most bytes of each part

abbrev most_of_entry : ℕ
most_of_entry = 33 + 33 + most_of_path + 8 + 8 + 32

abbrev most_of_row : ℕ
most_of_row = most_of_entry + most_of_capability + most_of_signature

entry_long : (e : Entry) → IsEntry e → length (entry_spelling e) ≤ most_of_entry
entry_long e fits = omega (arith, entry_length e fits, path_long e.path fits.path)

raw_long : (r : RawValue) → IsRaw r → length r.token.capability.chain ≤ MAX_DELEGATIONS → length (raw_spelling r) ≤ most_of_row
raw_long r fits few =
    omega (
      arith,
      length-append (entry_spelling r.entry) (token_spelling r.token),
      length-append (capability_spelling r.token.capability) (signature_spelling r.token.signature),
      entry_long r.entry fits.entry_fits,
      capability_within r.token.capability fits.token_fits.capability_fits few,
      signature_within r.token.signature fits.token_fits.signature_fits,
    )

-- an authorised row is short, since its capability has few delegations
pub fits_frame : (rules : Rules) (n : List ℕ) (r : RawValue) → IsRaw r → row_refusal rules n r ≡ None → FitsFrame r
fits_frame rules n r fits none =
    let few = ((authorised_means rules n r).0 none).valid.few in
    record { raw = fits; short = omega (arith, raw_long r fits few) }
