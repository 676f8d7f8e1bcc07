-- The parts of a row whose body a frame may carry.
use Rattle.std.proofs.Common.{◌≡◌, ℕ, ◌+◌, ◌-◌, ◌≤◌, List, ◌++◌, length, take, drop, refl, ap, subst, sym, ◌∙◌, arith}
use Rattle.std.proofs.lemmas.List.{length-append, drop_at}
use Rattle.std.proofs.lemmas.Slice.{between_to_end}
use Rattle.willow_entry.specs.EntryForm.{entry_spelling}
use Rattle.willow_entry.specs.Frame.{HasFrame}
use Rattle.willow_entry.specs.Row.{RowValue}
use Rattle.willow_entry.specs.RowBody.{row_body}
use Rattle.willow_entry.specs.declared.frame.TheConstants.{MAX_FRAME}
use Rattle.mc_cap.specs.Forms.{IsCapability, capability_spelling, chain_spelling, initial_spelling}
use Rattle.mc_cap.specs.declared.capability.Capability.{Capability}
use Rattle.cap_codec.specs.Spelled.{token_of}
use Rattle.cap_codec.specs.TokenParts.{SpellsToken, capability_in, signature_in}
use Rattle.peer_image.specs.Image.{capability_bytes}

-- a capability has more bytes than a number
pub capability_long : (c : Capability) → IsCapability c → 4 ≤ length (capability_spelling c)
unfolding capability_spelling
capability_long c f = omega (arith, f.namespace_fits.whole, length-append c.namespace (c.user ++ (initial_spelling c.initial ++ chain_spelling c.chain)))

module _ (r : RowValue) (framed : HasFrame r) (spells : SpellsToken r.token) where
  long : length r.token ≡ length (capability_in r.token) + length (signature_in r.token)
  long = ap length spells.spelled ∙ length-append (capability_in r.token) (signature_in r.token)

  pub capability_short : length (capability_bytes r) ≤ MAX_FRAME
  unfolding row_body
  capability_short = omega (arith, framed, length-append (entry_spelling r.entry) r.token, long)

  pub capability_within : length (capability_bytes r) ≤ length r.token
  capability_within = omega (arith, long)

  -- what stands behind the capability is the signature field
  pub signature_is : drop (length (capability_bytes r)) r.token ≡ signature_in r.token
  signature_is =
      ap (λ (l : List ℕ). drop (length (capability_bytes r)) l) spells.spelled
      ∙ drop_at (capability_in r.token) (signature_in r.token) (length (capability_bytes r)) refl

  -- with a number in the place of the capability the body is no longer
  pub numbered_short : length (entry_spelling r.entry) + 4 + length (signature_in r.token) ≤ MAX_FRAME
  unfolding row_body
  numbered_short =
      omega (arith, framed, length-append (entry_spelling r.entry) r.token, long, capability_long (token_of r.token).capability spells.fits.capability_fits)

  -- as the code takes it
  pub signature_there : (token capability : List ℕ) → token ≡ r.token → capability ≡ capability_bytes r → take (length token - length capability) (drop (length capability) token) ≡ signature_in r.token
  signature_there token capability token_is capability_is =
      between_to_end token (length capability) (length token) (omega arith)
      ∙ ap (λ (l : List ℕ). drop (length l) token) capability_is
      ∙ ap (λ (l : List ℕ). drop (length (capability_bytes r)) l) token_is
      ∙ signature_is

  pub short_there : (token capability : List ℕ) → token ≡ r.token → capability ≡ capability_bytes r → length (entry_spelling r.entry) + 4 + length (take (length token - length capability) (drop (length capability) token)) ≤ MAX_FRAME
  short_there token capability token_is capability_is = subst (λ (l : List ℕ). length (entry_spelling r.entry) + 4 + length l ≤ MAX_FRAME) (sym (signature_there token capability token_is capability_is)) numbered_short
