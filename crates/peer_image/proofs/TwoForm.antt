-- An image of version 2 is the one spelling of its namespace and rows, and begins no other.
use Rattle.std.proofs.Common.{◌≡◌, inl, inr, ℕ, ◌<◌, List, [], ◌∷◌, ◌++◌, length, map, get_or, refl, sym, ap, subst, ◌∙◌, arith}
use Rattle.std.specs.List.{AllByRecursion, flat_map}
use Rattle.std.specs.Int.{w32, to_be_bytes}
use Rattle.std.proofs.lemmas.Cmp.{nat_list_cmp_total}
use Rattle.std.proofs.lemmas.List.{get_or_default, length-map}
use Rattle.std.proofs.Math.ListN.{get_or-map}
use Rattle.spelling.specs.Form.{IsForm}
use Rattle.willow_entry.specs.Entry.{bytes_cmp}
use Rattle.willow_entry.specs.EntryForm.{entry_spelling}
use Rattle.willow_entry.specs.Row.{RowValue}
use Rattle.willow_entry.proofs.Members.{Member, contains_from_member, member_from_contains}
use Rattle.willow_entry.proofs.Ranks.{bytes_tie}
use Rattle.willow_entry.proofs.Rising.{member_from_rising, member_rising, rising-rises, same_rising}
use Rattle.mc_cap.specs.Forms.{capability_spelling}
use Rattle.mc_cap.specs.declared.capability.Capability.{Capability}
use Rattle.cap_codec.specs.declared.numbered.NumberedRow.{NumberedRow}
use Rattle.cap_codec.specs.Numbered.{FitsCapability, capability_frame, numbered_frame}
use Rattle.cap_codec.specs.Rows.{IsRaw, RawValue, row_of}
use Rattle.cap_codec.specs.Spelled.{no_token}
use Rattle.cap_codec.proofs.Spelled.{capability_again, signature_again}
use Rattle.peer_image.specs.Image.{bytes_frame, capabilities, capability_bytes, head_two, image, numbered_as, placed_frame, trailer}
use Rattle.peer_image.specs.ImageOneReading.{raw_rows}
use Rattle.peer_image.specs.ImageReading.{FitsImageTwo, HaveOneSpellingTwo, image_two_spelling}
use Rattle.peer_image.specs.ImageTwoReading.{AreAllTold, AreRising, FitsBelow, row_among}
use Rattle.peer_image.proofs.OneStops.{told_same}
use Rattle.peer_image.proofs.TwoPlaces.{all_at, place_at}
use Rattle.peer_image.proofs.TwoSame.{flat_mapped, member_mapped}
use Rattle.peer_image.proofs.TwoStops.{same_images}

-- a row with a capability among those that are told is within its limits
pub raw_among : (told : List Capability) (r : NumberedRow) → AllByRecursion FitsCapability told → FitsBelow (length told) r → IsRaw (row_among told r)
raw_among told r all f =
    let c = get_or told r.number no_token.capability in
    let capability = all_at FitsCapability told r.number c all f.below (get_or_default told r.number c no_token.capability f.below) in
    record { entry_fits = f.fits.value_fits.entry_fits; token_fits = record { capability_fits = capability.value_fits; signature_fits = f.fits.value_fits.signature_fits } }

-- ---- the capabilities and the frames of the rows are those that are told

module _ (told : List Capability) (all : AllByRecursion FitsCapability told) (up : AreRising told) where
  abbrev texts : List (List ℕ)
  texts = map capability_spelling told

  abbrev none : List ℕ
  none = capability_spelling no_token.capability

  abbrev row_at : NumberedRow → RowValue
  row_at r = row_of (row_among told r)

  abbrev rows_at : List NumberedRow → List RowValue
  rows_at numbered = raw_rows (map (row_among told) numbered)

  within : (r : NumberedRow) → FitsBelow (length told) r → r.number < length texts
  within r f = omega (arith, f.below, length-map told capability_spelling)

  text_at : (r : NumberedRow) → FitsBelow (length told) r → capability_bytes (row_at r) ≡ get_or texts r.number none
  text_at r f = capability_again (row_among told r).token (raw_among told r all f).token_fits ∙ sym (get_or-map capability_spelling told r.number no_token.capability)

  text_here : (r : NumberedRow) → FitsBelow (length told) r → get_or texts r.number (capability_bytes (row_at r)) ≡ capability_bytes (row_at r)
  text_here r f = get_or_default texts r.number (capability_bytes (row_at r)) none (within r f) ∙ sym (text_at r f)

  is_told : (numbered : List NumberedRow) → AllByRecursion (FitsBelow (length told)) numbered → (z : List ℕ) → Member (map capability_bytes (rows_at numbered)) z → Member texts z
  is_told [] fit z m = absurd m
  is_told (r ∷ numbered) fit z (inl e) = subst (Member texts) e (member_from_contains texts (capability_bytes (row_at r)) (r.number, within r fit.0, text_here r fit.0))
  is_told (r ∷ numbered) fit z (inr m) = is_told numbered fit.1 z m

  tells : (numbered : List NumberedRow) → AllByRecursion (FitsBelow (length told)) numbered → (r : NumberedRow) → Member numbered r → Member (map capability_bytes (rows_at numbered)) (get_or texts r.number none)
  tells [] fit r m = absurd m
  tells (s ∷ numbered) fit r (inl e) = inl (text_at s fit.0 ∙ ap (λ (x : NumberedRow). get_or texts x.number none) e)
  tells (s ∷ numbered) fit r (inr m) = inr (tells numbered fit.1 r m)

  some_tells : (numbered : List NumberedRow) → AllByRecursion (FitsBelow (length told)) numbered → AreAllTold (length told) numbered → (z : List ℕ) → Member texts z → Member (map capability_bytes (rows_at numbered)) z
  some_tells numbered fit used z m =
      let h = contains_from_member texts z m in
      let number : NumberedRow → ℕ = λ r. r.number in
      let r = member_mapped number numbered h.0 (member_from_contains (map number numbered) h.0 (used h.0 (omega (arith, h.1, length-map told capability_spelling)))) in
      subst (Member (map capability_bytes (rows_at numbered))) (ap (λ (k : ℕ). get_or texts k none) r.2 ∙ get_or_default texts h.0 none z h.1 ∙ h.2) (tells numbered fit r.0 r.1)

  capabilities_again : (numbered : List NumberedRow) → AllByRecursion (FitsBelow (length told)) numbered → AreAllTold (length told) numbered → capabilities (rows_at numbered) ≡ texts
  capabilities_again numbered fit used =
      let own = map capability_bytes (rows_at numbered) in
      same_rising bytes_cmp nat_list_cmp_total (capabilities (rows_at numbered)) texts (rising-rises bytes_cmp nat_list_cmp_total own) up
      (λ z m. is_told numbered fit z (member_from_rising bytes_cmp own z m))
      (λ z m. member_rising bytes_cmp own (λ a b p q e. bytes_tie a b e) z (some_tells numbered fit used z m))

  frame_again : (r : NumberedRow) → FitsBelow (length told) r → placed_frame texts (row_at r) ≡ numbered_frame r
  frame_again r f =
      let place = place_at texts r.number (capability_bytes (row_at r)) up (within r f) (text_here r f) in
      let signature = signature_again (row_among told r).token (raw_among told r all f).token_fits in
      ap (λ (k : ℕ). bytes_frame (numbered_as k (row_at r))) place
      ∙ ap (λ (s : List ℕ). bytes_frame (entry_spelling r.entry ++ (to_be_bytes w32 r.number ++ s))) signature

  frames_again : (numbered : List NumberedRow) → AllByRecursion (FitsBelow (length told)) numbered → flat_map (placed_frame texts) (rows_at numbered) ≡ flat_map numbered_frame numbered
  frames_again [] fit = refl
  frames_again (r ∷ numbered) fit =
      ap (λ (l : List ℕ). l ++ flat_map (placed_frame texts) (rows_at numbered)) (frame_again r fit.0) ∙ ap (λ (l : List ℕ). numbered_frame r ++ l) (frames_again numbered fit.1)

  image_again : (n : List ℕ) (numbered : List NumberedRow) → AllByRecursion (FitsBelow (length told)) numbered → AreAllTold (length told) numbered
      → image n (rows_at numbered) ≡ head_two n (length told) ++ (flat_map capability_frame told ++ (flat_map numbered_frame numbered ++ trailer (length numbered)))
  unfolding image
  image_again n numbered fit used =
      let rows = rows_at numbered in
      let end = trailer (length rows) in
      ap (λ (t : List (List ℕ)). head_two n (length t) ++ (flat_map bytes_frame t ++ (flat_map (placed_frame t) rows ++ end))) (capabilities_again numbered fit used)
      ∙ ap (λ (k : ℕ). head_two n k ++ (flat_map bytes_frame texts ++ (flat_map (placed_frame texts) rows ++ end))) (length-map told capability_spelling)
      ∙ ap (λ (l : List ℕ). head_two n (length told) ++ (l ++ (flat_map (placed_frame texts) rows ++ end))) (flat_mapped bytes_frame capability_spelling told)
      ∙ ap (λ (l : List ℕ). head_two n (length told) ++ (flat_map capability_frame told ++ (l ++ end))) (frames_again numbered fit)
      ∙ ap (λ (k : ℕ). head_two n (length told) ++ (flat_map capability_frame told ++ (flat_map numbered_frame numbered ++ trailer k))) (length-map (map (row_among told) numbered) row_of ∙ length-map numbered (row_among told))

-- ---- the laws

pub one_spelling_two : HaveOneSpellingTwo
one_spelling_two bytes n rows i =
    i.spelled ∙ sym (image_again i.told i.told_fit i.up n i.numbered i.fit i.used) ∙ ap (λ (l : List RawValue). image n (raw_rows l)) (sym i.rows_are)

pub image_two_form : IsForm image_two_spelling FitsImageTwo
image_two_form t u a b f g e =
    let same = same_images (image_two_spelling t) (image_two_spelling u) t.namespace u.namespace t.rows u.rows a b f g e in
    (told_same t u same.0 same.1, same.2)
