-- Bytes are an image of one version, told by their first four bytes, and so one image, or go wrong at one place.
use Rattle.std.proofs.Common.{◌≡◌, ◌⊎◌, inl, inr, ℕ, ◌<◌, ◌^◌, Bool, true, false, List, [], ◌∷◌, length, map, take, get_or, Result, Ok, Err, refl, sym, ap, subst, ◌∙◌, arith}
use Rattle.std.specs.Cmp.Lexicographic.{bytes_decides}
use Rattle.std.specs.List.{AllByRecursion}
use Rattle.std.proofs.lemmas.List.{length-map}
use Rattle.spelling.specs.declared.ending.End.{End}
use Rattle.spelling.specs.declared.ending.End.TheVariants.{Refused, NoMemory}
use Rattle.willow_entry.specs.Entry.{same_bytes}
use Rattle.willow_entry.specs.Row.{RowValue}
use Rattle.mc_cap.specs.declared.capability.Capability.{Capability}
use Rattle.cap_codec.specs.declared.numbered.NumberedRow.{NumberedRow}
use Rattle.cap_codec.specs.Numbered.{FitsCapability}
use Rattle.cap_codec.specs.Rows.{FitsFrame, IsRaw, RawValue}
use Rattle.peer_image.specs.declared.read.Image.{Image}
use Rattle.peer_image.specs.declared.refusal.ImageRefusal.{ImageRefusal}
use Rattle.peer_image.specs.declared.refusal.ImageRefusal.TheVariants.{BadImage, NotRising, Pruned}
use Rattle.peer_image.specs.Image.{image, magic_two}
use Rattle.peer_image.specs.ImageOneReading.{IsImageOne, IsMisorderedOne, ReadsImageOne}
use Rattle.peer_image.specs.ImageReading.{HaveOneImage, HaveOnePlace, ImagesNeverGoWrong, IsImage, IsMisordered, IsOfVersionTwo, ReadsBack, ReadsImage}
use Rattle.peer_image.specs.ImageTwoReading.{FitsBelow, IsImageTwo, IsMisorderedTwo, ReadsImageTwo, row_among}
use Rattle.peer_image.proofs.OneStops as one
use Rattle.peer_image.proofs.TwoAlike.{reads_back_two}
use Rattle.peer_image.proofs.TwoForm.{raw_among}
use Rattle.peer_image.proofs.TwoStops.{never_both_two, one_image_two, one_place_two}

-- ---- versions

false_not_true : false ≡ true → ⊥
false_not_true e = cc

version_cases : (bytes : List ℕ) → IsOfVersionTwo bytes ⊎ (IsOfVersionTwo bytes → ⊥)
version_cases bytes = by (same_bytes (take 4 bytes) magic_two) refl where
  by : (b : Bool) → same_bytes (take 4 bytes) magic_two ≡ b → IsOfVersionTwo bytes ⊎ (IsOfVersionTwo bytes → ⊥)
  by true e = inl ((bytes_decides (take 4 bytes) magic_two).0 e)
  by false e = inr (λ is. false_not_true (sym e ∙ (bytes_decides (take 4 bytes) magic_two).1 is))

two_headed : (bytes n : List ℕ) (rows : List RawValue) → IsImageTwo bytes n rows → IsOfVersionTwo bytes
two_headed bytes n rows i = ap (take 4) i.spelled

one_headed : (bytes n : List ℕ) (rows : List RawValue) → IsImageOne bytes n rows → IsOfVersionTwo bytes → ⊥
one_headed bytes n rows i two =
    let first = sym (ap (take 4) (one.front_of_image bytes n rows i).parts) ∙ two in
    omega (arith, ap (λ (l : List ℕ). get_or l 3 0) first)

pub image_of_version_two : (n : List ℕ) (rows : List RowValue) → IsOfVersionTwo (image n rows)
unfolding image
image_of_version_two n rows = refl

-- ---- the laws

pub one_image : HaveOneImage
one_image bytes n m rows others (inl i) (inl j) = one_image_two bytes n m rows others i j
one_image bytes n m rows others (inl i) (inr j) = absurd (one_headed bytes m others j (two_headed bytes n rows i))
one_image bytes n m rows others (inr i) (inl j) = absurd (one_headed bytes n rows i (two_headed bytes m others j))
one_image bytes n m rows others (inr i) (inr j) = one.one_image bytes n m rows others i j

pub never_both : ImagesNeverGoWrong
never_both bytes n rows at (inl i) w = never_both_two bytes n rows at i (w.two (two_headed bytes n rows i))
never_both bytes n rows at (inr i) w = one.never_both bytes n rows at i (w.one (one_headed bytes n rows i))

pub one_place : HaveOnePlace
one_place bytes at other w v = elim (version_cases bytes) [
  | inl two ↦ one_place_two bytes at other (w.two two) (v.two two)
  | inr not ↦ one.one_place bytes at other (w.one not) (v.one not)
]

-- ---- what is known of the rows

numbered_raw : (told : List Capability) (numbered : List NumberedRow) → AllByRecursion FitsCapability told → AllByRecursion (FitsBelow (length told)) numbered → AllByRecursion IsRaw (map (row_among told) numbered)
numbered_raw told [] all fit = tt
numbered_raw told (r ∷ numbered) all fit = (raw_among told r all fit.0, numbered_raw told numbered all fit.1)

framed_raw : (rows : List RawValue) → AllByRecursion FitsFrame rows → AllByRecursion IsRaw rows
framed_raw [] fit = tt
framed_raw (r ∷ rows) fit = (fit.0.raw, framed_raw rows fit.1)

-- each is within its limits
pub image_raw : (bytes n : List ℕ) (rows : List RawValue) → IsImage bytes n rows → AllByRecursion IsRaw rows
image_raw bytes n rows (inl i) = subst (AllByRecursion IsRaw) (sym i.rows_are) (numbered_raw i.told i.numbered i.told_fit i.fit)
image_raw bytes n rows (inr i) = framed_raw rows i.fit

-- four bytes can tell their number
pub image_few : (bytes n : List ℕ) (rows : List RawValue) → IsImage bytes n rows → length rows < 2 ^ 32
image_few bytes n rows (inl i) = omega (arith, i.count, ap length i.rows_are, length-map i.numbered (row_among i.told))
image_few bytes n rows (inr i) = i.count

-- ---- what is read

ordered_two : (bytes : List ℕ) (e : ImageRefusal) → IsMisorderedTwo bytes e → IsMisordered bytes e
ordered_two bytes e m = record { namespace = m.namespace; rows = m.rows; is_image = inl m.is_image; refused = m.refused }

ordered_one : (bytes : List ℕ) (e : ImageRefusal) → IsMisorderedOne bytes e → IsMisordered bytes e
ordered_one bytes e m = record { namespace = m.namespace; rows = m.rows; is_image = inr m.is_image; refused = m.refused }

-- an image of version 2 is read as one of either
pub reads_two : (bytes : List ℕ) (result : Result Image (End ImageRefusal)) → IsOfVersionTwo bytes → ReadsImageTwo bytes result → ReadsImage bytes result
reads_two bytes (Ok found) two r = (inl r.0, r.1)
reads_two bytes (Err (Refused (BadImage at))) two r = record { two = λ is. r; one = λ not. absurd (not two) }
reads_two bytes (Err (Refused (NotRising at))) two r = ordered_two bytes (NotRising at) r
reads_two bytes (Err (Refused (Pruned at by))) two r = ordered_two bytes (Pruned at by) r
reads_two bytes (Err NoMemory) two r = tt

-- so is one of version 1
pub reads_one : (bytes : List ℕ) (result : Result Image (End ImageRefusal)) → (IsOfVersionTwo bytes → ⊥) → ReadsImageOne bytes result → ReadsImage bytes result
reads_one bytes (Ok found) not r = (inr r.0, r.1)
reads_one bytes (Err (Refused (BadImage at))) not r = record { two = λ is. absurd (not is); one = λ is. r }
reads_one bytes (Err (Refused (NotRising at))) not r = ordered_one bytes (NotRising at) r
reads_one bytes (Err (Refused (Pruned at by))) not r = ordered_one bytes (Pruned at by) r
reads_one bytes (Err NoMemory) not r = tt

misordered_two : (bytes : List ℕ) (e : ImageRefusal) → IsOfVersionTwo bytes → IsMisordered bytes e → IsMisorderedTwo bytes e
misordered_two bytes e two m = by m.is_image where
  by : IsImage bytes m.namespace m.rows → IsMisorderedTwo bytes e
  by (inl i) = record { namespace = m.namespace; rows = m.rows; is_image = i; refused = m.refused }
  by (inr i) = absurd (one_headed bytes m.namespace m.rows i two)

two_image : (bytes n : List ℕ) (rows : List RawValue) → IsOfVersionTwo bytes → IsImage bytes n rows → IsImageTwo bytes n rows
two_image bytes n rows two (inl i) = i
two_image bytes n rows two (inr i) = absurd (one_headed bytes n rows i two)

two_reads : (bytes : List ℕ) (result : Result Image (End ImageRefusal)) → IsOfVersionTwo bytes → ReadsImage bytes result → ReadsImageTwo bytes result
two_reads bytes (Ok found) two r = (two_image bytes found.namespace found.rows.items two r.0, r.1)
two_reads bytes (Err (Refused (BadImage at))) two r = r.two two
two_reads bytes (Err (Refused (NotRising at))) two r = misordered_two bytes (NotRising at) two r
two_reads bytes (Err (Refused (Pruned at by))) two r = misordered_two bytes (Pruned at by) two r
two_reads bytes (Err NoMemory) two r = tt

pub reads_back : ReadsBack
reads_back n m rows result key of readable short few is_live told =
    reads_back_two n m rows result key of readable short few is_live (two_reads (image n rows) result (image_of_version_two n rows) told)
