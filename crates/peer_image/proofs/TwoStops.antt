-- Bytes are one image of version 2, or go wrong at one place.
use Rattle.std.proofs.Common.{◌≡◌, inl, inr, ℕ, ◌<◌, ◌≤◌, ◌^◌, List, [], ◌∷◌, ◌++◌, length, map, refl, sym, ap, subst, ◌∙◌, append_assoc, append-nil, arith}
use Rattle.std.specs.List.{flat_map, AllByRecursion}
use Rattle.std.specs.Int.{w32, to_be_bytes}
use Rattle.std.proofs.lemmas.List.{append_cancel_left, length-append}
use Rattle.spelling.proofs.Joining.{one_spelling, whole_value}
use Rattle.mc_cap.specs.declared.capability.Capability.{Capability}
use Rattle.willow_entry.specs.EntryForm.{entry_spelling}
use Rattle.cap_codec.specs.declared.numbered.NumberedRow.{NumberedRow}
use Rattle.cap_codec.specs.Numbered.{FitsCapability, IsNumberedRow, capability_frame, numbered_frame, numbered_spelling}
use Rattle.cap_codec.specs.Rows.{RawValue}
use Rattle.cap_codec.proofs.CapReads.{capability-reads}
use Rattle.cap_codec.proofs.Frames.{body_at}
use Rattle.cap_codec.proofs.Framed.{framed_again, framed_form}
use Rattle.cap_codec.proofs.NumberedReads.{numbered-reads}
use Rattle.peer_image.specs.declared.known.ImageHead.{ImageHead}
use Rattle.peer_image.specs.Image.{trailer}
use Rattle.peer_image.specs.ImageTwoReading.{AreNumbered, AreRising, AreToldInFront, AreAllTold, FitsBelow, HasNoHigher, HasNoRow, IsImageHead, IsImageTwo, IsWrongTwo, RowsStopAt, ToldStopAt, head_two_spelling, row_among}
use Rattle.peer_image.proofs.OneStops.{behind_key, zero_body}
use Rattle.peer_image.proofs.TwoHeads.{head-reads}
use Rattle.peer_image.proofs.TwoRising.{rising_left}

-- ---- capabilities

-- What is told in front, the last of all that is told: no further one is told behind them where they are too few.
record Ends (count : ℕ) (all told : List Capability) (left : List ℕ) : Type 0 where
  fit : AllByRecursion FitsCapability told
  up : AreRising all
  within : length all ≤ count
  ended : length all < count → HasNoHigher all left

ends_on : (count : ℕ) (all : List Capability) (c : Capability) (told : List Capability) (left : List ℕ) → Ends count all (c ∷ told) left → Ends count all told left
ends_on count all c told left e = record { fit = e.fit.1; up = e.up; within = e.within; ended = e.ended }

-- one list stops where the other goes on
no_more : (count : ℕ) (before : List Capability) (d : Capability) (others all : List Capability) (a b : List ℕ) → all ≡ before ++ d ∷ others → AreRising all → length all ≤ count → FitsCapability d
    → (length before < count → HasNoHigher before a) → a ≡ flat_map capability_frame (d ∷ others) ++ b → ⊥
no_more count before d others all a b is up within fits none parts =
    let grouped : all ≡ (before ++ d ∷ []) ++ others = is ∙ sym (append_assoc before (d ∷ []) others) in
    none (omega (arith, within, ap length is, length-append before (d ∷ others))) d (flat_map capability_frame others ++ b) fits
    (rising_left (before ++ d ∷ []) others (subst AreRising grouped up))
    (parts ∙ append_assoc (capability_frame d) (flat_map capability_frame others) b)

told_same : (count : ℕ) (before told others all all' : List Capability) (a b : List ℕ) → all ≡ before ++ told → all' ≡ before ++ others → Ends count all told a → Ends count all' others b
    → flat_map capability_frame told ++ a ≡ flat_map capability_frame others ++ b → (told ≡ others) × (a ≡ b)
told_same count before [] [] all all' a b is is' f g e = (refl, e)
told_same count before [] (d ∷ others) all all' a b is is' f g e =
    let here : all ≡ before = is ∙ append-nil before in
    absurd (no_more count before d others all' a b is' g.up g.within g.fit.0 (subst (λ (l : List Capability). length l < count → HasNoHigher l a) here f.ended) e)
told_same count before (c ∷ told) [] all all' a b is is' f g e =
    let here : all' ≡ before = is' ∙ append-nil before in
    absurd (no_more count before c told all b a is f.up f.within f.fit.0 (subst (λ (l : List Capability). length l < count → HasNoHigher l b) here g.ended) (sym e))
told_same count before (c ∷ told) (d ∷ others) all all' a b is is' f g e =
    let both = framed_form capability-reads c d (flat_map capability_frame told ++ a) (flat_map capability_frame others ++ b) f.fit.0 g.fit.0
    (sym (append_assoc (capability_frame c) (flat_map capability_frame told) a) ∙ e ∙ append_assoc (capability_frame d) (flat_map capability_frame others) b) in
    let there : all' ≡ (before ++ c ∷ []) ++ others = is' ∙ ap (λ (x : Capability). before ++ x ∷ others) (sym both.0) ∙ sym (append_assoc before (c ∷ []) others) in
    let more = told_same count (before ++ c ∷ []) told others all all' a b (is ∙ sym (append_assoc before (c ∷ []) told)) there (ends_on count all c told a f) (ends_on count all' d others b g) both.1 in
    (ap (λ (x : Capability). x ∷ told) both.0 ∙ ap (λ (l : List Capability). d ∷ l) more.0, more.1)

ends_of : (bytes : List ℕ) (count : ℕ) (told : List Capability) (left : List ℕ) → AreToldInFront bytes count told left → Ends count told told left
ends_of bytes count told left t = record { fit = t.fit; up = t.up; within = t.within; ended = t.ended }

pub same_told : (bytes others_bytes : List ℕ) (count other_count : ℕ) (told others : List Capability) (a b : List ℕ) → bytes ≡ others_bytes → count ≡ other_count → AreToldInFront bytes count told a → AreToldInFront others_bytes other_count others b → (told ≡ others) × (a ≡ b)
same_told bytes others_bytes count other_count told others a b is counted f g =
    let there : Ends count others others b = subst (λ (n : ℕ). Ends n others others b) (sym counted) (ends_of others_bytes other_count others b g) in
    told_same count [] told others told others a b refl refl (ends_of bytes count told a f) there (sym f.parts ∙ is ∙ g.parts)

-- ---- rows

numbered_some : (r : NumberedRow) → IsNumberedRow r → [] ≡ numbered_spelling r → ⊥
unfolding entry_spelling
numbered_some r f e = behind_key r.entry.namespace _ _ f.entry_fits.namespace.whole e

-- four bytes 00
pub zeros_no_row : (count : ℕ) (rest : List ℕ) → HasNoRow count (0 ∷ 0 ∷ 0 ∷ 0 ∷ rest)
zeros_no_row count rest r others f e =
    numbered_some r f.fits.value_fits (whole_value [] (numbered_spelling r) rest others (sym (zero_body rest) ∙ ap body_at e ∙ framed_again {spell = numbered_spelling} {fits = IsNumberedRow} r others f.fits))

same_rows : (count : ℕ) (rows others : List NumberedRow) (a b : List ℕ) → AllByRecursion (FitsBelow count) rows → AllByRecursion (FitsBelow count) others → HasNoRow count a → HasNoRow count b
    → flat_map numbered_frame rows ++ a ≡ flat_map numbered_frame others ++ b → (rows ≡ others) × (a ≡ b)
same_rows count [] [] a b f g na nb e = (refl, e)
same_rows count [] (s ∷ others) a b f g na nb e = absurd (na s (flat_map numbered_frame others ++ b) g.0 (e ∙ append_assoc (numbered_frame s) (flat_map numbered_frame others) b))
same_rows count (r ∷ rows) [] a b f g na nb e = absurd (nb r (flat_map numbered_frame rows ++ a) f.0 (sym e ∙ append_assoc (numbered_frame r) (flat_map numbered_frame rows) a))
same_rows count (r ∷ rows) (s ∷ others) a b f g na nb e =
    let both = framed_form numbered-reads r s (flat_map numbered_frame rows ++ a) (flat_map numbered_frame others ++ b) f.0.fits g.0.fits
    (sym (append_assoc (numbered_frame r) (flat_map numbered_frame rows) a) ∙ e ∙ append_assoc (numbered_frame s) (flat_map numbered_frame others) b) in
    let more = same_rows count rows others a b f.1 g.1 na nb both.1 in
    (ap (λ (x : NumberedRow). x ∷ rows) both.0 ∙ ap (λ (l : List NumberedRow). s ∷ l) more.0, more.1)

-- ---- fronts

-- a head, all capabilities and all rows behind them stand in front of what is left
pub record IsFrontTwo (bytes : List ℕ) (h : ImageHead) (told : List Capability) (rows : List NumberedRow) (left : List ℕ) : Type 0 where
  pub behind : List ℕ
  pub middle : List ℕ
  pub head_fits : IsImageHead h
  pub parts : bytes ≡ head_two_spelling h ++ behind
  pub are_told : AreToldInFront behind h.count told middle
  pub all : length told ≡ h.count
  pub are_numbered : AreNumbered middle (length told) rows left

record SameFronts (h k : ImageHead) (told others : List Capability) (rows more : List NumberedRow) (a b : List ℕ) : Type 0 where
  heads : h ≡ k
  told_are : told ≡ others
  rows_are : rows ≡ more
  left_same : a ≡ b

same_fronts : (bytes : List ℕ) (h k : ImageHead) (told others : List Capability) (rows more : List NumberedRow) (a b : List ℕ) → IsFrontTwo bytes h told rows a → IsFrontTwo bytes k others more b → SameFronts h k told others rows more a b
same_fronts bytes h k told others rows more a b f g =
    let heads = one_spelling head-reads h k f.behind g.behind f.head_fits g.head_fits (sym f.parts ∙ g.parts) in
    let caps = same_told f.behind g.behind h.count k.count told others f.middle g.middle heads.1 (ap (λ (x : ImageHead). x.count) heads.0) f.are_told g.are_told in
    let count : length others ≡ length told = ap length (sym caps.0) in
    let same = same_rows (length told) rows more a b f.are_numbered.fit (subst (λ (n : ℕ). AllByRecursion (FitsBelow n) more) count g.are_numbered.fit) f.are_numbered.no_row (subst (λ (n : ℕ). HasNoRow n b) count g.are_numbered.no_row)
    (sym f.are_numbered.parts ∙ caps.1 ∙ g.are_numbered.parts) in
    record { heads = heads.0; told_are = caps.0; rows_are = same.0; left_same = same.1 }

abbrev head_of : List ℕ → List Capability → ImageHead
head_of n told = record { namespace = n; count = length told }

pub front_of_image : (bytes n : List ℕ) (rows : List RawValue) (i : IsImageTwo bytes n rows) → IsFrontTwo bytes (head_of n i.told) i.told i.numbered (trailer (length i.numbered))
front_of_image bytes n rows i = record {
  behind = flat_map capability_frame i.told ++ (flat_map numbered_frame i.numbered ++ trailer (length i.numbered));
  middle = flat_map numbered_frame i.numbered ++ trailer (length i.numbered);
  head_fits = record { key = i.key; count_fits = i.told_count };
  parts = i.spelled;
  are_told = record { fit = i.told_fit; up = i.up; within = omega arith; parts = refl; ended = λ few. absurd (omega (arith, few)) };
  all = refl;
  are_numbered = record { fit = i.fit; parts = refl; no_row = zeros_no_row (length i.told) (to_be_bytes w32 (length i.numbered)) };
}

-- so it does with more bytes behind it
front_before : (bytes n : List ℕ) (rows : List RawValue) (rest : List ℕ) (i : IsImageTwo bytes n rows) → IsFrontTwo (bytes ++ rest) (head_of n i.told) i.told i.numbered (trailer (length i.numbered) ++ rest)
front_before bytes n rows rest i =
    let caps = flat_map capability_frame i.told in
    let frames = flat_map numbered_frame i.numbered in
    let end = trailer (length i.numbered) in
    record {
      behind = caps ++ (frames ++ (end ++ rest));
      middle = frames ++ (end ++ rest);
      head_fits = record { key = i.key; count_fits = i.told_count };
      parts =
          ap (λ (l : List ℕ). l ++ rest) i.spelled
          ∙ append_assoc (head_two_spelling (head_of n i.told)) (caps ++ (frames ++ end)) rest
          ∙ ap (λ (l : List ℕ). head_two_spelling (head_of n i.told) ++ l) (append_assoc caps (frames ++ end) rest ∙ ap (λ (l : List ℕ). caps ++ l) (append_assoc frames end rest));
      are_told = record { fit = i.told_fit; up = i.up; within = omega arith; parts = refl; ended = λ few. absurd (omega (arith, few)) };
      all = refl;
      are_numbered = record { fit = i.fit; parts = refl; no_row = zeros_no_row (length i.told) (to_be_bytes w32 (length i.numbered) ++ rest) };
    }

front_of_stop : (bytes : List ℕ) (at : ℕ) (s : RowsStopAt bytes at) → IsFrontTwo bytes s.head s.told s.numbered s.left
front_of_stop bytes at s = record { behind = s.behind; middle = s.middle; head_fits = s.head_fits; parts = s.parts; are_told = s.are_told; all = s.all; are_numbered = s.are_numbered }

-- fewer capabilities than are counted are not all
told_not_all : (bytes : List ℕ) (at : ℕ) (h : ImageHead) (told : List Capability) (rows : List NumberedRow) (left : List ℕ) → ToldStopAt bytes at → IsFrontTwo bytes h told rows left → ⊥
told_not_all bytes at h told rows left s f =
    let heads = one_spelling head-reads s.head h s.behind f.behind s.head_fits f.head_fits (sym s.parts ∙ f.parts) in
    let count = ap (λ (x : ImageHead). x.count) heads.0 in
    let caps = same_told s.behind f.behind s.head.count h.count s.told told s.left f.middle heads.1 count s.are_told f.are_told in
    omega (arith, s.few, count, f.all, ap length caps.0)

-- ---- the laws

-- an image in front tells its namespace, its rows, and what stands behind it
pub same_images : (bytes others n m : List ℕ) (rows more : List RawValue) (a b : List ℕ) → IsImageTwo bytes n rows → IsImageTwo others m more → bytes ++ a ≡ others ++ b → (n ≡ m) × (rows ≡ more) × (a ≡ b)
same_images bytes others n m rows more a b i j e =
    let there = subst (λ (l : List ℕ). IsFrontTwo l (head_of m j.told) j.told j.numbered (trailer (length j.numbered) ++ b)) (sym e) (front_before others m more b j) in
    let same = same_fronts (bytes ++ a) (head_of n i.told) (head_of m j.told) i.told j.told i.numbered j.numbered _ _ (front_before bytes n rows a i) there in (
      ap (λ (x : ImageHead). x.namespace) same.heads,
      i.rows_are ∙ ap (λ (l : List Capability). map (row_among l) i.numbered) same.told_are ∙ ap (map (row_among j.told)) same.rows_are ∙ sym j.rows_are,
      append_cancel_left (trailer (length i.numbered)) a b (same.left_same ∙ ap (λ (l : List NumberedRow). trailer (length l) ++ b) (sym same.rows_are)),
    )

pub one_image_two : (bytes n m : List ℕ) (rows others : List RawValue) → IsImageTwo bytes n rows → IsImageTwo bytes m others → (n ≡ m) × (rows ≡ others)
one_image_two bytes n m rows others i j = let same = same_images bytes bytes n m rows others [] [] i j refl in (same.0, same.1)

not_end : (bytes n : List ℕ) (rows : List RawValue) (at : ℕ) → IsImageTwo bytes n rows → RowsStopAt bytes at → ⊥
not_end bytes n rows at i s =
    let same = same_fronts bytes (head_of n i.told) s.head i.told s.told i.numbered s.numbered _ _ (front_of_image bytes n rows i) (front_of_stop bytes at s) in
    s.no_end (subst (λ (l : List NumberedRow). length l < 2 ^ 32) same.rows_are i.count)
    (subst (λ (l : List NumberedRow). AreAllTold (length s.told) l) same.rows_are (subst (λ (l : List Capability). AreAllTold (length l) i.numbered) same.told_are i.used))
    (sym same.left_same ∙ ap (λ (l : List NumberedRow). trailer (length l)) same.rows_are)

pub never_both_two : (bytes n : List ℕ) (rows : List RawValue) (at : ℕ) → IsImageTwo bytes n rows → IsWrongTwo bytes at → ⊥
never_both_two bytes n rows at i (inl w) = let f = front_of_image bytes n rows i in w.0 (head_of n i.told) f.behind f.head_fits f.parts
never_both_two bytes n rows at i (inr (inl s)) = told_not_all bytes at (head_of n i.told) i.told i.numbered (trailer (length i.numbered)) s (front_of_image bytes n rows i)
never_both_two bytes n rows at i (inr (inr s)) = not_end bytes n rows at i s

told_place : (bytes : List ℕ) (at other : ℕ) → ToldStopAt bytes at → ToldStopAt bytes other → at ≡ other
told_place bytes at other s t =
    let heads = one_spelling head-reads s.head t.head s.behind t.behind s.head_fits t.head_fits (sym s.parts ∙ t.parts) in
    let caps = same_told s.behind t.behind s.head.count t.head.count s.told t.told s.left t.left heads.1 (ap (λ (x : ImageHead). x.count) heads.0) s.are_told t.are_told in
    omega (arith, s.place, t.place, ap length caps.1)

rows_place : (bytes : List ℕ) (at other : ℕ) → RowsStopAt bytes at → RowsStopAt bytes other → at ≡ other
rows_place bytes at other s t =
    let same = same_fronts bytes s.head t.head s.told t.told s.numbered t.numbered s.left t.left (front_of_stop bytes at s) (front_of_stop bytes other t) in
    omega (arith, s.place, t.place, ap length same.left_same)

pub one_place_two : (bytes : List ℕ) (at other : ℕ) → IsWrongTwo bytes at → IsWrongTwo bytes other → at ≡ other
one_place_two bytes at other (inl w) (inl v) = w.1 ∙ sym v.1
one_place_two bytes at other (inl w) (inr (inl t)) = absurd (w.0 t.head t.behind t.head_fits t.parts)
one_place_two bytes at other (inl w) (inr (inr t)) = absurd (w.0 t.head t.behind t.head_fits t.parts)
one_place_two bytes at other (inr (inl s)) (inl v) = absurd (v.0 s.head s.behind s.head_fits s.parts)
one_place_two bytes at other (inr (inr s)) (inl v) = absurd (v.0 s.head s.behind s.head_fits s.parts)
one_place_two bytes at other (inr (inl s)) (inr (inl t)) = told_place bytes at other s t
one_place_two bytes at other (inr (inl s)) (inr (inr t)) = absurd (told_not_all bytes at t.head t.told t.numbered t.left s (front_of_stop bytes other t))
one_place_two bytes at other (inr (inr s)) (inr (inl t)) = absurd (told_not_all bytes other s.head s.told s.numbered s.left t (front_of_stop bytes at s))
one_place_two bytes at other (inr (inr s)) (inr (inr t)) = rows_place bytes at other s t
