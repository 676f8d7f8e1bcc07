-- What is read of values that all of some bytes spell, and of values in frames.
use Rattle.std.proofs.Common.{◌≡◌, ℕ, ◌-◌, ◌<◌, ◌≤◌, false, ltb, List, [], ◌∷◌, ◌++◌, length, take, drop, Result, Ok, Err, refl, sym, ap, subst, ◌∙◌, append_assoc, arith}
use Rattle.std.specs.Int.{w32, to_be_bytes}
use Rattle.std.specs.Result.{IsErrAnd}
use Rattle.std.proofs.lemmas.List.{append-nil, length-append}
use Rattle.std.proofs.lemmas.Result.{err_from_is_err_and}
use Rattle.spelling.specs.Front.{Front, Whole}
use Rattle.spelling.specs.Form.{AreBytes, IsForm, Decodes}
use Rattle.spelling.specs.Spelling.{text_spelling}
use Rattle.spelling.specs.Reading.{Fails, IsEndOf}
use Rattle.spelling.specs.declared.ending.End.{End}
use Rattle.spelling.specs.declared.ending.End.TheVariants.{Refused, NoMemory}
use Rattle.spelling.specs.declared.ending.NotHere.{NotHere}
use Rattle.spelling.specs.declared.input.Unread.{Unread}
use Rattle.spelling.specs.declared.input.Unread.TheVariants as unread
use Rattle.spelling.proofs.Lists.{take_front}
use Rattle.spelling.proofs.Joining.{Reads, one_spelling, alone, whole_value, whole_rest, whole_not_part, whole_not_wrong}
use Rattle.spelling.proofs.Repeated.{text-reads}
use Rattle.willow_entry.specs.declared.frame.TheConstants.{MAX_FRAME}
use Rattle.cap_codec.specs.Framed.{framed, FitsFramed, ReadsAll}
use Rattle.cap_codec.proofs.Frames.{body_at, length-reads, text_again}
use Rattle.cap_codec.proofs.RowReads.{empty}

-- ---- all of some bytes

all_not : {A : Type 0} {at : List ℕ → Front A} {spell : A → List ℕ} {fits : A → Type 0} → Reads at spell fits → (u : Unread) (e : End NotHere) (bytes : List ℕ) → Fails u (at bytes) → IsEndOf u e → ReadsAll spell fits bytes (Err e)
all_not {A} {at} {spell} {fits} reads unread.NoMemory e bytes h is = subst (λ (d : End NotHere). ReadsAll spell fits bytes (Err d)) (sym is) tt
all_not {A} {at} {spell} {fits} reads unread.Part e bytes h is =
    subst (λ (d : End NotHere). ReadsAll spell fits bytes (Err d)) (sym is) (λ x f spelled. whole_not_part x [] (at bytes) (ap at spelled ∙ alone reads x f) h)
all_not {A} {at} {spell} {fits} reads unread.Wrong e bytes h is =
    subst (λ (d : End NotHere). ReadsAll spell fits bytes (Err d)) (sym is) (λ x f spelled. whole_not_wrong x [] (at bytes) (ap at spelled ∙ alone reads x f) h)

-- no value was read
pub all_end : {A : Type 0} {at : List ℕ → Front A} {spell : A → List ℕ} {fits : A → Type 0} → Reads at spell fits → (bytes input : List ℕ) (u : Unread) (result : Result A (End NotHere)) → input ≡ bytes → Fails u (at input)
    → IsErrAnd result (IsEndOf u) → ReadsAll spell fits bytes result
all_end {A} {at} {spell} {fits} reads bytes input u result is h err =
    let p = err_from_is_err_and result err in
    subst (λ (r : Result A (End NotHere)). ReadsAll spell fits bytes r) (sym p.1) (all_not reads u p.0 bytes (subst (λ (l : List ℕ). Fails u (at l)) is h) p.2)

-- bytes that go on behind a value
pub all_more : {A : Type 0} {at : List ℕ → Front A} {spell : A → List ℕ} {fits : A → Type 0} → Reads at spell fits → (bytes input : List ℕ) (x : A) (left : List ℕ) (why : NotHere) → input ≡ bytes → at input ≡ Whole x left → 0 < length left
    → ReadsAll spell fits bytes (Err (Refused why))
all_more {A} {at} reads bytes input x left why is h more =
    λ y f spelled.
    let nothing : left ≡ [] = whole_rest x y left [] (sym (ap at (sym is) ∙ h) ∙ ap at spelled ∙ alone reads y f) in
    omega (arith, more, ap length nothing)

-- a value was read, and nothing is left
pub all_read : {A : Type 0} {at : List ℕ → Front A} {spell : A → List ℕ} {fits : A → Type 0} → Reads at spell fits → (bytes input : List ℕ) (x : A) (left : List ℕ) → AreBytes bytes → input ≡ bytes → at input ≡ Whole x left → length left ≤ 0
    → ReadsAll spell fits bytes (Ok x)
all_read {A} {at} {spell} reads bytes input x left are is h end =
    let t = reads.takes bytes x left are (ap at (sym is) ∙ h) in
    (t.fits, t.parts ∙ ap (λ (l : List ℕ). spell x ++ l) (empty left end) ∙ append-nil (spell x))

-- ---- frames

-- in front of anything, a frame gives the spelling in it
pub framed_again : {A : Type 0} {spell : A → List ℕ} {fits : A → Type 0} → (x : A) (rest : List ℕ) → FitsFramed spell fits x → body_at (framed spell x ++ rest) ≡ Whole (spell x) rest
framed_again {A} {spell} x rest f = text_again (spell x) rest f.short

pub framed_form : {A : Type 0} {at : List ℕ → Front A} {spell : A → List ℕ} {fits : A → Type 0} → Reads at spell fits → IsForm (framed spell) (FitsFramed spell fits)
framed_form {A} {at} {spell} {fits} reads x y a b fx fy e =
    let same = sym (framed_again {spell = spell} {fits = fits} x a fx) ∙ ap body_at e ∙ framed_again {spell = spell} {fits = fits} y b fy in
    let spelled : spell x ≡ spell y = whole_value (spell x) (spell y) a b same in
    let both = one_spelling reads x y [] [] fx.value_fits fy.value_fits (append-nil (spell x) ∙ spelled ∙ sym (append-nil (spell y))) in
    (both.0, whole_rest (spell x) (spell y) a b same)

module _ {A : Type 0} (spell : A → List ℕ) (fits : A → Type 0) where
  framed_none : (u : Unread) (e : End NotHere) (bytes : List ℕ) → Fails u (body_at bytes) → IsEndOf u e → Decodes (framed spell) (FitsFramed spell fits) bytes (Err e)
  framed_none unread.NoMemory e bytes h is = subst (λ (d : End NotHere). Decodes (framed spell) (FitsFramed spell fits) bytes (Err d)) (sym is) tt
  framed_none unread.Part e bytes h is =
      subst (λ (d : End NotHere). Decodes (framed spell) (FitsFramed spell fits) bytes (Err d)) (sym is)
      (λ x rest f parts. whole_not_part (spell x) rest (body_at bytes) (ap body_at parts ∙ framed_again {spell = spell} {fits = fits} x rest f) h)
  framed_none unread.Wrong e bytes h is =
      subst (λ (d : End NotHere). Decodes (framed spell) (FitsFramed spell fits) bytes (Err d)) (sym is)
      (λ x rest f parts. whole_not_wrong (spell x) rest (body_at bytes) (ap body_at parts ∙ framed_again {spell = spell} {fits = fits} x rest f) h)

  -- no frame was read
  pub framed_end : (bytes input : List ℕ) (u : Unread) (result : Result (A × ℕ) (End NotHere)) → input ≡ bytes → Fails u (body_at input) → IsErrAnd result (IsEndOf u) → Decodes (framed spell) (FitsFramed spell fits) bytes result
  framed_end bytes input u result is h err =
      let p = err_from_is_err_and result err in
      subst (λ (r : Result (A × ℕ) (End NotHere)). Decodes (framed spell) (FitsFramed spell fits) bytes r) (sym p.1) (framed_none u p.0 bytes (subst (λ (l : List ℕ). Fails u (body_at l)) is h) p.2)

  framed_not : (bytes body left : List ℕ) (e : End NotHere) → body_at bytes ≡ Whole body left → ReadsAll spell fits body (Err e) → Decodes (framed spell) (FitsFramed spell fits) bytes (Err e)
  framed_not bytes body left NoMemory h none = tt
  framed_not bytes body left (Refused e) h none =
      λ x rest f parts. none x f.value_fits (whole_value body (spell x) left rest (sym h ∙ ap body_at parts ∙ framed_again {spell = spell} {fits = fits} x rest f))

  -- the frame's body is no value's spelling, and that is handed on
  pub framed_err : (bytes input body left : List ℕ) (e : End NotHere) (result : Result (A × ℕ) (End NotHere)) → input ≡ bytes → body_at input ≡ Whole body left → ReadsAll spell fits body (Err e) → IsErrAnd result (λ d. d ≡ e)
      → Decodes (framed spell) (FitsFramed spell fits) bytes result
  framed_err bytes input body left e result is h none err =
      let p = err_from_is_err_and result err in
      subst (λ (r : Result (A × ℕ) (End NotHere)). Decodes (framed spell) (FitsFramed spell fits) bytes r) (ap (λ (d : End NotHere). Err d) (sym p.2) ∙ sym p.1) (framed_not bytes body left e (ap body_at (sym is) ∙ h) none)

  -- the frame's body is a value's spelling
  pub framed_whole : (bytes input body left : List ℕ) (x : A) (taken : ℕ) → AreBytes bytes → input ≡ bytes → body_at input ≡ Whole body left → ReadsAll spell fits body (Ok x) → taken ≡ length bytes - length left
      → Decodes (framed spell) (FitsFramed spell fits) bytes (Ok (x, taken))
  framed_whole bytes input body left x taken are same h is n =
      let t = (text-reads MAX_FRAME (omega arith) length-reads).takes bytes body left are (ap body_at (sym same) ∙ h) in
      let parts : bytes ≡ framed spell x ++ left = t.parts ∙ ap (λ (l : List ℕ). text_spelling (to_be_bytes w32) l ++ left) is.1 in
      let short : length (spell x) ≤ MAX_FRAME = subst (λ (l : List ℕ). length l ≤ MAX_FRAME) is.1 t.fits.0 in
      (record { value_fits = is.0; short = short }, omega (arith, n), ap (λ (k : ℕ). take k bytes) n ∙ take_front bytes (framed spell x) left parts)
