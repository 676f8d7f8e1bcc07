-- What a reader means follows from how it goes with its spelling.
use Rattle.std.proofs.Common.{◌≡◌, ℕ, ◌<◌, ◌^◌, List, [], ◌∷◌, ◌++◌, length, refl, sym, ap, ◌∙◌, arith}
use Rattle.std.proofs.lemmas.List.{append-nil}
use Rattle.std.specs.Int.{w16, w32}
use Rattle.spelling.specs.Front.{Front, Whole, Part, Wrong}
use Rattle.spelling.specs.Form.{AreBytes}
use Rattle.spelling.specs.Reader.{Begins, BeginsNone, IsReader}
use Rattle.spelling.specs.Laws.{ReadsUpTo}
use Rattle.spelling.proofs.Joining.{Reads, Reads-is, alone, part_until, whole_not_part, whole_not_wrong}
use Rattle.spelling.proofs.Fields.{u16_up_to-reads, u32_up_to-reads}

-- what completes a part is not nothing
is_due : {A : Type 0} {at : List ℕ → Front A} {spell : A → List ℕ} {fits : A → Type 0} → Reads at spell fits → (bytes : List ℕ) (x : A) (due : List ℕ) → at bytes ≡ Part → fits x → spell x ≡ bytes ++ due → 0 < length due
is_due {A} {at} {spell} reads bytes x [] part f e =
    absurd (whole_not_part x [] (at bytes) (ap at (sym (append-nil bytes) ∙ sym e) ∙ alone reads x f) part)
is_due reads bytes x (b ∷ due) part f e = omega arith

begins : {A : Type 0} {at : List ℕ → Front A} {spell : A → List ℕ} {fits : A → Type 0} → Reads at spell fits → (bytes : List ℕ) → AreBytes bytes → at bytes ≡ Part → Begins spell fits bytes
begins reads bytes are e =
    let c = reads.part bytes are e in
    record { value = c.value; due = c.more; fits_value = c.fits_value; spelled = c.parts; some_due = is_due reads bytes c.value c.more e c.fits_value c.parts }

is_part : {A : Type 0} {at : List ℕ → Front A} {spell : A → List ℕ} {fits : A → Type 0} → Reads at spell fits → (bytes : List ℕ) → Begins spell fits bytes → at bytes ≡ Part
is_part {A} {at} reads bytes b = part_until reads bytes b.due b.value [] (ap at (sym b.spelled) ∙ alone reads b.value b.fits_value) b.some_due

begins_none : {A : Type 0} {at : List ℕ → Front A} {spell : A → List ℕ} {fits : A → Type 0} → Reads at spell fits → (bytes : List ℕ) → at bytes ≡ Wrong → BeginsNone spell fits bytes
begins_none {A} {at} reads bytes e x more rest f parts =
    whole_not_wrong x rest (at (bytes ++ more)) (ap at parts ∙ reads.again x rest f) (reads.wrong bytes more e)

-- what is neither whole nor a part is wrong
wrong_by : {A : Type 0} {at : List ℕ → Front A} {spell : A → List ℕ} {fits : A → Type 0} → Reads at spell fits → (bytes : List ℕ) (r : Front A) → AreBytes bytes → at bytes ≡ r → BeginsNone spell fits bytes → r ≡ Wrong
wrong_by {A} {at} {spell} reads bytes (Whole x rest) are is none =
    let t = reads.takes bytes x rest are is in
    absurd (none x [] rest t.fits (append-nil bytes ∙ t.parts))
wrong_by {A} {at} {spell} reads bytes Part are is none =
    let c = reads.part bytes are is in
    absurd (none c.value c.more [] c.fits_value (sym c.parts ∙ sym (append-nil (spell c.value))))
wrong_by reads bytes Wrong are is none = refl

pub reader : {A : Type 0} {at : List ℕ → Front A} {spell : A → List ℕ} {fits : A → Type 0} → Reads at spell fits → IsReader at spell fits
reader {A} {at} {spell} {fits} reads = record {
  whole = λ bytes x rest are. (
    λ e. let t = reads.takes bytes x rest are e in (t.fits, t.parts),
    λ p. ap at p.1 ∙ reads.again x rest p.0,
  );
  part = λ bytes are. (begins reads bytes are, is_part reads bytes);
  wrong = λ bytes are. (begins_none reads bytes, λ none. wrong_by reads bytes (at bytes) are refl none);
}

pub reads_u16_up_to : ReadsUpTo w16 (2 ^ 16)
reads_u16_up_to limit below = reader (Reads-is (u16_up_to-reads limit below) (λ n. refl) (λ n f. f.0) (λ n le. (le, omega (arith, le, below))))

pub reads_u32_up_to : ReadsUpTo w32 (2 ^ 32)
reads_u32_up_to limit below = reader (Reads-is (u32_up_to-reads limit below) (λ n. refl) (λ n f. f.0) (λ n le. (le, omega (arith, le, below))))
