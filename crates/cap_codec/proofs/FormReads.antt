-- The readers of a capability's first byte and of its initial signature go with their spellings.
use Rattle.std.proofs.Common.{◌≡◌, ℕ, zero, suc, Bool, true, false, List, [], ◌∷◌, ◌++◌, Option, Some, None, refl, ap, subst, ◌∙◌, arith, inl, inr}
use Rattle.std.specs.Prelude.{IfSome, is_some}
use Rattle.spelling.specs.Front.{Front, Whole, Part, Wrong, ◌>>=◌}
use Rattle.spelling.specs.Form.{AreBytes}
use Rattle.spelling.proofs.Joining.{Takes, Reads, Completes, whole_value, whole_rest, whole_not_part, bind_whole, bind_part, bind_wrong}
use Rattle.spelling.proofs.Fields.{u16_up_to-reads}
use Rattle.spelling.proofs.Repeated.{text-reads}
use Rattle.scheme_core.specs.declared.signer.TheConstants.{MAX_SIGNATURE}
use Rattle.mc_cap.specs.declared.capability.Mode.{Mode}
use Rattle.mc_cap.specs.declared.capability.Mode.TheVariants.{Read, Write}
use Rattle.mc_cap.specs.Signature.{IsSignature, signature_spelling}
use Rattle.mc_cap.specs.Forms.{form_byte, initial_spelling}
use Rattle.cap_codec.specs.Reading.{form_at, signature_at, initial_at}

-- ---- mode and ownership in one byte

abbrev pub form_number : Mode → Bool → ℕ
form_number Read false = 0
form_number Write false = 1
form_number Read true = 2
form_number Write true = 3

abbrev pub form_spelling : Mode × Bool → List ℕ
form_spelling f = form_number f.0 f.1 ∷ []

pub form_same : (mode : Mode) (initial : Option (List ℕ)) → form_number mode (is_some initial) ≡ form_byte mode initial
form_same Read None = refl
form_same Write None = refl
form_same Read (Some signature) = refl
form_same Write (Some signature) = refl

form_took : (b : ℕ) (f x : Mode × Bool) (bytes rest : List ℕ) → b ∷ [] ≡ form_spelling f → AreBytes bytes → Whole f bytes ≡ Whole x rest → Takes (b ∷ bytes) (form_spelling x) rest (Unit {0})
form_took b f x bytes rest same are e =
    let value = whole_value f x bytes rest e in
    let left = whole_rest f x bytes rest e in
    record { fits = tt; parts = ap (λ (l : List ℕ). b ∷ l) left ∙ ap (λ (l : List ℕ). l ++ rest) (same ∙ ap form_spelling value); rest_are = subst AreBytes left are }

form_takes : (bytes : List ℕ) (x : Mode × Bool) (rest : List ℕ) → AreBytes bytes → form_at bytes ≡ Whole x rest → Takes bytes (form_spelling x) rest (Unit {0})
unfolding form_at
form_takes [] x rest are e = absurd cc
form_takes (zero ∷ bytes) x rest are e = form_took 0 (Read, false) x bytes rest refl are.1 e
form_takes (suc zero ∷ bytes) x rest are e = form_took 1 (Write, false) x bytes rest refl are.1 e
form_takes (suc (suc zero) ∷ bytes) x rest are e = form_took 2 (Read, true) x bytes rest refl are.1 e
form_takes (suc (suc (suc zero)) ∷ bytes) x rest are e = form_took 3 (Write, true) x bytes rest refl are.1 e
form_takes (suc (suc (suc (suc other))) ∷ bytes) x rest are e = absurd cc

form_again : (mode : Mode) (owned : Bool) (rest : List ℕ) → form_at (form_number mode owned ∷ rest) ≡ Whole (mode, owned) rest
unfolding form_at
form_again Read false rest = refl
form_again Write false rest = refl
form_again Read true rest = refl
form_again Write true rest = refl

whole_more : {A : Type 0} (f x : A) (bytes rest tail : List ℕ) → Whole f bytes ≡ Whole x rest → Whole f (bytes ++ tail) ≡ Whole x (rest ++ tail)
whole_more f x bytes rest tail e =
    ap (λ (y : _). Whole y (bytes ++ tail)) (whole_value f x bytes rest e) ∙ ap (λ (l : List ℕ). Whole x (l ++ tail)) (whole_rest f x bytes rest e)

form_more : (bytes : List ℕ) (x : Mode × Bool) (rest tail : List ℕ) → form_at bytes ≡ Whole x rest → form_at (bytes ++ tail) ≡ Whole x (rest ++ tail)
unfolding form_at
form_more [] x rest tail e = absurd cc
form_more (zero ∷ bytes) x rest tail e = whole_more (Read, false) x bytes rest tail e
form_more (suc zero ∷ bytes) x rest tail e = whole_more (Write, false) x bytes rest tail e
form_more (suc (suc zero) ∷ bytes) x rest tail e = whole_more (Read, true) x bytes rest tail e
form_more (suc (suc (suc zero)) ∷ bytes) x rest tail e = whole_more (Write, true) x bytes rest tail e
form_more (suc (suc (suc (suc other))) ∷ bytes) x rest tail e = absurd cc

form_wrong : (bytes tail : List ℕ) → form_at bytes ≡ Wrong → form_at (bytes ++ tail) ≡ Wrong
unfolding form_at
form_wrong [] tail e = absurd cc
form_wrong (zero ∷ bytes) tail e = absurd cc
form_wrong (suc zero ∷ bytes) tail e = absurd cc
form_wrong (suc (suc zero) ∷ bytes) tail e = absurd cc
form_wrong (suc (suc (suc zero)) ∷ bytes) tail e = absurd cc
form_wrong (suc (suc (suc (suc other))) ∷ bytes) tail e = refl

form_part : (bytes : List ℕ) → form_at bytes ≡ Part → Completes form_spelling (λ _. Unit {0}) bytes
unfolding form_at
form_part [] e = record { value = (Read, false); more = 0 ∷ []; fits_value = tt; parts = refl }
form_part (zero ∷ bytes) e = absurd cc
form_part (suc zero ∷ bytes) e = absurd cc
form_part (suc (suc zero) ∷ bytes) e = absurd cc
form_part (suc (suc (suc zero)) ∷ bytes) e = absurd cc
form_part (suc (suc (suc (suc other))) ∷ bytes) e = absurd cc

pub form-reads : Reads form_at form_spelling (λ _. Unit {0})
form-reads = record { takes = form_takes; again = λ f rest fits. form_again f.0 f.1 rest; more = form_more; wrong = form_wrong; part = λ bytes are e. form_part bytes e }

-- ---- signatures

pub signature-reads : Reads signature_at signature_spelling IsSignature
unfolding signature_at
signature-reads = text-reads MAX_SIGNATURE (omega arith) (u16_up_to-reads MAX_SIGNATURE (omega arith))

-- the signature without bytes
pub no_bytes : IsSignature []
no_bytes = (omega arith, tt)

-- ---- the initial signature, which is there exactly where the capability is owned

abbrev pub IsInitial : Bool → Option (List ℕ) → Type 0
IsInitial owned o = (is_some o ≡ owned) × IfSome o IsSignature

initial_takes : (owned : Bool) (bytes : List ℕ) (o : Option (List ℕ)) (rest : List ℕ) → AreBytes bytes → initial_at owned bytes ≡ Whole o rest → Takes bytes (initial_spelling o) rest (IsInitial owned o)
unfolding initial_at
initial_takes false bytes o rest are e =
    let left = whole_rest None o bytes rest e in
    let P : Option (List ℕ) → Type 0 = λ p. Takes bytes (initial_spelling p) rest (IsInitial false p) in
    subst P (whole_value None o bytes rest e) (record { fits = (refl, tt); parts = left; rest_are = subst AreBytes left are })
initial_takes true bytes o rest are e =
    let a = bind_whole (signature_at bytes) (λ x. Whole (Some x.0) x.1) o rest e in
    let p = signature-reads.takes bytes a.0 a.1 are a.2 in
    let left = whole_rest (Some a.0) o a.1 rest a.3 in
    let P : Option (List ℕ) → Type 0 = λ p. Takes bytes (initial_spelling p) rest (IsInitial true p) in
    subst P (whole_value (Some a.0) o a.1 rest a.3) (record { fits = (refl, p.fits); parts = p.parts ∙ ap (λ (l : List ℕ). signature_spelling a.0 ++ l) left; rest_are = subst AreBytes left p.rest_are })

initial_again : (owned : Bool) (o : Option (List ℕ)) (rest : List ℕ) → IsInitial owned o → initial_at owned (initial_spelling o ++ rest) ≡ Whole o rest
unfolding initial_at
initial_again false None rest f = refl
initial_again false (Some x) rest f = absurd cc
initial_again true None rest f = absurd cc
initial_again true (Some x) rest f = ap (λ (r : Front (List ℕ)). r >>= λ y. Whole (Some y.0) y.1) (signature-reads.again x rest f.1)

initial_more : (owned : Bool) (bytes : List ℕ) (o : Option (List ℕ)) (rest tail : List ℕ) → initial_at owned bytes ≡ Whole o rest → initial_at owned (bytes ++ tail) ≡ Whole o (rest ++ tail)
unfolding initial_at
initial_more false bytes o rest tail e = whole_more None o bytes rest tail e
initial_more true bytes o rest tail e =
    let a = bind_whole (signature_at bytes) (λ x. Whole (Some x.0) x.1) o rest e in
    ap (λ (r : Front (List ℕ)). r >>= λ y. Whole (Some y.0) y.1) (signature-reads.more bytes a.0 a.1 tail a.2) ∙ whole_more (Some a.0) o a.1 rest tail a.3

initial_wrong : (owned : Bool) (bytes tail : List ℕ) → initial_at owned bytes ≡ Wrong → initial_at owned (bytes ++ tail) ≡ Wrong
unfolding initial_at
initial_wrong false bytes tail e = absurd cc
initial_wrong true bytes tail e =
    bind_wrong (signature_at bytes) (signature_at (bytes ++ tail)) (λ x. Whole (Some x.0) x.1) tail (λ x left h. signature-reads.more bytes x left tail h) (signature-reads.wrong bytes tail) (λ x left h. absurd cc) e

initial_part : (owned : Bool) (bytes : List ℕ) → AreBytes bytes → initial_at owned bytes ≡ Part → Completes initial_spelling (IsInitial owned) bytes
unfolding initial_at
initial_part false bytes are e = absurd cc
initial_part true bytes are e =
    elim (bind_part (signature_at bytes) (λ x. Whole (Some x.0) x.1) e) [
      | inl h ↦ let c = signature-reads.part bytes are h in record { value = Some c.value; more = c.more; fits_value = (refl, c.fits_value); parts = c.parts }
      | inr b ↦ absurd (whole_not_part (Some b.0) b.1 (Whole (Some b.0) b.1) refl b.3)
    ]

pub initial-reads : (owned : Bool) → Reads (initial_at owned) initial_spelling (IsInitial owned)
initial-reads owned = record { takes = initial_takes owned; again = initial_again owned; more = initial_more owned; wrong = initial_wrong owned; part = initial_part owned }

-- some initial signature where there is to be one
abbrev pub initial_for : Bool → Option (List ℕ)
initial_for false = None
initial_for true = Some []

pub initial_for_fits : (owned : Bool) → IsInitial owned (initial_for owned)
initial_for_fits false = (refl, tt)
initial_for_fits true = (refl, no_bytes)
