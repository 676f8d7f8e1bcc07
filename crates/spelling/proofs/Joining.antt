-- How a reader goes with a spelling, and how the readers of fields are joined.
use Rattle.std.proofs.Common.{◌≡◌, ℕ, ◌-◌, ◌<◌, Bool, true, false, List, [], ◌++◌, length, get_or, take, drop, Result, Ok, Err, refl, sym, ap, subst, ◌∙◌, append_assoc, arith, Fits, w8, ◌⊎◌, inl, inr}
use Rattle.std.proofs.lemmas.List.{append-nil, take-append-drop, length-append, length-drop}
use Rattle.spelling.specs.Front.{Front, Whole, Part, Wrong, ◌>>=◌}
use Rattle.spelling.specs.Form.{AreBytes, IsForm, Decodes}
use Rattle.spelling.specs.Reading.{guard, Fails, IsEndOf}
use Rattle.spelling.specs.declared.ending.End.{End}
use Rattle.spelling.specs.declared.ending.NotHere.{NotHere}
use Rattle.spelling.specs.declared.input.Unread.{Unread}
use Rattle.spelling.specs.declared.input.Unread.TheVariants as unread
use Rattle.std.specs.Result.{IsErrAnd}
use Rattle.std.proofs.lemmas.Result.{err_from_is_err_and}
use Rattle.spelling.proofs.Lists.{take_front, are_bytes}

-- what a reader took from the front of bytes
pub record Takes (bytes text rest : List ℕ) (Fits : Type 0) : Type 0 where
  pub fits : Fits
  pub parts : bytes ≡ text ++ rest
  pub rest_are : AreBytes rest

-- a value whose spelling begins with the bytes
pub record Completes {A : Type 0} (spell : A → List ℕ) (fits : A → Type 0) (bytes : List ℕ) : Type 0 where
  pub value : A
  pub more : List ℕ
  pub fits_value : fits value
  pub parts : spell value ≡ bytes ++ more

-- The reader takes just the spellings of what fits, judges the bytes without regard to what stands
-- behind the value, and calls nothing a part but what some value's spelling begins with.
pub record Reads {A : Type 0} (at : List ℕ → Front A) (spell : A → List ℕ) (fits : A → Type 0) : Type 0 where
  pub takes : (bytes : List ℕ) (x : A) (rest : List ℕ) → AreBytes bytes → at bytes ≡ Whole x rest → Takes bytes (spell x) rest (fits x)
  pub again : (x : A) (rest : List ℕ) → fits x → at (spell x ++ rest) ≡ Whole x rest
  pub more : (bytes : List ℕ) (x : A) (rest tail : List ℕ) → at bytes ≡ Whole x rest → at (bytes ++ tail) ≡ Whole x (rest ++ tail)
  pub wrong : (bytes tail : List ℕ) → at bytes ≡ Wrong → at (bytes ++ tail) ≡ Wrong
  pub part : (bytes : List ℕ) → AreBytes bytes → at bytes ≡ Part → Completes spell fits bytes

-- a beginning of a field's value, completed so that something can stand behind it
pub record Follows {A T : Type 0} (spell_first : A → List ℕ) (fits_first : A → Type 0) (fits_next : A → T → Type 0) (bytes : List ℕ) : Type 0 where
  pub first : Completes spell_first fits_first bytes
  pub next : T
  pub fits_behind : fits_next first.value next

-- ---- fronts

pub whole_value : {A : Type 0} (x y : A) (a b : List ℕ) → Whole x a ≡ Whole y b → x ≡ y
whole_value x y a b e = cc

pub whole_rest : {A : Type 0} (x y : A) (a b : List ℕ) → Whole x a ≡ Whole y b → a ≡ b
whole_rest x y a b e = cc

-- what was read on from a whole value
pub bind_whole : {A B : Type 0} (r : Front A) (f : A × List ℕ → Front B) (y : B) (rest : List ℕ) → (r >>= f) ≡ Whole y rest → (x : A) × (left : List ℕ) × (r ≡ Whole x left) × (f (x, left) ≡ Whole y rest)
bind_whole (Whole x left) f y rest e = (x, left, refl, e)
bind_whole Part f y rest e = absurd cc
bind_whole Wrong f y rest e = absurd cc

-- the same bytes with more behind them, read on, by cases on the first front
pub bind_wrong : {A B : Type 0} (r s : Front A) (f : A × List ℕ → Front B) (tail : List ℕ)
    → ((x : A) (left : List ℕ) → r ≡ Whole x left → s ≡ Whole x (left ++ tail))
    → (r ≡ Wrong → s ≡ Wrong)
    → ((x : A) (left : List ℕ) → f (x, left) ≡ Wrong → f (x, left ++ tail) ≡ Wrong)
    → (r >>= f) ≡ Wrong → (s >>= f) ≡ Wrong
bind_wrong {A = A} (Whole x left) s f tail on bad next e = ap (λ (q : Front A). q >>= f) (on x left refl) ∙ next x left e
bind_wrong {A = A} Part s f tail on bad next e = absurd cc
bind_wrong {A = A} Wrong s f tail on bad next e = ap (λ (q : Front A). q >>= f) (bad refl)

-- a part is one of the first front or of what is read on
pub bind_part : {A B : Type 0} (r : Front A) (f : A × List ℕ → Front B) → (r >>= f) ≡ Part → (r ≡ Part) ⊎ ((x : A) × (left : List ℕ) × (r ≡ Whole x left) × (f (x, left) ≡ Part))
bind_part (Whole x left) f e = inr (x, left, refl, e)
bind_part Part f e = inl refl
bind_part Wrong f e = absurd cc

different : false ≡ true → ⊥
different e = cc

-- ---- joining

-- the beginning of a field, completed with what follows it
began_first : {A T : Type 0} {spell_first : A → List ℕ} {fits_first : A → Type 0} {fits_next : A → T → Type 0} (spell_next : T → List ℕ) (field : T → A)
    → ((a : A) (t : T) → fits_next a t → field t ≡ a) → (bytes : List ℕ) → Follows spell_first fits_first fits_next bytes
    → Completes (λ t. spell_first (field t) ++ spell_next t) (λ t. fits_first (field t) × fits_next (field t) t) bytes
began_first {A} {T} {spell_first} {fits_first} {fits_next} spell_next field tells bytes f =
    let c = f.first in
    let is : c.value ≡ field f.next = sym (tells c.value f.next f.fits_behind) in
    record {
      value = f.next;
      more = c.more ++ spell_next f.next;
      fits_value = subst (λ (a : A). fits_first a × fits_next a f.next) is (c.fits_value, f.fits_behind);
      parts = ap (λ (a : A). spell_first a ++ spell_next f.next) (sym is) ∙ ap (λ (l : List ℕ). l ++ spell_next f.next) c.parts ∙ append_assoc bytes c.more (spell_next f.next);
    }

-- a whole field, and the beginning of what stands behind it, completed
began_next : {A T : Type 0} (spell_first : A → List ℕ) (fits_first : A → Type 0) (fits_next : A → T → Type 0) {spell_next : T → List ℕ} (field : T → A)
    → ((a : A) (t : T) → fits_next a t → field t ≡ a) → (bytes left : List ℕ) (a : A) → Takes bytes (spell_first a) left (fits_first a) → Completes spell_next (fits_next a) left
    → Completes (λ t. spell_first (field t) ++ spell_next t) (λ t. fits_first (field t) × fits_next (field t) t) bytes
began_next {A} {T} spell_first fits_first fits_next {spell_next} field tells bytes left a p c =
    let is : a ≡ field c.value = sym (tells a c.value c.fits_value) in
    record {
      value = c.value;
      more = c.more;
      fits_value = subst (λ (b : A). fits_first b × fits_next b c.value) is (p.fits, c.fits_value);
      parts = ap (λ (b : A). spell_first b ++ spell_next c.value) (sym is) ∙ ap (λ (l : List ℕ). spell_first a ++ l) c.parts ∙ sym (append_assoc (spell_first a) left c.more) ∙ ap (λ (l : List ℕ). l ++ c.more) (sym p.parts);
    }

-- A field, and what is read behind it. What is read behind it tells the field's value. A beginning of the field
-- can be completed so that something follows.
pub Reads-then : {A T : Type 0} {first : List ℕ → Front A} {spell_first : A → List ℕ} {fits_first : A → Type 0} {spell_next : T → List ℕ} {fits_next : A → T → Type 0}
    → (next : A × List ℕ → Front T) (field : T → A) → Reads first spell_first fits_first
    → ((a : A) → Reads (λ bytes. next (a, bytes)) spell_next (fits_next a))
    → ((a : A) (t : T) → fits_next a t → field t ≡ a)
    → ((bytes : List ℕ) → AreBytes bytes → first bytes ≡ Part → Follows spell_first fits_first fits_next bytes)
    → Reads (λ bytes. first bytes >>= next) (λ t. spell_first (field t) ++ spell_next t) (λ t. fits_first (field t) × fits_next (field t) t)
Reads-then {A} {T} {first} {spell_first} {fits_first} {spell_next} {fits_next} next field one two tells follows = record {
  takes = λ bytes t rest are e.
      let b = bind_whole (first bytes) next t rest e in
      let p = one.takes bytes b.0 b.1 are b.2 in
      let q = (two b.0).takes b.1 t rest p.rest_are b.3 in
      let is : b.0 ≡ field t = sym (tells b.0 t q.fits) in
      record {
        fits = subst (λ (a : A). fits_first a × fits_next a t) is (p.fits, q.fits);
        parts = p.parts ∙ ap (λ (l : List ℕ). spell_first b.0 ++ l) q.parts ∙ sym (append_assoc (spell_first b.0) (spell_next t) rest) ∙ ap (λ (a : A). (spell_first a ++ spell_next t) ++ rest) is;
        rest_are = q.rest_are;
      };
  again = λ t rest fits.
      ap (λ (l : List ℕ). first l >>= next) (append_assoc (spell_first (field t)) (spell_next t) rest)
      ∙ ap (λ (r : Front A). r >>= next) (one.again (field t) (spell_next t ++ rest) fits.0)
      ∙ (two (field t)).again t rest fits.1;
  more = λ bytes t rest tail e.
      let b = bind_whole (first bytes) next t rest e in
      ap (λ (r : Front A). r >>= next) (one.more bytes b.0 b.1 tail b.2) ∙ (two b.0).more b.1 t rest tail b.3;
  wrong = λ bytes tail e.
      bind_wrong (first bytes) (first (bytes ++ tail)) next tail (λ a left h. one.more bytes a left tail h) (one.wrong bytes tail) (λ a left h. (two a).wrong left tail h) e;
  part = λ bytes are e.
      elim (bind_part (first bytes) next e) [
        | inl at_first ↦ began_first spell_next field tells bytes (follows bytes are at_first)
        | inr b ↦
            let p = one.takes bytes b.0 b.1 are b.2 in
            began_next spell_first fits_first fits_next field tells bytes b.1 b.0 p ((two b.0).part b.1 p.rest_are b.3)
      ];
}

-- what follows a field that may be any that fits
pub any_follows : {A T : Type 0} {first : List ℕ → Front A} {spell_first : A → List ℕ} {fits_first : A → Type 0} {fits_next : A → T → Type 0} → Reads first spell_first fits_first
    → ((a : A) → fits_first a → (t : T) × fits_next a t)
    → (bytes : List ℕ) → AreBytes bytes → first bytes ≡ Part → Follows spell_first fits_first fits_next bytes
any_follows one behind bytes are e =
    let c = one.part bytes are e in
    let b = behind c.value c.fits_value in
    record { first = c; next = b.0; fits_behind = b.1 }

-- nothing more is read: the value is made of the fields
pub Reads-made : {T : Type 0} (made : T) → Reads (λ bytes. Whole made bytes) (λ _. []) (λ t. t ≡ made)
Reads-made {T} made = record {
  takes = λ bytes t rest are e. record {
    fits = sym (whole_value made t bytes rest e);
    parts = whole_rest made t bytes rest e;
    rest_are = subst AreBytes (whole_rest made t bytes rest e) are;
  };
  part = λ bytes are e. absurd cc;
  again = λ t rest is. ap (λ (x : T). Whole x rest) (sym is);
  more = λ bytes t rest tail e. ap (λ (x : T). Whole x (bytes ++ tail)) (whole_value made t bytes rest e) ∙ ap (λ (l : List ℕ). Whole t (l ++ tail)) (whole_rest made t bytes rest e);
  wrong = λ bytes tail e. absurd cc;
}

-- the same values, spelled the same where they fit
pub Reads-when : {A : Type 0} {at : List ℕ → Front A} {spell spell' : A → List ℕ} {fits fits' : A → Type 0} → Reads at spell fits
    → ((x : A) → fits x → spell x ≡ spell' x) → ((x : A) → fits x → fits' x) → ((x : A) → fits' x → fits x) → Reads at spell' fits'
Reads-when {A} {at} reads same there back = record {
  takes = λ bytes x rest are e.
      let t = reads.takes bytes x rest are e in
      record { fits = there x t.fits; parts = t.parts ∙ ap (λ (l : List ℕ). l ++ rest) (same x t.fits); rest_are = t.rest_are };
  again = λ x rest f. ap (λ (l : List ℕ). at (l ++ rest)) (sym (same x (back x f))) ∙ reads.again x rest (back x f);
  more = reads.more;
  wrong = reads.wrong;
  part = λ bytes are e.
      let c = reads.part bytes are e in
      record { value = c.value; more = c.more; fits_value = there c.value c.fits_value; parts = sym (same c.value c.fits_value) ∙ c.parts };
}

-- the same spelling and the same values in other words
pub Reads-is : {A : Type 0} {at : List ℕ → Front A} {spell spell' : A → List ℕ} {fits fits' : A → Type 0} → Reads at spell fits
    → ((x : A) → spell x ≡ spell' x) → ((x : A) → fits x → fits' x) → ((x : A) → fits' x → fits x) → Reads at spell' fits'
Reads-is reads same there back = Reads-when reads (λ x f. same x) there back

-- the last field
pub Reads-last : {A T : Type 0} {at : List ℕ → Front A} {spell : A → List ℕ} {fits : A → Type 0} (field : T → A) (make : A → T) → Reads at spell fits
    → ((a : A) → field (make a) ≡ a)
    → Reads (λ bytes. at bytes >>= λ x. Whole (make x.0) x.1) (λ t. spell (field t)) (λ t. fits (field t) × (t ≡ make (field t)))
Reads-last {A} {T} {at} {spell} {fits} field make reads back =
    let joined = Reads-then {spell_next = λ _. []} {fits_next = λ a t. t ≡ make a} (λ (x : A × List ℕ). Whole (make x.0) x.1) field reads (λ a. Reads-made (make a)) (λ a t is. ap field is ∙ back a) (any_follows reads (λ a f. (make a, refl))) in
    Reads-is joined (λ t. append-nil (spell (field t))) (λ t f. f) (λ t f. f)

-- a test on what was read before
pub Reads-guard : {T : Type 0} {at : List ℕ → Front T} {spell : T → List ℕ} {fits : T → Type 0} (test : Bool) → Reads at spell fits
    → Reads (λ bytes. guard test (at bytes)) spell (λ t. (test ≡ true) × fits t)
Reads-guard {T} {at} {spell} {fits} true reads = record {
  takes = λ bytes x rest are e. let t = reads.takes bytes x rest are e in record { fits = (refl, t.fits); parts = t.parts; rest_are = t.rest_are };
  again = λ x rest f. reads.again x rest f.1;
  more = reads.more;
  wrong = reads.wrong;
  part = λ bytes are e. let c = reads.part bytes are e in record { value = c.value; more = c.more; fits_value = (refl, c.fits_value); parts = c.parts };
}
Reads-guard {T} {at} {spell} {fits} false reads = record {
  takes = λ bytes x rest are e. absurd cc;
  part = λ bytes are e. absurd cc;
  again = λ x rest f. absurd (different f.0);
  more = λ bytes x rest tail e. absurd cc;
  wrong = λ bytes tail e. refl;
}

-- ---- what follows

-- one spelling a value, and no spelling begins another
pub one_spelling : {A : Type 0} {at : List ℕ → Front A} {spell : A → List ℕ} {fits : A → Type 0} → Reads at spell fits → IsForm spell fits
one_spelling {A} {at} reads x y a b fx fy e =
    let same : Whole x a ≡ Whole y b = sym (reads.again x a fx) ∙ ap at e ∙ reads.again y b fy in
    (whole_value x y a b same, whole_rest x y a b same)

pub whole_not_part : {A : Type 0} (x : A) (rest : List ℕ) (r : Front A) → r ≡ Whole x rest → r ≡ Part → ⊥
whole_not_part x rest r e f = cc

pub whole_not_wrong : {A : Type 0} (x : A) (rest : List ℕ) (r : Front A) → r ≡ Whole x rest → r ≡ Wrong → ⊥
whole_not_wrong x rest r e f = cc

wrong_not_part : {A : Type 0} (r : Front A) → r ≡ Wrong → r ≡ Part → ⊥
wrong_not_part r e f = cc

-- a whole value alone
pub alone : {A : Type 0} {at : List ℕ → Front A} {spell : A → List ℕ} {fits : A → Type 0} → Reads at spell fits → (x : A) → fits x → at (spell x) ≡ Whole x []
alone {A} {at} {spell} reads x f = ap at (sym (append-nil (spell x))) ∙ reads.again x [] f

-- by what stands at the front of bytes, where more bytes complete a value and reach into or past its end
part_by : {A : Type 0} (at : List ℕ → Front A) (x : A) (rest front tail : List ℕ) (r : Front A) → at (front ++ tail) ≡ Whole x rest → at front ≡ r
    → ((y : A) (left : List ℕ) → at front ≡ Whole y left → at (front ++ tail) ≡ Whole y (left ++ tail))
    → (at front ≡ Wrong → at (front ++ tail) ≡ Wrong)
    → length rest < length tail → r ≡ Part
part_by at x rest front tail (Whole y left) whole is more wrong lt =
    let same : left ++ tail ≡ rest = whole_rest y x (left ++ tail) rest (sym (more y left is) ∙ whole) in
    absurd (omega (arith, lt, ap length same, length-append left tail))
part_by at x rest front tail Part whole is more wrong lt = refl
part_by at x rest front tail Wrong whole is more wrong lt = absurd (whole_not_wrong x rest (at (front ++ tail)) whole (wrong is))

-- until its last byte is there, a value is a part
pub part_until : {A : Type 0} {at : List ℕ → Front A} {spell : A → List ℕ} {fits : A → Type 0} → Reads at spell fits → (front tail : List ℕ) (x : A) (rest : List ℕ) → at (front ++ tail) ≡ Whole x rest → length rest < length tail → at front ≡ Part
part_until {A} {at} reads front tail x rest whole lt =
    part_by at x rest front tail (at front) whole refl (λ y left e. reads.more front y left tail e) (reads.wrong front tail) lt

-- the beginning of a spelling is a part
pub part_of : {A : Type 0} {at : List ℕ → Front A} {spell : A → List ℕ} {fits : A → Type 0} → Reads at spell fits → (x : A) (n : ℕ) → fits x → n < length (spell x) → at (take n (spell x)) ≡ Part
part_of {A} {at} {spell} reads x n f lt =
    part_until reads (take n (spell x)) (drop n (spell x)) x [] (ap at (take-append-drop n (spell x)) ∙ alone reads x f) (omega (arith, length-drop n (spell x)))

part_front : {A : Type 0} (at : List ℕ → Front A) (front tail : List ℕ) (r : Front A) → at (front ++ tail) ≡ Part → at front ≡ r
    → ((y : A) (left : List ℕ) → at front ≡ Whole y left → at (front ++ tail) ≡ Whole y (left ++ tail))
    → (at front ≡ Wrong → at (front ++ tail) ≡ Wrong) → r ≡ Part
part_front at front tail (Whole y left) part is more wrong = absurd (whole_not_part y (left ++ tail) (at (front ++ tail)) (more y left is) part)
part_front at front tail Part part is more wrong = refl
part_front at front tail Wrong part is more wrong = absurd (wrong_not_part (at (front ++ tail)) (wrong is) part)

-- what a part begins with is a part
pub part_before : {A : Type 0} {at : List ℕ → Front A} {spell : A → List ℕ} {fits : A → Type 0} → Reads at spell fits → (front tail : List ℕ) → at (front ++ tail) ≡ Part → at front ≡ Part
part_before {A} {at} reads front tail part = part_front at front tail (at front) part refl (λ y left e. reads.more front y left tail e) (reads.wrong front tail)

none_here : {A : Type 0} {at : List ℕ → Front A} {spell : A → List ℕ} {fits : A → Type 0} → Reads at spell fits → (bytes : List ℕ) (u : Unread) (e : End NotHere) → Fails u (at bytes) → IsEndOf u e
    → Decodes spell fits bytes (Err e)
none_here {A} {at} {spell} {fits} reads bytes unread.NoMemory e h is = subst (λ (d : End NotHere). Decodes spell fits bytes (Err d)) (sym is) tt
none_here {A} {at} {spell} {fits} reads bytes unread.Part e h is = subst (λ (d : End NotHere). Decodes spell fits bytes (Err d)) (sym is) (λ x rest f parts. whole_not_part x rest (at bytes) (ap at parts ∙ reads.again x rest f) h)
none_here {A} {at} {spell} {fits} reads bytes unread.Wrong e h is = subst (λ (d : End NotHere). Decodes spell fits bytes (Err d)) (sym is) (λ x rest f parts. whole_not_wrong x rest (at bytes) (ap at parts ∙ reads.again x rest f) h)

-- a decoder that read a whole value: of the bytes all but what is left are taken
pub decodes_whole : {A : Type 0} {at : List ℕ → Front A} {spell : A → List ℕ} {fits : A → Type 0} → Reads at spell fits → (bytes input : List ℕ) (x : A) (rest : List ℕ) (taken : ℕ) → ((i : ℕ) → Fits w8 (get_or bytes i 0)) → input ≡ bytes → at input ≡ Whole x rest
    → taken ≡ length bytes - length rest → Decodes spell fits bytes (Ok (x, taken))
decodes_whole {A} {at} {spell} reads bytes input x rest taken are is e n =
    let t = reads.takes bytes x rest (are_bytes bytes are) (ap at (sym is) ∙ e) in
    (t.fits, omega (arith, n), ap (λ (k : ℕ). take k bytes) n ∙ take_front bytes (spell x) rest t.parts)

-- a decoder whose reader read no value
pub decodes_end : {A : Type 0} {at : List ℕ → Front A} {spell : A → List ℕ} {fits : A → Type 0} → Reads at spell fits → (bytes input : List ℕ) (u : Unread) (result : Result (A × ℕ) (End NotHere)) → input ≡ bytes → Fails u (at input)
    → IsErrAnd result (IsEndOf u) → Decodes spell fits bytes result
decodes_end {A} {at} {spell} {fits} reads bytes input u result is h err =
    let p = err_from_is_err_and result err in
    subst (λ (r : Result (A × ℕ) (End NotHere)). Decodes spell fits bytes r) (sym p.1) (none_here reads bytes u p.0 (subst (λ (l : List ℕ). Fails u (at l)) is h) p.2)
