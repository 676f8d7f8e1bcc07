-- Readers of many values, of an optional value and of counted ones go with their spellings.
use Rattle.std.proofs.Common.{◌≡◌, ℕ, zero, suc, ◌^◌, ◌<◌, ◌≤◌, List, [], ◌∷◌, ◌++◌, length, Option, Some, None, refl, sym, ap, subst, ◌∙◌, append_assoc, arith, replicate, inl, inr}
use Rattle.std.specs.Prelude.{IfSome}
use Rattle.std.specs.List.{flat_map, AllByRecursion}
use Rattle.std.proofs.lemmas.List.{length-replicate}
use Rattle.std.proofs.lemmas.List.Concat.{flat_map-cons}
use Rattle.spelling.specs.Front.{Front, Whole, Part, Wrong, ◌>>=◌}
use Rattle.spelling.specs.Form.{AreBytes}
use Rattle.spelling.specs.Spelling.{byte_spelling, option_spelling, text_spelling, list_spelling, AreSoManyBytes, AreMany, IsText, IsList}
use Rattle.spelling.specs.Reading.{bytes_at, many_at, behind_flag, option_at, text_at, list_at}
use Rattle.spelling.proofs.Joining.{Takes, Reads, Completes, Reads-then, Reads-is, any_follows, whole_value, whole_rest, whole_not_part, bind_whole, bind_part, bind_wrong}
use Rattle.spelling.proofs.Fields.{byte-reads, byte_follows, bytes-reads}

-- ---- many values in a row

-- reads on behind the first of many
abbrev others : {A : Type 0} → (List ℕ → Front A) → ℕ → A × List ℕ → Front (List A)
others at n first = many_at at n first.1 >>= λ more. Whole (first.0 ∷ more.0) more.1

-- the others are a part where all of them are
others_part : {A : Type 0} (at : List ℕ → Front A) (n : ℕ) (x : A) (bytes : List ℕ) (r : Front (List A)) → many_at at n bytes ≡ r → (r >>= λ more. Whole (x ∷ more.0) more.1) ≡ Part → r ≡ Part
others_part at n x bytes (Whole xs rest) is e = absurd cc
others_part at n x bytes Part is e = refl
others_part at n x bytes Wrong is e = absurd cc

All-copies : {A : Type 0} (fits : A → Type 0) (n : ℕ) (x : A) → fits x → AllByRecursion fits (replicate n x)
All-copies fits zero x f = tt
All-copies fits (suc n) x f = (f, All-copies fits n x f)

module _ {A : Type 0} (at : List ℕ → Front A) (spell : A → List ℕ) (fits : A → Type 0) (one : Reads at spell fits) where
  many_take : (n : ℕ) (bytes : List ℕ) (xs : List A) (rest : List ℕ) → AreBytes bytes → many_at at n bytes ≡ Whole xs rest → Takes bytes (flat_map spell xs) rest (AreMany fits n xs)
  unfolding many_at
  many_take zero bytes xs rest are e =
      let value = whole_value [] xs bytes rest e in
      let left = whole_rest [] xs bytes rest e in
      subst (λ (ys : List A). Takes bytes (flat_map spell ys) rest (AreMany fits 0 ys)) value (record { fits = (refl, tt); parts = left; rest_are = subst AreBytes left are })
  many_take (suc n) bytes xs rest are e =
      let a = bind_whole (at bytes) (others at n) xs rest e in
      let b = bind_whole (many_at at n a.1) (λ more. Whole (a.0 ∷ more.0) more.1) xs rest a.3 in
      let p = one.takes bytes a.0 a.1 are a.2 in
      let q = many_take n a.1 b.0 b.1 p.rest_are b.2 in
      let value = whole_value (a.0 ∷ b.0) xs b.1 rest b.3 in
      let left = whole_rest (a.0 ∷ b.0) xs b.1 rest b.3 in
      subst (λ (ys : List A). Takes bytes (flat_map spell ys) rest (AreMany fits (suc n) ys)) value (record {
        fits = (ap suc q.fits.0, (p.fits, q.fits.1));
        parts = p.parts ∙ ap (λ (l : List ℕ). spell a.0 ++ l) (q.parts ∙ ap (λ (l : List ℕ). flat_map spell b.0 ++ l) left) ∙ sym (append_assoc (spell a.0) (flat_map spell b.0) rest) ∙ ap (λ (l : List ℕ). l ++ rest) (sym (flat_map-cons spell a.0 b.0));
        rest_are = subst AreBytes left q.rest_are;
      })

  many_again : (n : ℕ) (xs : List A) (rest : List ℕ) → AreMany fits n xs → many_at at n (flat_map spell xs ++ rest) ≡ Whole xs rest
  unfolding many_at
  many_again zero [] rest f = refl
  many_again zero (x ∷ xs) rest f = absurd cc
  many_again (suc n) [] rest f = absurd cc
  many_again (suc n) (x ∷ xs) rest f =
      let grouped : flat_map spell (x ∷ xs) ++ rest ≡ spell x ++ (flat_map spell xs ++ rest) = ap (λ (l : List ℕ). l ++ rest) (flat_map-cons spell x xs) ∙ append_assoc (spell x) (flat_map spell xs) rest in
      let len : length xs ≡ n = omega (arith, f.0) in
      ap (many_at at (suc n)) grouped
      ∙ ap (λ (r : Front A). r >>= others at n) (one.again x (flat_map spell xs ++ rest) f.1.0)
      ∙ ap (λ (r : Front (List A)). r >>= λ more. Whole (x ∷ more.0) more.1) (many_again n xs rest (len, f.1.1))

  many_more : (n : ℕ) (bytes : List ℕ) (xs : List A) (rest tail : List ℕ) → many_at at n bytes ≡ Whole xs rest → many_at at n (bytes ++ tail) ≡ Whole xs (rest ++ tail)
  unfolding many_at
  many_more zero bytes xs rest tail e = ap (λ (ys : List A). Whole ys (bytes ++ tail)) (whole_value [] xs bytes rest e) ∙ ap (λ (l : List ℕ). Whole xs (l ++ tail)) (whole_rest [] xs bytes rest e)
  many_more (suc n) bytes xs rest tail e =
      let a = bind_whole (at bytes) (others at n) xs rest e in
      let b = bind_whole (many_at at n a.1) (λ more. Whole (a.0 ∷ more.0) more.1) xs rest a.3 in
      ap (λ (r : Front A). r >>= others at n) (one.more bytes a.0 a.1 tail a.2)
      ∙ ap (λ (r : Front (List A)). r >>= λ more. Whole (a.0 ∷ more.0) more.1) (many_more n a.1 b.0 b.1 tail b.2)
      ∙ ap (λ (ys : List A). Whole ys (b.1 ++ tail)) (whole_value (a.0 ∷ b.0) xs b.1 rest b.3)
      ∙ ap (λ (l : List ℕ). Whole xs (l ++ tail)) (whole_rest (a.0 ∷ b.0) xs b.1 rest b.3)

  many_wrong : (n : ℕ) (bytes tail : List ℕ) → many_at at n bytes ≡ Wrong → many_at at n (bytes ++ tail) ≡ Wrong
  unfolding many_at
  many_wrong zero bytes tail e = absurd cc
  many_wrong (suc n) bytes tail e =
      bind_wrong (at bytes) (at (bytes ++ tail)) (others at n) tail (λ x left h. one.more bytes x left tail h) (one.wrong bytes tail)
      (λ x left h. bind_wrong (many_at at n left) (many_at at n (left ++ tail)) (λ more. Whole (x ∷ more.0) more.1) tail (λ ys l k. many_more n left ys l tail k) (many_wrong n left tail) (λ ys l k. absurd cc) h) e

  -- the beginning of many is completed by copies of the first value that is not whole
  many_part : (n : ℕ) (bytes : List ℕ) → AreBytes bytes → many_at at n bytes ≡ Part → Completes (λ xs. flat_map spell xs) (AreMany fits n) bytes
  unfolding many_at
  many_part zero bytes are e = absurd cc
  many_part (suc n) bytes are e =
      elim (bind_part (at bytes) (others at n) e) [
        | inl h ↦
            let c = one.part bytes are h in
            let copies = replicate n c.value in
            record {
              value = c.value ∷ copies;
              more = c.more ++ flat_map spell copies;
              fits_value = (ap suc (length-replicate n c.value), (c.fits_value, All-copies fits n c.value c.fits_value));
              parts = flat_map-cons spell c.value copies ∙ ap (λ (l : List ℕ). l ++ flat_map spell copies) c.parts ∙ append_assoc bytes c.more (flat_map spell copies);
            }
        | inr b ↦
            let p = one.takes bytes b.0 b.1 are b.2 in
            let c = many_part n b.1 p.rest_are (others_part at n b.0 b.1 (many_at at n b.1) refl b.3) in
            record {
              value = b.0 ∷ c.value;
              more = c.more;
              fits_value = (ap suc c.fits_value.0, (p.fits, c.fits_value.1));
              parts = flat_map-cons spell b.0 c.value ∙ ap (λ (l : List ℕ). spell b.0 ++ l) c.parts ∙ sym (append_assoc (spell b.0) b.1 c.more) ∙ ap (λ (l : List ℕ). l ++ c.more) (sym p.parts);
            }
      ]

pub many-reads : {A : Type 0} {at : List ℕ → Front A} {spell : A → List ℕ} {fits : A → Type 0} (n : ℕ) → Reads at spell fits → Reads (many_at at n) (λ xs. flat_map spell xs) (AreMany fits n)
many-reads {A} {at} {spell} {fits} n one = record {
  takes = many_take at spell fits one n;
  again = many_again at spell fits one n;
  more = many_more at spell fits one n;
  wrong = many_wrong at spell fits one n;
  part = many_part at spell fits one n;
}

-- ---- an optional value

-- what stands behind the flag, and the flag that it has
abbrev behind_spelling : {A : Type 0} → (A → List ℕ) → Option A → List ℕ
behind_spelling spell None = []
behind_spelling spell (Some x) = spell x

abbrev flag_of : {A : Type 0} → Option A → ℕ
flag_of None = 0
flag_of (Some x) = 1

abbrev Behind : {A : Type 0} → (A → Type 0) → ℕ → Option A → Type 0
Behind fits flag o = (flag_of o ≡ flag) × IfSome o fits

some_is : {A : Type 0} (x y : A) → x ≡ y → Some x ≡ Some y
some_is x y e = cc

module _ {A : Type 0} (at : List ℕ → Front A) (spell : A → List ℕ) (fits : A → Type 0) (one : Reads at spell fits) where
  flag_takes : (flag : ℕ) (bytes : List ℕ) (o : Option A) (rest : List ℕ) → AreBytes bytes → behind_flag at flag bytes ≡ Whole o rest → Takes bytes (behind_spelling spell o) rest (Behind fits flag o)
  unfolding behind_flag
  flag_takes zero bytes o rest are e =
      let left = whole_rest None o bytes rest e in
      subst (λ (p : Option A). Takes bytes (behind_spelling spell p) rest (Behind fits 0 p)) (whole_value None o bytes rest e) (record { fits = (refl, tt); parts = left; rest_are = subst AreBytes left are })
  flag_takes (suc zero) bytes o rest are e =
      let a = bind_whole (at bytes) (λ x. Whole (Some x.0) x.1) o rest e in
      let p = one.takes bytes a.0 a.1 are a.2 in
      let left = whole_rest (Some a.0) o a.1 rest a.3 in
      subst (λ (p : Option A). Takes bytes (behind_spelling spell p) rest (Behind fits 1 p)) (whole_value (Some a.0) o a.1 rest a.3) (record { fits = (refl, p.fits); parts = p.parts ∙ ap (λ (l : List ℕ). spell a.0 ++ l) left; rest_are = subst AreBytes left p.rest_are })
  flag_takes (suc (suc flag)) bytes o rest are e = absurd cc

  flag_again : (flag : ℕ) (o : Option A) (rest : List ℕ) → Behind fits flag o → behind_flag at flag (behind_spelling spell o ++ rest) ≡ Whole o rest
  unfolding behind_flag
  flag_again zero None rest f = refl
  flag_again zero (Some x) rest f = absurd cc
  flag_again (suc zero) None rest f = absurd cc
  flag_again (suc zero) (Some x) rest f = ap (λ (r : Front A). r >>= λ y. Whole (Some y.0) y.1) (one.again x rest f.1)
  flag_again (suc (suc flag)) None rest f = absurd cc
  flag_again (suc (suc flag)) (Some x) rest f = absurd (omega (arith, f.0))

  flag_more : (flag : ℕ) (bytes : List ℕ) (o : Option A) (rest tail : List ℕ) → behind_flag at flag bytes ≡ Whole o rest → behind_flag at flag (bytes ++ tail) ≡ Whole o (rest ++ tail)
  unfolding behind_flag
  flag_more zero bytes o rest tail e = ap (λ (p : Option A). Whole p (bytes ++ tail)) (whole_value None o bytes rest e) ∙ ap (λ (l : List ℕ). Whole o (l ++ tail)) (whole_rest None o bytes rest e)
  flag_more (suc zero) bytes o rest tail e =
      let a = bind_whole (at bytes) (λ x. Whole (Some x.0) x.1) o rest e in
      ap (λ (r : Front A). r >>= λ y. Whole (Some y.0) y.1) (one.more bytes a.0 a.1 tail a.2)
      ∙ ap (λ (p : Option A). Whole p (a.1 ++ tail)) (whole_value (Some a.0) o a.1 rest a.3)
      ∙ ap (λ (l : List ℕ). Whole o (l ++ tail)) (whole_rest (Some a.0) o a.1 rest a.3)
  flag_more (suc (suc flag)) bytes o rest tail e = absurd cc

  flag_wrong : (flag : ℕ) (bytes tail : List ℕ) → behind_flag at flag bytes ≡ Wrong → behind_flag at flag (bytes ++ tail) ≡ Wrong
  unfolding behind_flag
  flag_wrong zero bytes tail e = absurd cc
  flag_wrong (suc zero) bytes tail e =
      bind_wrong (at bytes) (at (bytes ++ tail)) (λ x. Whole (Some x.0) x.1) tail (λ x left h. one.more bytes x left tail h) (one.wrong bytes tail) (λ x left h. absurd cc) e
  flag_wrong (suc (suc flag)) bytes tail e = refl

  flag_part : (flag : ℕ) (bytes : List ℕ) → AreBytes bytes → behind_flag at flag bytes ≡ Part → Completes (behind_spelling spell) (Behind fits flag) bytes
  unfolding behind_flag
  flag_part zero bytes are e = absurd cc
  flag_part (suc zero) bytes are e =
      elim (bind_part (at bytes) (λ x. Whole (Some x.0) x.1) e) [
        | inl h ↦ let c = one.part bytes are h in record { value = Some c.value; more = c.more; fits_value = (refl, c.fits_value); parts = c.parts }
        | inr b ↦ absurd (whole_not_part (Some b.0) b.1 (Whole (Some b.0) b.1) refl b.3)
      ]
  flag_part (suc (suc flag)) bytes are e = absurd cc

  behind_reads : (flag : ℕ) → Reads (behind_flag at flag) (behind_spelling spell) (Behind fits flag)
  behind_reads flag = record { takes = flag_takes flag; again = flag_again flag; more = flag_more flag; wrong = flag_wrong flag; part = flag_part flag }

option_groups : {A : Type 0} (spell : A → List ℕ) (o : Option A) → byte_spelling (flag_of o) ++ behind_spelling spell o ≡ option_spelling spell o
option_groups spell None = refl
option_groups spell (Some x) = refl

option_there : {A : Type 0} (fits : A → Type 0) (o : Option A) → (flag_of o < 2 ^ 8) × Behind fits (flag_of o) o → IfSome o fits
option_there fits o f = f.1.1

option_back : {A : Type 0} (fits : A → Type 0) (o : Option A) → IfSome o fits → (flag_of o < 2 ^ 8) × Behind fits (flag_of o) o
option_back fits None f = (omega arith, (refl, f))
option_back fits (Some x) f = (omega arith, (refl, f))

pub option-reads : {A : Type 0} {at : List ℕ → Front A} {spell : A → List ℕ} {fits : A → Type 0} → Reads at spell fits → Reads (option_at at) (option_spelling spell) (λ o. IfSome o fits)
unfolding option_at
option-reads {A} {at} {spell} {fits} one =
    Reads-is (Reads-then (λ flag. behind_flag at flag.0 flag.1) flag_of byte-reads (λ flag. behind_reads at spell fits one flag) (λ flag o f. f.0) (byte_follows 0 None (omega arith) (refl, tt))) (option_groups spell) (option_there fits) (option_back fits)

-- ---- counted bytes and counted values

-- a count up to a limit and below the top of its width
abbrev IsCount : ℕ → ℕ → ℕ → Type 0
IsCount limit top n = (n ≤ limit) × (n < top)

zeros_are : (n : ℕ) → AreSoManyBytes n (replicate n 0)
zeros_are n = (length-replicate {A = ℕ} n 0, All-copies (λ b. b < 2 ^ 8) n 0 (omega arith))

pub text-reads : {count_at : List ℕ → Front ℕ} {count : ℕ → List ℕ} {top : ℕ} (limit : ℕ) → limit < top → Reads count_at count (IsCount limit top) → Reads (text_at count_at) (text_spelling count) (IsText limit)
unfolding text_at
text-reads {count_at} {count} {top} limit below counts =
    Reads-is (Reads-then (λ n. bytes_at n.0 n.1) length counts (λ n. bytes-reads n) (λ n bytes f. f.0) (any_follows counts (λ n f. (replicate n 0, zeros_are n)))) (λ bytes. refl)
    (λ bytes f. (f.0.0, f.1.1)) (λ bytes f. ((f.0, omega (arith, f.0, below)), (refl, f.1)))

-- of the values there is at least one that fits
pub list-reads : {A : Type 0} {count_at : List ℕ → Front ℕ} {count : ℕ → List ℕ} {top : ℕ} {at : List ℕ → Front A} {spell : A → List ℕ} {fits : A → Type 0} (limit : ℕ) → limit < top → (some : A) → fits some
    → Reads count_at count (IsCount limit top) → Reads at spell fits → Reads (list_at count_at at) (list_spelling count spell) (IsList limit fits)
unfolding list_at
list-reads {A} {count_at} {count} {top} {at} {spell} {fits} limit below some some_fits counts one =
    Reads-is (Reads-then (λ n. many_at at n.0 n.1) length counts (λ n. many-reads n one) (λ n xs f. f.0)
    (any_follows counts (λ n f. (replicate n some, (length-replicate n some, All-copies fits n some some_fits))))) (λ xs. refl)
    (λ xs f. (f.0.0, f.1.1)) (λ xs f. ((f.0, omega (arith, f.0, below)), (refl, f.1)))
