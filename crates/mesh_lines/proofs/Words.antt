-- What words of a line do not hold, and that they spell one value.
use Rattle.std.proofs.Common.{◌≡◌, ◌≢◌, ◌==◌, ℕ, ◌<◌, ◌≤◌, ◌+◌, ◌*◌, ◌/◌, ◌%◌, ◌^◌, Bool, true, false, if◌then◌else◌, List, [], ◌∷◌, ◌++◌, length, get_or, codes, Option, Some, None, Result, Ok, Err, MatchOption, refl, sym, ap, subst, ◌∙◌, arith}
use Rattle.std.specs.Prelude.{not}
use Rattle.std.specs.Fmt.{decimal}
use Rattle.std.specs.Result.{result_ok}
use Rattle.std.specs.Str.{IsUtf8, bytes_eq}
use Rattle.std.proofs.lemmas.Bool.{false≢true}
use Rattle.std.proofs.lemmas.Slice.Eq.{bytes_eq-Decides}
use Rattle.std.specs.Str.Parse.{AllDigits, digits_value, ParsesUnsigned}
use Rattle.std.proofs.lemmas.Fmt.{digits_decimal, IsAscii-decimal}
use Rattle.std.proofs.lemmas.Str.{IsUtf8-from_ascii}
use Rattle.std.proofs.lemmas.Str.Parse.{IsNumeralModel, numerals_by_value, tells_digits, digit_at}
use Rattle.hex.specs.Hex.{decode_pairs, decode_sized, digit_or_error, hex_digit_value, pair_value, value_at, ◌>>=◌}
use Rattle.hex.specs.declared.error.FromHexError.{FromHexError}
use Rattle.hex.specs.declared.error.FromHexError.TheVariants.{OddLength, InvalidStringLength}
use Rattle.peer_words.specs.Values.{IsAnyOrKey, IsKeyWord, IsNumber, IsNumberWithin}
use Rattle.peer_words.proofs.Numbers.{not_empty, not_signed, not_padded, number_read, one_number}
use Rattle.mesh_lines.specs.Cuts.{Lacks}
use Rattle.mesh_lines.specs.Lines.{IsNode}
use Rattle.mesh_lines.proofs.Cuts.{lacks_from}

-- ---- numbers

own : IsNumeralModel (AllDigits 10) (digits_value 10)
own = numerals_by_value (AllDigits 10) tells_digits

-- what comes before the digits among the codes stands in no number
pub number_lacks : (mark : ℕ) → mark < 48 → (word : List ℕ) (n : ℕ) → IsNumber word n → Lacks mark word
number_lacks mark low word n is =
    subst (λ (w : List ℕ). Lacks mark w) (sym is.digits)
    (lacks_from mark (decimal n) (λ i within same. absurd (omega (arith, low, same, (digit_at (decimal n) i (digits_decimal own n is.fits) within).0))))

pub is_text : (word : List ℕ) (n : ℕ) → IsNumber word n → IsUtf8 word
is_text word n is = subst (λ (w : List ℕ). IsUtf8 w) (sym is.digits) (IsUtf8-from_ascii (decimal n) (IsAscii-decimal n is.fits))

some_byte : (word : List ℕ) (n : ℕ) → IsNumber word n → 0 < length word
some_byte [] n is = absurd (not_empty [] refl n is)
some_byte (b ∷ word) n is = omega arith

few_bytes : (word : List ℕ) (n : ℕ) → IsNumber word n → get_or word 0 0 ≡ 48 → length word ≤ 1
few_bytes [] n is first = omega arith
few_bytes (b ∷ []) n is first = omega arith
few_bytes (b ∷ (c ∷ word)) n is first = absurd (not_padded (b ∷ (c ∷ word)) first (omega arith) n is)

-- of a word that spells a number just that is read
pub is_read : {E : Type 0} (word : List ℕ) (r : Result ℕ E) (n : ℕ) → ParsesUnsigned 64 10 word r → IsNumber word n → result_ok r ≡ Some n
is_read {E} word r n parses is =
    read (result_ok r) (number_read word r (result_ok r) parses refl (some_byte word n is) (λ plus. not_signed word plus n is) (few_bytes word n is))
  where
    read : (o : Option ℕ) → MatchOption o ((m : ℕ) → IsNumber word m → ⊥) (IsNumber word) → o ≡ Some n
    read None none = absurd (none n is)
    read (Some m) found = ap Some (one_number word m n found is)

some_same : (o : Option ℕ) (n m : ℕ) → o ≡ Some n → o ≡ Some m → n ≡ m
some_same o n m p q = cc

none_some : (o : Option ℕ) (n : ℕ) → o ≡ None → o ≡ Some n → ⊥
none_some o n p q = absurd cc

-- a word that is not read spells none
pub unread : {E : Type 0} (word : List ℕ) (r : Result ℕ E) → ParsesUnsigned 64 10 word r → result_ok r ≡ None → (n : ℕ) → IsNumber word n → ⊥
unread {E} word r parses none n is = none_some (result_ok r) n none (is_read word r n parses is)

-- nor does one that is printed otherwise than what is read of it
pub unprinted : {E : Type 0} (word : List ℕ) (r : Result ℕ E) (n : ℕ) (shown : List ℕ) (differ : Bool) → ParsesUnsigned 64 10 word r → result_ok r ≡ Some n → shown ≡ decimal n
    → differ ≡ not (bytes_eq shown word) → differ ≡ true → (m : ℕ) → IsNumber word m → ⊥
unprinted {E} word r n shown differ parses ok text is differs m number =
    let equal = some_same (result_ok r) n m ok (is_read word r m parses number) in
    let both : bytes_eq shown word ≡ true = (bytes_eq-Decides shown word).1 (text ∙ ap decimal equal ∙ sym number.digits) in
    false≢true (sym (is ∙ ap not both) ∙ differs)

-- ---- keys

then_ok : {A B : Type 0} (x : Result A FromHexError) (f : A → Result B FromHexError) (b : B) → (x >>= f) ≡ Ok b → (a : A) × (x ≡ Ok a) × (f a ≡ Ok b)
then_ok (Ok a) f b is = (a, refl, is)
then_ok {A} {B} (Err e) f b is = absurd cc

not_digit : (o : Option ℕ) (c i v : ℕ) → o ≡ None → digit_or_error c i o ≡ Ok v → ⊥
not_digit None c i v none is = absurd cc
not_digit (Some w) c i v none is = absurd cc

-- what is no digit is not read as one
no_value : (mark : ℕ) → hex_digit_value mark ≡ None → (c i v : ℕ) → value_at c i ≡ Ok v → c ≢ mark
no_value mark none c i v is same = not_digit (hex_digit_value c) c i v (ap hex_digit_value same ∙ none) is

pub pairs_lack : (mark : ℕ) → hex_digit_value mark ≡ None → (i : ℕ) (text bytes : List ℕ) → decode_pairs i text ≡ Ok bytes → Lacks mark text
unfolding decode_pairs
pairs_lack mark none i [] bytes is = tt
pairs_lack mark none i (c ∷ []) bytes is = absurd cc
pairs_lack mark none i (c ∷ (d ∷ text)) bytes is =
    let pair = then_ok (pair_value c d i) (λ (byte : ℕ). decode_pairs (i + 2) text >>= (λ (others : List ℕ). Ok (byte ∷ others))) bytes is in
    let behind = then_ok (decode_pairs (i + 2) text) (λ (others : List ℕ). Ok (pair.0 ∷ others)) bytes pair.2 in
    let high = then_ok (value_at c i) (λ (h : ℕ). value_at d (i + 1) >>= (λ (l : ℕ). Ok (h * 16 + l))) pair.0 pair.1 in
    let low = then_ok (value_at d (i + 1)) (λ (l : ℕ). Ok (high.0 * 16 + l)) pair.0 high.2 in
    (no_value mark none c i high.0 high.1, (no_value mark none d (i + 1) low.0 low.1, pairs_lack mark none (i + 2) text behind.0 behind.1))

sized : (odd fits : Bool) (pairs : Result (List ℕ) FromHexError) (bytes : List ℕ)
    → (if odd then Err OddLength else (if fits then pairs else Err InvalidStringLength)) ≡ Ok bytes → pairs ≡ Ok bytes
sized true fits pairs bytes is = absurd cc
sized false true pairs bytes is = is
sized false false pairs bytes is = absurd cc

key_lacks : (mark : ℕ) → hex_digit_value mark ≡ None → (word key : List ℕ) → IsKeyWord word key → Lacks mark word
key_lacks mark none word key is = pairs_lack mark none 0 word key (sized (length word % 2 == 1) (length word / 2 == 33) (decode_pairs 0 word) key is.digits)

-- neither a space nor a newline stands in `any`, nor in a key
pub subspace_lacks : (mark : ℕ) → hex_digit_value mark ≡ None → Lacks mark (codes "any") → (word : List ℕ) (subspace : Option (List ℕ)) → IsAnyOrKey word subspace → Lacks mark word
subspace_lacks mark none any word None is = subst (λ (w : List ℕ). Lacks mark w) (sym is) any
subspace_lacks mark none any word (Some key) is = key_lacks mark none word key is

one_key : (r : Result (List ℕ) FromHexError) (a b : List ℕ) → r ≡ Ok a → r ≡ Ok b → a ≡ b
one_key r a b p q = cc

not_any : (word key : List ℕ) → word ≡ codes "any" → IsKeyWord word key → ⊥
not_any word key any is =
    let same : decode_sized (codes "any") 33 ≡ Ok key = ap (λ (w : List ℕ). decode_sized w 33) (sym any) ∙ is.digits in
    absurd cc

pub one_subspace : (word : List ℕ) (a b : Option (List ℕ)) → IsAnyOrKey word a → IsAnyOrKey word b → a ≡ b
one_subspace word None None p q = refl
one_subspace word None (Some key) p q = absurd (not_any word key p q)
one_subspace word (Some key) None p q = absurd (not_any word key q p)
one_subspace word (Some a) (Some b) p q = ap Some (one_key (decode_sized word 33) a b p.digits q.digits)

-- ---- nodes

pub one_node : (nodes : ℕ) (word : List ℕ) (n m : ℕ) → IsNode nodes word n → IsNode nodes word m → n ≡ m
one_node nodes word n m p q = one_number word n m p.number q.number

pub one_within : (least most : ℕ) (word : List ℕ) (n m : ℕ) → IsNumberWithin least most word n → IsNumberWithin least most word m → n ≡ m
one_within least most word n m p q = one_number word n m p.number q.number
