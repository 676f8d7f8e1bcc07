-- Decimal digits without a leading zero.
use Rattle.std.proofs.Common.{◌≡◌, ℕ, zero, suc, ◌<◌, ◌≤◌, ◌^◌, List, length, get_or, Option, MatchOption, Result, Ok, Err, sym, ap, ◌∙◌, arith, subst}
use Rattle.std.specs.Fmt.{decimal}
use Rattle.std.specs.Result.{result_ok}
use Rattle.std.specs.Str.Parse.{AllDigits, digits_value, ParsesUnsigned}
use Rattle.std.proofs.lemmas.Fmt.{decimal_digit, decimal_nonempty, first_decimal, digits_decimal, digits_value-decimal, decimal-digits_value, decimal_injective}
use Rattle.std.proofs.lemmas.Str.Parse.{IsNumeralModel, numerals_by_value, tells_digits, digit_at, parse_plain}
use Rattle.peer_words.specs.Values.{IsNumber, IsNumberWithin}

own : IsNumeralModel (AllDigits 10) (digits_value 10)
own = numerals_by_value (AllDigits 10) tells_digits

-- a number is not written as nothing
pub not_empty : (word : List ℕ) → length word ≡ 0 → (n : ℕ) → IsNumber word n → ⊥
not_empty word empty n is = absurd (omega (arith, ap length is.digits, decimal_nonempty n is.fits))

first_digit : (n : ℕ) → n < 2 ^ 64 → 48 ≤ get_or (decimal n) 0 0
first_digit n fits = (digit_at (decimal n) 0 (digits_decimal own n fits) (decimal_nonempty n fits)).0

-- nor with a sign in front
pub not_signed : (word : List ℕ) → get_or word 0 0 ≡ 43 → (n : ℕ) → IsNumber word n → ⊥
not_signed word plus n is =
    let same = ap (λ (w : List ℕ). get_or w 0 0) is.digits in
    absurd (omega (arith, same, first_digit n is.fits))

lone_zero : (n : ℕ) → n < 2 ^ 64 → get_or (decimal n) 0 0 ≡ 48 → length (decimal n) ≤ 1
lone_zero zero fits first = omega (arith, ap length (decimal_digit 0 (omega arith)))
lone_zero (suc n) fits first = absurd (omega (arith, first_decimal (suc n) (omega arith) fits))

-- nor with a zero in front of other digits
pub not_padded : (word : List ℕ) → get_or word 0 0 ≡ 48 → 1 < length word → (n : ℕ) → IsNumber word n → ⊥
not_padded word first long n is =
    let same = ap (λ (w : List ℕ). get_or w 0 0) is.digits in
    absurd (omega (arith, ap length is.digits, lone_zero n is.fits (sym same ∙ first)))

-- what is read of other words
pub number_read : {E : Type 0} (word : List ℕ) (r : Result ℕ E) (o : Option ℕ) → ParsesUnsigned 64 10 word r → o ≡ result_ok r → 0 < length word → (get_or word 0 0 ≡ 43 → ⊥) → (get_or word 0 0 ≡ 48 → length word ≤ 1)
    → MatchOption o ((n : ℕ) → IsNumber word n → ⊥) (IsNumber word)
number_read {E} word (Ok x) o parses is some plain lone =
    let read = parse_plain own {E = E} 64 word (Ok x) parses plain in
    let digits : decimal (digits_value 10 word) ≡ word = decimal-digits_value own word read.0.0 some (λ z. omega (arith, lone z)) read.0.2 in
    let number : IsNumber word x = record { digits = sym digits ∙ ap decimal (sym read.1); fits = omega arith } in
    subst (λ (found : Option ℕ). MatchOption found ((n : ℕ) → IsNumber word n → ⊥) (IsNumber word)) (sym is) number
number_read {E} word (Err e) o parses is some plain lone =
    let unread = parse_plain own {E = E} 64 word (Err e) parses plain in
    let none : (n : ℕ) → IsNumber word n → ⊥ = λ n number.
    let all : AllDigits 10 word = subst (λ (w : List ℕ). AllDigits 10 w) (sym number.digits) (digits_decimal own n number.fits) in
    let value : digits_value 10 word ≡ n = ap (digits_value 10) number.digits ∙ digits_value-decimal own n number.fits in
    unread (all, some, omega (arith, number.fits)) in
    subst (λ (found : Option ℕ). MatchOption found ((n : ℕ) → IsNumber word n → ⊥) (IsNumber word)) (sym is) none

-- a word spells one number
pub one_number : (word : List ℕ) (n m : ℕ) → IsNumber word n → IsNumber word m → n ≡ m
one_number word n m a b = decimal_injective n m a.fits b.fits (sym a.digits ∙ b.digits)

pub too_low : (least most : ℕ) (word : List ℕ) (n : ℕ) → IsNumber word n → n < least → (m : ℕ) → IsNumberWithin least most word m → ⊥
too_low least most word n is low m within = absurd (omega (arith, one_number word n m is within.number, within.low))

pub too_high : (least most : ℕ) (word : List ℕ) (n : ℕ) → IsNumber word n → most < n → (m : ℕ) → IsNumberWithin least most word m → ⊥
too_high least most word n is high m within = absurd (omega (arith, one_number word n m is within.number, within.high))

-- no number begins with the `n` of `none`
pub not_letter : (word : List ℕ) → get_or word 0 0 ≡ 110 → (n : ℕ) → IsNumber word n → ⊥
not_letter word letter n is =
    let same = ap (λ (w : List ℕ). get_or w 0 0) is.digits in
    absurd (omega (arith, same, (digit_at (decimal n) 0 (digits_decimal own n is.fits) (decimal_nonempty n is.fits)).1))
