-- Exchanges to look at. The first is written out by hand: two sides with six numbers each, of which five are the same,
-- where two numbers are few enough to be sent.
use Rattle.std.specs.Prelude.{map, length, nat_eq, ◌*◌, Option, if◌then◌else◌, ℕ, true, false, List, [], ◌∷◌, Some}
use Rattle.std.specs.List.{range_with_len}
use Rattle.exchange_rules.specs.Items.{Turn, First, Agree, Split, Entries, Rest}
use Rattle.exchange_rules.specs.Exchange.{exchange}
use Rattle.exchange_rules.specs.Numbers.{Range, of_numbers}

abbrev pub one_to_six : List ℕ
one_to_six = 1 ∷ 2 ∷ 3 ∷ 4 ∷ 5 ∷ 6 ∷ []

abbrev pub seven_for_five : List ℕ
seven_for_five = 1 ∷ 2 ∷ 3 ∷ 4 ∷ 6 ∷ 7 ∷ []

abbrev pub up_to_ten : Range
up_to_ten = record { start = 0; end = 10 }

-- what the caller says, who has one to six: the fingerprint of all of them; that below 4 both hold the same, and a cut at
-- 5 of what is from 4 on; that the other side lacks 5
abbrev pub turns_of_caller : List (Turn ℕ ℕ)
turns_of_caller =
    record { items = First one_to_six ∷ []; ends_with_bye = false }
    ∷ record { items = Agree ∷ Split 5 ((4 ∷ []) ∷ (5 ∷ 6 ∷ []) ∷ []) ∷ []; ends_with_bye = false }
    ∷ record { items = Rest (5 ∷ []) ∷ []; ends_with_bye = true }
    ∷ []

-- what the answerer says, who has seven in place of five: a cut at 4; that both hold the same 4, and its two numbers from
-- 5 on; farewell
abbrev pub turns_of_answerer : List (Turn ℕ ℕ)
turns_of_answerer =
    record { items = Split 4 ((1 ∷ 2 ∷ 3 ∷ []) ∷ (4 ∷ 6 ∷ 7 ∷ []) ∷ []) ∷ []; ends_with_bye = false }
    ∷ record { items = Agree ∷ Entries (6 ∷ 7 ∷ []) ∷ []; ends_with_bye = false }
    ∷ record { items = []; ends_with_bye = true }
    ∷ []

abbrev pub small_exchange : List (Turn ℕ ℕ)
small_exchange = exchange (of_numbers 2) one_to_six seven_for_five (Some up_to_ten)

-- ---- larger ones

-- twice the numbers below n; and the same below 40, but one more than that at 25
abbrev pub doubles : ℕ → List ℕ
doubles n = map (λ i. 2 * i) (range_with_len 0 n)

abbrev pub doubles_but_one : List ℕ
doubles_but_one = map (λ i. if nat_eq i 25 then 51 else 2 * i) (range_with_len 0 40)

abbrev pub up_to_eighty : Range
up_to_eighty = record { start = 0; end = 80 }

-- an exchange in which sixteen numbers are few
abbrev pub sixteen_few : List ℕ → List ℕ → Option Range → List (Turn ℕ ℕ)
sixteen_few = exchange (of_numbers 16)

-- how many items each turn has
abbrev pub items_by_turn : List (Turn ℕ ℕ) → List ℕ
items_by_turn ts = map (λ t. length t.items) ts
