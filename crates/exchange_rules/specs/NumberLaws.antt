-- The rules of exchanges of numbers meet what the laws ask, with so many numbers few enough to be sent.
use Rattle.std.specs.Prelude.{ℕ, ◌<◌, List, IsTrue}
use Rattle.exchange_rules.specs.Exchange.{Apart}
use Rattle.exchange_rules.specs.Premises.{IsDeciding, HasDisjointParts, CanCut, CanSend}
use Rattle.exchange_rules.specs.Numbers.{Range, is_rising, of_numbers}

-- the tests decide when numbers and when fingerprints are the same
abbrev pub NumbersAreDecided : Type 0
NumbersAreDecided = (few : ℕ) → IsDeciding (of_numbers few)

-- the parts of a range share no number, and have none that the range lacks
abbrev pub RangesHaveDisjointParts : Type 0
RangesHaveDisjointParts = (few : ℕ) → HasDisjointParts (of_numbers few)

-- where one number at least is few enough, a side with rising numbers cuts a range only so that each part has some of
-- them and none is left out
abbrev pub RisingNumbersCanCut : Type 0
RisingNumbersCanCut = (few : ℕ) (l : List ℕ) → 0 < few → IsTrue (is_rising l) → CanCut (of_numbers few) l

-- of rising numbers any may be sent
abbrev pub RisingNumbersCanSend : Type 0
RisingNumbersCanSend = (few : ℕ) (l : List ℕ) → IsTrue (is_rising l) → CanSend (of_numbers few) l

-- the fingerprints tell numbers apart, whichever the sides have
abbrev pub NumbersAreApart : Type 0
NumbersAreApart = (few : ℕ) (a b : List ℕ) (x : Range) → Apart (of_numbers few) a b x
