-- A small instance, to look at: rows are numbers, boxes ranges of numbers, and cuts are numbers.
use Rattle.std.specs.Prelude.{ℕ, ◌/◌, Bool, true, ◌&&◌, List, [], ◌∷◌, length, nat_eq, nat_lt, nat_le, Option, None, Some, slice_index, if◌then◌else◌}
use Rattle.std.specs.List.{list_all}
use Rattle.std.specs.Cmp.Lexicographic.{pointwise}
use Rattle.exchange_rules.specs.Rules.{Rules}

-- from a number up to another
pub record Range : Type 0 where
  pub start : ℕ
  pub end : ℕ

abbrev pub range_has : Range → ℕ → Bool
range_has x n = nat_le x.start n && nat_lt n x.end

-- each number is below all behind it
abbrev pub is_rising : List ℕ → Bool
is_rising [] = true
is_rising (n ∷ ns) = list_all (nat_lt n) ns && is_rising ns

-- below the cut, and from it on
abbrev pub halves : Range → ℕ → List Range
halves x n =
    if nat_lt x.start n && nat_lt n x.end then record { start = x.start; end = n } ∷ record { start = n; end = x.end } ∷ [] else []

-- up to so many numbers are few enough to be sent; else the one in the middle is where to cut
abbrev pub middle : ℕ → List ℕ → Option ℕ
middle few ns = if nat_le (length ns) few then None else Some (slice_index ns (length ns / 2))

-- the fingerprint of numbers is the numbers themselves
abbrev pub of_numbers : ℕ → Rules ℕ Range ℕ
of_numbers few = record {
  same_row = nat_eq;
  same_print = pointwise nat_eq;
  has = range_has;
  print = λ ns. ns;
  choice = middle few;
  parts = halves;
  is_legal = λ x ns. list_all (range_has x) ns && is_rising ns;
}
