-- A small machine, to look at. A message is a byte up to 4 and then so many numbers, which are its rows. The machine says
-- the sum of all numbers so far, ends at a message of no number, and refuses one with a 9.
use Rattle.std.specs.Prelude.{ℕ, ◌+◌, List, [], ◌∷◌, length, sum, nat_eq, nat_lt, nat_le, if◌then◌else◌}
use Rattle.std.specs.List.{list_any}
use Rattle.session_rules.specs.Machine.{Seen, Whole, Part, Wrong, Step, Goes, Ends, Refuses, Machine}

abbrev pub numbers_seen : List ℕ → Seen (List ℕ)
numbers_seen [] = Part
numbers_seen (n ∷ numbers) =
    if nat_le n 4 then (if nat_eq (length numbers) n then Whole numbers else (if nat_lt (length numbers) n then Part else Wrong)) else Wrong

abbrev pub numbers_added : ℕ → List ℕ → Step ℕ ℕ ℕ ℕ
numbers_added total [] = Ends [] []
numbers_added total (n ∷ numbers) =
    if list_any (nat_eq 9) (n ∷ numbers) then Refuses 9 else Goes (total + sum (n ∷ numbers)) ((total + sum (n ∷ numbers)) ∷ []) (n ∷ numbers)

-- before it reads it says that the sum is 0; a number up to 255 is a byte
abbrev pub adding : Machine ℕ (List ℕ) ℕ ℕ ℕ
adding = record {
  opening = 0 ∷ [];
  first = 0;
  sees = λ total bytes. numbers_seen bytes;
  step = numbers_added;
  spelling = λ n. n ∷ [];
}
