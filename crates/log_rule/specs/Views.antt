-- What is told of a view: whose turn it is, and which rows of a log are whose.
use Rattle.std.specs.Prelude.{◌≡◌, ℕ, Bool, true, false, ◌==◌, List, count_by, filter}
use Rattle.std.specs.List.{AllByRecursion}
use mathlib.Core.List.{IsPrefix}
use Rattle.willow_entry.specs.declared.row.LogRow.{LogRow}
use Rattle.log_rule.specs.declared.view.Book.{Book}
use Rattle.log_rule.specs.declared.view.Role.{Role}
use Rattle.log_rule.specs.declared.view.Role.TheVariants.{Idle, Waits, Holds}

-- the pass drew a ticket, and has not handed its turn on
abbrev pub is_queued : Role → Bool
is_queued Idle = false
is_queued (Waits ticket) = true
is_queued (Holds ticket) = true

-- the pass has the turn
abbrev pub has_turn : Role → Bool
has_turn Idle = false
has_turn (Waits ticket) = false
has_turn (Holds ticket) = true

-- the pass has this ticket
abbrev pub has_ticket : ℕ → Role → Bool
has_ticket ticket Idle = false
has_ticket ticket (Waits own) = ticket == own
has_ticket ticket (Holds own) = ticket == own

module _ {R : Type 0} where
  -- the rows of the pass of this number, in order
  abbrev pub rows_of_pass : ℕ → List (LogRow R) → List (LogRow R)
  rows_of_pass number log = filter (λ row. number == row.pass) log

  -- all rows are of the pass of this number
  abbrev pub AreOf : ℕ → List (LogRow R) → Type 0
  AreOf number = AllByRecursion (λ row. row.pass ≡ number)

  -- how many books have this number
  abbrev pub numbered : ℕ → List (Book R) → ℕ
  numbered number = count_by (λ book. number == book.number)

  -- each book has just the rows of its number in the log
  abbrev pub AreKept : List (LogRow R) → List (Book R) → Type 0
  AreKept log = AllByRecursion (λ book. rows_of_pass book.number log ≡ book.rows)

  -- each of the lists is a prefix of this one
  abbrev pub ArePrefixes : List (List (LogRow R)) → List (LogRow R) → Type 0
  ArePrefixes lists xs = AllByRecursion (λ list. IsPrefix list xs) lists
