-- The rule of a cell, whatever its passes do.
--
-- A ticket lock guards the state. Whoever wants it draws the next ticket, waits until that ticket is served, and then has
-- the turn: it takes the state out of the slot, puts it back, and serves the next ticket. The table's two words hold the
-- next ticket and the one served, both modulo 2^64; here neither has a bound.
--
-- All passes share one log, the state's, which keeps the rules of its kind (`IsLawful`: the state's crate says them). Each
-- pass has seen a prefix of it. It only grows, and only by whoever has the turn, who has seen all of it. Each row stands
-- in the book of the pass that offered it; those of the opening log stand in that of pass 0.
--
-- That something is at one place alone is always said by a sum over all views: one pass has the turn, no ticket and no
-- number is there twice, and a ticket or number that was not given out yet is nowhere.
use Rattle.std.specs.Prelude.{◌≡◌, ◌⊎◌, ℕ, ◌+◌, ◌%◌, ◌^◌, ◌<◌, ◌≤◌, IsTrue, List, [], ◌∷◌, length, count_by, sum_by, Option, Some}
use Rattle.std.specs.List.{AllByRecursion}
use mathlib.Core.List.{IsPrefix}
use mathlib.Core.Option.{some}
use mathlib.Core.Option as maybe
use lib.ListN.{get_elem?}
use Rattle.atomic_table.specs.Table.{State}
use Rattle.willow_entry.specs.declared.row.LogRow.{LogRow}
use Rattle.log_rule.specs.declared.view.CellFacts.{CellFacts}
use Rattle.log_rule.specs.declared.view.View.{View}
use Rattle.log_rule.specs.declared.view.Role.{Role}
use Rattle.log_rule.specs.declared.view.Role.TheVariants.{Idle, Waits, Holds}
use Rattle.log_rule.specs.Views.{is_queued, has_turn, has_ticket, numbered, AreKept, ArePrefixes}

-- what the rule sees of a state: its log and its namespace
pub record Content (S R : Type 0) : Type 0 where
  pub log : S → List (LogRow R)
  pub namespace : S → List ℕ

module _ {R : Type 0} where
  -- who has the turn has the ticket that is served, and has seen the whole log
  abbrev pub HasTurn : ℕ → List (LogRow R) → List (LogRow R) → Role → Type 0
  HasTurn served log seen Idle = Unit {0}
  HasTurn served log seen (Waits ticket) = Unit {0}
  HasTurn served log seen (Holds ticket) = (ticket ≡ served) × (seen ≡ log)

  -- What the seat of this number knows.
  -- `seen`, `older`: what it has seen is a prefix of the log, and so is what it had seen before.
  -- `kept`, `kept_seen`: each of its books has just the rows of its number, in the log and in what it has seen.
  -- `no_books`: without parts it has no book. `queues`: without parts it draws no ticket.
  -- `cell_is`: it knows the cell. `turn`: who has the turn knows the whole log.
  -- `maker`: the passes are made from seat 0, which knows how many there are.
  pub record Knows (cell : CellFacts) (served made : ℕ) (log : List (LogRow R)) (seat : ℕ) (view : View R) : Type 0 where
    pub seen : IsPrefix view.seen log
    pub older : ArePrefixes view.older view.seen
    pub kept : AreKept log view.books
    pub kept_seen : AreKept view.seen view.books
    pub no_books : view.parts ≡ 0 → view.books ≡ []
    pub queues : IsTrue (is_queued view.role) → 0 < view.parts
    pub cell_is : 0 < view.parts → view.cell ≡ cell
    pub turn : HasTurn served log view.seen view.role
    pub maker : 0 < view.made → (seat ≡ 0) × (view.made ≡ made)

  -- The tickets from the one served on, below the next, stand with a pass each.
  -- `line`: there are as many as passes that drew one. `once`: none is there twice. `others`: no other is there.
  pub record IsQueue (next served : ℕ) (views : List (View R)) : Type 0 where
    pub line : next ≡ served + count_by (λ (view : View R). is_queued view.role) views
    pub once : (ticket : ℕ) → count_by (λ (view : View R). has_ticket ticket view.role) views ≤ 1
    pub others : (ticket : ℕ) → (ticket < served) ⊎ (next ≤ ticket) → count_by (λ (view : View R). has_ticket ticket view.role) views ≡ 0

  -- how many books of all seats have this number
  abbrev pub books_of : ℕ → List (View R) → ℕ
  books_of number = sum_by (λ (view : View R). numbered number view.books)

  -- The numbers below the one made next stand at a book each.
  -- `once`: none is there twice. `others`: no other is there. `known`: each row of the log is of one of them.
  pub record AreBooks (made : ℕ) (log : List (LogRow R)) (views : List (View R)) : Type 0 where
    pub once : (number : ℕ) → books_of number views ≤ 1
    pub others : (number : ℕ) → made ≤ number → books_of number views ≡ 0
    pub known : AllByRecursion (λ (row : LogRow R). 0 < books_of row.pass views) log

  -- some pass has seen the whole log
  abbrev pub IsSeen : List (LogRow R) → List (View R) → Type 0
  IsSeen log views = (seat : ℕ) × (view : View R) × (get_elem? views seat ≡ some view) × (0 < view.parts) × (view.seen ≡ log)

module _ {S R : Type 0} (content : Content S R) (IsLawful : List ℕ → List (LogRow R) → Type 0) where
  -- the state of this log lies in the slot
  abbrev pub IsAtHome : CellFacts → List (LogRow R) → List (maybe.Option (Option S)) → Type 0
  IsAtHome cell log homes = (state : S) × (homes ≡ some (Some state) ∷ []) × (content.log state ≡ log) × (content.namespace state ≡ cell.namespace)

  -- The rule, of the two words, the one slot and the views of all seats: there are a log, the next ticket, the one served
  -- and a number of passes made, of which all this is so.
  -- `lawful`: the log keeps its rules, in the cell's namespace. `at_home`: where nobody has the turn, the state lies in the
  -- slot. `parts`: there are as many parts as passes. `turns`: all seats have had at most as many turns as tickets were
  -- served; a seat that is taken in leaves its turns behind.
  pub record Ruled (cell : CellFacts) (table : State (Option S) (View R)) : Type 0 where
    pub log : List (LogRow R)
    pub next : ℕ
    pub served : ℕ
    pub made : ℕ
    pub lawful : IsLawful cell.namespace log
    pub words : table.words ≡ next % 2 ^ 64 ∷ served % 2 ^ 64 ∷ []
    pub one_slot : length table.homes ≡ 1
    pub at_home : count_by (λ (view : View R). has_turn view.role) table.views ≡ 0 → IsAtHome cell log table.homes
    pub each : (seat : ℕ) (view : View R) → get_elem? table.views seat ≡ some view → Knows cell served made log seat view
    pub seen : IsSeen log table.views
    pub parts : sum_by (λ (view : View R). view.parts) table.views ≡ cell.passes
    pub turns : sum_by (λ (view : View R). length view.turns) table.views ≤ served
    pub queue : IsQueue next served table.views
    pub books : AreBooks made log table.views
