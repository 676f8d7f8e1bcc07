-- The seven kinds of step in which a cell's table changes, and what each tells the pass that takes it.
--
-- | Kind       | What it does                                        | What becomes of the view                               |
-- |------------|-----------------------------------------------------|--------------------------------------------------------|
-- | draw       | adds 1 to the word of the next ticket               | it waits with the ticket found there                   |
-- | look       | reads the word of the ticket served; where that is  | it has the turn, and has seen the state's whole log;   |
-- |            | its own, it takes the slot with the state           | else nothing                                           |
-- | take       | exchanges the slot's state for nothing              | nothing: no view changes                               |
-- | put back   | exchanges nothing for the state                     | nothing: no view changes                               |
-- | hand on    | adds 1 to the word of the ticket served, and gives  | it is idle, has seen the whole log, which it notes,     |
-- |            | the slot with the state back                        | and the rows that came to the log stand in its book    |
-- | split seat | makes a seat beside it: a pass, or one that only    | a pass is one part and the next number less; a loan    |
-- |            | knows what it has seen                              | changes nothing                                        |
-- | join seat  | takes a seat in, which is spent then                | parts and books are added, the longer list is seen,    |
-- |            |                                                     | and both are remembered                                |
--
-- An offer of a row and a snapshot of the store happen at `hand on`: that is where their event stands in the one order of
-- all events. Drawing, looking, taking and putting back change no log, and neither do the seats.
use Rattle.std.specs.Prelude.{◌≡◌, ◌≢◌, ℕ, ◌+◌, ◌-◌, ◌%◌, ◌^◌, ◌<◌, ◌≤◌, if◌then◌else◌, nat_lt, List, [], ◌∷◌, ◌++◌, length, drop, Option, Some}
use Rattle.std.specs.List.{AllByRecursion}
use mathlib.Core.List.{IsPrefix}
use Rattle.atomic_table.specs.Table.{Me, Step}
use Rattle.willow_entry.specs.declared.row.LogRow.{LogRow}
use Rattle.log_rule.specs.declared.view.CellFacts.{CellFacts}
use Rattle.log_rule.specs.declared.view.View.{View}
use Rattle.log_rule.specs.declared.view.Book.{Book}
use Rattle.log_rule.specs.declared.view.Role.{Role}
use Rattle.log_rule.specs.declared.view.Role.TheVariants.{Idle, Waits, Holds}
use Rattle.log_rule.specs.Views.{numbered, AreKept, ArePrefixes}
use Rattle.log_rule.specs.Rule.{Content}

-- ---- views

module _ {R : Type 0} where
  -- the one pass at the start, which has all parts, has seen the log, and has its rows for its own
  abbrev pub first_view : CellFacts → List (LogRow R) → View R
  first_view cell log = record { cell = cell; parts = cell.passes; made = 1; role = Idle; turns = []; seen = log; older = []; books = record { number = 0; rows = log } ∷ [] }

  -- split seat, to make a pass: what is left to the maker, and what the new pass has
  abbrev pub after_making : View R → View R
  after_making view = record view { parts = view.parts - 1; made = view.made + 1 }

  abbrev pub made_view : View R → View R
  made_view view = record { cell = view.cell; parts = 1; made = 0; role = Idle; turns = []; seen = view.seen; older = []; books = record { number = view.made; rows = [] } ∷ [] }

  -- split seat, to lend what was seen: the seat has no part, no number and no list of its own
  abbrev pub lent_view : View R → View R
  lent_view view = record { cell = view.cell; parts = 0; made = 0; role = Idle; turns = []; seen = view.seen; older = []; books = [] }

  -- the longer of two lists, the first where they are as long
  abbrev pub longer : List (LogRow R) → List (LogRow R) → List (LogRow R)
  longer xs ys = if nat_lt (length xs) (length ys) then ys else xs

  -- join seat: what the receiving seat knows then, and the other
  abbrev pub joined_view : View R → View R → View R
  joined_view view other = record view { parts = view.parts + other.parts; seen = longer view.seen other.seen; older = view.seen ∷ other.seen ∷ view.older; books = view.books ++ other.books }

  abbrev pub spent_view : View R
  spent_view = record { cell = record { passes = 0; namespace = [] }; parts = 0; made = 0; role = Idle; turns = []; seen = []; older = []; books = [] }

  -- the first book with further rows
  abbrev pub with_rows : List (LogRow R) → List (Book R) → List (Book R)
  with_rows rows [] = []
  with_rows rows (book ∷ books) = record book { rows = book.rows ++ rows } ∷ books

  -- hand on: the whole log is seen, what came to it stands in the book, and it is noted for the turn
  abbrev pub after_turn : List (LogRow R) → View R → View R
  after_turn log view = record view { role = Idle; turns = view.turns ++ log ∷ []; seen = log; books = with_rows (drop (length view.seen) log) view.books }

-- the ticket of a pass that has one
abbrev pub ticket_of : Role → ℕ
ticket_of Idle = 0
ticket_of (Waits ticket) = ticket
ticket_of (Holds ticket) = ticket

-- ---- what a step tells, of the seat before it, the number found and the seat after it

module _ {S R : Type 0} where
  -- the number found is that of the ticket which the pass now waits with
  abbrev pub Draws : Step (Option S) → Me (Option S) (View R) → ℕ → Me (Option S) (View R) → Type 0
  Draws step me found after = (ticket : ℕ) × (found ≡ ticket % 2 ^ 64) × (after ≡ (record me.0 { role = Waits ticket }, me.1))

module _ {S R : Type 0} (content : Content S R) where
  -- A pass takes the turn, and with it a state.
  -- `seen`, `older`: all that it had seen are prefixes of the state's log. `kept`: its books have just the rows of their numbers.
  -- `once`: no number stands at two of its books.
  -- `whole`, `known`: who has all parts had seen the whole log, and has a book for each row.
  pub record TakesTurn (ticket : ℕ) (state : S) (before after : View R) : Type 0 where
    pub is : after ≡ record before { role = Holds ticket; seen = content.log state }
    pub seen : IsPrefix before.seen (content.log state)
    pub older : ArePrefixes before.older (content.log state)
    pub namespace : content.namespace state ≡ before.cell.namespace
    pub kept : AreKept (content.log state) before.books
    pub once : (number : ℕ) → numbered number before.books ≤ 1
    pub whole : before.parts ≡ before.cell.passes → before.seen ≡ content.log state
    pub known : before.parts ≡ before.cell.passes → AllByRecursion (λ (row : LogRow R). 0 < numbered row.pass before.books) (content.log state)

  -- the slot is taken just where the number found is that of the own ticket
  abbrev pub MeetsTicket : Me (Option S) (View R) → ℕ → Me (Option S) (View R) → Role → Type 0
  MeetsTicket me found after Idle = after ≡ me
  MeetsTicket me found after (Waits ticket) =
      (found ≡ ticket % 2 ^ 64 → (state : S) × (after.1 ≡ (0, Some state) ∷ me.1) × TakesTurn ticket state me.0 after.0)
      × (found ≢ ticket % 2 ^ 64 → after ≡ me)
  MeetsTicket me found after (Holds ticket) = after ≡ me

  -- Besides, what the seat had seen before is a prefix of what it has seen, and the books have just the rows of their
  -- numbers there.
  pub record Looks (step : Step (Option S)) (me : Me (Option S) (View R)) (found : ℕ) (after : Me (Option S) (View R)) : Type 0 where
    pub older : ArePrefixes me.0.older me.0.seen
    pub kept : AreKept me.0.seen me.0.books
    pub turn : MeetsTicket me found after me.0.role

  -- the turn is given up with the state that was put back
  abbrev pub HandsOn : Step (Option S) → Me (Option S) (View R) → ℕ → Me (Option S) (View R) → Type 0
  HandsOn step me found after = (state : S) → me.1 ≡ (0, Some state) ∷ [] → after ≡ (after_turn (content.log state) me.0, [])
