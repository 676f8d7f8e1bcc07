-- The seats of a cell's table: a pass between its calls, and what a turn makes of it.
use Rattle.std.specs.Prelude.{◌≡◌, ℕ, ◌+◌, ◌%◌, ◌^◌, ◌++◌, List, [], ◌∷◌, Option}
use mathlib.Core.List.{IsPrefix}
use Rattle.atomic_table.specs.Table.{State, Me}
use Rattle.atomic_table.specs.Seated.{TableId}
use Rattle.willow_entry.specs.Row.{RowValue}
use Rattle.willow_entry.specs.declared.row.LogRow.{LogRow}
use Rattle.ns_state.specs.Log.{StateValue, IsLog}
use Rattle.log_rule.specs.declared.view.CellFacts.{CellFacts}
use Rattle.log_rule.specs.declared.view.View.{View}
use Rattle.log_rule.specs.declared.view.Book.{Book}
use Rattle.log_rule.specs.declared.view.Role.{Role}
use Rattle.log_rule.specs.declared.view.Role.TheVariants.{Idle, Waits}
use Rattle.log_rule.specs.Views.{rows_of_pass}
use Rattle.log_rule.specs.Rule.{Content, Ruled}
use Rattle.log_rule.specs.Steps.{ticket_of}
use Rattle.ns_cell.specs.Passes.{CellValue, PassValue}

-- the cell with this table, so many passes and this namespace
abbrev pub cell_at : TableId → ℕ → List ℕ → CellValue
cell_at table passes namespace = record { table = table; passes = passes; namespace = namespace }

-- what of a cell its seats know
abbrev pub facts_of : CellValue → CellFacts
facts_of cell = record { passes = cell.passes; namespace = cell.namespace }

-- a seat: its view, and the slot that it holds
abbrev pub Place : Type 0 → Type 0
Place R = Me (Option (StateValue R)) (View R)

module _ {R : Type 0} where
  -- what the rule sees of a state
  abbrev pub content : Content (StateValue R) R
  content = record { log = λ state. state.log; namespace = λ state. state.namespace }

  -- the rule of the table, whose log keeps the rules of a state's
  abbrev pub CellRule : (R → RowValue) → CellFacts → State (Option (StateValue R)) (View R) → Type 0
  CellRule value = Ruled content (IsLog value)

  -- the rows of the first book
  abbrev pub own_of : List (Book R) → List (LogRow R)
  own_of [] = []
  own_of (book ∷ books) = book.rows

  -- what contracts see of a pass with this seat
  abbrev pub pass_of : TableId → ℕ → Place R → PassValue R
  pass_of table number me = record { cell = cell_at table me.0.cell.passes me.0.cell.namespace; number = number; turns = me.0.turns; seen = me.0.seen; own = own_of me.0.books }

  -- the seat of a pass between its calls
  pub record IsAtRest (value : R → RowValue) (number : ℕ) (me : Place R) : Type 0 where
    pub carries : me.1 ≡ []
    pub role : me.0.role ≡ Idle
    pub parts : me.0.parts ≡ 1
    pub books : me.0.books ≡ (record { number = number; rows = own_of me.0.books }) ∷ []
    pub own : rows_of_pass number me.0.seen ≡ own_of me.0.books
    pub log : IsLog value me.0.cell.namespace me.0.seen

  -- a turn in which these rows came to the log, from the seat before it to the seat after it
  pub record IsTurned (value : R → RowValue) (number : ℕ) (rows : List (LogRow R)) (before after : Place R) : Type 0 where
    pub rest : IsAtRest value number after
    pub cell : after.0.cell ≡ before.0.cell
    pub turns : after.0.turns ≡ before.0.turns ++ after.0.seen ∷ []
    pub seen : IsPrefix before.0.seen after.0.seen
    pub own : own_of after.0.books ≡ own_of before.0.books ++ rows

-- the pass waits with the ticket that the word stands for
abbrev pub IsWaiting : Role → ℕ → Type 0
IsWaiting role word = (role ≡ Waits (ticket_of role)) × (word ≡ ticket_of role % 2 ^ 64)
