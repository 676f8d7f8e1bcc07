-- What contracts see of a cell and of its passes.
use Rattle.std.specs.Prelude.{◌≡◌, ℕ, zero, suc, ◌+◌, List, [], ◌∷◌, ◌++◌}
use mathlib.Core.List.{IsPrefix}
use Rattle.atomic_table.specs.Seated.{TableId}
use Rattle.willow_entry.specs.Row.{RowValue}
use Rattle.willow_entry.specs.declared.row.LogRow.{LogRow}
use Rattle.ns_state.specs.Log.{IsLog}
use Rattle.log_rule.specs.Views.{rows_of_pass}

-- which cell it is, how many passes it has, and the namespace of its rows
pub record CellValue : Type 0 where
  pub table : TableId
  pub passes : ℕ
  pub namespace : List ℕ

-- a pass: of which cell it is, its number, the whole log as it stood at the end of each of its turns, the prefix of the log
-- that it has seen, and its own list
pub record PassValue (R : Type 0) : Type 0 where
  pub cell : CellValue
  pub number : ℕ
  pub turns : List (List (LogRow R))
  pub seen : List (LogRow R)
  pub own : List (LogRow R)

module _ {R : Type 0} where
  -- the pass is of the cell
  abbrev pub IsPassOf : CellValue → PassValue R → Type 0
  IsPassOf cell pass = pass.cell ≡ cell

  -- What holds of every pass at any time: what it has seen keeps the rules of a log of the cell's namespace, and its own
  -- list is the rows of its number there, each once and in order.
  pub record IsPass (value : R → RowValue) (pass : PassValue R) : Type 0 where
    pub log : IsLog value pass.cell.namespace pass.seen
    pub own : rows_of_pass pass.number pass.seen ≡ pass.own

  -- the same pass later: what it has seen begins with what it had seen, and its turns with those that it had had
  pub record IsLater (before after : PassValue R) : Type 0 where
    pub cell : after.cell ≡ before.cell
    pub number : after.number ≡ before.number
    pub seen : IsPrefix before.seen after.seen
    pub turns : IsPrefix before.turns after.turns

  -- it had one turn more, and has seen the whole log of that
  abbrev pub HadTurn : PassValue R → PassValue R → Type 0
  HadTurn before after = after.turns ≡ before.turns ++ after.seen ∷ []

  -- at its first turn since, this was the whole log
  abbrev pub FirstFound : PassValue R → List (LogRow R) → PassValue R → Type 0
  FirstFound before log after = IsPrefix (before.turns ++ log ∷ []) after.turns

  -- a pass of a new cell: it has had no turn, and has seen the log, which is the own list of pass 0
  abbrev pub opening_rows : ℕ → List (LogRow R) → List (LogRow R)
  opening_rows zero log = log
  opening_rows (suc number) log = []

  abbrev pub new_pass : CellValue → List (LogRow R) → ℕ → PassValue R
  new_pass cell log number = record { cell = cell; number = number; turns = []; seen = log; own = opening_rows number log }

  -- so many of them, numbered from this number on
  abbrev pub new_passes : CellValue → List (LogRow R) → ℕ → ℕ → List (PassValue R)
  new_passes cell log from zero = []
  new_passes cell log from (suc count) = new_pass cell log from ∷ new_passes cell log (from + 1) count
