-- One seat that took in those of several passes.
use Rattle.std.specs.Prelude.{◌≡◌, ◌++◌, List, [], ◌∷◌, length, Contains}
use Rattle.std.specs.List.{AllByRecursion}
use Rattle.willow_entry.specs.Row.{RowValue}
use Rattle.log_rule.specs.declared.view.View.{View}
use Rattle.log_rule.specs.declared.view.Book.{Book}
use Rattle.log_rule.specs.declared.view.Role.TheVariants.{Idle}
use Rattle.log_rule.specs.Views.{rows_of_pass}
use Rattle.ns_state.specs.Log.{IsLog}
use Rattle.ns_cell.specs.Passes.{CellValue, PassValue}
use Rattle.ns_cell.specs.Seats.{facts_of}

module _ {R : Type 0} where
  -- the books of the passes, in the order in which they were taken in
  abbrev pub joined_books : List (PassValue R) → List (Book R)
  joined_books [] = []
  joined_books (pass ∷ passes) = joined_books passes ++ (record { number = pass.number; rows = pass.own }) ∷ []

  -- The seat knows all that these passes of the cell knew, the last taken in first.
  -- `seen`, `longest`: what each had seen is remembered, and what one of them had seen is what the seat has.
  pub record IsJoined (value : R → RowValue) (cell : CellValue) (passes : List (PassValue R)) (view : View R) : Type 0 where
    pub cell_is : view.cell ≡ facts_of cell
    pub role : view.role ≡ Idle
    pub parts : view.parts ≡ length passes
    pub books : view.books ≡ joined_books passes
    pub seen : AllByRecursion (λ (pass : PassValue R). Contains (view.seen ∷ view.older) pass.seen) passes
    pub longest : (pass : PassValue R) × Contains passes pass × (pass.seen ≡ view.seen)
    pub kept : AllByRecursion (λ (pass : PassValue R). rows_of_pass pass.number pass.seen ≡ pass.own) passes
    pub log : IsLog value cell.namespace view.seen
