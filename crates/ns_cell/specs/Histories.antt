-- What passes did, from the making of their cell to its end, and what came of it.
use Rattle.std.specs.Prelude.{◌≡◌, ℕ, List, [], ◌∷◌, ◌++◌, map, All, Ok, Err}
use Rattle.willow_entry.specs.Row.{RowValue, live, join}
use Rattle.willow_entry.specs.declared.row.LogRow.{LogRow}
use Rattle.ns_state.specs.Log.{values}
use Rattle.ns_cell.specs.Passes.{CellValue, PassValue, new_pass}
use Rattle.ns_cell.specs.Answers.{Call, Offers, Reads, Makes}

-- a call of a pass, and what the pass was behind it
pub record CallMade (R : Type 0) : Type 0 where
  pub call : Call R
  pub after : PassValue R

module _ {R : Type 0} where
  -- the deeds lead from one pass to the other: each call begins where the one before it left the pass
  abbrev pub Leads : (R → RowValue) → PassValue R → List (CallMade R) → PassValue R → Type 0
  Leads value first [] last = last ≡ first
  Leads value first (deed ∷ deeds) last = Makes value first deed.call deed.after × Leads value deed.after deeds last

  -- the row of an offer that was answered Stored or Kept
  abbrev pub accepted_by : Call R → List R
  accepted_by (Offers row (Ok told)) = row ∷ []
  accepted_by (Offers row (Err e)) = []
  accepted_by Reads = []

  -- the rows of such offers among some deeds
  abbrev pub accepted_in : List (CallMade R) → List R
  accepted_in [] = []
  accepted_in (deed ∷ deeds) = accepted_by deed.call ++ accepted_in deeds

  -- the rows of such offers of all passes, of which each did the deeds of its number
  abbrev pub accepted_of : (ℕ → List (CallMade R)) → List (PassValue R) → List R
  accepted_of deeds [] = []
  accepted_of deeds (pass ∷ passes) = accepted_in (deeds pass.number) ++ accepted_of deeds passes

  -- The deeds of each pass's number led to it from the new pass of that number, in a cell over a state of this log. What
  -- one pass did between two deeds of another, and in which order the turns came, is left open.
  abbrev pub HaveDone : (R → RowValue) → CellValue → List (LogRow R) → (ℕ → List (CallMade R)) → List (PassValue R) → Type 0
  HaveDone value cell opening deeds passes = All (λ (pass : PassValue R). Leads value (new_pass cell opening pass.number) (deeds pass.number) pass) passes

  -- What is live of the log is the join of the opening rows and of every row that any pass was told Stored or Kept.
  abbrev pub IsJoinOfAll : (R → RowValue) → List (LogRow R) → (ℕ → List (CallMade R)) → List (PassValue R) → List (LogRow R) → Type 0
  IsJoinOfAll value opening deeds passes log = live (values value log) ≡ join (values value opening) (map value (accepted_of deeds passes))
