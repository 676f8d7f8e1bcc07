-- What a log holds of the rows that were offered to it.
use Rattle.std.specs.Prelude.{◌≡◌, ◌<◌, Bool, List, [], ◌∷◌, ◌++◌, length, Result, Ok, Err, if◌then◌else◌}
use Rattle.spelling.specs.declared.ending.End.{End}
use Rattle.spelling.specs.declared.ending.End.TheVariants.{Refused, NoMemory}
use Rattle.willow_entry.specs.Row.{RowValue, new}
use Rattle.ns_state.specs.Log.{StateValue, values}
use Rattle.ns_state.specs.declared.live_log.LogFull.{LogFull}
use Rattle.ns_state.specs.declared.live_log.TheConstants.{LOG_LIMIT}

-- these rows were offered, one after the other, and the new ones are those of the log
abbrev pub HasTaken : {R : Type 0} → (R → RowValue) → List RowValue → StateValue R → Type 0
HasTaken value seen log = values value log.log ≡ new seen

-- of these rows one too many would be stored
abbrev pub ArePastLog : List RowValue → Type 0
ArePastLog rows = LOG_LIMIT < length (new rows)

-- what is new of some rows goes on by this one, if it is stored
abbrev pub GoesOn : List RowValue → RowValue → Bool → Type 0
GoesOn seen row stored = new (seen ++ row ∷ []) ≡ new seen ++ (if stored then row ∷ [] else [])

-- a row was refused, and no memory was wanting
abbrev pub IsRefusal : End LogFull → Type 0
IsRefusal (Refused full) = Unit {0}
IsRefusal NoMemory = ⊥

-- Behind those that were offered before one of these rows was reached, and up to it none is one too many.
pub record ReachesRoom (seen rows : List RowValue) : Type 0 where
  pub front : List RowValue
  pub row : RowValue
  pub left : List RowValue
  pub parts : rows ≡ front ++ row ∷ left
  pub room : ArePastLog (seen ++ (front ++ row ∷ [])) → ⊥

-- how the offer of a row ends, behind those that were offered before: no full log is told as want of memory
abbrev pub OffersRow : {R : Type 0} → (R → RowValue) → List RowValue → RowValue → StateValue R → Result Bool (End LogFull) → Type 0
OffersRow value seen row log (Ok stored) = HasTaken value (seen ++ row ∷ []) log × GoesOn seen row stored
OffersRow value seen row log (Err (Refused full)) = ArePastLog (seen ++ row ∷ [])
OffersRow value seen row log (Err NoMemory) = ArePastLog (seen ++ row ∷ []) → ⊥

-- how the offer of several ends
abbrev pub OffersRows : {R : Type 0} → (R → RowValue) → List RowValue → List RowValue → StateValue R → Result (Unit {0}) (End LogFull) → Type 0
OffersRows value seen rows log (Ok u) = HasTaken value (seen ++ rows) log
OffersRows value seen rows log (Err (Refused full)) = ArePastLog (seen ++ rows)
OffersRows value seen rows log (Err NoMemory) = ReachesRoom seen rows
