-- What the answer to an item that is read says of the side before it and after it.
use Rattle.std.specs.Prelude.{◌≡◌, ℕ, ◌-◌, ◌<◌, List, [], ◌∷◌, Option, None, Some, Result, Ok, Err, IsOk, nat_le, if◌then◌else◌, vec_len, vec_capacity}
use Rattle.spelling.specs.declared.ending.End.{End}
use Rattle.spelling.specs.declared.ending.End.TheVariants as end
use Rattle.willow_entry.specs.Row.{RowValue}
use Rattle.sync_msg.specs.Items.{ItemValue}
use Rattle.sync_msg.specs.declared.refusal.CoreRefusal.{CoreRefusal}
use Rattle.sync_msg.specs.declared.refusal.CoreRefusal.TheVariants.{ItemMismatch, TooManyItems}
use Rattle.sync_core.specs.Place.{Doing, Place}
use Rattle.sync_core.specs.Steps as Steps
use Rattle.sync_core.specs.Steps.{heard, refused, remembered, row_cause}
use Rattle.sync_core.specs.Held.{hearing_in, owed_value}
use Rattle.sync_core.specs.declared.ask.Owed.{Owed}
use Rattle.sync_core.specs.declared.work.Due.{Due}
use Rattle.sync_core.specs.declared.work.Ear.{Ear}

-- At Ok the side stands as one that heard the item. It is refused exactly where that is refused, by the same cause, and
-- then stands as one that refused. Without memory it stands as it was: want of memory comes only where the item is
-- refused by nothing.
abbrev pub Hears : {A : Type 0} → Place → Place → ItemValue → Result A (End CoreRefusal) → Type 0
Hears old new item (Ok answer) = heard old item ≡ Ok new
Hears old new item (Err (end.Refused cause)) = (heard old item ≡ Err cause) × (new ≡ refused old cause)
Hears old new item (Err end.NoMemory) = (new ≡ old) × IsOk (heard old item)

-- what a side does, by the outcome of an item that it reads; without memory, where nothing is against the item, the
-- same as before
abbrev pub Does : Doing → Doing → Result Doing CoreRefusal → Result (Unit {0}) (End CoreRefusal) → Type 0
Does old new outcome (Ok done) = outcome ≡ Ok new
Does old new outcome (Err (end.Refused cause)) = outcome ≡ Err cause
Does old new outcome (Err end.NoMemory) = (new ≡ old) × IsOk outcome

-- refused by a cause, where there is one
abbrev pub judged : Option CoreRefusal → Result (Unit {0}) (End CoreRefusal)
judged None = Ok tt
judged (Some cause) = Err (end.Refused cause)

-- the outcome of an item that may come, where not too many were counted with it
abbrev pub within : Result (Unit {0}) (End CoreRefusal) → ℕ → ℕ → Result (Unit {0}) (End CoreRefusal)
within (Err (end.Refused ItemMismatch)) items most = Err (end.Refused ItemMismatch)
within outcome items most = if nat_le items most then outcome else Err (end.Refused (TooManyItems items))

-- the rows read for the first ask, once one more is read
abbrev pub FirstAsk : List Owed → List RowValue → List RowValue → RowValue → Type 0
FirstAsk [] was is row = ⊥
FirstAsk (owed ∷ rest) was is row = (own : List RowValue) → (row_cause (Steps.box_of (owed_value own owed)) was row ≡ None) × (is ≡ remembered (owed_value own owed) was row)

-- a row that may come behind those read is remembered with them, one less is due, and there is room for an ask
pub record ReadsRow (old new : Ear) (was is : Due) (row : RowValue) : Type 0 where
  pub left : is.left ≡ was.left - 1
  pub first : FirstAsk old.owed.items was.rows.items is.rows.items row
  pub asked : new.owed ≡ old.owed
  pub opened : new.opens.items ≡ old.opens.items
  pub room : vec_len new.opens < vec_capacity new.opens

-- why the row is refused for the first ask, if it is
abbrev pub FirstCause : List Owed → List RowValue → RowValue → Option CoreRefusal → Type 0
FirstCause [] was row cause = ⊥
FirstCause (owed ∷ rest) was row cause = (own : List RowValue) → row_cause (Steps.box_of (owed_value own owed)) was row ≡ cause

-- what the reading of a row makes of the rows that were due, and of those that are
abbrev pub KeepsDue : Ear → Ear → Option Due → Option Due → RowValue → Result (Unit {0}) (End CoreRefusal) → Type 0
KeepsDue old new (Some was) (Some is) row (Ok done) = ReadsRow old new was is row
KeepsDue old new (Some was) None row (Ok done) = ⊥
KeepsDue old new None is row (Ok done) = ⊥
KeepsDue old new (Some was) is row (Err (end.Refused cause)) = FirstCause old.owed.items was.rows.items row (Some cause)
KeepsDue old new None is row (Err (end.Refused cause)) = ⊥
KeepsDue old new (Some was) is row (Err end.NoMemory) = ((own : List RowValue) → hearing_in own new ≡ hearing_in own old) × FirstCause old.owed.items was.rows.items row None
KeepsDue old new None is row (Err end.NoMemory) = ⊥

abbrev pub Keeps : Ear → Ear → RowValue → Result (Unit {0}) (End CoreRefusal) → Type 0
Keeps old new row result = KeepsDue old new old.due new.due row result
