-- A turn that is passed from one side to the other.
use Rattle.std.specs.Prelude.{◌≡◌, ℕ, List, [], ◌++◌, filter_map, flat_map, Result, Ok, IsOk}
use Rattle.std.specs.List.{AllByRecursion}
use Rattle.willow_entry.specs.Row.{RowValue}
use Rattle.sync_msg.specs.Items.{HasSpelling, item_spelling}
use Rattle.sync_msg.specs.declared.refusal.CoreRefusal.{CoreRefusal}
use Rattle.sync_core.specs.Flat.{row_in}
use Rattle.sync_core.specs.Place.{Place, stage_of}
use Rattle.sync_core.specs.Runs.{hears, says_all}
use Rattle.sync_core.specs.declared.stage.Stage.TheVariants as stage

-- the turn is the side's
abbrev pub IsWriting : Place → Type 0
IsWriting place = stage_of place.doing ≡ stage.Writing

-- how two sides stand behind a turn: the one that says it and the one that hears it, the bytes of the turn, and the rows
-- that the second has
pub record TurnEnd : Type 0 where
  pub says : Place
  pub hears : Result Place CoreRefusal
  pub bytes : List ℕ
  pub got : List RowValue

-- that of two sides of which the first goes on with its turn, behind some bytes and some rows
abbrev pub turn_end : Place → Place → List ℕ → List RowValue → TurnEnd
turn_end from to bytes got = record {
  says = (says_all from).1;
  hears = hears to (says_all from).0;
  bytes = bytes ++ flat_map item_spelling (says_all from).0;
  got = got ++ filter_map row_in (says_all from).0;
}

-- what the first says has spellings, and the second may hear it
pub record CanPass (from to : Place) : Type 0 where
  pub spelled : AllByRecursion HasSpelling (says_all from).0
  pub heard : IsOk (hears to (says_all from).0)

-- behind the turn the two sides stand so, these are its bytes, and the second has these rows in place of those before
pub record PassesTurn (from to : Place) (got : List RowValue) (next_from next_to : Place) (bytes : List ℕ) (next_got : List RowValue) : Type 0 where
  pub end : turn_end from to [] got ≡ record { says = next_from; hears = Ok next_to; bytes = bytes; got = next_got }
