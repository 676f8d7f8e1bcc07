-- What a side of an exchange keeps to.
use Rattle.std.specs.Prelude.{◌≡◌, true, ◌≤◌, List, length, Option, None, Some}
use Rattle.std.specs.List.{AllByRecursion}
use Rattle.std.specs.List.Sorted.{IsStrictlySortedBy}
use Rattle.willow_area.specs.Boxes.{Ranges}
use Rattle.willow_entry.specs.Frame.{HasFrame}
use Rattle.willow_entry.specs.Row.{RowValue, inner_place_cmp}
use Rattle.block_store.specs.BoxKinds.{IsOfOneNamespace}
use Rattle.block_store.specs.InBox.{is_in}
use Rattle.sync_msg.specs.Items.{HasSpelling}
use Rattle.sync_core.specs.declared.stage.TheConstants.{SNAPSHOT_MAX}
use Rattle.sync_core.specs.Flat.{AskValue}
use Rattle.sync_core.specs.Place.{Doing, Saying, Replying, Beginning, Hearing, HearingRows, Parting, Finished, Refused, Place}
use Rattle.sync_core.specs.Steps.{box_of}

-- each row of the ask's box is in the area
abbrev pub IsIn : Option Ranges → AskValue → Type 0
IsIn None ask = ⊥
IsIn (Some x) ask = (row : RowValue) → is_in (box_of ask) row ≡ true → is_in x row ≡ true

abbrev pub AreIn : Option Ranges → List AskValue → Type 0
AreIn area asks = AllByRecursion (IsIn area) asks

-- so it is with all asks that are open
abbrev pub AsksIn : Option Ranges → Doing → Type 0
AsksIn area (Saying items asks) = AreIn area asks
AsksIn area Replying = Unit {0}
AsksIn area Beginning = Unit {0}
AsksIn area (Hearing asks opens) = AreIn area asks × AreIn area opens
AsksIn area (HearingRows asks left read opens) = AreIn area asks × AreIn area opens
AsksIn area Parting = Unit {0}
AsksIn area Finished = Unit {0}
AsksIn area (Refused cause) = Unit {0}

-- nothing was refused, and what is still to be said has spellings
abbrev pub IsUnrefused : Doing → Type 0
IsUnrefused (Saying items asks) = AllByRecursion HasSpelling items
IsUnrefused Replying = Unit {0}
IsUnrefused Beginning = Unit {0}
IsUnrefused (Hearing asks opens) = Unit {0}
IsUnrefused (HearingRows asks left read opens) = Unit {0}
IsUnrefused Parting = Unit {0}
IsUnrefused Finished = Unit {0}
IsUnrefused (Refused cause) = ⊥

-- rows that a side may have: they are of one namespace, rise, are not too many, and frames carry them
pub record AreSound (rows : List RowValue) : Type 0 where
  pub one : IsOfOneNamespace rows
  pub rise : IsStrictlySortedBy inner_place_cmp rows
  pub few : length rows ≤ SNAPSHOT_MAX
  pub framed : AllByRecursion HasFrame rows

-- the place of a side that has such rows, goes on, and whose asks are within the area
pub record IsSound (place : Place) : Type 0 where
  pub rows : AreSound place.rows
  pub goes_on : IsUnrefused place.doing
  pub asks : AsksIn place.area place.doing
