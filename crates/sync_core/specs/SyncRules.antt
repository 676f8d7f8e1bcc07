-- The rules of an exchange in a version, at the rows, boxes and cuts of stores.
use Rattle.std.specs.Prelude.{ℕ, ◌≤◌, Bool, true, ◌&&◌, List, [], ◌∷◌, Option, option_map, nat_eq, if◌then◌else◌}
use Rattle.std.specs.List.{list_all}
use Rattle.std.specs.Ordering.{is_lt}
use Rattle.willow_area.specs.Boxes.{Ranges}
use Rattle.willow_area.specs.declared.cut.CutAt.{CutAt}
use Rattle.willow_entry.specs.Entry.{same_bytes}
use Rattle.willow_entry.specs.Row.{RowValue, same_row, inner_place_cmp}
use Rattle.block_store.specs.Fingerprint.{fingerprint_of}
use Rattle.block_store.specs.InBox.{is_in}
use Rattle.range_split.specs.Points.{DimensionPoints, cuts_at}
use Rattle.range_split.specs.Choice.{choice}
use Rattle.range_split.specs.Quarters.{even_choice}
use Rattle.range_split.specs.Parts.{parts_at}
use Rattle.exchange_rules.specs.Rules.{Rules}

-- the versions that are spoken
abbrev pub IsVersion : ℕ → Type 0
IsVersion version = (1 ≤ version) × (version ≤ 2)

-- where the rows of a box are cut in a version
abbrev pub choice_in : ℕ → List RowValue → Option DimensionPoints
choice_in version rows = if nat_eq version 1 then choice rows else even_choice rows

-- each row is above the one before it, by subspace and path
abbrev pub is_rising : List RowValue → Bool
is_rising [] = true
is_rising (r ∷ []) = true
is_rising (r ∷ s ∷ rows) = is_lt (inner_place_cmp r s) && is_rising (s ∷ rows)

-- the rows are those of a list for the box: each is in it, and they rise
abbrev pub is_list_for : Ranges → List RowValue → Bool
is_list_for area rows = list_all (is_in area) rows && is_rising rows

-- rows are told apart by entry and token; a box is cut where the choice of the version for its rows says
abbrev pub sync_rules : ℕ → Rules RowValue Ranges (List CutAt)
sync_rules version = record {
  same_row = same_row;
  same_print = same_bytes;
  has = is_in;
  print = fingerprint_of;
  choice = λ rows. option_map cuts_at (choice_in version rows);
  parts = parts_at;
  is_legal = is_list_for;
}
