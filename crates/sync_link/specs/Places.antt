-- A side of an exchange of stores, as the rules of sessions ask for it: it says and reads items by its place.
use Rattle.std.specs.Prelude.{Bool, true, false, List, Option, None, Some}
use Rattle.willow_area.specs.Boxes.{Ranges}
use Rattle.willow_entry.specs.Row.{RowValue}
use Rattle.area_interest.specs.Interest.{interest}
use Rattle.area_interest.specs.declared.interest.Interest.{Interest}
use Rattle.sync_msg.specs.Items.{ItemValue, item_spelling}
use Rattle.sync_msg.specs.declared.refusal.CoreRefusal.{CoreRefusal}
use Rattle.sync_core.specs.Flat.{row_in}
use Rattle.sync_core.specs.Place.{Doing, Saying, Replying, Beginning, Hearing, HearingRows, Parting, Finished, Refused, Place, first_place, rows_of_area}
use Rattle.sync_core.specs.Steps.{said, heard}
use Rattle.sync_core.specs.Runs.{left_to_say}
use Rattle.session_rules.specs.Talk.{Talk}
use Rattle.session_rules.specs.Session.{Offering}
use Rattle.sync_link.specs.Readers.{item_seen}
use Rattle.sync_link.specs.Greetings.{Agreement, role_of}

-- rows are due
abbrev pub awaits_row : Doing → Bool
awaits_row (Saying items asks) = false
awaits_row Replying = false
awaits_row Beginning = false
awaits_row (Hearing asks opens) = false
awaits_row (HearingRows asks left read opens) = true
awaits_row Parting = false
awaits_row Finished = false
awaits_row (Refused cause) = false

-- both sides have said farewell
abbrev pub has_finished : Doing → Bool
has_finished (Saying items asks) = false
has_finished Replying = false
has_finished Beginning = false
has_finished (Hearing asks opens) = false
has_finished (HearingRows asks left read opens) = false
has_finished Parting = false
has_finished Finished = true
has_finished (Refused cause) = false

-- in the version that was agreed on it begins, says and hears as a side of an exchange does, and reads a row where rows are
-- due, else any other item
abbrev pub places : Talk RowValue Agreement Place ItemValue CoreRefusal
places = record {
  begin = λ role rows agreed. first_place agreed.version (role_of role) rows agreed.box;
  said = said;
  to_say = λ place. left_to_say place.doing;
  heard = heard;
  is_done = λ place. has_finished place.doing;
  row_in = row_in;
  sees = λ place bytes. item_seen place.version (awaits_row place.doing) bytes;
  spelling = item_spelling;
}

-- of the rows of a store those that it offers where this box was agreed on: those of interest in it; all where none was, since
-- none is told then
abbrev pub of_interest : Interest → Option Ranges → List RowValue → List RowValue
of_interest limits None rows = rows
of_interest limits (Some x) rows = interest rows x limits.newest limits.bytes

-- those of them that the exchange begins over: all in the box that was agreed on
abbrev pub offers_of : Interest → List RowValue → Offering Agreement RowValue
offers_of limits rows agreed = rows_of_area agreed.box (of_interest limits agreed.box rows)
