-- What a side offers of its rows.
use Rattle.std.specs.Prelude.{ℕ, List, Option, None, Some}
use Rattle.willow_area.specs.Boxes.{Ranges}
use Rattle.willow_entry.specs.Row.{RowValue}
use Rattle.area_interest.specs.Interest.{interest}
use Rattle.area_interest.specs.declared.interest.Interest.{Interest}

-- all rows are offered
abbrev pub no_limits : Interest
no_limits = record { newest = None; bytes = None }

-- the rows of interest in a box, as far as limits on their number and on the bytes of their payloads leave; without limits all
-- rows as they are, of which those in the box are told
abbrev pub offered_within : Option ℕ → Option ℕ → Ranges → List RowValue → List RowValue
offered_within None None x rows = rows
offered_within newest bytes x rows = interest rows x newest bytes

-- what is offered where both sides may read this box; where there is none, all rows, of which none is told
abbrev pub offer : Interest → Option Ranges → List RowValue → List RowValue
offer limits None rows = rows
offer limits (Some x) rows = offered_within limits.newest limits.bytes x rows
