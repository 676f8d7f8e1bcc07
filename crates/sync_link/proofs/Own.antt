-- A side tells only rows that it began with, each no more often than it is there.
use Rattle.std.proofs.Common.{◌≡◌, ◌≤◌, Bool, List, [], ◌∷◌, count_by, filter_map, inl, inr, Option, Some, None, refl, sym, ap, ◌∙◌, subst, arith}
use Rattle.std.specs.List.{cons_option}
use Rattle.willow_area.specs.Boxes.{Ranges}
use Rattle.willow_entry.specs.Row.{RowValue, same_row}
use Rattle.willow_entry.proofs.Members.{Member, contains_from_member, member_from_contains}
use Rattle.willow_entry.proofs.RowLaws.{same_row_decides}
use Rattle.block_store.specs.InBox.{is_in}
use Rattle.exchange_rules.proofs.Members.{contains_counted, counted_contains}
use Rattle.exchange_rules.proofs.Sums.{count_by-filter-le}
use Rattle.sync_msg.specs.Items.{ItemValue}
use Rattle.sync_core.specs.Flat.{row_in}
use Rattle.sync_core.specs.Place.{Place, first_place, rows_of_area}
use Rattle.sync_core.proofs.Weighing.{weight, said_weight, heard_weight, first_weight}
use Rattle.session_rules.specs.Reading.{said}
use Rattle.session_rules.specs.Talk.{TellsNoMore, TellsOwn, talk}
use Rattle.session_rules.proofs.Weighing.{told_within}
use Rattle.sync_link.specs.Greetings.{role_of}
use Rattle.sync_link.specs.Places.{places}

-- an area has no more of the rows that pass
few_in : (passes : RowValue → Bool) (rows : List RowValue) (box : Option Ranges) → count_by passes (rows_of_area box rows) ≤ count_by passes rows
few_in passes rows None = omega arith
few_in passes rows (Some x) = count_by-filter-le passes (is_in x) rows

pub tells_no_more : TellsNoMore places
tells_no_more role rows agreed bytes passes =
    let begun : Place = first_place agreed.version (role_of role) rows agreed.box in
    let told : count_by passes (filter_map row_in (said (talk places role rows agreed) bytes)) ≤ weight passes begun = told_within places passes (weight passes) (said_weight passes) (heard_weight passes) role rows agreed bytes in
    omega (arith, told, first_weight passes agreed.version (role_of role) rows agreed.box, few_in passes rows agreed.box)

-- the row of an item stands among those of some items, if the item does
row_among : (items : List ItemValue) (item : ItemValue) (row : RowValue) → Member items item → row_in item ≡ Some row → Member (filter_map row_in items) row
row_among [] item row m is = absurd m
row_among (first ∷ items) item row (inl e) is = subst (λ o. Member (cons_option o (filter_map row_in items)) row) (sym (ap row_in e ∙ is)) (inl refl)
row_among (first ∷ items) item row (inr m) is = behind (row_in first) (row_among items item row m is)
  where
    behind : (o : Option RowValue) → Member (filter_map row_in items) row → Member (cons_option o (filter_map row_in items)) row
    behind None there = there
    behind (Some other) there = inr there

pub tells_own : TellsOwn places
tells_own role rows agreed bytes item row c is =
    let items = said (talk places role rows agreed) bytes in
    let told = contains_from_member (filter_map row_in items) row (row_among items item row (member_from_contains items item c) is) in
    counted_contains (same_row row) row (λ s e. sym ((same_row_decides row s).0 e)) rows
    (omega (arith, contains_counted (same_row row) (filter_map row_in items) row ((same_row_decides row row).1 refl) told, tells_no_more role rows agreed bytes (same_row row)))
