-- What the rows of interest are: some of the rows, all in the box, and live.
use Rattle.std.proofs.Common.{◌≡◌, ℕ, ◌≤◌, List, length, take, Option, Contains, ap, subst, arith}
use Rattle.willow_area.specs.Boxes.{Ranges}
use Rattle.willow_entry.specs.Row.{RowValue, AreLive, place_cmp}
use Rattle.willow_entry.proofs.Members.{Member, contains_from_member, member_from_contains, filter_member}
use Rattle.willow_entry.proofs.Ranks.{place_total}
use Rattle.willow_entry.proofs.Rising.{rising-rises, member_from_rising}
use Rattle.block_store.specs.InBox.{is_in, rows_in}
use Rattle.recency_index.specs.Rows.{row_recency_cmp, newest_rows}
use Rattle.area_interest.specs.Interest.{latest, interest}
use Rattle.area_interest.proofs.Choosing.{live_among}
use Rattle.area_interest.proofs.Fronts.{front_is_take}
use Rattle.area_interest.proofs.Lists.{taken, few_rising, few_filter, few_taken, all_pass}

module _ (rows : List RowValue) (area : Ranges) (count bytes : Option ℕ) where
  abbrev kept : List RowValue
  kept = latest count bytes (rows_in area rows)

  kept_is : kept ≡ take (length kept) (newest_rows (rows_in area rows))
  kept_is = front_is_take (λ (r : RowValue). r.entry.length) count bytes 0 0 (newest_rows (rows_in area rows))

  in_box : (r : RowValue) → Member (interest rows area count bytes) r → Member (rows_in area rows) r
  in_box r m = member_from_rising row_recency_cmp (rows_in area rows) r (taken (newest_rows (rows_in area rows)) (length kept) r (subst (λ l. Member l r) kept_is (member_from_rising place_cmp kept r m)))

  -- the box includes each of them
  pub all_inside : rows_in area (interest rows area count bytes) ≡ interest rows area count bytes
  all_inside = all_pass (is_in area) (interest rows area count bytes) (λ r m. (filter_member (is_in area) rows r (in_box r m)).1)

  pub all_among : (r : RowValue) → Contains (interest rows area count bytes) r → Contains rows r
  all_among r c = contains_from_member rows r (filter_member (is_in area) rows r (in_box r (member_from_contains (interest rows area count bytes) r c))).0

  pub all_live : AreLive rows → AreLive (interest rows area count bytes)
  all_live is = live_among rows is (interest rows area count bytes) (rising-rises place_cmp place_total kept) (λ r m. (filter_member (is_in area) rows r (in_box r m)).0)

  pub no_more : length (interest rows area count bytes) ≤ length rows
  no_more = omega (arith, few_rising place_cmp kept, ap length kept_is, few_taken (length kept) (newest_rows (rows_in area rows)), few_rising row_recency_cmp (rows_in area rows), few_filter (is_in area) rows)
