-- Without limits all rows of a box are of interest.
use Rattle.std.proofs.Common.{◌≡◌, ℕ, ◌+◌, List, [], ◌∷◌, get_or, None, refl, ap, ◌∙◌}
use Rattle.std.proofs.lemmas.List.Elements.{Contains-get_or, All-contains}
use Rattle.willow_area.specs.Boxes.{Ranges}
use Rattle.willow_entry.specs.Pruning.{rising}
use Rattle.willow_entry.specs.Row.{RowValue, AreLive, place_cmp}
use Rattle.willow_entry.proofs.Between.{rising_live}
use Rattle.willow_entry.proofs.Members.{member_from_contains, contains_from_member, filter_member}
use Rattle.willow_entry.proofs.Ranks.{place_total}
use Rattle.willow_entry.proofs.Rising.{rising-rises, same_rising, member_from_rising, member_rising}
use Rattle.block_store.specs.BoxKinds.{IsOfOneNamespace}
use Rattle.block_store.specs.InBox.{is_in, rows_in}
use Rattle.recency_index.specs.Rows.{row_recency_cmp, newest_rows}
use Rattle.area_interest.specs.Interest.{front, TakesAllInside}
use Rattle.area_interest.proofs.Choosing.{apart, tied_is_one, live_part}

pub all_left : {A : Type 0} (size : A → ℕ) (n s : ℕ) (xs : List A) → front size None None n s xs ≡ xs
all_left size n s [] = refl
all_left size n s (x ∷ xs) = ap (λ l. x ∷ l) (all_left size (n + 1) (s + size x) xs)

-- the rows of a box are of the namespace of all
pub one_inside : (rows : List RowValue) (area : Ranges) → IsOfOneNamespace rows → IsOfOneNamespace (rows_in area rows)
one_inside rows area own = (
  own.0,
  λ k d within.
      let inner = rows_in area rows in
      let r = get_or inner k d in
      All-contains (λ (t : RowValue). t.entry.namespace ≡ own.0) rows r own.1 (contains_from_member rows r (filter_member (is_in area) rows r (member_from_contains inner r (Contains-get_or inner k d within))).0),
)

pub takes_all : (rows : List RowValue) (area : Ranges) → AreLive rows → IsOfOneNamespace rows → TakesAllInside rows area
takes_all rows area is one =
    let inner = rows_in area rows in
    let own = one_inside rows area one in
    let up = rising_live inner (live_part rows is (is_in area)) in
    let by_recency = newest_rows inner in
    ap (rising place_cmp) (all_left (λ (r : RowValue). r.entry.length) 0 0 by_recency)
    ∙ same_rising place_cmp place_total (rising place_cmp by_recency) inner (rising-rises place_cmp place_total by_recency) up
    (λ r m. member_from_rising row_recency_cmp inner r (member_from_rising place_cmp by_recency r m))
    (λ r m. member_rising place_cmp by_recency
    (λ a b ma mb tied. tied_is_one inner up a b (member_from_rising row_recency_cmp inner a ma) (member_from_rising row_recency_cmp inner b mb) tied) r
    (member_rising row_recency_cmp inner (apart own.0 inner (live_part rows is (is_in area)) own.1) r m))
