-- The least subspace above another, part by part of a list, and what it is.
use Rattle.std.proofs.Common.{◌≡◌, ◌↔◌, inl, inr, ℕ, suc, ◌+◌, Bool, true, false, ◌&&◌, cond, List, [], ◌∷◌, ◌++◌, Option, Some, None, map, filter, get_or, slice_get, take, refl, sym, ap, ◌∙◌, subst, Ordering, Less, is_lt, is_gt, arith}
use Rattle.std.specs.Prelude.{All}
use Rattle.std.specs.Ordering.{ord_min, ordering_reverse}
use Rattle.std.specs.Bool.{then_some}
use Rattle.std.specs.Cmp.{IsTotalOrder}
use Rattle.std.proofs.Math.Seq.{take-suc}
use Rattle.std.proofs.lemmas.Bool.{false≢true, false_from_ne_true}
use Rattle.std.proofs.lemmas.Cmp.{nat_list_cmp_total, tied_itself, upto}
use Rattle.std.proofs.lemmas.List.{map-append}
use Rattle.std.proofs.lemmas.List.Elements.{filter-append, All-contains, Contains-get_or}
use Rattle.std.proofs.lemmas.Option.{same_Some, none-some, slice_get_within, get_or_from_slice_get}
use Rattle.willow_area.specs.Boxes.{Ranges}
use Rattle.willow_area.proofs.Orders.{lt_then_lt, less_at_most, at_least, not_below, not_greater, at_most_is}
use Rattle.willow_entry.specs.Entry.{bytes_cmp}
use Rattle.willow_entry.specs.Row.{RowValue}
use Rattle.willow_entry.proofs.Members.{Member, contains_from_member, member_from_contains, member_filter, filter_member}
use Rattle.willow_entry.proofs.Ranks.{greater_from_test}
use Rattle.block_store.specs.InBox.{rows_in, is_in}
use Rattle.range_split.specs.Choice.{subspaces_of}
use Rattle.range_split.specs.Least.{lesser, least, least_above, IsNext}

-- ---- part by part

module _ {K : Type 0} (cmp : K → K → Ordering) (order : IsTotalOrder cmp) where
  not_lt_then_not_lt : (x y z : K) → is_lt (cmp y x) ≡ false → is_lt (cmp z y) ≡ false → is_lt (cmp z x) ≡ false
  not_lt_then_not_lt x y z h k =
      not_below cmp order z x
      (at_most_is (cmp x z) (upto order x y z (not_greater (cmp x y) (at_least cmp order y x h)) (not_greater (cmp y z) (at_least cmp order z y k))))

  least_of_three : (p q : Bool) (a b c : K) → is_lt (cmp b a) ≡ p → is_lt (cmp c b) ≡ q
      → cond (is_lt (cmp c (cond p b a))) c (cond p b a) ≡ cond (is_lt (cmp (cond q c b) a)) (cond q c b) a
  least_of_three true true a b c h k = ap (λ t. cond t c b) k ∙ sym (ap (λ t. cond t c a) (lt_then_lt cmp order c b a k h))
  least_of_three true false a b c h k = ap (λ t. cond t c b) k ∙ sym (ap (λ t. cond t b a) h)
  least_of_three false true a b c h k = refl
  least_of_three false false a b c h k = ap (λ t. cond t c a) (not_lt_then_not_lt a b c h k) ∙ sym (ap (λ t. cond t b a) h)

  ord_min-assoc : (a b c : K) → ord_min cmp (ord_min cmp a b) c ≡ ord_min cmp a (ord_min cmp b c)
  ord_min-assoc a b c = least_of_three (is_lt (cmp b a)) (is_lt (cmp c b)) a b c refl refl

lesser-assoc : (a b c : Option (List ℕ)) → lesser (lesser a b) c ≡ lesser a (lesser b c)
lesser-assoc None b c = refl
lesser-assoc (Some a) None c = refl
lesser-assoc (Some a) (Some b) None = refl
lesser-assoc (Some a) (Some b) (Some c) = ap (λ (key : List ℕ). Some key) (ord_min-assoc bytes_cmp nat_list_cmp_total a b c)

least-append : (xs ys : List (List ℕ)) → least (xs ++ ys) ≡ lesser (least xs) (least ys)
least-append [] ys = refl
least-append (x ∷ xs) ys = ap (lesser (Some x)) (least-append xs ys) ∙ sym (lesser-assoc (Some x) (least xs) (least ys))

-- the least subspace above another of rows that stand in two parts
pub least_of-append : (low : List ℕ) (xs ys : List RowValue) → least_above low (subspaces_of (xs ++ ys)) ≡ lesser (least_above low (subspaces_of xs)) (least_above low (subspaces_of ys))
least_of-append low xs ys =
    let subspace : RowValue → List ℕ = λ row. row.entry.subspace in
    let above : List ℕ → Bool = λ key. is_gt (bytes_cmp key low) in
    ap (least_above low) (map-append subspace xs ys)
    ∙ ap least (filter-append above (map subspace xs) (map subspace ys))
    ∙ least-append (filter above (map subspace xs)) (filter above (map subspace ys))

-- the same of the rows in a box
pub least_in-append : (low : List ℕ) (area : Ranges) (xs ys : List RowValue)
    → least_above low (subspaces_of (rows_in area (xs ++ ys))) ≡ lesser (least_above low (subspaces_of (rows_in area xs))) (least_above low (subspaces_of (rows_in area ys)))
least_in-append low area xs ys = ap (λ rows. least_above low (subspaces_of rows)) (filter-append (is_in area) xs ys) ∙ least_of-append low (rows_in area xs) (rows_in area ys)

-- the same of one row
pub least_in-one : (low : List ℕ) (area : Ranges) (row : RowValue) → least_above low (subspaces_of (rows_in area (row ∷ []))) ≡ then_some (is_in area row && is_gt (bytes_cmp row.entry.subspace low)) row.entry.subspace
least_in-one low area row = by_tests (is_in area row) (is_gt (bytes_cmp row.entry.subspace low)) refl
  where
    by_tests : (inside above : Bool) → is_gt (bytes_cmp row.entry.subspace low) ≡ above → least_above low (subspaces_of (cond inside (row ∷ []) [])) ≡ then_some (inside && above) row.entry.subspace
    by_tests true true e = ap (λ t. least (cond t (row.entry.subspace ∷ []) [])) e
    by_tests true false e = ap (λ t. least (cond t (row.entry.subspace ∷ []) [])) e
    by_tests false above e = refl

-- one row more
pub least_in-more : (low : List ℕ) (area : Ranges) (rows : List RowValue) (i : ℕ) (row : RowValue) → slice_get rows i ≡ Some row
    → least_above low (subspaces_of (rows_in area (take (i + 1) rows))) ≡ lesser (least_above low (subspaces_of (rows_in area (take i rows)))) (least_above low (subspaces_of (rows_in area (row ∷ []))))
least_in-more low area rows i row h =
    let next : i + 1 ≡ suc i = omega arith in
    let longer : take (i + 1) rows ≡ take i rows ++ row ∷ [] =
    ap (λ n. take n rows) next ∙ take-suc rows i row (slice_get_within rows i row h) ∙ ap (λ x. take i rows ++ x ∷ []) (get_or_from_slice_get rows i row row h) in
    ap (λ l. least_above low (subspaces_of (rows_in area l))) longer ∙ least_in-append low area (take i rows) (row ∷ [])

-- ---- what it is

record IsLeast (keys : List (List ℕ)) (key : List ℕ) : Type 0 where
  member : Member keys key
  least : (other : List ℕ) → Member keys other → is_gt (bytes_cmp key other) ≡ false

never_none : (key : List ℕ) (other : Option (List ℕ)) → lesser (Some key) other ≡ None → ⊥
never_none key None h = cc
never_none key (Some other) h = cc

no_key : (keys : List (List ℕ)) → least keys ≡ None → (key : List ℕ) → Member keys key → ⊥
no_key [] h key m = m
no_key (k ∷ keys) h key m = never_none k (least keys) h

not_above_itself : (key : List ℕ) → is_gt (bytes_cmp key key) ≡ false
not_above_itself key = ap is_gt (tied_itself nat_list_cmp_total key)

lesser_least : (k : List ℕ) (keys : List (List ℕ)) (found : Option (List ℕ)) → least keys ≡ found → ((m : List ℕ) → found ≡ Some m → IsLeast keys m) → (key : List ℕ) → lesser (Some k) found ≡ Some key → IsLeast (k ∷ keys) key
lesser_least k keys None e rec key h =
    let same = same_Some k key h in
    record {
      member = inl same;
      least = λ other m. elim m [ inl q ↦ ap (λ w. is_gt (bytes_cmp w other)) (sym same ∙ q) ∙ not_above_itself other | inr n ↦ absurd (no_key keys e other n) ];
    }
lesser_least k keys (Some m) e rec key h = subst (IsLeast (k ∷ keys)) (same_Some (ord_min bytes_cmp k m) key h) (by_test (is_lt (bytes_cmp m k)) refl)
  where
    rest : IsLeast keys m
    rest = rec m refl

    by_test : (below : Bool) → is_lt (bytes_cmp m k) ≡ below → IsLeast (k ∷ keys) (cond below m k)
    by_test true q = record {
      member = inr rest.member;
      least = λ other n. elim n [ inl p ↦ ap (λ w. is_gt (bytes_cmp m w)) (sym p) ∙ less_at_most (bytes_cmp m k) q | inr l ↦ rest.least other l ];
    }
    by_test false q = record {
      member = inl refl;
      least = λ other n. elim n [
        | inl p ↦ ap (λ w. is_gt (bytes_cmp k w)) (sym p) ∙ not_above_itself k
        | inr l ↦ upto nat_list_cmp_total k m other (not_greater (bytes_cmp k m) (at_least bytes_cmp nat_list_cmp_total m k q)) (rest.least other l)
      ];
    }

least_is : (keys : List (List ℕ)) (key : List ℕ) → least keys ≡ Some key → IsLeast keys key
least_is [] key h = absurd (none-some key h)
least_is (k ∷ keys) key h = lesser_least k keys (least keys) refl (least_is keys) key h

turned : (a b : List ℕ) → is_gt (bytes_cmp a b) ≡ true → bytes_cmp b a ≡ Less
turned a b h = nat_list_cmp_total.antisymm b a ∙ ap ordering_reverse (greater_from_test (bytes_cmp a b) h)

turned_back : (a b : List ℕ) → bytes_cmp b a ≡ Less → is_gt (bytes_cmp a b) ≡ true
turned_back a b h = ap is_gt (nat_list_cmp_total.antisymm a b ∙ ap ordering_reverse h)

pub least_above_is : (low key : List ℕ) (keys : List (List ℕ)) → least_above low keys ≡ Some key → IsNext low keys key
least_above_is low key keys h =
    let above : List ℕ → Bool = λ k. is_gt (bytes_cmp k low) in
    let found = least_is (filter above keys) key h in
    let one = filter_member above keys key found.member in
    record {
      member = contains_from_member keys key one.0;
      above = turned key low one.1;
      least = λ other there over. found.least other (member_filter above keys other (member_from_contains keys other there) (turned_back other low over));
    }

pub least_above_none : (low : List ℕ) (keys : List (List ℕ)) → (least_above low keys ≡ None) ↔ All (λ key. is_gt (bytes_cmp key low) ≡ false) keys
least_above_none low keys = (there, back) where
  there : least_above low keys ≡ None → All (λ key. is_gt (bytes_cmp key low) ≡ false) keys
  there h k d inside =
      let key = get_or keys k d in
      let m = member_from_contains keys key (Contains-get_or keys k d inside) in
      false_from_ne_true (is_gt (bytes_cmp key low)) (λ t. no_key (filter (λ w. is_gt (bytes_cmp w low)) keys) h key (member_filter (λ w. is_gt (bytes_cmp w low)) keys key m t))

  none : (passing : List (List ℕ)) → ((key : List ℕ) → Member passing key → ⊥) → least passing ≡ None
  none [] h = refl
  none (key ∷ passing) h = absurd (h key (inl refl))

  back : All (λ key. is_gt (bytes_cmp key low) ≡ false) keys → least_above low keys ≡ None
  back all = none (filter (λ w. is_gt (bytes_cmp w low)) keys) (λ key m.
      let one = filter_member (λ w. is_gt (bytes_cmp w low)) keys key m in
      false≢true (sym (All-contains (λ w. is_gt (bytes_cmp w low) ≡ false) keys key all (contains_from_member keys key one.0)) ∙ one.1))
