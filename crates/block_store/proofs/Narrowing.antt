-- Which rows of one namespace a box includes, told by where they stand.
use Rattle.std.proofs.Common.{◌≡◌, ◌⊎◌, inl, inr, ℕ, zero, suc, ◌-◌, ◌≤◌, ◌<◌, Bool, true, false, List, [], ◌∷◌, length, get_or, Option, Some, None, IfSome, IfNone, MatchOption, unwrap_or, ◌↔◌, refl, sym, ap, ◌∙◌, subst, Ordering, Less, Equal, Greater, is_lt, is_gt, nat_le, leb-true, arith}
use Rattle.std.specs.List.{All, AllByRecursion, AllWithin}
use Rattle.std.specs.List.Sorted.{IsStrictlySortedBy, IsPartitionedBy, IsPartitionPoint}
use Rattle.std.specs.Borrow.{Bor}
use Rattle.std.specs.Cmp.{IsTotalOrder}
use Rattle.std.specs.Option.{option_copied}
use Rattle.std.specs.Ordering.{ordering_then, match_ordering, is_le}
use Rattle.std.proofs.lemmas.Bool.{both_ways, false_from_ne_true}
use Rattle.std.proofs.lemmas.Cmp.{upto}
use Rattle.willow_path.specs.Key.{IsKey}
use Rattle.willow_path.specs.Path.{part_cmp, path_cmp}
use Rattle.willow_path.specs.Successor.{IsAfterKey, key_after}
use Rattle.willow_path.proofs.PathOrder.{part_cmp_total, path_cmp_total, part_cmp_equal}
use Rattle.willow_path.proofs.PartSuccessor.{key_after_is}
use Rattle.willow_area.specs.Range.{Range, in_range, is_before_end}
use Rattle.willow_area.specs.Times.{Times, in_times}
use Rattle.willow_area.specs.Boxes.{Ranges}
use Rattle.willow_area.proofs.Membership.{both_of, and_of, in_time, time_in, IsBefore, below, below_holds}
use Rattle.willow_area.proofs.Orders.{less_is, is_less, not_greater, at_most_is, lt_then_lt, at_least, not_below}
use Rattle.willow_area.proofs.Cutting.{PassesBox, passes_box, box_passes}
use Rattle.willow_entry.specs.Entry.{bytes_cmp}
use Rattle.willow_entry.specs.Row.{RowValue, IsRising, place_cmp, inner_place_cmp}
use Rattle.willow_entry.proofs.Ranks.{bytes_tie, not_above_itself, tie_from_tests, place_total, place-in_one_namespace}
use Rattle.block_store.specs.Ends.{is_before_key, is_before_path}
use Rattle.block_store.specs.BoxKinds.{HasAllTimes, HasAllPaths, HasOneSubspace, IsOfOneNamespace}
use Rattle.block_store.specs.InBox.{is_in}

-- ---- orders

module _ {X : Type 0} (cmp : X → X → Ordering) (order : IsTotalOrder cmp) where
  pub le_then_lt : (x y z : X) → is_gt (cmp x y) ≡ false → is_lt (cmp y z) ≡ true → is_lt (cmp x z) ≡ true
  le_then_lt x y z h k = go (cmp x y) refl h where
    go : (o : Ordering) → cmp x y ≡ o → is_gt o ≡ false → is_lt (cmp x z) ≡ true
    go Less e h = is_less (cmp x z) (order.trans x y z e (less_is (cmp y z) k))
    go Equal e h = ap is_lt (order.congr x y z e) ∙ k
    go Greater e h = absurd cc

  -- what stands between two values of a range is in it
  pub in_range_between : (range : Range X) (x y z : X) → in_range cmp range x ≡ true → in_range cmp range z ≡ true → is_gt (cmp x y) ≡ false → is_gt (cmp y z) ≡ false → in_range cmp range y ≡ true
  in_range_between range x y z h k low high =
      let a = both_of (is_le (cmp range.start x)) (is_before_end cmp x range.end) h in
      let b = both_of (is_le (cmp range.start z)) (is_before_end cmp z range.end) k in
      and_of (is_le (cmp range.start y)) (is_before_end cmp y range.end)
      (at_most_is (cmp range.start y) (upto order range.start x y (not_greater (cmp range.start x) a.0) low))
      (ends range.end b.1)
    where
      ends : (end : Option X) → is_before_end cmp z end ≡ true → is_before_end cmp y end ≡ true
      ends None e = refl
      ends (Some end) e = le_then_lt y z end high e

at_index : {X : Type 0} (P : X → Type 0) (xs : List X) → AllByRecursion P xs → (k : ℕ) (d : X) → k < length xs → P (get_or xs k d)
at_index P [] all k d h = absurd (omega arith)
at_index P (x ∷ xs) all zero d h = all.0
at_index P (x ∷ xs) all (suc k) d h = at_index P xs all.1 k d (omega arith)

-- of rising rows none stands above a later one
pub ordered : (rows : List RowValue) → IsRising rows → (i j : ℕ) (d : RowValue) → i ≤ j → j < length rows → is_gt (place_cmp (get_or rows i d) (get_or rows j d)) ≡ false
unfolding IsStrictlySortedBy
ordered [] up i j d le lt = absurd (omega arith)
ordered (r ∷ rows) up zero zero d le lt = not_above_itself place_total r
ordered (r ∷ rows) up zero (suc j) d le lt = ap is_gt (at_index (λ s. place_cmp r s ≡ Less) rows up.0 j d (omega arith))
ordered (r ∷ rows) up (suc i) zero d le lt = absurd (omega arith)
ordered (r ∷ rows) up (suc i) (suc j) d le lt = ordered rows up.1 i j d (omega arith) (omega arith)

-- ---- one namespace

spaces_at_most : (o p : Ordering) → is_gt (ordering_then o p) ≡ false → is_gt o ≡ false
spaces_at_most Less p h = refl
spaces_at_most Equal p h = refl
spaces_at_most Greater p h = h

namespaces_rise : (r s : RowValue) → is_gt (place_cmp r s) ≡ false → is_gt (bytes_cmp r.entry.namespace s.entry.namespace) ≡ false
unfolding place_cmp
namespaces_rise r s h = spaces_at_most (bytes_cmp r.entry.namespace s.entry.namespace) (inner_place_cmp r s) h

-- where the first and the last of rising rows have one namespace, all have
pub one_namespace : (rows : List RowValue) (d : RowValue) → IsRising rows → (get_or rows 0 d).entry.namespace ≡ (get_or rows (length rows - 1) d).entry.namespace → IsOfOneNamespace rows
one_namespace rows d up same = (
  (get_or rows 0 d).entry.namespace,
  λ k e h.
      let at : get_or rows k d ≡ get_or rows k e = default rows k d e h in
      let low = namespaces_rise (get_or rows 0 d) (get_or rows k d) (ordered rows up 0 k d (omega arith) h) in
      let high = namespaces_rise (get_or rows k d) (get_or rows (length rows - 1) d) (ordered rows up k (length rows - 1) d (omega arith) (omega arith)) in
      let back : is_gt (bytes_cmp (get_or rows k d).entry.namespace (get_or rows 0 d).entry.namespace) ≡ false = ap (λ n. is_gt (bytes_cmp (get_or rows k d).entry.namespace n)) same ∙ high in
      ap (λ r. r.entry.namespace) (sym at) ∙ bytes_tie (get_or rows k d).entry.namespace (get_or rows 0 d).entry.namespace (tie_from_tests part_cmp_total (get_or rows k d).entry.namespace (get_or rows 0 d).entry.namespace back low),
)
  where
    default : (rows : List RowValue) (k : ℕ) (d e : RowValue) → k < length rows → get_or rows k d ≡ get_or rows k e
    default [] k d e h = absurd (omega arith)
    default (r ∷ rows) zero d e h = refl
    default (r ∷ rows) (suc k) d e h = default rows k d e (omega arith)

pub ends_of_one : (rows : List RowValue) (d : RowValue) → 0 < length rows → IsOfOneNamespace rows → (get_or rows 0 d).entry.namespace ≡ (get_or rows (length rows - 1) d).entry.namespace
ends_of_one rows d some one = one.1 0 d some ∙ sym (one.1 (length rows - 1) d (omega arith))

-- ---- places within a namespace

-- t stands in the subspace of r or a greater one, and in the same at no less a path
abbrev pub IsUpTo : RowValue → RowValue → Type 0
IsUpTo r t = (part_cmp r.entry.subspace t.entry.subspace ≡ Less) ⊎ ((r.entry.subspace ≡ t.entry.subspace) × (is_gt (path_cmp r.entry.path t.entry.path) ≡ false))

first_decides : (o p : Ordering) → is_gt (ordering_then o p) ≡ false → (o ≡ Less) ⊎ ((o ≡ Equal) × (is_gt p ≡ false))
first_decides Less p h = inl refl
first_decides Equal p h = inr (refl, h)
first_decides Greater p h = absurd cc

pub up_to : (r t : RowValue) → r.entry.namespace ≡ t.entry.namespace → is_gt (place_cmp r t) ≡ false → IsUpTo r t
up_to r t n h =
    elim (first_decides (bytes_cmp r.entry.subspace t.entry.subspace) (path_cmp r.entry.path t.entry.path) (ap is_gt (sym (place-in_one_namespace r t n)) ∙ h)) [
      | inl less ↦ inl less
      | inr tie ↦ inr (bytes_tie r.entry.subspace t.entry.subspace tie.0, tie.1)
    ]

pub up_to_at : (rows : List RowValue) → IsRising rows → IsOfOneNamespace rows → (i j : ℕ) (d : RowValue) → i ≤ j → j < length rows → IsUpTo (get_or rows i d) (get_or rows j d)
up_to_at rows up one i j d le lt = up_to (get_or rows i d) (get_or rows j d) (one.1 i d (omega arith) ∙ sym (one.1 j d lt)) (ordered rows up i j d le lt)

pub keys_up_to : (r t : RowValue) → IsUpTo r t → is_gt (part_cmp r.entry.subspace t.entry.subspace) ≡ false
keys_up_to r t (inl less) = ap is_gt less
keys_up_to r t (inr tie) = ap is_gt ((part_cmp_equal r.entry.subspace t.entry.subspace).1 tie.0)

-- between two rows of one subspace stand rows of that subspace, at paths between
pub between_subspace : (a t b : RowValue) → IsUpTo a t → IsUpTo t b → a.entry.subspace ≡ b.entry.subspace → a.entry.subspace ≡ t.entry.subspace
between_subspace a t b low high same =
    let back : is_gt (part_cmp t.entry.subspace a.entry.subspace) ≡ false = ap (λ s. is_gt (part_cmp t.entry.subspace s)) same ∙ keys_up_to t b high in
    bytes_tie a.entry.subspace t.entry.subspace (tie_from_tests part_cmp_total a.entry.subspace t.entry.subspace (keys_up_to a t low) back)

pub paths_up_to : (r t : RowValue) → IsUpTo r t → r.entry.subspace ≡ t.entry.subspace → is_gt (path_cmp r.entry.path t.entry.path) ≡ false
paths_up_to r t (inl less) same = absurd (less_than_itself (sym less ∙ (part_cmp_equal r.entry.subspace t.entry.subspace).1 same)) where
  less_than_itself : Less ≡ Equal → ⊥
  less_than_itself e = cc
paths_up_to r t (inr tie) same = tie.1

-- ---- the tests by ends

end_cases : (o : Ordering) (b : Bool) → match_ordering o true b false ≡ true → (o ≡ Less) ⊎ ((o ≡ Equal) × (b ≡ true))
end_cases Less b h = inl refl
end_cases Equal b h = inr (refl, h)
end_cases Greater b h = absurd cc

below_subspace : (key : List ℕ) (end : Option (List (List ℕ))) (r : RowValue) → part_cmp r.entry.subspace key ≡ Less → is_before_path key end r ≡ true
below_subspace key end r e = ap (λ o. match_ordering o true (is_before_end path_cmp r.entry.path end) false) e

at_subspace : (key : List ℕ) (end : Option (List (List ℕ))) (r : RowValue) → r.entry.subspace ≡ key → is_before_path key end r ≡ is_before_end path_cmp r.entry.path end
at_subspace key end r e = ap (λ o. match_ordering o true (is_before_end path_cmp r.entry.path end) false) ((part_cmp_equal r.entry.subspace key).1 e)

key_falls : (end : Option (List ℕ)) (r t : RowValue) → IsUpTo r t → is_before_key end t ≡ true → is_before_key end r ≡ true
key_falls None r t up h = refl
key_falls (Some end) r t up h = le_then_lt part_cmp part_cmp_total r.entry.subspace t.entry.subspace end (keys_up_to r t up) h

path_ends : (end : Option (List (List ℕ))) (p q : List (List ℕ)) → is_gt (path_cmp p q) ≡ false → is_before_end path_cmp q end ≡ true → is_before_end path_cmp p end ≡ true
path_ends None p q le h = refl
path_ends (Some end) p q le h = le_then_lt path_cmp path_cmp_total p q end le h

path_falls : (key : List ℕ) (end : Option (List (List ℕ))) (r t : RowValue) → IsUpTo r t → is_before_path key end t ≡ true → is_before_path key end r ≡ true
path_falls key end r t up h =
    elim (end_cases (part_cmp t.entry.subspace key) (is_before_end path_cmp t.entry.path end) h) [
      | inl below ↦ below_subspace key end r (less_is (part_cmp r.entry.subspace key) (le_then_lt part_cmp part_cmp_total r.entry.subspace t.entry.subspace key (keys_up_to r t up) (is_less (part_cmp t.entry.subspace key) below)))
      | inr at ↦ (
          let same : t.entry.subspace ≡ key = (part_cmp_equal t.entry.subspace key).0 at.0 in
          elim up [
            | inl less ↦ below_subspace key end r (ap (part_cmp r.entry.subspace) (sym same) ∙ less)
            | inr tie ↦ at_subspace key end r (tie.0 ∙ same) ∙ path_ends end r.entry.path t.entry.path tie.1 at.1
          ])
    ]

module _ (rows : List RowValue) (up : IsRising rows) (one : IsOfOneNamespace rows) where
  pub key_partitioned : (end : Option (List ℕ)) → IsPartitionedBy (is_before_key end) rows
  key_partitioned end i j d le lt e = key_falls end (get_or rows i d) (get_or rows j d) (up_to_at rows up one i j d le lt) e

  pub path_partitioned : (key : List ℕ) (end : Option (List (List ℕ))) → IsPartitionedBy (is_before_path key end) rows
  path_partitioned key end i j d le lt e = path_falls key end (get_or rows i d) (get_or rows j d) (up_to_at rows up one i j d le lt) e

-- what is below the start of a range is below its end
pub key_start_first : (start : List ℕ) (end : Option (List ℕ)) (r : RowValue) → is_before_end part_cmp start end ≡ true → is_before_key (Some start) r ≡ true → is_before_key end r ≡ true
key_start_first start None r up h = refl
key_start_first start (Some end) r up h = lt_then_lt part_cmp part_cmp_total r.entry.subspace start end h up

pub path_start_first : (key : List ℕ) (start : List (List ℕ)) (end : Option (List (List ℕ))) (r : RowValue) → is_before_end path_cmp start end ≡ true → is_before_path key (Some start) r ≡ true → is_before_path key end r ≡ true
path_start_first key start end r up h =
    elim (end_cases (part_cmp r.entry.subspace key) (is_lt (path_cmp r.entry.path start)) h) [
      | inl below ↦ below_subspace key end r below
      | inr at ↦ at_subspace key end r ((part_cmp_equal r.entry.subspace key).0 at.0) ∙ ends end up at.1
    ]
  where
    ends : (end : Option (List (List ℕ))) → is_before_end path_cmp start end ≡ true → is_lt (path_cmp r.entry.path start) ≡ true → is_before_end path_cmp r.entry.path end ≡ true
    ends None up k = refl
    ends (Some end) up k = lt_then_lt path_cmp path_cmp_total r.entry.path start end k up

-- rows between two of one subspace have that subspace
pub one_between : (rows : List RowValue) → IsRising rows → IsOfOneNamespace rows → (low high : ℕ) (d : RowValue) → high ≤ length rows → (get_or rows low d).entry.subspace ≡ (get_or rows (high - 1) d).entry.subspace
    → (k : ℕ) → low ≤ k → k < high → (get_or rows low d).entry.subspace ≡ (get_or rows k d).entry.subspace
one_between rows up one low high d within same k le lt =
    between_subspace (get_or rows low d) (get_or rows k d) (get_or rows (high - 1) d) (up_to_at rows up one low k d le (omega arith)) (up_to_at rows up one k (high - 1) d (omega arith) (omega arith)) same

-- what the comparison of the first namespace with the last tells
pub namespaces_told : (rows : List RowValue) (last : ℕ) → last ≡ length rows - 1 → IsRising rows → 0 < length rows → (told : Option Bool)
    → IfSome told (λ same. (d : RowValue) → (same ≡ true) ↔ ((get_or rows 0 d).entry.namespace ≡ (get_or rows last d).entry.namespace)) → IfNone told ⊥
    → (unwrap_or told true ≡ true) ↔ IsOfOneNamespace rows
namespaces_told [] last e up some told says none = absurd (omega arith)
namespaces_told (r ∷ rows) last e up some None says none = absurd none
namespaces_told (r ∷ rows) last e up some (Some same) says none = (
  (λ t. one_namespace (r ∷ rows) r up ((says r).0 t ∙ ap (λ k. (get_or (r ∷ rows) k r).entry.namespace) e)),
  (λ one. (says r).1 (ends_of_one (r ∷ rows) r some one ∙ ap (λ k. (get_or (r ∷ rows) k r).entry.namespace) (sym e))),
)

-- ---- the box

module _ (area : Ranges) where
  pub all_times : HasAllTimes area → (time : ℕ) → in_times area.times time ≡ true
  all_times h time = in_time area.times time (omega (arith, h.0)) (subst (IsBefore time) (sym h.1) refl)

  pub all_paths : HasAllPaths area → (path : List (List ℕ)) → in_range path_cmp area.paths path ≡ true
  all_paths h path =
      let low : is_le (path_cmp area.paths.start path) ≡ true = ap (λ start. is_le (path_cmp start path)) h.0 ∙ least path in
      let high : is_before_end path_cmp path area.paths.end ≡ true = ap (is_before_end path_cmp path) h.1 in
      and_of (is_le (path_cmp area.paths.start path)) (is_before_end path_cmp path area.paths.end) low high
    where
      least : (path : List (List ℕ)) → is_le (path_cmp [] path) ≡ true
      least [] = refl
      least (part ∷ path) = refl

  module _ (r : RowValue) where
    abbrev Passes : Type 0
    Passes = PassesBox area r.entry.subspace r.entry.path r.entry.timestamp

    pub is_in_box : Passes → is_in area r ≡ true
    is_in_box p = box_passes area r.entry.subspace r.entry.path r.entry.timestamp p

    pub in_box_is : is_in area r ≡ true → Passes
    in_box_is h = passes_box area r.entry.subspace r.entry.path r.entry.timestamp h

    -- a row below the keys of the box, or not below their end, is outside
    pub key_before : is_before_key (Some area.keys.start) r ≡ true → is_in area r ≡ false
    key_before h = false_from_ne_true (is_in area r) (λ t.
        let k = both_of (is_le (part_cmp area.keys.start r.entry.subspace)) (is_before_end part_cmp r.entry.subspace area.keys.end) (in_box_is t).key_in in
        both_ways (is_lt (part_cmp r.entry.subspace area.keys.start)) (not_below part_cmp part_cmp_total r.entry.subspace area.keys.start k.0) h)

    pub key_behind : is_before_key area.keys.end r ≡ false → is_in area r ≡ false
    key_behind h = false_from_ne_true (is_in area r) (λ t.
        let k = both_of (is_le (part_cmp area.keys.start r.entry.subspace)) (is_before_end part_cmp r.entry.subspace area.keys.end) (in_box_is t).key_in in
        both_ways (is_before_end part_cmp r.entry.subspace area.keys.end) h k.1)

    -- and any other has a key of the box
    pub key_inside : is_before_key (Some area.keys.start) r ≡ false → is_before_key area.keys.end r ≡ true → in_range part_cmp area.keys r.entry.subspace ≡ true
    key_inside low high = and_of (is_le (part_cmp area.keys.start r.entry.subspace)) (is_before_end part_cmp r.entry.subspace area.keys.end) (at_least part_cmp part_cmp_total r.entry.subspace area.keys.start low) high

    pub key_not_before : in_range part_cmp area.keys r.entry.subspace ≡ true → is_before_key (Some area.keys.start) r ≡ false
    key_not_before h =
        let k = both_of (is_le (part_cmp area.keys.start r.entry.subspace)) (is_before_end part_cmp r.entry.subspace area.keys.end) h in
        not_below part_cmp part_cmp_total r.entry.subspace area.keys.start k.0

    pub key_below_end : in_range part_cmp area.keys r.entry.subspace ≡ true → is_before_key area.keys.end r ≡ true
    key_below_end h = (both_of (is_le (part_cmp area.keys.start r.entry.subspace)) (is_before_end part_cmp r.entry.subspace area.keys.end) h).1

    pub whole_inside : HasAllTimes area → HasAllPaths area → is_before_key (Some area.keys.start) r ≡ false → is_before_key area.keys.end r ≡ true → is_in area r ≡ true
    whole_inside times paths low high = is_in_box (record { key_in = key_inside low high; path_in = all_paths paths r.entry.path; time_in = all_times times r.entry.timestamp })

    -- ---- where no other subspace of the rows is in the box

    module _ (key : List ℕ) (only : in_range part_cmp area.keys r.entry.subspace ≡ true → key ≡ r.entry.subspace) where
      pub path_before : is_before_path key (Some area.paths.start) r ≡ true → is_in area r ≡ false
      path_before h = false_from_ne_true (is_in area r) (λ t.
          let p = in_box_is t in
          let q = both_of (is_le (path_cmp area.paths.start r.entry.path)) (is_before_end path_cmp r.entry.path area.paths.end) p.path_in in
          both_ways (is_lt (path_cmp r.entry.path area.paths.start)) (not_below path_cmp path_cmp_total r.entry.path area.paths.start q.0)
          (sym (at_subspace key (Some area.paths.start) r (sym (only p.key_in))) ∙ h))

      pub path_behind : is_before_path key area.paths.end r ≡ false → is_in area r ≡ false
      path_behind h = false_from_ne_true (is_in area r) (λ t.
          let p = in_box_is t in
          let q = both_of (is_le (path_cmp area.paths.start r.entry.path)) (is_before_end path_cmp r.entry.path area.paths.end) p.path_in in
          both_ways (is_before_path key area.paths.end r) h (at_subspace key area.paths.end r (sym (only p.key_in)) ∙ q.1))

    pub path_inside : (key : List ℕ) → in_range part_cmp area.keys key ≡ true → HasAllTimes area → is_before_path key (Some area.paths.start) r ≡ false → is_before_path key area.paths.end r ≡ true → is_in area r ≡ true
    path_inside key within times low high =
        elim (end_cases (part_cmp r.entry.subspace key) (is_before_end path_cmp r.entry.path area.paths.end) high) [
          | inl below ↦ absurd (both_ways (is_before_path key (Some area.paths.start) r) low (below_subspace key (Some area.paths.start) r below))
          | inr at ↦ (
              let same : r.entry.subspace ≡ key = (part_cmp_equal r.entry.subspace key).0 at.0 in
              let from : is_lt (path_cmp r.entry.path area.paths.start) ≡ false = sym (at_subspace key (Some area.paths.start) r same) ∙ low in
              is_in_box (record {
                key_in = ap (in_range part_cmp area.keys) same ∙ within;
                path_in = and_of (is_le (path_cmp area.paths.start r.entry.path)) (is_before_end path_cmp r.entry.path area.paths.end) (at_least path_cmp path_cmp_total r.entry.path area.paths.start from) at.1;
                time_in = all_times times r.entry.timestamp;
              }))
        ]

  -- a box of one subspace has no other key
  pub one_key : HasOneSubspace area → (key : List ℕ) → IsKey area.keys.start → IsKey key → in_range part_cmp area.keys key ≡ true → area.keys.start ≡ key
  one_key one key f k h =
      let p = both_of (is_le (part_cmp area.keys.start key)) (is_before_end part_cmp key area.keys.end) h in
      go (part_cmp area.keys.start key) refl p.0 (key_after area.keys.start) (key_after_is area.keys.start f) (ap (is_before_end part_cmp key) (sym one) ∙ p.1)
    where
      go : (o : Ordering) → part_cmp area.keys.start key ≡ o → is_le o ≡ true → (end : Option (List ℕ)) → IsAfterKey area.keys.start end → is_before_end part_cmp key end ≡ true → area.keys.start ≡ key
      go Less e low None is before = absurd (is key k e)
      go Less e low (Some next) is before = absurd (both_ways (is_lt (part_cmp key next)) (not_below part_cmp part_cmp_total key next (at_most_is (part_cmp next key) (is.least key k e))) before)
      go Equal e low end is before = (part_cmp_equal area.keys.start key).0 e
      go Greater e low end is before = absurd cc

  -- a row between two that are in the box is in it, where it was written within its times, and the two are of one subspace or no path is outside
  pub between_in : (a r b : RowValue) → IsUpTo a r → IsUpTo r b → is_in area a ≡ true → is_in area b ≡ true → in_times area.times r.entry.timestamp ≡ true → (a.entry.subspace ≡ b.entry.subspace) ⊎ HasAllPaths area → is_in area r ≡ true
  between_in a r b low high first last times paths =
      let p = in_box_is a first in
      let q = in_box_is b last in
      is_in_box r (record {
        key_in = in_range_between part_cmp part_cmp_total area.keys a.entry.subspace r.entry.subspace b.entry.subspace p.key_in q.key_in (keys_up_to a r low) (keys_up_to r b high);
        path_in = elim paths [
          | inl same ↦ (
              let here = between_subspace a r b low high same in
              in_range_between path_cmp path_cmp_total area.paths a.entry.path r.entry.path b.entry.path p.path_in q.path_in (paths_up_to a r low here) (paths_up_to r b high (sym here ∙ same)))
          | inr all ↦ all_paths all r.entry.path
        ];
        time_in = times;
      })

-- a time between two of a range is in it
pub times_between : (times : Times) (early time late : ℕ) → in_times times early ≡ true → in_times times late ≡ true → early ≤ time → time ≤ late → in_times times time ≡ true
times_between times early time late h k le ge =
    let low = time_in times early h in
    let high = time_in times late k in
    in_time times time (omega (arith, low.0)) (before times.end high.1)
  where
    before : (end : Option ℕ) → IsBefore late end → IsBefore time end
    before None b = b
    before (Some end) b = below_holds time end (omega (arith, below late end b))

-- what an end read by reference is
pub copied_is : {X : Type 0} (read : Option (Bor X)) (end : Option X) → MatchOption read (end ≡ None) (λ x. end ≡ Some x.now) → option_copied read ≡ end
copied_is None end h = sym h
copied_is (Some x) end h = sym h

-- ---- the rows between the ends of the box's keys

some_row : (rows : List RowValue) → 0 < length rows → RowValue
some_row [] h = absurd (omega arith)
some_row (r ∷ rows) h = r

module _ (rows : List RowValue) (area : Ranges) (i j : ℕ) (key : List ℕ)
    (low : IsPartitionPoint (λ r. is_before_key (Some area.keys.start) r ≡ true) (λ r. is_before_key (Some area.keys.start) r ≡ false) rows i)
    (high : IsPartitionPoint (λ r. is_before_key area.keys.end r ≡ true) (λ r. is_before_key area.keys.end r ≡ false) rows j)
    (within : j ≤ length rows) where
  pub inside_at : (k : ℕ) (d : RowValue) → i ≤ k → k < j → in_range part_cmp area.keys (get_or rows k d).entry.subspace ≡ true
  inside_at k d le lt = key_inside area (get_or rows k d) (low.1 k d le (omega arith)) (high.0 k d (omega arith) lt)

  module _ (one : AllWithin (λ r. key ≡ r.entry.subspace) rows i j) where
    -- a subspace that they have is in the box
    pub key_within : i < j → in_range part_cmp area.keys key ≡ true
    key_within lt = let d = some_row rows (omega arith) in ap (in_range part_cmp area.keys) (one i d (omega arith) lt) ∙ inside_at i d (omega arith) lt

    -- and where it is their one, no other row has a subspace of the box
    pub only_one : All (λ r. in_range part_cmp area.keys r.entry.subspace ≡ true → key ≡ r.entry.subspace) rows
    only_one k d lt h = front (nat_le i k) refl where
      not_at_most : (m n : ℕ) → nat_le m n ≡ false → n < m
      not_at_most m n e = grind arith

      back : i ≤ k → (b : Bool) → nat_le j k ≡ b → key ≡ (get_or rows k d).entry.subspace
      back le true e = absurd (both_ways (is_before_key area.keys.end (get_or rows k d)) (high.1 k d (leb-true j k e) lt) (key_below_end area (get_or rows k d) h))
      back le false e = one k d le (not_at_most j k e)

      front : (b : Bool) → nat_le i k ≡ b → key ≡ (get_or rows k d).entry.subspace
      front true e = back (leb-true i k e) (nat_le j k) refl
      front false e = absurd (both_ways (is_before_key (Some area.keys.start) (get_or rows k d)) (key_not_before area (get_or rows k d) h) (low.0 k d (omega arith) (not_at_most i k e)))
