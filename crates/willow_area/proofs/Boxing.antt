-- The box of an area includes just the area's triples.
use Rattle.std.proofs.Common.{◌≡◌, ℕ, zero, suc, true, List, [], ◌∷◌, length, Option, Some, None, nat_cmp, replicate, refl, ap, subst, ◌↔◌, arith}
use Rattle.std.specs.Prelude.{IfSome}
use Rattle.std.specs.declared.cmp.Ordering.{Ordering}
use Rattle.std.specs.declared.cmp.Ordering.TheVariants.{Less, Equal, Greater}
use Rattle.std.specs.Ordering.{ordering_then, is_le}
use Rattle.willow_path.specs.Key.{IsKey}
use Rattle.willow_path.specs.Path.{IsPath, is_prefix, part_cmp, path_cmp}
use Rattle.willow_path.specs.Successor.{IsAfterKey, IsBelow, after, key_after}
use Rattle.willow_path.proofs.PathOrder.{part_cmp_total, part_cmp_equal, part_eq_decides}
use Rattle.willow_path.proofs.PartSuccessor.{key_after_is}
use Rattle.willow_path.proofs.PathSuccessor.{extensions_between}
use Rattle.willow_area.specs.Range.{in_range, is_before_end}
use Rattle.willow_area.specs.Area.{fits_subspace, IsArea}
use Rattle.willow_area.specs.Boxes.{IsBox}
use Rattle.willow_area.specs.AreaBox.{key_range, path_range, area_box, HasTriplesOf}
use Rattle.willow_area.specs.declared.area.Area.{Area}
use Rattle.willow_area.proofs.Membership.{both_of, and_of, below_holds, passes_area, area_passes}
use Rattle.willow_area.proofs.Including.{prefix_itself}
use Rattle.willow_area.proofs.Orders.{less_is, is_less, not_greater, at_most_is, not_below}
use Rattle.willow_area.proofs.Cutting.{passes_box, box_passes}

-- ---- keys

-- zeros are the least bytes
zero_first : (x : ℕ) (o : Ordering) → is_le o ≡ true → is_le (ordering_then (nat_cmp 0 x) o) ≡ true
zero_first zero o h = h
zero_first (suc x) o h = ap (λ (c : Ordering). is_le (ordering_then c o)) (less_is (nat_cmp 0 (suc x)) (below_holds 0 (suc x) (omega arith)))

zeros_least : (n : ℕ) (bytes : List ℕ) → length bytes ≡ n → is_le (part_cmp (replicate n 0) bytes) ≡ true
zeros_least zero [] e = refl
zeros_least zero (x ∷ bytes) e = absurd cc
zeros_least (suc n) [] e = absurd cc
zeros_least (suc n) (x ∷ bytes) e = zero_first x (part_cmp (replicate n 0) bytes) (zeros_least n bytes (omega (arith, e)))

pub key_rises : (key : List ℕ) (end : Option (List ℕ)) → IsAfterKey key end → is_before_end part_cmp key end ≡ true
key_rises key None is = refl
key_rises key (Some next) is = is_less (part_cmp key next) is.above

-- no key stands between a key and the next
between_keys : (key other : List ℕ) (end : Option (List ℕ)) (o : Ordering) → IsKey other → IsAfterKey key end → part_cmp key other ≡ o → is_le o ≡ true → is_before_end part_cmp other end ≡ true → key ≡ other
between_keys key other end Less k is e h before = absurd (none_between key other end k is e before)
  where
    none_between : (key other : List ℕ) (end : Option (List ℕ)) → IsKey other → IsAfterKey key end → part_cmp key other ≡ Less → is_before_end part_cmp other end ≡ true → ⊥
    none_between key other None k is e before = is other k e
    none_between key other (Some next) k is e before =
        let low = not_below part_cmp part_cmp_total other next (at_most_is (part_cmp next other) (is.least other k e)) in cc
between_keys key other end Equal k is e h before = (part_cmp_equal key other).0 e
between_keys key other end Greater k is e h before = absurd cc

keys_same : (own : Option (List ℕ)) (subspace : List ℕ) → IfSome own IsKey → IsKey subspace → (in_range part_cmp (key_range own) subspace ≡ true) ↔ (fits_subspace own subspace ≡ true)
keys_same None subspace f k = ((λ _. refl), (λ _. and_of (is_le (part_cmp (replicate 33 0) subspace)) true (zeros_least 33 subspace k.whole) refl))
keys_same (Some key) subspace f k = (
  (λ h.
      let p = both_of (is_le (part_cmp key subspace)) (is_before_end part_cmp subspace (key_after key)) h in
      (part_eq_decides key subspace).1 (between_keys key subspace (key_after key) (part_cmp key subspace) k (key_after_is key f) refl p.0 p.1)),
  (λ h.
      let e = (part_eq_decides key subspace).0 h in
      let low : is_le (part_cmp key subspace) ≡ true = ap is_le ((part_cmp_equal key subspace).1 e) in
      and_of (is_le (part_cmp key subspace)) (is_before_end part_cmp subspace (key_after key)) low
      (subst (λ (l : List ℕ). is_before_end part_cmp l (key_after key) ≡ true) e (key_rises key (key_after key) (key_after_is key f)))),
)

-- ---- paths

below_is : (path : List (List ℕ)) (end : Option (List (List ℕ))) → IsBelow path end → is_before_end path_cmp path end ≡ true
below_is path None h = refl
below_is path (Some end) h = is_less (path_cmp path end) h

is_below : (path : List (List ℕ)) (end : Option (List (List ℕ))) → is_before_end path_cmp path end ≡ true → IsBelow path end
is_below path None h = tt
is_below path (Some end) h = less_is (path_cmp path end) h

paths_same : (own path : List (List ℕ)) → IsPath own → IsPath path → (in_range path_cmp (path_range own) path ≡ true) ↔ (is_prefix own path ≡ true)
paths_same own path f k =
    let b = extensions_between own path f k in (
      (λ h.
          let p = both_of (is_le (path_cmp own path)) (is_before_end path_cmp path (after own)) h in
          b.1 (not_greater (path_cmp own path) p.0, is_below path (after own) p.1)),
      (λ h.
          let p = b.0 h in
          and_of (is_le (path_cmp own path)) (is_before_end path_cmp path (after own)) (at_most_is (path_cmp own path) p.0) (below_is path (after own) p.1)),
    )

pub path_rises : (path : List (List ℕ)) → IsPath path → is_before_end path_cmp path (after path) ≡ true
path_rises path f = below_is path (after path) ((extensions_between path path f f).0 (prefix_itself path)).1

-- ---- areas

pub area_box_means : (area : Area) → IsArea area → HasTriplesOf (area_box area) area
area_box_means area f subspace path time t =
    let k = keys_same area.subspace subspace f.subspace_fits t.key in
    let p = paths_same area.path path f.path_fits t.path_fits in (
      (λ h.
          let b = passes_box (area_box area) subspace path time h in
          area_passes area subspace path time (record { subspace_fits = k.0 b.key_in; path_fits = p.0 b.path_in; time_fits = b.time_in })),
      (λ h.
          let a = passes_area area subspace path time h in
          box_passes (area_box area) subspace path time (record { key_in = k.1 a.subspace_fits; path_in = p.1 a.path_fits; time_in = a.time_fits })),
    )

-- the same for fields that are those of the box
pub box_as : (area : Area) (key : List ℕ) (key_end : Option (List ℕ)) (path : List (List ℕ)) (path_end : Option (List (List ℕ))) → IsArea area
    → key ≡ (key_range area.subspace).start → key_end ≡ (key_range area.subspace).end → path ≡ area.path → path_end ≡ after area.path → is_before_end part_cmp key key_end ≡ true
    → IsBox (record { keys = record { start = key; end = key_end }; paths = record { start = path; end = path_end }; times = area.times })
    × HasTriplesOf (record { keys = record { start = key; end = key_end }; paths = record { start = path; end = path_end }; times = area.times }) area
box_as area key key_end path path_end f a b c d rises = (
  record { keys_rise = rises; paths_rise = rw (c, d) (path_rises area.path f.path_fits); times_fit = f.times_fit },
  rw (a, b, c, d) (area_box_means area f),
)
