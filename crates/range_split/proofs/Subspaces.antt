-- Subspaces of rows that rise.
use Rattle.std.proofs.Common.{◌≡◌, inl, inr, ℕ, zero, suc, ◌+◌, ◌*◌, ◌/◌, ◌<◌, ◌≤◌, Bool, true, false, not, cond, List, [], ◌∷◌, length, get_or, take, filter, slice_get, Option, Some, None, refl, sym, ap, ap₂, ◌∙◌, Ordering, Less, Equal, Greater, is_lt, is_gt, arith}
use Rattle.std.specs.List.{AllByRecursion}
use Rattle.std.specs.List.Sorted.{IsStrictlySortedBy}
use Rattle.std.specs.Option.{option_to_list}
use Rattle.std.specs.Ordering.{ordering_reverse}
use Rattle.std.specs.Cmp.Lexicographic.{bytes_decides}
use Rattle.std.proofs.lemmas.Bool.{false≢true, not_from_false}
use Rattle.std.proofs.lemmas.Cmp.{nat_list_cmp_total, tied_itself}
use Rattle.std.proofs.lemmas.Option.{same_Some, get_or_from_slice_get}
use Rattle.std.proofs.lemmas.List.{length-map}
use Rattle.willow_entry.specs.Entry.{bytes_cmp, same_bytes}
use Rattle.willow_entry.specs.Row.{RowValue, inner_place_cmp}
use Rattle.willow_entry.specs.declared.entry.Entry.{Entry}
use Rattle.willow_entry.proofs.Members.{Member, any_false, true_of_any, member_from_contains}
use Rattle.willow_entry.proofs.Ranks.{bytes_tie}
use Rattle.range_split.specs.Choice.{subspaces_of}
use Rattle.range_split.specs.Least.{lesser, least, least_above}
use Rattle.range_split.specs.Quarters.{quarter, quarters, or_others, cuts_of, cuts_among, distinct_above, have_subspaces}
use Rattle.range_split.proofs.LeastKeys.{least_above_is}
use Rattle.range_split.proofs.Sorting.{Rises, sorted_itself}
use Rattle.range_split.proofs.Evenly.{subspaces_rise}

-- ---- the first and the last row tell whether there are several

-- the last of some values
abbrev pub IsLast : {X : Type 0} → List X → X → Type 0
IsLast [] z = ⊥
IsLast (x ∷ []) z = x ≡ z
IsLast (x ∷ y ∷ xs) z = IsLast (y ∷ xs) z

pub is_last : {X : Type 0} (xs : List X) (n : ℕ) (z : X) → slice_get xs n ≡ Some z → n + 1 ≡ length xs → IsLast xs z
is_last [] n z h k = absurd cc
is_last (x ∷ []) zero z h k = same_Some x z h
is_last (x ∷ []) (suc n) z h k = absurd (omega (arith, k))
is_last (x ∷ y ∷ xs) zero z h k = absurd (omega (arith, k))
is_last (x ∷ y ∷ xs) (suc n) z h k = is_last (y ∷ xs) n z h (omega (arith, k))

last_there : {X : Type 0} (xs : List X) (z : X) → IsLast xs z → Member xs z
last_there [] z h = absurd h
last_there (x ∷ []) z h = inl h
last_there (x ∷ y ∷ xs) z h = inr (last_there (y ∷ xs) z h)

-- of rising rows none has a subspace above that of the last
to_last : (rows : List RowValue) (last row : RowValue) → Rises bytes_cmp (subspaces_of rows) → IsLast rows last → Member rows row → is_gt (bytes_cmp row.entry.subspace last.entry.subspace) ≡ false
to_last [] last row rise z m = absurd m
to_last (x ∷ []) last row rise z (inl e) =
    ap (λ (r : RowValue). is_gt (bytes_cmp r.entry.subspace last.entry.subspace)) (sym e ∙ z) ∙ ap is_gt (tied_itself nat_list_cmp_total last.entry.subspace)
to_last (x ∷ []) last row rise z (inr m) = absurd m
to_last (x ∷ y ∷ rows) last row rise z (inl e) =
    ap (λ (r : RowValue). is_gt (bytes_cmp r.entry.subspace last.entry.subspace)) (sym e) ∙ from_first (y ∷ rows) rise.0 (last_there (y ∷ rows) last z)
  where
    from_first : (ys : List RowValue) → AllByRecursion (λ key. is_gt (bytes_cmp x.entry.subspace key) ≡ false) (subspaces_of ys) → Member ys last → is_gt (bytes_cmp x.entry.subspace last.entry.subspace) ≡ false
    from_first [] all m = absurd m
    from_first (w ∷ ys) all (inl e) = ap (λ (r : RowValue). is_gt (bytes_cmp x.entry.subspace r.entry.subspace)) (sym e) ∙ all.0
    from_first (w ∷ ys) all (inr m) = from_first ys all.1 m
to_last (x ∷ y ∷ rows) last row rise z (inr m) = to_last (y ∷ rows) last row rise.1 z m

from_low : (low : List ℕ) (rows : List RowValue) (row : RowValue) → AllByRecursion (λ key. is_gt (bytes_cmp low key) ≡ false) (subspaces_of rows) → Member rows row → is_gt (bytes_cmp low row.entry.subspace) ≡ false
from_low low [] row all m = absurd m
from_low low (x ∷ rows) row all (inl e) = ap (λ (r : RowValue). is_gt (bytes_cmp low r.entry.subspace)) (sym e) ∙ all.0
from_low low (x ∷ rows) row all (inr m) = from_low low rows row all.1 m

neither_above : (x y : List ℕ) → is_gt (bytes_cmp x y) ≡ false → is_gt (bytes_cmp y x) ≡ false → y ≡ x
neither_above x y h k = by_order (bytes_cmp y x) refl
  where
    by_order : (o : Ordering) → bytes_cmp y x ≡ o → y ≡ x
    by_order Less e = absurd (false≢true (sym h ∙ ap is_gt (nat_list_cmp_total.antisymm x y ∙ ap ordering_reverse e)))
    by_order Equal e = bytes_tie y x e
    by_order Greater e = absurd (false≢true (sym k ∙ ap is_gt e))

pub ends_alike : (first : RowValue) (rest : List RowValue) (last : RowValue) → Rises bytes_cmp (subspaces_of (first ∷ rest)) → IsLast (first ∷ rest) last → first.entry.subspace ≡ last.entry.subspace → have_subspaces (first ∷ rest) ≡ false
ends_alike first rest last rise z same =
    any_false (λ row. not (same_bytes row.entry.subspace first.entry.subspace)) rest (λ row m.
    let up = from_low first.entry.subspace rest row rise.0 m in
    let down : is_gt (bytes_cmp row.entry.subspace first.entry.subspace) ≡ false = ap (λ key. is_gt (bytes_cmp row.entry.subspace key)) same ∙ to_last (first ∷ rest) last row rise z (inr m) in
    ap not ((bytes_decides row.entry.subspace first.entry.subspace).1 (neither_above first.entry.subspace row.entry.subspace up down)))

pub ends_differ : (first : RowValue) (rest : List RowValue) (last : RowValue) → IsLast (first ∷ rest) last → same_bytes last.entry.subspace first.entry.subspace ≡ false → have_subspaces (first ∷ rest) ≡ true
ends_differ first [] last z differ = absurd (false≢true (sym differ ∙ (bytes_decides last.entry.subspace first.entry.subspace).1 (ap (λ (r : RowValue). r.entry.subspace) (sym z))))
ends_differ first (y ∷ rest) last z differ = true_of_any (λ row. not (same_bytes row.entry.subspace first.entry.subspace)) (y ∷ rest) last (last_there (y ∷ rest) last z) (not_from_false (same_bytes last.entry.subspace first.entry.subspace) differ)

-- ---- the least subspace above

-- the lesser of one and the least of others that are not below it
lesser_first : (key : List ℕ) (others : Option (List ℕ)) → ((other : List ℕ) → others ≡ Some other → is_gt (bytes_cmp key other) ≡ false) → lesser (Some key) others ≡ Some key
lesser_first key None h = refl
lesser_first key (Some other) h =
    let not_lower : is_lt (bytes_cmp other key) ≡ false = ap is_lt (nat_list_cmp_total.antisymm other key) ∙ turned (bytes_cmp key other) (h other refl) in
    ap (λ b. Some (cond b other key)) not_lower
  where
    turned : (o : Ordering) → is_gt o ≡ false → is_lt (ordering_reverse o) ≡ false
    turned Less e = refl
    turned Equal e = refl
    turned Greater e = absurd cc

at_least_key : (key : List ℕ) (keys : List (List ℕ)) (other : List ℕ) → AllByRecursion (λ k. is_gt (bytes_cmp key k) ≡ false) keys → Member keys other → is_gt (bytes_cmp key other) ≡ false
at_least_key key [] other all m = absurd m
at_least_key key (k ∷ keys) other all (inl e) = ap (λ x. is_gt (bytes_cmp key x)) (sym e) ∙ all.0
at_least_key key (k ∷ keys) other all (inr m) = at_least_key key keys other all.1 m

-- of rising keys the first that is above another is the least
pub first_is_least : (low : List ℕ) (keys : List (List ℕ)) → Rises bytes_cmp keys → take 1 (distinct_above bytes_cmp low keys) ≡ option_to_list (least_above low keys)
unfolding distinct_above
first_is_least low [] rise = refl
first_is_least low (key ∷ keys) rise = by_test (is_gt (bytes_cmp key low)) refl (first_is_least low keys rise.1)
  where
    above : List ℕ → Bool
    above k = is_gt (bytes_cmp k low)

    found : (other : List ℕ) → least_above low keys ≡ Some other → is_gt (bytes_cmp key other) ≡ false
    found other e = at_least_key key keys other rise.0 (member_from_contains keys other (least_above_is low other keys e).member)

    by_test : (b : Bool) → is_gt (bytes_cmp key low) ≡ b → take 1 (distinct_above bytes_cmp low keys) ≡ option_to_list (least_above low keys)
        → take 1 (cond b (key ∷ distinct_above bytes_cmp key keys) (distinct_above bytes_cmp low keys)) ≡ option_to_list (least (cond b (key ∷ filter (λ k. is_gt (bytes_cmp k low)) keys) (filter (λ k. is_gt (bytes_cmp k low)) keys)))
    by_test true e later = sym (ap option_to_list (lesser_first key (least_above low keys) found))
    by_test false e later = later

-- ---- the points of rising subspaces

key_at : (rows : List RowValue) (k : ℕ) (d : RowValue) → get_or (subspaces_of rows) k d.entry.subspace ≡ (get_or rows k d).entry.subspace
key_at [] k d = refl
key_at (r ∷ rows) zero d = refl
key_at (r ∷ rows) (suc k) d = key_at rows k d

-- the subspaces of the rows at the quarters tell where rows that rise are cut
pub subspaces_told : (rows : List RowValue) → IsStrictlySortedBy inner_place_cmp rows → (low a b c : RowValue)
    → slice_get rows ((0 * length rows) / 4) ≡ Some low → slice_get rows ((1 * length rows) / 4) ≡ Some a → slice_get rows ((2 * length rows) / 4) ≡ Some b → slice_get rows ((3 * length rows) / 4) ≡ Some c
    → cuts_among bytes_cmp (subspaces_of rows)
    ≡ or_others (distinct_above bytes_cmp low.entry.subspace (a.entry.subspace ∷ b.entry.subspace ∷ c.entry.subspace ∷ [])) (option_to_list (least_above low.entry.subspace (subspaces_of rows)))
unfolding cuts_of
subspaces_told [] rise low a b c is_low is_a is_b is_c = absurd cc
subspaces_told (first ∷ rest) rise low a b c is_low is_a is_b is_c =
    let rows = first ∷ rest in
    let keys = subspaces_of rows in
    let up = subspaces_rise rows rise in
    let none : (0 * length rows) / 4 ≡ 0 = omega arith in
    let same : first ≡ low = same_Some first low (sym (ap (slice_get rows) none) ∙ is_low) in
    let key : List ℕ = first.entry.subspace in
    let at : (n : ℕ) (r : RowValue) → slice_get rows ((n * length rows) / 4) ≡ Some r → quarter n key keys ≡ r.entry.subspace =
    λ n r e. ap (λ len. get_or keys ((n * len) / 4) key) (length-map rows (λ row. row.entry.subspace)) ∙ key_at rows ((n * length rows) / 4) first
    ∙ ap (λ (x : RowValue). x.entry.subspace) (get_or_from_slice_get rows ((n * length rows) / 4) r first e) in
    let told : quarters key keys ≡ a.entry.subspace ∷ b.entry.subspace ∷ c.entry.subspace ∷ [] =
    ap₂ (λ x ys. x ∷ ys) (at 1 a is_a) (ap₂ (λ x ys. x ∷ ys) (at 2 b is_b) (ap (λ x. x ∷ []) (at 3 c is_c))) in
    ap (cuts_of bytes_cmp) (sorted_itself bytes_cmp nat_list_cmp_total keys up)
    ∙ ap₂ (λ xs ys. or_others (distinct_above bytes_cmp key xs) ys) told (first_is_least key keys up)
    ∙ ap (λ (r : RowValue). or_others (distinct_above bytes_cmp r.entry.subspace (a.entry.subspace ∷ b.entry.subspace ∷ c.entry.subspace ∷ [])) (option_to_list (least_above r.entry.subspace keys))) same

pub or_others_first : {A : Type 0} (xs others : List A) → 0 < length xs → or_others xs others ≡ xs
or_others_first [] others h = absurd (omega arith)
or_others_first (x ∷ xs) others h = refl

pub or_others_other : {A : Type 0} (xs others : List A) → length xs ≤ 0 → or_others xs others ≡ others
or_others_other [] others h = refl
or_others_other (x ∷ xs) others h = absurd (omega (arith, h))

-- the same, as the rows' entries are held
pub entries_told : (rows : List RowValue) → IsStrictlySortedBy inner_place_cmp rows → (low a b c : RowValue) (el ea eb ec : Entry) → el ≡ low.entry → ea ≡ a.entry → eb ≡ b.entry → ec ≡ c.entry
    → slice_get rows ((0 * length rows) / 4) ≡ Some low → slice_get rows ((1 * length rows) / 4) ≡ Some a → slice_get rows ((2 * length rows) / 4) ≡ Some b → slice_get rows ((3 * length rows) / 4) ≡ Some c
    → cuts_among bytes_cmp (subspaces_of rows)
    ≡ or_others (distinct_above bytes_cmp el.subspace (ea.subspace ∷ eb.subspace ∷ ec.subspace ∷ [])) (option_to_list (least_above el.subspace (subspaces_of rows)))
entries_told rows rise low a b c el ea eb ec sl sa sb sc is_low is_a is_b is_c =
    subspaces_told rows rise low a b c is_low is_a is_b is_c
    ∙ sym (ap₂ (λ (x : Entry) (ys : List (List ℕ)). or_others (distinct_above bytes_cmp x.subspace ys) (option_to_list (least_above x.subspace (subspaces_of rows)))) sl
    (ap₂ (λ (x : Entry) (ys : List (List ℕ)). x.subspace ∷ ys) sa (ap₂ (λ (x y : Entry). x.subspace ∷ y.subspace ∷ []) sb sc)))

pub alike_told : (rows : List RowValue) (first last : RowValue) (n : ℕ) → IsStrictlySortedBy inner_place_cmp rows → slice_get rows 0 ≡ Some first → slice_get rows n ≡ Some last → n + 1 ≡ length rows
    → same_bytes last.entry.subspace first.entry.subspace ≡ true → have_subspaces rows ≡ false
alike_told [] first last n rise is_first at_n len same = absurd cc
alike_told (x ∷ rest) first last n rise is_first at_n len same =
    let e : x ≡ first = same_Some x first is_first in
    ends_alike x rest last (subspaces_rise (x ∷ rest) rise) (is_last (x ∷ rest) n last at_n len)
    (ap (λ (r : RowValue). r.entry.subspace) e ∙ sym ((bytes_decides last.entry.subspace first.entry.subspace).0 same))

pub differ_told : (rows : List RowValue) (first last : RowValue) (n : ℕ) → slice_get rows 0 ≡ Some first → slice_get rows n ≡ Some last → n + 1 ≡ length rows
    → same_bytes last.entry.subspace first.entry.subspace ≡ false → have_subspaces rows ≡ true
differ_told [] first last n is_first at_n len differ = absurd cc
differ_told (x ∷ rest) first last n is_first at_n len differ =
    let e : x ≡ first = same_Some x first is_first in
    ends_differ x rest last (is_last (x ∷ rest) n last at_n len) (ap (λ (r : RowValue). same_bytes last.entry.subspace r.entry.subspace) e ∙ differ)
