-- The laws of live rows and of joins, and what one more row does to them.
use Rattle.std.proofs.Common.{◌≡◌, ◌↔◌, not, List, [], ◌∷◌, ◌++◌, filter, Contains, IsPermutation, sym, ap, ◌∙◌, append_assoc}
use Rattle.std.proofs.lemmas.List.Sorted.{Contains-permutation, IsPermutation-sym}
use Rattle.willow_entry.specs.Pruning.{placed}
use Rattle.willow_entry.specs.Row.{RowValue, is_dominating, is_covering, place_cmp, live, new, join, HasCovering, IsRising}
use Rattle.willow_entry.proofs.Members.{contains_from_member, member_from_contains}
use Rattle.willow_entry.proofs.Pruning.{pruned_alike, pruned_same_members, pruned-pruned, pruned_early, pruned_early_left, pruned_early_right, pruned_swap, pruned_twice, pruned_covers, pruned-rises, covers_front, pruned_covers_front, pruned-covered, pruned-uncovered, pruned-new}
use Rattle.willow_entry.proofs.RowLaws.{rows_prune, covering_decides, covering_from_covered, covered_from_covering}

-- ---- liveness

pub live-rises : (rows : List RowValue) → IsRising (live rows)
live-rises rows = pruned-rises is_dominating place_cmp rows_prune rows

pub live-live : (rows : List RowValue) → live (live rows) ≡ live rows
live-live rows = pruned-pruned is_dominating place_cmp rows_prune rows

pub live_covers : (rows : List RowValue) (r : RowValue) → Contains rows r → HasCovering (live rows) r
live_covers rows r c = covering_from_covered (live rows) r (pruned_covers is_dominating place_cmp rows_prune rows r (member_from_contains rows r c))

-- ---- order is free

pub live_same_members : (xs ys : List RowValue) → ((r : RowValue) → Contains xs r ↔ Contains ys r) → live xs ≡ live ys
live_same_members xs ys same = pruned_same_members is_dominating place_cmp rows_prune xs ys
    (λ r m. member_from_contains ys r ((same r).0 (contains_from_member xs r m)))
    (λ r m. member_from_contains xs r ((same r).1 (contains_from_member ys r m)))

pub live_permutation : (xs ys : List RowValue) → IsPermutation xs ys → live xs ≡ live ys
live_permutation xs ys p = live_same_members xs ys (λ r. (Contains-permutation xs ys r p, Contains-permutation ys xs r (IsPermutation-sym xs ys p)))

-- lists that cover each other's rows have the same live rows
pub live_alike : (xs ys : List RowValue) → ((r : RowValue) → Contains ys r → HasCovering xs r) → ((r : RowValue) → Contains xs r → HasCovering ys r) → live xs ≡ live ys
live_alike xs ys f g = pruned_alike is_dominating place_cmp rows_prune xs ys
    (λ r m. covered_from_covering xs r (f r (contains_from_member ys r m)))
    (λ r m. covered_from_covering ys r (g r (contains_from_member xs r m)))

-- ---- pruning early

pub live_early : (xs ys : List RowValue) → live (live xs ++ live ys) ≡ live (xs ++ ys)
live_early = pruned_early is_dominating place_cmp rows_prune

pub live_early_left : (xs ys : List RowValue) → live (live xs ++ ys) ≡ live (xs ++ ys)
live_early_left = pruned_early_left is_dominating place_cmp rows_prune

pub live_early_right : (xs ys : List RowValue) → live (xs ++ live ys) ≡ live (xs ++ ys)
live_early_right = pruned_early_right is_dominating place_cmp rows_prune

pub live-new : (rows : List RowValue) → live (new rows) ≡ live rows
live-new = pruned-new is_dominating place_cmp rows_prune is_covering covering_decides

-- a list covers what is live of its front, and so do the live rows of the list
pub covers_live_front : (front back : List RowValue) (r : RowValue) → Contains (live front) r → HasCovering (front ++ back) r
covers_live_front front back r c = covering_from_covered (front ++ back) r (covers_front is_dominating place_cmp rows_prune front back r (member_from_contains (live front) r c))

pub live_covers_live_front : (front back : List RowValue) (r : RowValue) → Contains (live front) r → HasCovering (live (front ++ back)) r
live_covers_live_front front back r c = covering_from_covered (live (front ++ back)) r (pruned_covers_front is_dominating place_cmp rows_prune front back r (member_from_contains (live front) r c))

-- ---- joins

pub join_comm : (xs ys : List RowValue) → join xs ys ≡ join ys xs
join_comm = pruned_swap is_dominating place_cmp rows_prune

pub join_assoc : (xs ys zs : List RowValue) → join (join xs ys) zs ≡ join xs (join ys zs)
join_assoc xs ys zs = live_early_left (xs ++ ys) zs ∙ ap live (append_assoc xs ys zs) ∙ sym (live_early_right xs (ys ++ zs))

pub join_twice : (xs : List RowValue) → live xs ≡ xs → join xs xs ≡ xs
join_twice xs is = pruned_twice is_dominating place_cmp rows_prune xs ∙ is

-- ---- one more row

-- a covered row changes nothing
pub live-covered : (rows : List RowValue) (r : RowValue) → HasCovering rows r → live (rows ++ r ∷ []) ≡ live rows
live-covered rows r c = pruned-covered is_dominating place_cmp rows_prune rows r (covered_from_covering rows r c)

-- an uncovered row goes to its place among the live rows that it does not dominate
pub live-uncovered : (rows : List RowValue) (r : RowValue) → live rows ≡ rows → (HasCovering rows r → ⊥) → placed place_cmp r (filter (λ s. not (is_dominating r s)) rows) ≡ live (rows ++ r ∷ [])
live-uncovered rows r is uncovered = pruned-uncovered is_dominating place_cmp rows_prune rows r is (λ c. uncovered (covering_from_covered rows r c))
