-- The order of paths, and their prefixes.
use Rattle.std.proofs.Common.{◌≡◌, ◌≢◌, ℕ, zero, suc, ◌+◌, ◌-◌, ◌<◌, min, Bool, true, false, ◌&&◌, List, [], ◌∷◌, ◌++◌, length, get_or, take, drop, nat_eq, refl, sym, ap, ◌∙◌, arith, ◌⊎◌, inl, inr}
use Rattle.std.proofs.lemmas.List.{drop_more, length-drop}
use Rattle.std.proofs.lemmas.Bool.Decides.{nat_tests}
use Rattle.std.specs.declared.cmp.Ordering.{Ordering}
use Rattle.std.specs.declared.cmp.Ordering.TheVariants.{Less, Equal, Greater}
use Rattle.std.specs.Ordering.{nat_cmp, ordering_then, ordering_reverse, is_gt, is_eq}
use Rattle.std.specs.Bool.{Decides}
use Rattle.std.specs.Cmp.{IsTotalOrder, nat_cmp_total}
use Rattle.std.specs.Cmp.Lexicographic.{pointwise, lists_ties, texts_ties, lists_total, nat_list_cmp_total, bytes_decides, pointwise_decides}
use Rattle.std.proofs.lemmas.Cmp.{tied_itself}
use Rattle.willow_path.specs.Path.{part_cmp, path_cmp, is_prefix, IsPrefix}

pub part_cmp_total : IsTotalOrder part_cmp
part_cmp_total = nat_list_cmp_total

pub path_cmp_total : IsTotalOrder path_cmp
path_cmp_total = lists_total nat_list_cmp_total

pub both_tests : (a b : Bool) → (a && b) ≡ true → (a ≡ true) × (b ≡ true)
both_tests true true h = (refl, refl)
both_tests true false h = absurd cc
both_tests false b h = absurd cc

is_eq_is : (o : Ordering) → is_eq o ≡ true → o ≡ Equal
is_eq_is Less h = absurd cc
is_eq_is Equal h = refl
is_eq_is Greater h = absurd cc

pub part_eq_decides : (a b : List ℕ) → Decides (pointwise nat_eq a b) (a ≡ b)
part_eq_decides = bytes_decides

pub path_eq_decides : (p q : List (List ℕ)) → Decides (pointwise (pointwise nat_eq) p q) (p ≡ q)
path_eq_decides = pointwise_decides bytes_decides

pub part_cmp_equal : (a b : List ℕ) → (part_cmp a b ≡ Equal → a ≡ b) × (a ≡ b → part_cmp a b ≡ Equal)
part_cmp_equal a b =
    (λ e. (part_eq_decides a b).0 (texts_ties a b ∙ ap is_eq e), λ e. is_eq_is _ (sym (texts_ties a b) ∙ (part_eq_decides a b).1 e))

pub path_cmp_equal : (p q : List (List ℕ)) → (path_cmp p q ≡ Equal → p ≡ q) × (p ≡ q → path_cmp p q ≡ Equal)
path_cmp_equal p q =
    let tie = lists_ties part_cmp texts_ties p q in
    (λ e. (path_eq_decides p q).0 (tie ∙ ap is_eq e), λ e. is_eq_is _ (sym tie ∙ (path_eq_decides p q).1 e))

pub part_cmp-itself : (a : List ℕ) → part_cmp a a ≡ Equal
part_cmp-itself a = tied_itself part_cmp_total a

pub IsPrefix-from_test : (path longer : List (List ℕ)) → is_prefix path longer ≡ true → IsPrefix path longer
unfolding is_prefix
IsPrefix-from_test [] longer h = (longer, refl)
IsPrefix-from_test (part ∷ parts) [] h = absurd cc
IsPrefix-from_test (part ∷ parts) (first ∷ rest) h =
    let both = both_tests (pointwise nat_eq part first) (is_prefix parts rest) h in
    let same = (part_eq_decides part first).0 both.0 in
    let more = IsPrefix-from_test parts rest both.1 in
    let behind = more.1 in
    (more.0, cc)

pub is_prefix-append : (path rest : List (List ℕ)) → is_prefix path (path ++ rest) ≡ true
unfolding is_prefix
is_prefix-append [] rest = refl
is_prefix-append (part ∷ parts) rest = rw ((part_eq_decides part part).1 refl) (is_prefix-append parts rest)

pub is_prefix_decides : (path longer : List (List ℕ)) → Decides (is_prefix path longer) (IsPrefix path longer)
is_prefix_decides path longer = (IsPrefix-from_test path longer, λ p. ap (is_prefix path) p.1 ∙ is_prefix-append path p.0)

-- a prefix is never greater than its extensions
pub prefix_first : (path rest : List (List ℕ)) → is_gt (path_cmp path (path ++ rest)) ≡ false
prefix_first [] [] = refl
prefix_first [] (x ∷ rest) = refl
prefix_first (part ∷ parts) rest = rw (part_cmp-itself part) (prefix_first parts rest)

pub prefix_at_most : (path longer : List (List ℕ)) → is_prefix path longer ≡ true → is_gt (path_cmp path longer) ≡ false
prefix_at_most path longer h =
    let p = IsPrefix-from_test path longer h in ap (λ q. is_gt (path_cmp path q)) p.1 ∙ prefix_first path p.0

squeezed : (o r s : Ordering) → is_gt (ordering_then o r) ≡ false → is_gt (ordering_then (ordering_reverse o) s) ≡ false → (o ≡ Equal) × (is_gt r ≡ false) × (is_gt s ≡ false)
squeezed Less r s h k = absurd cc
squeezed Equal r s h k = (refl, h, k)
squeezed Greater r s h k = absurd cc

-- what stands between two extensions of a path is an extension of it
pub prefix_between : (path a b c : List (List ℕ)) → is_prefix path a ≡ true → is_prefix path c ≡ true
    → is_gt (path_cmp a b) ≡ false → is_gt (path_cmp b c) ≡ false → is_prefix path b ≡ true
unfolding is_prefix
prefix_between [] a b c p q h k = refl
prefix_between (part ∷ parts) [] b c p q h k = absurd cc
prefix_between (part ∷ parts) (x ∷ a) [] c p q h k = absurd cc
prefix_between (part ∷ parts) (x ∷ a) (y ∷ b) [] p q h k = absurd cc
prefix_between (part ∷ parts) (x ∷ a) (y ∷ b) (z ∷ c) p q h k =
    let p' = both_tests (pointwise nat_eq part x) (is_prefix parts a) p in
    let q' = both_tests (pointwise nat_eq part z) (is_prefix parts c) q in
    let x' = (part_eq_decides part x).0 p'.0 in
    let z' = (part_eq_decides part z).0 q'.0 in
    let back : part_cmp y z ≡ ordering_reverse (part_cmp x y) = ap (part_cmp y) (sym z' ∙ x') ∙ part_cmp_total.antisymm y x in
    let both = squeezed (part_cmp x y) (path_cmp a b) (path_cmp b c) h (rw back at k) in
    let y' = (part_cmp_equal x y).0 both.0 in
    rw ((part_eq_decides part y).1 (x' ∙ y')) (prefix_between parts a b c p'.1 q'.1 both.1 both.2)

-- components that are equal decide nothing between a path and a front of another
pub next_of_front : (part other : List ℕ) (left right : List (List ℕ)) (most : ℕ) → part_cmp part other ≡ Equal → 0 < most
    → path_cmp (part ∷ left) (take most (other ∷ right)) ≡ path_cmp left (take (most - 1) right)
next_of_front part other left right zero e lt = absurd (omega (arith, lt))
next_of_front part other left right (suc most) e lt = rw e (ap (λ (n : ℕ). path_cmp left (take n right)) (omega arith))

-- ---- components, byte by byte

not_tied : (x y : ℕ) (o : Ordering) → x ≢ y → ordering_then (nat_cmp x y) o ≡ nat_cmp x y
not_tied x y o ne = grind (arith, nat_tests)

pub part_cmp-here : (a b : List ℕ) (i : ℕ) → i < length a → i < length b → get_or a i 0 ≢ get_or b i 0 → part_cmp (drop i a) (drop i b) ≡ nat_cmp (get_or a i 0) (get_or b i 0)
part_cmp-here a b i la lb ne = rw (drop_more a i 0 la, drop_more b i 0 lb) (not_tied _ _ _ ne)

pub part_cmp-behind : (a b : List ℕ) (i : ℕ) → i < length a → i < length b → get_or a i 0 ≡ get_or b i 0 → part_cmp (drop i a) (drop i b) ≡ part_cmp (drop (i + 1) a) (drop (i + 1) b)
part_cmp-behind a b i la lb e =
    let x = get_or b i 0 in
    let tied : nat_cmp x x ≡ Equal = tied_itself nat_cmp_total x in
    rw (drop_more a i 0 la, drop_more b i 0 lb, e, tied) refl

part_cmp-lengths : (a b : List ℕ) (k : ℕ) → (length a ≡ 0) ⊎ (length b ≡ 0) → part_cmp a b ≡ nat_cmp (length a + k) (length b + k)
part_cmp-lengths [] [] k h = sym (tied_itself nat_cmp_total (0 + k))
part_cmp-lengths [] (y ∷ ys) k h = grind (arith, nat_tests)
part_cmp-lengths (x ∷ xs) [] k h = grind (arith, nat_tests)
part_cmp-lengths (x ∷ xs) (y ∷ ys) k (inl e) = absurd (omega (arith, e))
part_cmp-lengths (x ∷ xs) (y ∷ ys) k (inr e) = absurd (omega (arith, e))

one_is_none : (m n : ℕ) → min m n ≡ 0 → (m ≡ 0) ⊎ (n ≡ 0)
one_is_none zero n e = inl refl
one_is_none (suc m) zero e = inr refl
one_is_none (suc m) (suc n) e = absurd (omega (arith, e))

same_cmp : (x y m n : ℕ) → x ≡ m → y ≡ n → nat_cmp x y ≡ nat_cmp m n
same_cmp x y m n e f = ap (λ k. nat_cmp k y) e ∙ ap (nat_cmp m) f

pub part_cmp-end : (a b : List ℕ) (i : ℕ) → i ≡ min (length a) (length b) → part_cmp (drop i a) (drop i b) ≡ nat_cmp (length a) (length b)
part_cmp-end a b i e =
    let m : length (drop i a) + i ≡ length a = omega (arith, length-drop i a, e) in
    let n : length (drop i b) + i ≡ length b = omega (arith, length-drop i b, e) in
    let none = one_is_none (length (drop i a)) (length (drop i b)) (omega (arith, m, n, e)) in
    part_cmp-lengths (drop i a) (drop i b) i none ∙ same_cmp _ _ _ _ m n
