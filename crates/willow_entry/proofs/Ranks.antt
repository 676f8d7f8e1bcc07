-- The rank of entries and the place of rows as orders, and what it means that two entries are the same.
use Rattle.std.proofs.Common.{◌≡◌, ◌<◌, ◌⊎◌, inl, inr, ℕ, true, false, List, [], ◌∷◌, sym, refl, ap, ap₂, ◌∙◌, subst, Decides, Ordering, Less, Equal, Greater, nat_cmp, is_gt, eqb-true, eq-eqb, ◌==◌, arith}
use Rattle.std.specs.Ordering.{ordering_then, ordering_reverse, MatchOrdering}
use Rattle.std.specs.Cmp.{IsTotalOrder}
use Rattle.std.specs.Cmp.Lexicographic.{slice_cmp, pointwise, bytes_decides, pointwise_decides}
use Rattle.std.proofs.lemmas.Cmp.{nat_cmp_total, nat_list_cmp_total, lists_total, on_total, then_total, ranked, tied_itself}
use Rattle.std.proofs.lemmas.Bool.{and_parts, and_from, false≢true}
use Rattle.willow_path.specs.Path.{path_cmp}
use Rattle.willow_entry.specs.declared.entry.Entry.{Entry}
use Rattle.willow_entry.specs.Rank.{RankValue, rank_cmp}
use Rattle.willow_entry.specs.Entry.{bytes_cmp, same_bytes, rank_of, entry_rank_cmp, is_newer, same_entry, IsNewer}
use Rattle.willow_entry.specs.Row.{RowValue, subspace_path_cmp, inner_place_cmp, place_cmp}

-- ---- ties

then_equal : (o p : Ordering) → ordering_then o p ≡ Equal → (o ≡ Equal) × (p ≡ Equal)
then_equal Less p e = absurd cc
then_equal Equal p e = (refl, e)
then_equal Greater p e = absurd cc

pub nat_tie : (x y : ℕ) → nat_cmp x y ≡ Equal → x ≡ y
nat_tie x y e = subst (λ o. MatchOrdering o (x < y) (x ≡ y) (y < x)) e (ranked x y (nat_cmp x y) refl)

pub list_tie : {X : Type 0} (cmp : X → X → Ordering) → ((x y : X) → cmp x y ≡ Equal → x ≡ y) → (xs ys : List X) → slice_cmp cmp xs ys ≡ Equal → xs ≡ ys
list_tie cmp tie [] [] e = refl
list_tie cmp tie [] (y ∷ ys) e = absurd cc
list_tie cmp tie (x ∷ xs) [] e = absurd cc
list_tie {X} cmp tie (x ∷ xs) (y ∷ ys) e =
    let both = then_equal (cmp x y) (slice_cmp cmp xs ys) e in
    ap₂ (λ (a : X) (b : List X). a ∷ b) (tie x y both.0) (list_tie cmp tie xs ys both.1)

pub bytes_tie : (xs ys : List ℕ) → bytes_cmp xs ys ≡ Equal → xs ≡ ys
bytes_tie = list_tie nat_cmp nat_tie

pub path_tie : (p q : List (List ℕ)) → path_cmp p q ≡ Equal → p ≡ q
path_tie = list_tie (slice_cmp nat_cmp) bytes_tie

-- ---- the rank

pub rank_total : IsTotalOrder rank_cmp
unfolding rank_cmp
rank_total = then_total (on_total (λ (r : RankValue). r.timestamp) nat_cmp_total) (then_total (on_total (λ (r : RankValue). r.digest) nat_list_cmp_total) (on_total (λ (r : RankValue). r.length) nat_cmp_total))

pub entry_rank_total : IsTotalOrder entry_rank_cmp
entry_rank_total = on_total rank_of rank_total

-- ranks that tie are equal
pub rank_tie : (r s : RankValue) → rank_cmp r s ≡ Equal → r ≡ s
unfolding rank_cmp
rank_tie r s h =
    let first = then_equal (nat_cmp r.timestamp s.timestamp) (ordering_then (bytes_cmp r.digest s.digest) (nat_cmp r.length s.length)) h in
    let second = then_equal (bytes_cmp r.digest s.digest) (nat_cmp r.length s.length) first.1 in
    let t = nat_tie r.timestamp s.timestamp first.0 in
    let d = bytes_tie r.digest s.digest second.0 in
    let l = nat_tie r.length s.length second.1 in
    λ i. record { timestamp = t i; digest = d i; length = l i }

pub greater_from_test : (o : Ordering) → is_gt o ≡ true → o ≡ Greater
greater_from_test Less e = absurd (false≢true e)
greater_from_test Equal e = absurd (false≢true e)
greater_from_test Greater e = refl

-- of two ranks neither above the other, neither is below
pub tie_from_tests : {X : Type 0} {cmp : X → X → Ordering} → IsTotalOrder cmp → (x y : X) → is_gt (cmp x y) ≡ false → is_gt (cmp y x) ≡ false → cmp x y ≡ Equal
tie_from_tests {X} {cmp} total x y a b =
    let P : Ordering → Type 0 = λ o. cmp x y ≡ o → is_gt o ≡ false → is_gt (ordering_reverse o) ≡ false → o ≡ Equal in
    let each : (o : Ordering) → P o = elim [
      | Less ↦ λ e p q. absurd (false≢true (sym q))
      | Equal ↦ λ e p q. refl
      | Greater ↦ λ e p q. absurd (false≢true (sym p))
    ] in
    each (cmp x y) refl a (ap is_gt (sym (total.antisymm y x)) ∙ b)

-- above is a chain
pub above_chain : {X : Type 0} {cmp : X → X → Ordering} → IsTotalOrder cmp → (x y z : X) → cmp x y ≡ Greater → cmp y z ≡ Greater → cmp x z ≡ Greater
above_chain total x y z a b =
    total.antisymm x z ∙ ap ordering_reverse (total.trans z y x (total.antisymm z y ∙ ap ordering_reverse b) (total.antisymm y x ∙ ap ordering_reverse a))

pub not_above_itself : {X : Type 0} {cmp : X → X → Ordering} → IsTotalOrder cmp → (x : X) → is_gt (cmp x x) ≡ false
not_above_itself total x = ap is_gt (tied_itself total x)

nat_same : (x y : ℕ) → x ≡ y → nat_cmp x y ≡ Equal
nat_same x y e = ap (λ z. nat_cmp x z) (sym e) ∙ tied_itself nat_cmp_total x

pub bytes_same : (xs ys : List ℕ) → xs ≡ ys → bytes_cmp xs ys ≡ Equal
bytes_same xs ys e = ap (λ z. bytes_cmp xs z) (sym e) ∙ tied_itself nat_list_cmp_total xs

-- ---- newer

then_greater : (o p : Ordering) → ordering_then o p ≡ Greater → (o ≡ Greater) ⊎ ((o ≡ Equal) × (p ≡ Greater))
then_greater Less p e = absurd cc
then_greater Equal p e = inr (refl, e)
then_greater Greater p e = inl refl

nat_above : (x y : ℕ) → nat_cmp x y ≡ Greater → y < x
nat_above x y e = subst (λ o. MatchOrdering o (x < y) (x ≡ y) (y < x)) e (ranked x y (nat_cmp x y) refl)

above_nat : (x y : ℕ) → y < x → nat_cmp x y ≡ Greater
above_nat x y h =
    let P : Ordering → Type 0 = λ o. MatchOrdering o (x < y) (x ≡ y) (y < x) → o ≡ Greater in
    let each : (o : Ordering) → P o = elim [
      | Less ↦ λ below. absurd (omega arith)
      | Equal ↦ λ same. absurd (omega arith)
      | Greater ↦ λ above. refl
    ] in
    each (nat_cmp x y) (ranked x y (nat_cmp x y) refl)

pub newer_from_rank : (e f : Entry) → entry_rank_cmp e f ≡ Greater → IsNewer e f
unfolding rank_cmp
newer_from_rank e f h = elim (then_greater (nat_cmp e.timestamp f.timestamp) (ordering_then (bytes_cmp e.digest.0 f.digest.0) (nat_cmp e.length f.length)) h) [
  | inl a ↦ inl (nat_above e.timestamp f.timestamp a)
  | inr t ↦ elim (then_greater (bytes_cmp e.digest.0 f.digest.0) (nat_cmp e.length f.length) t.1) [
    | inl a ↦ inr (inl (nat_tie e.timestamp f.timestamp t.0, a))
    | inr d ↦ inr (inr (nat_tie e.timestamp f.timestamp t.0, bytes_tie e.digest.0 f.digest.0 d.0, nat_above e.length f.length d.1))
  ]
]

pub rank_from_newer : (e f : Entry) → IsNewer e f → entry_rank_cmp e f ≡ Greater
unfolding rank_cmp
rank_from_newer e f (inl a) = ap (λ o. ordering_then o (ordering_then (bytes_cmp e.digest.0 f.digest.0) (nat_cmp e.length f.length))) (above_nat e.timestamp f.timestamp a)
rank_from_newer e f (inr (inl t)) = ap₂ (λ o p. ordering_then o (ordering_then p (nat_cmp e.length f.length))) (nat_same e.timestamp f.timestamp t.0) t.1
rank_from_newer e f (inr (inr t)) = ap₂ (λ o p. ordering_then o (ordering_then p (nat_cmp e.length f.length))) (nat_same e.timestamp f.timestamp t.0) (bytes_same e.digest.0 f.digest.0 t.1) ∙ above_nat e.length f.length t.2

pub newer_decides : (e f : Entry) → Decides (is_newer e f) (IsNewer e f)
unfolding is_newer
newer_decides e f = (λ h. newer_from_rank e f (greater_from_test (entry_rank_cmp e f) h), λ n. ap is_gt (rank_from_newer e f n))

-- ---- the same entry

pub entry_same : (e f : Entry) → e.namespace ≡ f.namespace → e.subspace ≡ f.subspace → e.path ≡ f.path → e.timestamp ≡ f.timestamp → e.length ≡ f.length → e.digest.0 ≡ f.digest.0 → e ≡ f
entry_same e f n s p t l d = λ i. record { namespace = n i; subspace = s i; path = p i; timestamp = t i; length = l i; digest = record { 0 = d i } }

same_from_test : (e f : Entry) → same_entry e f ≡ true → e ≡ f
unfolding same_entry
same_from_test e f h =
    let a = and_parts (same_bytes e.namespace f.namespace) _ h in
    let b = and_parts (same_bytes e.subspace f.subspace) _ a.1 in
    let c = and_parts (pointwise same_bytes e.path f.path) _ b.1 in
    let d = and_parts (e.timestamp == f.timestamp) _ c.1 in
    let l = and_parts (e.length == f.length) _ d.1 in
    entry_same e f ((bytes_decides _ _).0 a.0) ((bytes_decides _ _).0 b.0) ((pointwise_decides bytes_decides _ _).0 c.0)
    (eqb-true e.timestamp f.timestamp d.0) (eqb-true e.length f.length l.0) ((bytes_decides _ _).0 l.1)

pub same_as_itself : (e : Entry) → same_entry e e ≡ true
unfolding same_entry
same_as_itself e =
    and_from _ _ ((bytes_decides e.namespace e.namespace).1 refl)
    (and_from _ _ ((bytes_decides e.subspace e.subspace).1 refl)
    (and_from _ _ ((pointwise_decides bytes_decides e.path e.path).1 refl)
    (and_from _ _ (eq-eqb e.timestamp e.timestamp refl)
    (and_from _ _ (eq-eqb e.length e.length refl) ((bytes_decides e.digest.0 e.digest.0).1 refl)))))

pub same_entry_decides : (e f : Entry) → Decides (same_entry e f) (e ≡ f)
same_entry_decides e f = (same_from_test e f, λ h. ap (λ g. same_entry e g) (sym h) ∙ same_as_itself e)

-- ---- places

pub subspace_path_total : IsTotalOrder subspace_path_cmp
subspace_path_total = then_total (on_total (λ (p : List ℕ × List (List ℕ)). p.0) nat_list_cmp_total) (on_total (λ (p : List ℕ × List (List ℕ)). p.1) (lists_total nat_list_cmp_total))

pub subspace_path_tie : (p q : List ℕ × List (List ℕ)) → subspace_path_cmp p q ≡ Equal → p ≡ q
subspace_path_tie p q h =
    let both = then_equal (bytes_cmp p.0 q.0) (path_cmp p.1 q.1) h in
    let subspaces = bytes_tie p.0 q.0 both.0 in
    let paths = path_tie p.1 q.1 both.1 in
    λ i. (subspaces i, paths i)

pub inner_place_total : IsTotalOrder inner_place_cmp
inner_place_total = on_total (λ (r : RowValue). (r.entry.subspace, r.entry.path)) subspace_path_total

pub place_total : IsTotalOrder place_cmp
unfolding place_cmp
place_total = then_total (on_total (λ (r : RowValue). r.entry.namespace) nat_list_cmp_total) inner_place_total

-- rows at one place have the same namespace, subspace and path
pub place_tie : (r s : RowValue) → place_cmp r s ≡ Equal → (r.entry.namespace ≡ s.entry.namespace) × (r.entry.subspace ≡ s.entry.subspace) × (r.entry.path ≡ s.entry.path)
unfolding place_cmp
place_tie r s h =
    let first = then_equal (bytes_cmp r.entry.namespace s.entry.namespace) (ordering_then (bytes_cmp r.entry.subspace s.entry.subspace) (path_cmp r.entry.path s.entry.path)) h in
    let second = then_equal (bytes_cmp r.entry.subspace s.entry.subspace) (path_cmp r.entry.path s.entry.path) first.1 in
    (bytes_tie r.entry.namespace s.entry.namespace first.0, bytes_tie r.entry.subspace s.entry.subspace second.0, path_tie r.entry.path s.entry.path second.1)

-- within one namespace the place is (subspace, path)
pub place-in_one_namespace : (r s : RowValue) → r.entry.namespace ≡ s.entry.namespace → place_cmp r s ≡ inner_place_cmp r s
unfolding place_cmp
place-in_one_namespace r s e = ap (λ o. ordering_then o (inner_place_cmp r s)) (bytes_same r.entry.namespace s.entry.namespace e)
