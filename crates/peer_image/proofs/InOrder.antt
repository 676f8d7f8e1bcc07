-- Rows are not refused for their order exactly where they rise and none dominates another; of one namespace, where
-- they are live.
use Rattle.std.proofs.Common.{◌≡◌, inl, inr, ℕ, ◌+◌, Bool, true, false, cond, List, [], ◌∷◌, ◌++◌, length, Option, Some, None, refl, sym, ap, subst, ◌∙◌, append_assoc, Less, is_gt}
use Rattle.std.specs.List.{AllByRecursion, position_from}
use Rattle.std.specs.List.Sorted.{IsStrictlySortedBy}
use Rattle.std.specs.Ordering.{ordering_reverse}
use Rattle.std.proofs.lemmas.Bool.{false≢true, false_from_ne_true}
use Rattle.spelling.specs.Answers.{or_else}
use Rattle.spelling.proofs.Causes.{or_else_both}
use Rattle.willow_entry.specs.Row.{RowValue, is_dominating, place_cmp, live, IsRising, inner_place_cmp}
use Rattle.willow_entry.proofs.Members.{Member, contains_from_member, member_from_contains, member_append_cases, member_append_left}
use Rattle.willow_entry.proofs.Rising.{all_member}
use Rattle.willow_entry.proofs.RowLaws.{rows_prune, dominates_decides}
use Rattle.willow_entry.proofs.Pruning.{pruned-only, pruned_member}
use Rattle.willow_entry.proofs.Live.{live-rises}
use Rattle.peer_image.specs.declared.refusal.ImageRefusal.{ImageRefusal}
use Rattle.peer_image.specs.Order.{pruned_by, pruned_after, first_fall, first_pruned, order_refusal, AreOf, IsInnerRising, IsInOrder, IsOrder, IsOrderOfLive}
use Rattle.peer_image.proofs.Falls.{rising_from_none, none_from_rising}
use Rattle.peer_image.proofs.Inner.{inner_total, inner_not_above, dominated_at_inner, rising_from_inner, inner_from_rising}

-- a row below another is not dominated by it
pub above_spares : (r s : RowValue) → inner_place_cmp r s ≡ Less → is_dominating s r ≡ false
above_spares r s less = false_from_ne_true (is_dominating s r) (λ d.
    false≢true (sym (inner_not_above s r (dominated_at_inner s r d)) ∙ ap is_gt (inner_total.antisymm s r ∙ ap ordering_reverse less)))

-- ---- the first that dominates

none_found : (p : RowValue → Bool) (k : ℕ) (rows : List RowValue) → ((x : RowValue) → Member rows x → p x ≡ false) → position_from p k rows ≡ None
none_found p k [] f = refl
none_found p k (x ∷ rows) f =
    ap (λ b. cond b (Some k) (position_from p (k + 1) rows)) (f x (inl refl)) ∙ none_found p (k + 1) rows (λ y m. f y (inr m))

first_spares : (b : Bool) (k : ℕ) (rest : Option ℕ) → cond b (Some k) rest ≡ None → (b ≡ false) × (rest ≡ None)
first_spares true k rest e = absurd cc
first_spares false k rest e = (refl, e)

found_none : (p : RowValue → Bool) (k : ℕ) (rows : List RowValue) → position_from p k rows ≡ None → (x : RowValue) → Member rows x → p x ≡ false
found_none p k [] e x m = absurd m
found_none p k (y ∷ rows) e x m =
    let parts = first_spares (p y) k (position_from p (k + 1) rows) e in
    elim m [ inl q ↦ sym (ap p q) ∙ parts.0 | inr n ↦ found_none p (k + 1) rows parts.1 x n ]

pruned_by_none : (k : ℕ) (by : Option ℕ) → pruned_by k by ≡ None → by ≡ None
pruned_by_none k None e = refl
pruned_by_none k (Some by) e = absurd cc

-- ---- rows of which none dominates another

abbrev Spares : List RowValue → List RowValue → Type 0
Spares all rows = (r : RowValue) → Member rows r → (s : RowValue) → Member all s → is_dominating s r ≡ false

rising_apart : (earlier : List RowValue) (r : RowValue) (rest : List RowValue) → IsInnerRising (earlier ++ r ∷ rest) → AllByRecursion (λ s. inner_place_cmp r s ≡ Less) rest
unfolding IsStrictlySortedBy
rising_apart [] r rest up = up.0
rising_apart (x ∷ earlier) r rest up = rising_apart earlier r rest up.1

spares_all : (earlier rows : List RowValue) → IsInnerRising (earlier ++ rows) → pruned_after earlier rows ≡ None → Spares (earlier ++ rows) rows
unfolding pruned_after
spares_all earlier [] up e = λ r m. absurd m
spares_all earlier (r ∷ rest) up e =
    let parts = or_else_both (pruned_by (length earlier + 1) (position_from (λ s. is_dominating s r) 1 earlier)) (pruned_after (earlier ++ r ∷ []) rest) e in
    let before = found_none (λ s. is_dominating s r) 1 earlier (pruned_by_none (length earlier + 1) (position_from (λ s. is_dominating s r) 1 earlier) parts.0) in
    let above = rising_apart earlier r rest up in
    let same = append_assoc earlier (r ∷ []) rest in
    let further : Spares (earlier ++ r ∷ rest) rest =
    subst (λ l. Spares l rest) same (spares_all (earlier ++ r ∷ []) rest (subst IsInnerRising (sym same) up) parts.1) in
    λ z m. elim m [
      | inl q ↦ (λ s n. subst (λ w. is_dominating s w ≡ false) q (elim (member_append_cases earlier (r ∷ rest) s n) [
        | inl i ↦ before s i
        | inr j ↦ elim j [
          | inl t ↦ subst (λ w. is_dominating w r ≡ false) t (rows_prune.irreflexive r)
          | inr i ↦ above_spares r s (all_member inner_place_cmp (λ w. inner_place_cmp r w ≡ Less) rest above s i)
        ]
      ]))
      | inr i ↦ further z i
    ]

none_pruned : (earlier rows : List RowValue) → Spares (earlier ++ rows) rows → pruned_after earlier rows ≡ None
unfolding pruned_after
none_pruned earlier [] f = refl
none_pruned earlier (r ∷ rest) f =
    let none = none_found (λ s. is_dominating s r) 1 earlier (λ s m. f r (inl refl) s (member_append_left earlier (r ∷ rest) s m)) in
    ap (λ (o : Option ℕ). or_else (pruned_by (length earlier + 1) o) (pruned_after (earlier ++ r ∷ []) rest)) none
    ∙ none_pruned (earlier ++ r ∷ []) rest (subst (λ l. Spares l rest) (sym (append_assoc earlier (r ∷ []) rest)) (λ z m. f z (inr m)))

-- ---- rows in order

order_spares : (rows : List RowValue) → order_refusal rows ≡ None → IsInnerRising rows × Spares rows rows
order_spares rows e =
    let parts = or_else_both (first_fall rows) (first_pruned rows) e in
    let up = rising_from_none rows parts.0 in
    (up, spares_all [] rows up parts.1)

order_from_spares : (rows : List RowValue) → IsInnerRising rows → Spares rows rows → order_refusal rows ≡ None
order_from_spares rows up spared = ap (λ (o : Option ImageRefusal). or_else o (first_pruned rows)) (none_from_rising rows up) ∙ none_pruned [] rows spared

there : (rows : List RowValue) → order_refusal rows ≡ None → IsInOrder rows
there rows e =
    let f = order_spares rows e in
    record {
      rising = f.0;
      undominated = λ r s c d dominates. false≢true (sym (f.1 s (member_from_contains rows s d) r (member_from_contains rows r c)) ∙ (dominates_decides r s).1 dominates);
    }

back : (rows : List RowValue) → IsInOrder rows → order_refusal rows ≡ None
back rows o = order_from_spares rows o.rising (λ s m r n. false_from_ne_true (is_dominating r s) (λ d.
    o.undominated r s (contains_from_member rows r n) (contains_from_member rows s m) ((dominates_decides r s).0 d)))

pub order_decides : IsOrder
order_decides rows = (there rows, back rows)

-- ---- live rows

live_from_order : (n : List ℕ) (rows : List RowValue) → AreOf n rows → order_refusal rows ≡ None → live rows ≡ rows
live_from_order n rows f e =
    let spared = order_spares rows e in
    sym (pruned-only is_dominating place_cmp rows_prune rows rows (rising_from_inner n rows f spared.0) (λ z m. (m, λ s n. spared.1 z m s n)) (λ z m u. m))

order_from_live : (n : List ℕ) (rows : List RowValue) → AreOf n rows → live rows ≡ rows → order_refusal rows ≡ None
order_from_live n rows f e =
    let up = subst IsRising e (live-rises rows) in
    let spared : Spares rows rows = λ z m s n. (pruned_member is_dominating place_cmp rows_prune rows z (subst (λ l. Member l z) (sym e) m)).1 s n in
    order_from_spares rows (inner_from_rising n rows f up) spared

pub order_of_live : IsOrderOfLive
order_of_live n rows f = (live_from_order n rows f, order_from_live n rows f)
