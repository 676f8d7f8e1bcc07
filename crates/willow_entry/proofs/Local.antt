-- Where to look for the rows that a row dominates, and for a row that covers it, among rows that rise.
use Rattle.std.proofs.Common.{◌≡◌, ◌⊎◌, ℕ, ◌+◌, ◌≤◌, inl, inr, Bool, true, false, not, ◌&&◌, cond, List, [], ◌∷◌, ◌++◌, take, drop, length, sym, refl, ap, ◌∙◌, subst, Ordering, Less, Equal, Greater, is_lt, is_gt, one-add}
use Rattle.std.specs.List.{AllByRecursion, prefix_len}
use Rattle.std.specs.List.Sorted.{IsStrictlySortedBy}
use Rattle.std.specs.Ordering.{ordering_then, match_ordering, ordering_reverse}
use Rattle.std.specs.Cmp.Lexicographic.{bytes_decides}
use Rattle.std.proofs.lemmas.Bool.{false≢true, both_ways, and_parts, and_from, not-true, false_from_ne_true}
use Rattle.std.proofs.lemmas.Cmp.{nat_list_cmp_total}
use Rattle.willow_path.specs.Path.{is_prefix, IsPrefix, path_cmp}
use Rattle.willow_path.proofs.PathOrder.{is_prefix_decides, prefix_at_most, prefix_between}
use Rattle.willow_entry.specs.Entry.{bytes_cmp, same_bytes}
use Rattle.willow_entry.specs.Pruning.{placed}
use Rattle.willow_entry.specs.Row.{RowValue, is_at_prefix, is_dominating, place_cmp, left_of, Dominates, HasCovering, IsRising}
use Rattle.willow_entry.proofs.Members.{Member, contains_from_member, member_from_contains, filter_member}
use Rattle.willow_entry.proofs.Rising.{all_member}
use Rattle.willow_entry.proofs.Ranks.{place_total, tie_from_tests, bytes_same, bytes_tie}
use Rattle.willow_entry.proofs.RowLaws.{settled_rows, dominates_decides}
use Rattle.willow_entry.proofs.Placing.{place_of, placed-first}
use Rattle.willow_entry.proofs.Prefixes.{prefix_of_itself, prefix_is_front}

-- ---- at a prefix

pub record IsAtPrefix (r s : RowValue) : Type 0 where
  pub namespace : r.entry.namespace ≡ s.entry.namespace
  pub subspace : r.entry.subspace ≡ s.entry.subspace
  pub path : is_prefix r.entry.path s.entry.path ≡ true

pub at_prefix : (r s : RowValue) → is_at_prefix r s ≡ true → IsAtPrefix r s
unfolding is_at_prefix
at_prefix r s e =
    let a = and_parts (same_bytes r.entry.namespace s.entry.namespace) (same_bytes r.entry.subspace s.entry.subspace && is_prefix r.entry.path s.entry.path) e in
    let b = and_parts (same_bytes r.entry.subspace s.entry.subspace) (is_prefix r.entry.path s.entry.path) a.1 in
    record { namespace = (bytes_decides r.entry.namespace s.entry.namespace).0 a.0; subspace = (bytes_decides r.entry.subspace s.entry.subspace).0 b.0; path = b.1 }

pub at_prefix_test : (r s : RowValue) → IsAtPrefix r s → is_at_prefix r s ≡ true
unfolding is_at_prefix
at_prefix_test r s p =
    and_from (same_bytes r.entry.namespace s.entry.namespace) (same_bytes r.entry.subspace s.entry.subspace && is_prefix r.entry.path s.entry.path) ((bytes_decides r.entry.namespace s.entry.namespace).1 p.namespace)
    (and_from (same_bytes r.entry.subspace s.entry.subspace) (is_prefix r.entry.path s.entry.path) ((bytes_decides r.entry.subspace s.entry.subspace).1 p.subspace) p.path)

-- a row dominates only at its prefix
pub dominated_at_prefix : (r s : RowValue) → is_dominating r s ≡ true → is_at_prefix r s ≡ true
dominated_at_prefix r s e =
    let d = (dominates_decides r s).0 e in
    at_prefix_test r s (record { namespace = d.namespace; subspace = d.subspace; path = (is_prefix_decides r.entry.path s.entry.path).1 d.path })

-- ---- the places at a prefix

then_not_above : (o p : Ordering) → is_gt (ordering_then o p) ≡ false → is_gt o ≡ false
then_not_above Less p e = refl
then_not_above Equal p e = refl
then_not_above Greater p e = e

then_tied : (o p : Ordering) → o ≡ Equal → is_gt (ordering_then o p) ≡ false → is_gt p ≡ false
then_tied o p e h = subst (λ x. is_gt (ordering_then x p) ≡ false) e h

tied_then : (o p : Ordering) → o ≡ Equal → is_gt p ≡ false → is_gt (ordering_then o p) ≡ false
tied_then o p e h = subst (λ x. is_gt (ordering_then x p) ≡ false) (sym e) h

-- a row is not above what stands at its prefix
pub at_prefix_not_above : (r s : RowValue) → IsAtPrefix r s → is_gt (place_cmp r s) ≡ false
unfolding place_cmp
at_prefix_not_above r s p =
    tied_then (bytes_cmp r.entry.namespace s.entry.namespace) (ordering_then (bytes_cmp r.entry.subspace s.entry.subspace) (path_cmp r.entry.path s.entry.path)) (bytes_same r.entry.namespace s.entry.namespace p.namespace)
    (tied_then (bytes_cmp r.entry.subspace s.entry.subspace) (path_cmp r.entry.path s.entry.path) (bytes_same r.entry.subspace s.entry.subspace p.subspace)
    (prefix_at_most r.entry.path s.entry.path p.path))

-- a byte string between two equal ones is equal to both
bytes_between : (a b c : List ℕ) → a ≡ c → is_gt (bytes_cmp a b) ≡ false → is_gt (bytes_cmp b c) ≡ false → bytes_cmp a b ≡ Equal
bytes_between a b c e h k = tie_from_tests nat_list_cmp_total a b h (subst (λ x. is_gt (bytes_cmp b x) ≡ false) (sym e) k)

-- what stands between a row and what is at its prefix is at its prefix
pub between_at_prefix : (r b c : RowValue) → IsAtPrefix r c → is_gt (place_cmp r b) ≡ false → is_gt (place_cmp b c) ≡ false → IsAtPrefix r b
unfolding place_cmp
between_at_prefix r b c p h k =
    let in_space : bytes_cmp r.entry.namespace b.entry.namespace ≡ Equal = bytes_between r.entry.namespace b.entry.namespace c.entry.namespace p.namespace
    (then_not_above (bytes_cmp r.entry.namespace b.entry.namespace) (ordering_then (bytes_cmp r.entry.subspace b.entry.subspace) (path_cmp r.entry.path b.entry.path)) h)
    (then_not_above (bytes_cmp b.entry.namespace c.entry.namespace) (ordering_then (bytes_cmp b.entry.subspace c.entry.subspace) (path_cmp b.entry.path c.entry.path)) k) in
    let same_space = bytes_tie r.entry.namespace b.entry.namespace in_space in
    let h' = then_tied (bytes_cmp r.entry.namespace b.entry.namespace) (ordering_then (bytes_cmp r.entry.subspace b.entry.subspace) (path_cmp r.entry.path b.entry.path)) in_space h in
    let k' = then_tied (bytes_cmp b.entry.namespace c.entry.namespace) (ordering_then (bytes_cmp b.entry.subspace c.entry.subspace) (path_cmp b.entry.path c.entry.path)) (bytes_same b.entry.namespace c.entry.namespace (sym same_space ∙ p.namespace)) k in
    let in_sub : bytes_cmp r.entry.subspace b.entry.subspace ≡ Equal = bytes_between r.entry.subspace b.entry.subspace c.entry.subspace p.subspace
    (then_not_above (bytes_cmp r.entry.subspace b.entry.subspace) (path_cmp r.entry.path b.entry.path) h')
    (then_not_above (bytes_cmp b.entry.subspace c.entry.subspace) (path_cmp b.entry.path c.entry.path) k') in
    let same_sub = bytes_tie r.entry.subspace b.entry.subspace in_sub in
    record {
      namespace = same_space;
      subspace = same_sub;
      path = prefix_between r.entry.path r.entry.path b.entry.path c.entry.path
          ((is_prefix_decides r.entry.path r.entry.path).1 (prefix_of_itself r.entry.path)) p.path
          (then_tied (bytes_cmp r.entry.subspace b.entry.subspace) (path_cmp r.entry.path b.entry.path) in_sub h')
          (then_tied (bytes_cmp b.entry.subspace c.entry.subspace) (path_cmp b.entry.path c.entry.path) (bytes_same b.entry.subspace c.entry.subspace (sym same_sub ∙ p.subspace)) k');
    }

-- ---- the run of what a row may dominate

-- how many rows from the front on stand at the prefix r
abbrev pub run_of : RowValue → List RowValue → ℕ
run_of r rows = prefix_len (is_at_prefix r) rows

pub keeps_all : (r : RowValue) (rows : List RowValue) → ((s : RowValue) → Member rows s → is_dominating r s ≡ false) → left_of r rows ≡ rows
keeps_all r [] none = refl
keeps_all r (s ∷ rows) none = ap (λ b. cond (not b) (s ∷ left_of r rows) (left_of r rows)) (none s (inl refl)) ∙ ap (λ l. s ∷ l) (keeps_all r rows (λ t m. none t (inr m)))

cond_append : {X : Type 0} (b : Bool) (x : X) (xs ys : List X) → cond b (x ∷ (xs ++ ys)) (xs ++ ys) ≡ cond b (x ∷ xs) xs ++ ys
cond_append true x xs ys = refl
cond_append false x xs ys = refl

not_gt_from_less : (o : Ordering) → o ≡ Less → is_gt o ≡ false
not_gt_from_less o e = ap is_gt e

-- Of rows that rise and are not below r only those of the first run are dominated.
pub left_in_run : (r : RowValue) (rows : List RowValue) → IsRising rows → ((s : RowValue) → Member rows s → is_gt (place_cmp r s) ≡ false) → left_of r rows ≡ left_of r (take (run_of r rows) rows) ++ drop (run_of r rows) rows
unfolding IsStrictlySortedBy
left_in_run r [] up above = refl
left_in_run r (s ∷ rows) up above =
    let P : Bool → Type 0 = λ b. is_at_prefix r s ≡ b → left_of r (s ∷ rows) ≡ left_of r (take (cond b (1 + run_of r rows) 0) (s ∷ rows)) ++ drop (cond b (1 + run_of r rows) 0) (s ∷ rows) in
    let each : (b : Bool) → P b = elim [
      | true ↦ λ e.
          ap (λ l. cond (not (is_dominating r s)) (s ∷ l) l) (left_in_run r rows up.1 (λ t m. above t (inr m)))
          ∙ cond_append (not (is_dominating r s)) s (left_of r (take (run_of r rows) rows)) (drop (run_of r rows) rows)
          ∙ ap (λ n. left_of r (take n (s ∷ rows)) ++ drop n (s ∷ rows)) (sym (one-add (run_of r rows)))
      | false ↦ λ e. keeps_all r (s ∷ rows) (λ t m. false_from_ne_true (is_dominating r t) (λ d.
          both_ways (is_at_prefix r s) e (at_prefix_test r s (elim m [
            | inl q ↦ subst (λ w. IsAtPrefix r w) (sym q) (at_prefix r t (dominated_at_prefix r t d))
            | inr n ↦ between_at_prefix r s t (at_prefix r t (dominated_at_prefix r t d)) (above s (inl refl)) (not_gt_from_less (place_cmp s t) (all_member place_cmp (λ w. place_cmp s w ≡ Less) rows up.0 t n))
          ]))))
    ] in
    each (is_at_prefix r s) refl

-- ---- one more row

reversed_lt : (o : Ordering) → is_gt (ordering_reverse o) ≡ is_lt o
reversed_lt Less = refl
reversed_lt Equal = refl
reversed_lt Greater = refl

pub not_below : (r s : RowValue) → is_lt (place_cmp s r) ≡ false → is_gt (place_cmp r s) ≡ false
not_below r s e = ap is_gt (place_total.antisymm r s) ∙ reversed_lt (place_cmp s r) ∙ e

below_from_gt : (r s : RowValue) → is_gt (place_cmp r s) ≡ true → place_cmp s r ≡ Less
below_from_gt r s e =
    let P : Ordering → Type 0 = λ o. is_gt o ≡ true → ordering_reverse o ≡ Less in
    let each : (o : Ordering) → P o = elim [ Less ↦ λ t. absurd (false≢true t) | Equal ↦ λ t. absurd (false≢true t) | Greater ↦ λ t. refl ] in
    place_total.antisymm s r ∙ each (place_cmp r s) e

above_from_rising : (r s : RowValue) (rows : List RowValue) → AllByRecursion (λ t. place_cmp s t ≡ Less) rows → is_lt (place_cmp s r) ≡ false → (t : RowValue) → Member (s ∷ rows) t → is_gt (place_cmp r t) ≡ false
above_from_rising r s rows up e t (inl q) = subst (λ w. is_gt (place_cmp r w) ≡ false) q (not_below r s e)
above_from_rising r s rows up e t (inr m) = false_from_ne_true (is_gt (place_cmp r t)) (λ g.
    both_ways (is_lt (place_cmp s r)) e (ap is_lt (place_total.trans s t r (all_member place_cmp (λ w. place_cmp s w ≡ Less) rows up t m) (below_from_gt r t g))))

-- r covers none and is covered by none of what it leaves: so all of it that is not below r is above it
left_above : (r : RowValue) (rows : List RowValue) → (HasCovering rows r → ⊥) → ((t : RowValue) → Member rows t → is_gt (place_cmp r t) ≡ false) → (y : RowValue) → Member (left_of r rows) y → place_cmp r y ≡ Less
left_above r rows uncovered above y m =
    let f = filter_member (λ s. not (is_dominating r s)) rows y m in
    let P : Ordering → Type 0 = λ o. place_cmp r y ≡ o → o ≡ Less in
    let each : (o : Ordering) → P o = elim [
      | Less ↦ λ e. refl
      | Equal ↦ λ e. absurd (uncovered (
        y,
        contains_from_member rows y f.0,
        inl (sym (settled_rows r y e (not-true (is_dominating r y) f.1)
            (false_from_ne_true (is_dominating y r) (λ d. uncovered (y, contains_from_member rows y f.0, inr ((dominates_decides y r).0 d)))))),
      ))
      | Greater ↦ λ e. absurd (false≢true (sym (above y f.0) ∙ ap is_gt e))
    ] in
    each (place_cmp r y) refl

weaker : (r s : RowValue) (rows : List RowValue) → (HasCovering (s ∷ rows) r → ⊥) → HasCovering rows r → ⊥
weaker r s rows uncovered c = uncovered (c.0, contains_from_member (s ∷ rows) c.0 (inr (member_from_contains rows c.0 c.1)), c.2)

turned_less : (s r : RowValue) → is_lt (place_cmp s r) ≡ true → place_cmp r s ≡ Greater
turned_less s r e =
    let P : Ordering → Type 0 = λ o. is_lt o ≡ true → ordering_reverse o ≡ Greater in
    let each : (o : Ordering) → P o = elim [ Less ↦ λ t. refl | Equal ↦ λ t. absurd (false≢true t) | Greater ↦ λ t. absurd (false≢true t) ] in
    place_total.antisymm r s ∙ each (place_cmp s r) e

-- The rows before the place of r stay, then comes r, then what r leaves of the run from its place on,
-- then the rows behind the run.
pub placed-in_run : (r : RowValue) (rows : List RowValue) → IsRising rows → (HasCovering rows r → ⊥)
    → placed place_cmp r (left_of r rows) ≡ take (place_of place_cmp r rows) rows ++ (r ∷ (left_of r (take (run_of r (drop (place_of place_cmp r rows) rows)) (drop (place_of place_cmp r rows) rows)) ++ drop (run_of r (drop (place_of place_cmp r rows) rows)) (drop (place_of place_cmp r rows) rows)))
unfolding IsStrictlySortedBy
placed-in_run r [] up uncovered = refl
placed-in_run r (s ∷ rows) up uncovered =
    let after : ℕ → List RowValue = λ k. take k (s ∷ rows) ++ (r ∷ (left_of r (take (run_of r (drop k (s ∷ rows))) (drop k (s ∷ rows))) ++ drop (run_of r (drop k (s ∷ rows))) (drop k (s ∷ rows)))) in
    let P : Bool → Type 0 = λ b. is_lt (place_cmp s r) ≡ b → placed place_cmp r (left_of r (s ∷ rows)) ≡ after (cond b (1 + place_of place_cmp r rows) 0) in
    let each : (b : Bool) → P b = elim [
      | true ↦ λ e.
          let greater : place_cmp r s ≡ Greater = turned_less s r e in
          let stays : is_dominating r s ≡ false = false_from_ne_true (is_dominating r s) (λ d. false≢true (sym (at_prefix_not_above r s (at_prefix r s (dominated_at_prefix r s d))) ∙ ap is_gt greater)) in
          ap (λ b. placed place_cmp r (cond (not b) (s ∷ left_of r rows) (left_of r rows))) stays
          ∙ ap (λ o. match_ordering o (r ∷ s ∷ left_of r rows) (s ∷ left_of r rows) (s ∷ placed place_cmp r (left_of r rows))) greater
          ∙ ap (λ l. s ∷ l) (placed-in_run r rows up.1 (weaker r s rows uncovered))
          ∙ ap after (sym (one-add (place_of place_cmp r rows)))
      | false ↦ λ e.
          let above = above_from_rising r s rows up.0 e in
          placed-first place_cmp r (left_of r (s ∷ rows)) (left_above r (s ∷ rows) uncovered above)
          ∙ ap (λ l. r ∷ l) (left_in_run r (s ∷ rows) up above)
    ] in
    each (is_lt (place_cmp s r)) refl

-- ---- where a covering row stands

-- A row that covers r stands in its namespace and subspace, at one of the fronts of its path.
pub record IsAtFront (r s : RowValue) : Type 0 where
  pub namespace : s.entry.namespace ≡ r.entry.namespace
  pub subspace : s.entry.subspace ≡ r.entry.subspace
  pub shorter : length s.entry.path ≤ length r.entry.path
  pub front : take (length s.entry.path) r.entry.path ≡ s.entry.path

pub covering_at_front : (r s : RowValue) → (s ≡ r) ⊎ Dominates s r → IsAtFront r s
covering_at_front r s (inl e) =
    let f = prefix_is_front s.entry.path r.entry.path (subst (λ w. IsPrefix s.entry.path w.entry.path) e (prefix_of_itself s.entry.path)) in
    record { namespace = ap (λ w. w.entry.namespace) e; subspace = ap (λ w. w.entry.subspace) e; shorter = f.0; front = f.1 }
covering_at_front r s (inr d) =
    let f = prefix_is_front s.entry.path r.entry.path d.path in
    record { namespace = d.namespace; subspace = d.subspace; shorter = f.0; front = f.1 }
