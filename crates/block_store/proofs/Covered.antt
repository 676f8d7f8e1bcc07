-- A row that covers another is found by a search at the fronts of its path, the shortest first.
use Rattle.std.proofs.Common.{◌≡◌, ◌⊎◌, inl, inr, ℕ, zero, suc, ◌+◌, ◌≤◌, ◌<◌, true, false, cond, nat_lt, List, [], ◌∷◌, ◌++◌, length, take, drop, get_or, Some, None, position, sym, ap, ◌∙◌, subst, Less, Equal, is_lt, is_gt, lt-ltb, arith}
use Rattle.std.specs.List.{AllByRecursion, position_or_len}
use Rattle.std.specs.List.Sorted.{IsStrictlySortedBy}
use Rattle.std.specs.Ordering.{ordering_then, ordering_reverse}
use Rattle.std.proofs.lemmas.Bool.{false≢true, both_ways, false_from_ne_true, cases_eq, le-ltb}
use Rattle.std.proofs.Math.Seq.{take-length}
use Rattle.std.proofs.lemmas.Cmp.{alike_right}
use Rattle.std.proofs.lemmas.List.{take-take, take-append-drop, get_or-drop, get_or-take, length-take-le, length-drop, get_or_default}
use Rattle.std.proofs.lemmas.List.Elements.{All-from_recursion}
use Rattle.std.proofs.lemmas.List.Sums.{position_or_len_is}
use Rattle.willow_path.specs.Path.{is_prefix, path_cmp}
use Rattle.willow_path.proofs.PathOrder.{is_prefix_decides, path_cmp_equal}
use Rattle.willow_entry.specs.Pruning.{IsPlace}
use Rattle.willow_entry.specs.Entry.{bytes_cmp}
use Rattle.willow_entry.specs.Row.{RowValue, is_at_prefix, is_covering, place_cmp, IsRising}
use Rattle.willow_entry.proofs.Members.{Member, contains_from_member, member_from_contains, member_append_cases}
use Rattle.willow_entry.proofs.Rising.{all_member, Less≢Equal}
use Rattle.willow_entry.proofs.Ranks.{place_total, bytes_same}
use Rattle.willow_entry.proofs.RowLaws.{covering_means}
use Rattle.willow_entry.proofs.Local.{IsAtPrefix, at_prefix_not_above, at_prefix_test, IsAtFront, covering_at_front}
use Rattle.block_store.specs.Front.{front, HaveComponents, ReachFrom}

-- a row is its own longest front
pub front_whole : (r : RowValue) → front r (length r.entry.path) ≡ r
front_whole r = ap (λ p. record r { entry = record r.entry { path = p } }) (take-length r.entry.path)

same_place : (r s : RowValue) → r.entry.namespace ≡ s.entry.namespace → r.entry.subspace ≡ s.entry.subspace → r.entry.path ≡ s.entry.path → place_cmp r s ≡ Equal
unfolding place_cmp
same_place r s n u p =
    ap (λ o. ordering_then o (ordering_then (bytes_cmp r.entry.subspace s.entry.subspace) (path_cmp r.entry.path s.entry.path))) (bytes_same r.entry.namespace s.entry.namespace n)
    ∙ ap (λ o. ordering_then o (path_cmp r.entry.path s.entry.path)) (bytes_same r.entry.subspace s.entry.subspace u)
    ∙ (path_cmp_equal r.entry.path s.entry.path).1 p

-- a shorter front of a path is a prefix of a longer one
front_of_front : (k : ℕ) (path longer : List (List ℕ)) → take (length path) longer ≡ path → k ≤ length path → is_prefix (take k longer) path ≡ true
front_of_front k path longer e h =
    let same : take k longer ≡ take k path = sym (take-take k (length path) longer h) ∙ ap (take k) e in
    ap (λ p. is_prefix p path) same ∙ (is_prefix_decides (take k path) path).1 (drop k path, sym (take-append-drop k path))

covering_front : (s r : RowValue) → is_covering s r ≡ true → IsAtFront r s
covering_front s r e = covering_at_front r s ((covering_means s r).0 e)

-- a row that covers r stands at the place of the front of its own length
covering_place : (s r : RowValue) → is_covering s r ≡ true → place_cmp s (front r (length s.entry.path)) ≡ Equal
covering_place s r e =
    let f = covering_front s r e in
    same_place s (front r (length s.entry.path)) f.namespace f.subspace (sym f.front)

-- and so not below a shorter front
covering_not_below : (s r : RowValue) (k : ℕ) → is_covering s r ≡ true → k ≤ length s.entry.path → place_cmp s (front r k) ≡ Less → ⊥
covering_not_below s r k e h below =
    let f = covering_front s r e in
    let at : IsAtPrefix (front r k) s = record {
      namespace = sym f.namespace;
      subspace = sym f.subspace;
      path = front_of_front k s.entry.path r.entry.path f.front h;
    } in
    false≢true (sym (at_prefix_not_above (front r k) s at) ∙ ap is_gt (place_total.antisymm (front r k) s ∙ ap ordering_reverse below))

-- a row that stands at no prefix of the path of r does not cover r
pub covering_not : (s r : RowValue) → is_at_prefix s r ≡ false → is_covering s r ≡ false
covering_not s r none = false_from_ne_true (is_covering s r) (λ e.
    let f = covering_front s r e in
    let n = length s.entry.path in
    let on : r.entry.path ≡ s.entry.path ++ drop n r.entry.path = sym (take-append-drop n r.entry.path) ∙ ap (λ p. p ++ drop n r.entry.path) f.front in
    let at : IsAtPrefix s r = record { namespace = f.namespace; subspace = f.subspace; path = (is_prefix_decides s.entry.path r.entry.path).1 (drop n r.entry.path, on) } in
    both_ways (is_at_prefix s r) none (at_prefix_test s r at))

pub rising_drop : (n : ℕ) (rows : List RowValue) → IsRising rows → IsRising (drop n rows)
unfolding IsStrictlySortedBy
rising_drop zero rows up = up
rising_drop (suc n) [] up = tt
rising_drop (suc n) (s ∷ rows) up = rising_drop n rows up.1

-- of rows that rise and are not below a place only the first may stand at it
first_tied : (t : RowValue) (rows : List RowValue) → IsRising rows → AllByRecursion (λ s. is_lt (place_cmp s t) ≡ false) rows → (s : RowValue) → Member rows s → place_cmp s t ≡ Equal → (d : RowValue) → (0 < length rows) × (get_or rows 0 d ≡ s)
unfolding IsStrictlySortedBy
first_tied t [] up beyond s m e d = absurd m
first_tied t (y ∷ rows) up beyond s (inl q) e d = (omega arith, q)
first_tied t (y ∷ rows) up beyond s (inr m) e d =
    let less : place_cmp y s ≡ Less = all_member place_cmp (λ w. place_cmp y w ≡ Less) rows up.0 s m in
    absurd (false≢true (sym beyond.0 ∙ ap is_lt (sym (alike_right place_total s t y e) ∙ less)))

module _ (rows : List RowValue) (r : RowValue) where
  pub from_fewest : (k : ℕ) → HaveComponents rows k → ReachFrom rows r k
  from_fewest k have = record { reach = λ s m e. have.each s m }

  pub reach_shorter : (k n : ℕ) → n ≤ k → ReachFrom rows r k → ReachFrom rows r n
  reach_shorter k n h reach = record { reach = λ s m e. omega (arith, reach.reach s m e) }

  position_at : (n : ℕ) → n < length rows → position_or_len (λ s. is_covering s r) rows ≡ n → position (λ s. is_covering s r) rows ≡ Some n
  position_at n h e = ap (λ k. cond (nat_lt k (length rows)) (Some k) None) e ∙ ap (λ b. cond b (Some n) None) (lt-ltb n (length rows) h)

  module _ (k n : ℕ) (reach : ReachFrom rows r k) (place : IsPlace place_cmp (front r k) rows n) where
    -- a covering row at the place of the front is the first that covers
    pub found_at : n < length rows → is_covering (get_or rows n r) r ≡ true → position (λ s. is_covering s r) rows ≡ Some n
    found_at h e = position_at n h (position_or_len_is (λ s. is_covering s r) rows n r (omega arith) before (λ _. e)) where
      before : (j : ℕ) → j < n → is_covering (get_or rows j r) r ≡ false
      before j lt = false_from_ne_true (is_covering (get_or rows j r) r) (λ t.
          let below = All-from_recursion (λ s. place_cmp s (front r k) ≡ Less) (take n rows) place.below j r (omega (arith, length-take-le n rows (omega arith))) in
          covering_not_below (get_or rows j r) r k t
          (reach.reach (get_or rows j r) (j, omega arith, get_or_default rows j (get_or rows j r) r (omega arith)) t)
          (subst (λ s. place_cmp s (front r k) ≡ Less) (get_or-take n rows j r lt) below))

    -- where none is there, the rows that cover have longer paths
    pub passed_at : IsRising rows → (n < length rows → is_covering (get_or rows n r) r ≡ false) → ReachFrom rows r (k + 1)
    passed_at up none = record { reach = λ s c e. longer s (member_from_contains rows s c) e (cases_eq (length s.entry.path) k) } where
      here : (s : RowValue) → Member rows s → is_covering s r ≡ true → place_cmp s (front r k) ≡ Equal → ⊥
      here s m e tie = elim (member_append_cases (take n rows) (drop n rows) s (subst (λ l. Member l s) (sym (take-append-drop n rows)) m)) [
        | inl before ↦ Less≢Equal (sym (all_member place_cmp (λ t. place_cmp t (front r k) ≡ Less) (take n rows) place.below s before) ∙ tie)
        | inr after ↦ (
            let first = first_tied (front r k) (drop n rows) (rising_drop n rows up) place.beyond s after tie r in
            let same : get_or rows n r ≡ s = ap (λ i. get_or rows i r) (omega arith) ∙ sym (get_or-drop n rows 0 r) ∙ first.1 in
            both_ways (is_covering s r) (subst (λ t. is_covering t r ≡ false) same (none (omega (arith, first.0, length-drop n rows)))) e)
      ]

      longer : (s : RowValue) → Member rows s → is_covering s r ≡ true → (length s.entry.path ≡ k) ⊎ (length s.entry.path ≡ k → ⊥) → k + 1 ≤ length s.entry.path
      longer s m e (inl q) = absurd (here s m e (subst (λ j. place_cmp s (front r j) ≡ Equal) q (covering_place s r e)))
      longer s m e (inr ne) = omega (arith, reach.reach s (contains_from_member rows s m) e)

  -- no path is longer than all fronts
  pub none_left : ReachFrom rows r (length r.entry.path + 1) → position (λ s. is_covering s r) rows ≡ None
  none_left reach =
      let all = position_or_len_is (λ s. is_covering s r) rows (length rows) r (omega arith)
      (λ j lt. false_from_ne_true (is_covering (get_or rows j r) r) (λ t.
      let s = get_or rows j r in
      let long = reach.reach s (j, lt, get_or_default rows j s r lt) t in
      let short = (covering_front s r t).shorter in
      absurd (omega arith))) (λ h. absurd (omega arith)) in
      ap (λ k. cond (nat_lt k (length rows)) (Some k) None) all ∙ ap (λ b. cond b (Some (length rows)) None) (le-ltb (length rows) (length rows) (omega arith))
