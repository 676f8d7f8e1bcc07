-- What a row leaves of a list, item by item.
use Rattle.std.proofs.Common.{◌≡◌, inl, inr, ℕ, suc, ◌+◌, ◌<◌, ◌≤◌, Bool, true, false, not, cond, if◌then◌else◌, List, [], ◌∷◌, ◌++◌, length, take, filter, get_or, count_by, append_assoc, refl, sym, ap, ap₂, ◌∙◌, arith}
use Rattle.std.proofs.lemmas.Bool.{false_from_ne_true}
use Rattle.std.proofs.lemmas.List.{take_more, length-append}
use Rattle.std.proofs.lemmas.List.Elements.{All-contains, filter_more, filter-append}
use Rattle.std.proofs.lemmas.List.Sums.{length-filter, count_by-le-length}
use Rattle.std.proofs.lemmas.List.Filters.{length-filter_more, length-filter_both}
use Rattle.willow_entry.specs.Entry.{IsNewer}
use Rattle.willow_entry.specs.Row.{RowValue, is_dominating, left_of}
use Rattle.willow_entry.specs.declared.entry.Entry.{Entry}
use Rattle.willow_entry.proofs.Local.{keeps_all}
use Rattle.willow_entry.proofs.Members.{contains_from_member}
use Rattle.willow_entry.proofs.RowLaws.{dominates_decides}
use Rattle.block_store.specs.Times.{AreWritten}

module _ {X : Type 0} where
  -- one item more of a list that goes behind others
  pub one_more : (front xs : List X) (at : ℕ) (x : X) → at < length xs → get_or xs at x ≡ x → (front ++ take at xs) ++ x ∷ [] ≡ front ++ take (at + 1) xs
  one_more front xs at x h is =
      append_assoc front (take at xs) (x ∷ []) ∙ ap (λ l. front ++ l) (ap (λ y. take at xs ++ y ∷ []) (sym is) ∙ sym (take_more xs at x h))

  pub counted_more : (test : X → Bool) (xs : List X) (at : ℕ) (x : X) → at < length xs → get_or xs at x ≡ x → count_by test (take (at + 1) xs) ≡ count_by test (take at xs) + (if test x then 1 else 0)
  counted_more test xs at x h is =
      sym (length-filter test (take (at + 1) xs)) ∙ length-filter_more test xs at x h
      ∙ ap₂ (λ n y. n + cond (test y) 1 0) (length-filter test (take at xs)) is

  pub counted_append : (test : X → Bool) (xs ys : List X) → count_by test (xs ++ ys) ≡ count_by test xs + count_by test ys
  counted_append test xs ys =
      sym (length-filter test (xs ++ ys)) ∙ ap length (filter-append test xs ys) ∙ length-append (filter test xs) (filter test ys)
      ∙ ap₂ (λ m n. m + n) (length-filter test xs) (length-filter test ys)

  -- as many are kept as there are: then all are
  kept_all : (p : X → Bool) (xs : List X) → length (filter p xs) ≡ length xs → filter p xs ≡ xs
  kept_all p [] e = refl
  kept_all p (x ∷ xs) e =
      let P : Bool → Type 0 = λ b. length (cond b (x ∷ filter p xs) (filter p xs)) ≡ suc (length xs) → cond b (x ∷ filter p xs) (filter p xs) ≡ x ∷ xs in
      let each : (b : Bool) → P b = elim [
        | true ↦ λ k. ap (λ l. x ∷ l) (kept_all p xs (omega arith))
        | false ↦ λ k. absurd (omega (arith, length-filter p xs, count_by-le-length p xs))
      ] in
      each (p x) e

-- where a row dominates none of a list, it leaves all
pub none_pruned : (r : RowValue) (rows : List RowValue) → count_by (is_dominating r) rows ≡ 0 → left_of r rows ≡ rows
none_pruned r rows e =
    kept_all (λ s. not (is_dominating r s)) rows
    (omega (arith, length-filter (is_dominating r) rows, length-filter_both (is_dominating r) (λ s. not (is_dominating r s)) (λ s. refl) rows))

pub all_left : (r : RowValue) (rows : List RowValue) → left_of r rows ≡ rows → count_by (is_dominating r) rows ≡ 0
all_left r rows e =
    omega (arith, ap length e, length-filter (is_dominating r) rows, length-filter_both (is_dominating r) (λ s. not (is_dominating r s)) (λ s. refl) rows)

-- a row dominates none that was written later
not_later : (r s : RowValue) → is_dominating r s ≡ true → s.entry.timestamp ≤ r.entry.timestamp
not_later r s e = elim ((dominates_decides r s).0 e).stronger [
  | inl newer ↦ by_rank newer
  | inr same ↦ omega (arith, ap (λ (x : Entry). x.timestamp) same.0)
]
  where
    by_rank : IsNewer r.entry s.entry → s.entry.timestamp ≤ r.entry.timestamp
    by_rank (inl h) = omega arith
    by_rank (inr (inl h)) = omega (arith, h.0)
    by_rank (inr (inr h)) = omega (arith, h.0)

pub later_stay : (r : RowValue) (earliest latest : ℕ) (rows : List RowValue) → r.entry.timestamp < earliest → AreWritten earliest latest rows → count_by (is_dominating r) rows ≡ 0
later_stay r earliest latest rows h all =
    all_left r rows (keeps_all r rows (λ s m. false_from_ne_true (is_dominating r s) (λ e. absurd (omega (
      arith,
      not_later r s e,
      (All-contains (λ t. (earliest ≤ t.entry.timestamp) × (t.entry.timestamp ≤ latest)) rows s all (contains_from_member rows s m)).0,
    )))))

-- one item more that a row keeps or not
pub left_more : (r : RowValue) (front rows : List RowValue) (at : ℕ) (s : RowValue) → at < length rows → get_or rows at s ≡ s → (goes : Bool) → goes ≡ is_dominating r s
    → (front ++ left_of r (take at rows)) ++ (if goes then [] else s ∷ []) ≡ front ++ left_of r (take (at + 1) rows)
left_more r front rows at s h is goes e =
    let p : RowValue → Bool = λ t. not (is_dominating r t) in
    append_assoc front (left_of r (take at rows)) (if goes then [] else s ∷ [])
    ∙ ap (λ l. front ++ l) (
    ap (λ b. left_of r (take at rows) ++ (if b then [] else s ∷ [])) e
    ∙ ap (λ l. left_of r (take at rows) ++ l) (turned (is_dominating r s) (s ∷ []))
    ∙ ap (λ t. left_of r (take at rows) ++ cond (p t) (t ∷ []) []) (sym is)
    ∙ sym (filter_more p rows at s h))
  where
    turned : (b : Bool) (l : List RowValue) → (if b then [] else l) ≡ cond (not b) l []
    turned true l = refl
    turned false l = refl
