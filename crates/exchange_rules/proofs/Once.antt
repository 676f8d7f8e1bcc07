-- Rows that are counted no more often than a side holds them: they are rows of it, and each stands there once.
use Rattle.std.proofs.Common.{◌≡◌, ℕ, ◌+◌, ◌≤◌, Bool, true, false, cond, List, [], ◌∷◌, count_by, Contains, sym, refl, ap, subst, ◌↔◌, arith}
use Rattle.std.specs.List.{AllByRecursion, IsDistinct}
use Rattle.std.proofs.lemmas.Bool.{false≢true}
use Rattle.std.proofs.lemmas.List.Sums.{sum_by-cons}
use Rattle.exchange_rules.specs.Rules.{Rules, box_rows}
use Rattle.exchange_rules.specs.Premises.{IsDeciding}
use Rattle.exchange_rules.proofs.Sums.{count_by-filter-le}
use Rattle.exchange_rules.proofs.Members.{contains_counted, counted_contains}

-- 1 for yes
abbrev one_or_none : Bool → ℕ
one_or_none b = cond b 1 0

count_where : (b : Bool) (n : ℕ) → b ≡ false → cond b 1 0 + n ≡ n
count_where true n e = absurd (false≢true (sym e))
count_where false n e = omega arith

none_of_others : {S : Type 0} (p : S → Bool) (rows : List S) → AllByRecursion (λ s. p s ≡ false) rows → count_by p rows ≡ 0
none_of_others p [] h = refl
none_of_others p (s ∷ rows) h = omega (arith, sum_by-cons (λ r. cond (p r) 1 0) s rows, count_where (p s) (count_by p rows) h.0, none_of_others p rows h.1)

others_of_none : {S : Type 0} (p : S → Bool) (rows : List S) → count_by p rows ≤ 0 → AllByRecursion (λ s. p s ≡ false) rows
others_of_none p [] h = tt
others_of_none {S} p (s ∷ rows) h =
    let n = sum_by-cons (λ r. cond (p r) 1 0) s rows in
    let P : Bool → Type 0 = λ b. cond b 1 0 + count_by p rows ≤ 0 → (b ≡ false) × (count_by p rows ≤ 0) in
    let both : (b : Bool) → P b = elim [ true ↦ λ k. absurd (omega arith) | false ↦ λ k. (refl, omega arith) ] in
    let r = both (p s) (omega (arith, h, n)) in
    (r.0, others_of_none p rows r.1)

module _ {S : Type 0} (same : S → S → Bool) (decides : (r s : S) → (same r s ≡ true) ↔ (r ≡ s)) where
  distinct_counted : (rows : List S) → IsDistinct same rows → (r : S) → count_by (same r) rows ≤ 1
  unfolding IsDistinct
  distinct_counted [] h r = omega arith
  distinct_counted (s ∷ rows) h r =
      let n = sum_by-cons (λ t. cond (same r t) 1 0) s rows in
      let P : Bool → Type 0 = λ b. same r s ≡ b → count_by (same r) (s ∷ rows) ≡ cond b 1 0 + count_by (same r) rows → count_by (same r) (s ∷ rows) ≤ 1 in
      let both : (b : Bool) → P b = elim [
        | true ↦ λ e k. omega (arith, k, none_of_others (same r) rows (subst (λ t. AllByRecursion (λ u. same t u ≡ false) rows) (sym ((decides r s).0 e)) h.0))
        | false ↦ λ e k. omega (arith, k, distinct_counted rows h.1 r)
      ] in
      both (same r s) refl n

  counted_distinct : (rows : List S) → ((r : S) → count_by (same r) rows ≤ 1) → IsDistinct same rows
  unfolding IsDistinct
  counted_distinct [] h = tt
  counted_distinct (s ∷ rows) h =
      let once : count_by (same s) rows ≤ 0 = omega (arith, h s, sum_by-cons (λ t. cond (same s t) 1 0) s rows, ap one_or_none ((decides s s).1 refl)) in
      (others_of_none (same s) rows once, counted_distinct rows (λ r. omega (arith, h r, sum_by-cons (λ t. cond (same r t) 1 0) s rows)))

-- rows that are counted no more often than the side holds them in the box are rows of it there, and each is sent once
module _ {R X C : Type 0} (g : Rules R X C) (decides : IsDeciding g) (l : List R) (x : X) (sent : List R)
    (within : (q : R → Bool) → count_by q sent ≤ count_by q (box_rows g x l)) where
  pub held_rows : (r : R) → Contains sent r → Contains (box_rows g x l) r
  held_rows r c =
      counted_contains (g.same_row r) r (λ s e. sym ((decides.rows r s).0 e)) (box_rows g x l)
      (omega (arith, contains_counted (g.same_row r) sent r ((decides.rows r r).1 refl) c, within (g.same_row r)))

  pub distinct_rows : IsDistinct g.same_row l → IsDistinct g.same_row sent
  distinct_rows h =
      counted_distinct g.same_row decides.rows sent
      (λ r. omega (arith, within (g.same_row r), count_by-filter-le (g.same_row r) (g.has x) l, distinct_counted g.same_row decides.rows l h r))
