-- The log of a closed cell, of which some passes never stored a row.
use Rattle.std.proofs.Common.{◌≡◌, ℕ, zero, suc, ◌+◌, ◌≤◌, ◌⊎◌, inl, inr, eqb, List, [], ◌∷◌, length, get_or, refl, ◌∙◌, subst, arith, eq-eqb}
use Rattle.std.specs.List.{All, AllByRecursion}
use Rattle.std.proofs.lemmas.List.Elements.{All-contains, All-from_recursion, Contains-get_or}
use Rattle.willow_entry.specs.declared.row.LogRow.{LogRow}
use Rattle.willow_entry.proofs.Members.{Member, member_filter, member_from_contains}
use Rattle.log_rule.specs.Views.{rows_of_pass}
use Rattle.ns_cell.specs.Closed.{IsClosed}
use Rattle.ns_cell.specs.Passes.{CellValue, PassValue, opening_rows, new_passes}

-- ---- lists with a first item

pub heads : {X : Type 0} (x y : X) (xs ys : List X) → x ∷ xs ≡ y ∷ ys → x ≡ y
heads x y xs ys e = cc

pub tails : {X : Type 0} (x y : X) (xs ys : List X) → x ∷ xs ≡ y ∷ ys → xs ≡ ys
tails x y xs ys e = cc

pub never_empty : {X : Type 0} (x : X) (xs : List X) → x ∷ xs ≡ [] → ⊥
never_empty x xs e = absurd cc

-- a list of one item
pub only_item : {X : Type 0} (xs : List X) (d : X) → length xs ≡ 1 → xs ≡ get_or xs 0 d ∷ []
only_item [] d is = absurd (omega (arith, is))
only_item (x ∷ []) d is = refl
only_item (x ∷ (y ∷ ys)) d is = absurd (omega (arith, is))

module _ {R : Type 0} where
  -- where a number has no rows in a log, no row there has the number
  no_row : (n : ℕ) (log : List (LogRow R)) → rows_of_pass n log ≡ [] → (row : LogRow R) → Member log row → n ≡ row.pass → ⊥
  no_row n log none row here is = subst (λ (rows : List (LogRow R)). Member rows row) none (member_filter (λ (r : LogRow R). eqb n r.pass) log row here (eq-eqb n row.pass is))

  -- the pass has at most this number, or no rows
  abbrev pub IsLowOrEmpty : ℕ → PassValue R → Type 0
  IsLowOrEmpty most pass = (pass.number ≤ most) ⊎ (pass.own ≡ [])

  -- a row is of one of the passes, and of none that has no rows
  pub low_numbers : (passes : List (PassValue R)) (log : List (LogRow R)) (most : ℕ) → IsClosed passes log → AllByRecursion (IsLowOrEmpty most) passes → All (λ (row : LogRow R). row.pass ≤ most) log
  low_numbers passes log most closed low k d within =
      let row = get_or log k d in
      let known = closed.known k d within in
      let pass = known.0 in
      let own : rows_of_pass pass.number log ≡ pass.own = All-contains (λ (p : PassValue R). rows_of_pass p.number log ≡ p.own) passes pass closed.own known.1 in
      let here = member_from_contains log row (Contains-get_or log k d within) in
      let of_pass : pass.number ≡ row.pass = known.2 in
      elim (All-contains (IsLowOrEmpty most) passes pass (All-from_recursion (IsLowOrEmpty most) passes low) known.1) [
        | inl few ↦ omega (arith, few, of_pass)
        | inr none ↦ absurd (no_row pass.number log (own ∙ none) row here of_pass)
      ]

  -- ---- new passes behind the first

  -- a pass behind the first has no rows at first
  pub later_own : (number : ℕ) (log : List (LogRow R)) → 1 ≤ number → opening_rows number log ≡ []
  later_own zero log later = absurd (omega arith)
  later_own (suc number) log later = refl

  pub none_own : (cell : CellValue) (log : List (LogRow R)) (number count : ℕ) → 1 ≤ number → AllByRecursion (λ (p : PassValue R). p.own ≡ []) (new_passes cell log number count)
  none_own cell log number zero later = tt
  none_own cell log number (suc count) later = (later_own number log later, none_own cell log (number + 1) count (omega arith))
