-- Which rows a log covers, and how many it does not.
use Rattle.std.proofs.Common.{◌≡◌, ◌+◌, Bool, true, false, cond, not, List, [], ◌∷◌, ◌++◌, refl, sym, ap, ◌∙◌, arith}
use Rattle.std.specs.List.{AllByRecursion}
use Rattle.std.proofs.lemmas.Bool.{false_from_ne_true}
use Rattle.std.proofs.lemmas.List.{map-append}
use Rattle.std.proofs.lemmas.List.Elements.{Contains-append_left}
use Rattle.std.proofs.lemmas.List.Sums.{sum_by-append}
use mathlib.Core.List.{IsPrefix}
use Rattle.willow_entry.specs.Row.{RowValue, is_covering, HasCovering}
use Rattle.willow_entry.specs.declared.row.LogRow.{LogRow}
use Rattle.willow_entry.proofs.Members.{contains_from_member, member_from_contains, any_false, any_true, true_of_any}
use Rattle.willow_entry.proofs.RowLaws.{covering_means}
use Rattle.ns_state.specs.Log.{values}
use Rattle.row_intake.specs.Kept.{is_covered, uncovered}

pub covered_is : (log : List RowValue) (row : RowValue) → HasCovering log row → is_covered log row ≡ true
covered_is log row h = true_of_any (λ s. is_covering s row) log h.0 (member_from_contains log h.0 h.1) ((covering_means h.0 row).1 h.2)

pub uncovered_is : (log : List RowValue) (row : RowValue) → (HasCovering log row → ⊥) → is_covered log row ≡ false
uncovered_is log row none = any_false (λ s. is_covering s row) log (λ s m. false_from_ne_true (is_covering s row) (λ t. none (s, contains_from_member log s m, (covering_means s row).0 t)))

pub covering_of : (log : List RowValue) (row : RowValue) → is_covered log row ≡ true → HasCovering log row
covering_of log row e = let f = any_true (λ s. is_covering s row) log e in (f.0, contains_from_member log f.0 f.1, (covering_means f.0 row).0 f.2)

pub uncovered-append : (log xs ys : List RowValue) → uncovered log (xs ++ ys) ≡ uncovered log xs + uncovered log ys
uncovered-append log xs ys = sum_by-append (λ row. cond (not (is_covered log row)) 1 0) xs ys

-- one row
pub covered_one : (log : List RowValue) (row : RowValue) → HasCovering log row → uncovered log (row ∷ []) ≡ 0
covered_one log row h = ap (λ b. 0 + cond (not b) 1 0) (covered_is log row h)

pub uncovered_one : (log : List RowValue) (row : RowValue) → (HasCovering log row → ⊥) → uncovered log (row ∷ []) ≡ 1
uncovered_one log row none = ap (λ b. 0 + cond (not b) 1 0) (uncovered_is log row none)

pub covered_all : (log rows : List RowValue) → uncovered log rows ≡ 0 → AllByRecursion (HasCovering log) rows
covered_all log [] none = tt
covered_all log (row ∷ rows) none = by_test (is_covered log row) refl (covered_all log rows (omega (arith, uncovered-append log (row ∷ []) rows)))
  where
    by_test : (b : Bool) → is_covered log row ≡ b → AllByRecursion (HasCovering log) rows → HasCovering log row × AllByRecursion (HasCovering log) rows
    by_test true is rest = (covering_of log row is, rest)
    by_test false is rest =
        let one : uncovered log (row ∷ []) ≡ 1 = ap (λ b. 0 + cond (not b) 1 0) is in
        absurd (omega (arith, uncovered-append log (row ∷ []) rows))

pub all_covered : (log rows : List RowValue) → AllByRecursion (HasCovering log) rows → uncovered log rows ≡ 0
all_covered log [] h = refl
all_covered log (row ∷ rows) h = omega (arith, covered_one log row h.0, all_covered log rows h.1, uncovered-append log (row ∷ []) rows)

-- ---- a longer log

pub covering_more : (log more : List RowValue) (row : RowValue) → HasCovering log row → HasCovering (log ++ more) row
covering_more log more row h = (h.0, Contains-append_left log more h.0 h.1, h.2)

pub all_covered_more : (log more rows : List RowValue) → AllByRecursion (HasCovering log) rows → AllByRecursion (HasCovering (log ++ more)) rows
all_covered_more log more [] h = tt
all_covered_more log more (row ∷ rows) h = (covering_more log more row h.0, all_covered_more log more rows h.1)

pub none_more : (log more rows : List RowValue) → uncovered log rows ≡ 0 → uncovered (log ++ more) rows ≡ 0
none_more log more rows none = all_covered (log ++ more) rows (all_covered_more log more rows (covered_all log rows none))

pub rows_behind : {R : Type 0} (value : R → RowValue) (xs ys : List (LogRow R)) (front : IsPrefix xs ys) → values value ys ≡ values value xs ++ values value front.0
rows_behind {R} value xs ys front = ap (values value) (sym front.1) ∙ map-append (λ (l : LogRow R). value l.row) xs front.0
