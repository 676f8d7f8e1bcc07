-- What the status that is told says of what was met.
use Rattle.std.proofs.Common.{◌≡◌, ◌≢◌, ◌⊎◌, inl, inr, ℕ, ◌≤◌, Bool, true, false, cond, eqb, List, [], ◌∷◌, Contains, refl, subst, arith, eqb-true, eq-eqb}
use Rattle.std.specs.List.{list_any}
use Rattle.std.proofs.lemmas.List.Folds.{Any-from_list_any, list_any-from_Any}
use Rattle.call_rules.specs.Told.{first_met, told_order, IsUnmet, IsTold}

met_from : (met : List ℕ) (status : ℕ) → list_any (λ m. eqb m status) met ≡ true → Contains met status
met_from met status is =
    let any = Any-from_list_any (λ m. eqb m status) met is in
    let here : Contains met any.1 = (any.0, any.2, any.3) in
    subst (λ (m : ℕ). Contains met m) (eqb-true any.1 status any.4) here

any_met : (met : List ℕ) (status : ℕ) → Contains met status → list_any (λ m. eqb m status) met ≡ true
any_met met status at = list_any-from_Any (λ m. eqb m status) met (at.0, status, at.1, at.2, eq-eqb status status refl)

-- the status that is told is 0, or was met
pub told_met : (order met : List ℕ) → (first_met order met ≡ 0) ⊎ Contains met (first_met order met)
unfolding first_met
told_met [] met = inl refl
told_met (status ∷ later) met = by (list_any (λ m. eqb m status) met) refl (first_met later met) (told_met later met) where
  by : (b : Bool) → list_any (λ m. eqb m status) met ≡ b → (behind : ℕ) → (behind ≡ 0) ⊎ Contains met behind → (cond b status behind ≡ 0) ⊎ Contains met (cond b status behind)
  by true is behind rest = inr (met_from met status is)
  by false is behind rest = rest

-- what was met is told, unless one is told before it
pub three_told : (met : List ℕ) → first_met told_order met ≢ 3 → first_met told_order met ≢ 7 → IsUnmet met 3
unfolding first_met
three_told met three seven at = by (list_any (λ m. eqb m 7) met) (list_any (λ m. eqb m 3) met) (first_met (4 ∷ 6 ∷ 8 ∷ 1 ∷ []) met) (any_met met 3 at) three seven where
  by : (a b : Bool) (later : ℕ) → b ≡ true → cond a 7 (cond b 3 later) ≢ 3 → cond a 7 (cond b 3 later) ≢ 7 → ⊥
  by true b later is not_three not_seven = not_seven refl
  by false true later is not_three not_seven = not_three refl
  by false false later is not_three not_seven = absurd cc

pub four_told : (met : List ℕ) → first_met told_order met ≢ 3 → first_met told_order met ≢ 4 → first_met told_order met ≢ 7 → IsUnmet met 4
unfolding first_met
four_told met three four seven at =
    by (list_any (λ m. eqb m 7) met) (list_any (λ m. eqb m 3) met) (list_any (λ m. eqb m 4) met) (first_met (6 ∷ 8 ∷ 1 ∷ []) met) (any_met met 4 at) three four seven
  where
    by : (a b c : Bool) (later : ℕ) → c ≡ true → cond a 7 (cond b 3 (cond c 4 later)) ≢ 3 → cond a 7 (cond b 3 (cond c 4 later)) ≢ 4 → cond a 7 (cond b 3 (cond c 4 later)) ≢ 7 → ⊥
    by true b c later is not_three not_four not_seven = not_seven refl
    by false true c later is not_three not_four not_seven = not_three refl
    by false false true later is not_three not_four not_seven = not_four refl
    by false false false later is not_three not_four not_seven = absurd cc

pub seven_told : (met : List ℕ) → first_met told_order met ≢ 7 → IsUnmet met 7
unfolding first_met
seven_told met seven at = by (list_any (λ m. eqb m 7) met) (first_met (3 ∷ 4 ∷ 6 ∷ 8 ∷ 1 ∷ []) met) (any_met met 7 at) seven where
  by : (a : Bool) (later : ℕ) → a ≡ true → cond a 7 later ≢ 7 → ⊥
  by true later is not_seven = not_seven refl
  by false later is not_seven = absurd cc

pub told_known : (met : List ℕ) → IsTold (first_met told_order met)
unfolding first_met
told_known met = one (met_at 7) (met_at 3) (met_at 4) (met_at 6) (met_at 8) (met_at 1) where
  met_at : ℕ → Bool
  met_at status = list_any (λ m. eqb m status) met

  one : (a b c d e f : Bool) → IsTold (cond a 7 (cond b 3 (cond c 4 (cond d 6 (cond e 8 (cond f 1 0))))))
  one true b c d e f = record { small = omega arith; no_usage = λ e. omega (arith, e); no_input = λ e. omega (arith, e); above = λ x y z u v. absurd (v refl) }
  one false true c d e f = record { small = omega arith; no_usage = λ e. omega (arith, e); no_input = λ e. omega (arith, e); above = λ x y z u v. absurd (x refl) }
  one false false true d e f = record { small = omega arith; no_usage = λ e. omega (arith, e); no_input = λ e. omega (arith, e); above = λ x y z u v. absurd (y refl) }
  one false false false true e f = record { small = omega arith; no_usage = λ e. omega (arith, e); no_input = λ e. omega (arith, e); above = λ x y z u v. absurd (z refl) }
  one false false false false true f = record { small = omega arith; no_usage = λ e. omega (arith, e); no_input = λ e. omega (arith, e); above = λ x y z u v. absurd (u refl) }
  one false false false false false true = record { small = omega arith; no_usage = λ e. omega (arith, e); no_input = λ e. omega (arith, e); above = λ x y z u v. omega arith }
  one false false false false false false = record { small = omega arith; no_usage = λ e. omega (arith, e); no_input = λ e. omega (arith, e); above = λ x y z u v. omega arith }

-- ---- at 0 and 1

-- where 0 or 1 is told, none of the others was met
pub record AreUnmet (met : List ℕ) : Type 0 where
  pub seven : IsUnmet met 7
  pub three : IsUnmet met 3
  pub four : IsUnmet met 4
  pub six : IsUnmet met 6
  pub eight : IsUnmet met 8

no_any : (met : List ℕ) (status : ℕ) → list_any (λ m. eqb m status) met ≡ false → IsUnmet met status
no_any met status none at = by (list_any (λ m. eqb m status) met) none (any_met met status at) where
  by : (b : Bool) → b ≡ false → b ≡ true → ⊥
  by true none some = absurd cc
  by false none some = absurd cc

pub small_unmet : (met : List ℕ) → first_met told_order met ≤ 1 → AreUnmet met
unfolding first_met
small_unmet met small =
    let none = by (met_at 7) (met_at 3) (met_at 4) (met_at 6) (met_at 8) (first_met (1 ∷ []) met) small in
    record { seven = no_any met 7 none.0; three = no_any met 3 none.1; four = no_any met 4 none.2; six = no_any met 6 none.3; eight = no_any met 8 none.4 }
  where
    met_at : ℕ → Bool
    met_at status = list_any (λ m. eqb m status) met

    by : (a b c d e : Bool) (later : ℕ) → cond a 7 (cond b 3 (cond c 4 (cond d 6 (cond e 8 later)))) ≤ 1 → (a ≡ false) × (b ≡ false) × (c ≡ false) × (d ≡ false) × (e ≡ false)
    by true b c d e later small = absurd (omega (arith, small))
    by false true c d e later small = absurd (omega (arith, small))
    by false false true d e later small = absurd (omega (arith, small))
    by false false false true e later small = absurd (omega (arith, small))
    by false false false false true later small = absurd (omega (arith, small))
    by false false false false false later small = (refl, refl, refl, refl, refl)

-- and where 0 is told, 1 was not met either
pub zero_unmet : (met : List ℕ) → first_met told_order met ≡ 0 → IsUnmet met 1
unfolding first_met
zero_unmet met zero_is at = by (met_at 7) (met_at 3) (met_at 4) (met_at 6) (met_at 8) (met_at 1) (any_met met 1 at) (first_met told_order met) refl zero_is where
  met_at : ℕ → Bool
  met_at status = list_any (λ m. eqb m status) met

  by : (a b c d e f : Bool) → f ≡ true → (told : ℕ) → told ≡ cond a 7 (cond b 3 (cond c 4 (cond d 6 (cond e 8 (cond f 1 0))))) → told ≡ 0 → ⊥
  by true b c d e f some told is none = omega (arith, is, none)
  by false true c d e f some told is none = omega (arith, is, none)
  by false false true d e f some told is none = omega (arith, is, none)
  by false false false true e f some told is none = omega (arith, is, none)
  by false false false false true f some told is none = omega (arith, is, none)
  by false false false false false true some told is none = omega (arith, is, none)
  by false false false false false false some told is none = absurd cc
