-- The heights of trees, and the numbers that tell them.
use Rattle.std.proofs.Common.{◌≡◌, ℕ, ◌^◌, ◌<◌, ◌≤◌, eqb, Some, None, inl, inr, refl, ap, ◌∙◌, arith}
use Rattle.std.proofs.lemmas.Bool.{cases_Bool, eqb-true}
use Rattle.lms_core.specs.declared.height.Height.{Height}
use Rattle.lms_core.specs.declared.height.Height.TheVariants.{H5, H10}
use Rattle.lms_core.specs.Accepts.{levels, leaves, type_of, height_of}
use Rattle.lms_core.specs.Key.{height_at}

pub type_of_height : (height : Height) → height_of (type_of height) ≡ Some height
type_of_height H5 = refl
type_of_height H10 = refl

pub type_of_below : (height : Height) → type_of height < 2 ^ 32
type_of_below H5 = omega arith
type_of_below H10 = omega arith

pub leaves_below : (height : Height) → leaves height ≤ 1024
leaves_below H5 = omega arith
leaves_below H10 = omega arith

pub levels_below : (height : Height) → levels height ≤ 10
levels_below H5 = omega arith
levels_below H10 = omega arith

pub height_at_levels : (height : Height) → height_at (levels height) ≡ Some height
height_at_levels H5 = refl
height_at_levels H10 = refl

pub height_at_back : (n : ℕ) (height : Height) → height_at n ≡ Some height → n ≡ levels height
height_at_back n height e =
    elim (cases_Bool (eqb n 5)) [
      | inl t ↦
          let f : Some H5 ≡ Some height = rw t at e in
          let g : H5 ≡ height = cc in
          eqb-true n 5 t ∙ ap levels g
      | inr t ↦
          elim (cases_Bool (eqb n 10)) [
            | inl u ↦
                let f : Some H10 ≡ Some height = rw (t, u) at e in
                let g : H10 ≡ height = cc in
                eqb-true n 10 u ∙ ap levels g
            | inr u ↦ let f : None ≡ Some height = rw (t, u) at e in absurd cc
          ]
    ]
