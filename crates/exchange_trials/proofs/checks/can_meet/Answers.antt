use Rattle.std.proofs.Common.{◌≡◌, ℕ, ◌<◌, List, [], ◌∷◌, zero, suc, map, length, get_or, slice_get, Some, sym, ap, subst, refl, arith}
use Rattle.std.proofs.lemmas.List.{length-map}
use borrow.Author.Count.{below_more}
use Rattle.willow_entry.specs.Frame.{HasFrame}
use Rattle.willow_entry.specs.Row.{RowValue}
use Rattle.exchange_trials.proofs.checks.can_meet.Goals as goal

-- the value of an item of a list
value_at : {R : Type 0} (value : R → RowValue) (rows : List R) (at : ℕ) (row : R) (d : RowValue) → slice_get rows at ≡ Some row → get_or (map value rows) at d ≡ value row
value_at value [] at row d e = absurd cc
value_at value (r ∷ rows) zero row d e =
    let same : r ≡ row = cc in
    ap value same
value_at value (r ∷ rows) (suc at) row d e = value_at value rows at row d e

pub loop-at-preserved : goal.loop-at-preserved
loop-at-preserved g c =
    let value = g.R.Row.value in
    let rows = c.args.rows.now in
    let now = c.loop-at in
    let of : ℕ → Type 0 = λ k. (d : RowValue) → (get_or (map value rows) k d).entry.namespace ≡ c.args.namespace.now in
    let framed : ℕ → Type 0 = λ k. (d : RowValue) → HasFrame (get_or (map value rows) k d) in
    record {
      of =
          λ k d h. below_more of now.at (λ j less e. now.invariant.of j e less)
          (λ e. subst (λ (r : RowValue). r.entry.namespace ≡ c.args.namespace.now) (sym (value_at value rows now.at c.in-Some.row.now e c.in-Some.ensures.row)) (c.if-not-fits.ensures.of refl)) k h d;
      framed =
          λ k d h. below_more framed now.at (λ j less e. now.invariant.framed j e less)
          (λ e. subst HasFrame (sym (value_at value rows now.at c.in-Some.row.now e c.in-Some.ensures.row)) (c.if-not-fits.ensures.framed refl)) k h d;
    }

pub returns-clause-one : goal.returns-clause-one
returns-clause-one g c = λ few. (
  c.args.namespace.now,
  λ k d h. c.loop-at.invariant.of k d (omega (arith, h, length-map c.args.rows.now g.R.Row.value, c.loop-at-test.false, c.len-at-end.ensures)),
)
