use Rattle.std.proofs.Common.{◌≡◌, ℕ, map, get_or, sym, ap, subst, ◌∙◌, refl, arith}
use Rattle.std.specs.Option.{option_map}
use Rattle.std.proofs.lemmas.List.{length-map}
use Rattle.std.proofs.lemmas.Option.{slice_get-map, get_or_from_slice_get}
use borrow.Author.Count.{below_more}
use Rattle.willow_entry.specs.Row.{RowValue}
use Rattle.interest_trials.proofs.checks.are_of.Goals as goal

pub loop-at-preserved : goal.loop-at-preserved
loop-at-preserved g c =
    let value = g.R.Row.value in
    let rows = c.args.rows.now in
    let now = c.loop-at in
    let of : ℕ → Type 0 = λ k. (d : RowValue) → (get_or (map value rows) k d).entry.namespace ≡ c.args.namespace.now in
    λ k d h. below_more of now.at (λ j less e. now.invariant j e less)
    (λ e. subst (λ (r : RowValue). r.entry.namespace ≡ c.args.namespace.now)
    (sym (get_or_from_slice_get (map value rows) now.at (value c.in-Some.row.now) e (slice_get-map value rows now.at ∙ ap (option_map value) c.in-Some.ensures.row)))
    (c.if-not-is_of.ensures refl)) k h d

pub returns-clause-one : goal.returns-clause-one
returns-clause-one g c = λ few. (
  c.args.namespace.now,
  λ k d h. c.loop-at.invariant k d (omega (arith, h, length-map c.args.rows.now g.R.Row.value, c.loop-at-test.false, c.len-at-end.ensures)),
)
