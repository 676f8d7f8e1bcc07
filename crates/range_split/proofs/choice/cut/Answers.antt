use Rattle.std.proofs.Common.{◌≡◌, map, slice_get, Some, [], ◌∷◌, sym, ap, ap₂, ◌∙◌, subst, is_gt, ◌/◌, ◌-◌, arith}
use Rattle.std.specs.Prelude.{IsSomeAnd}
use Rattle.willow_entry.specs.Entry.{bytes_cmp}
use Rattle.willow_entry.specs.declared.entry.Entry.{Entry}
use Rattle.block_store.specs.InBox.{is_in, rows_in}
use Rattle.block_store.specs.Positions.{positions}
use Rattle.range_split.specs.Points.{by_subspace, by_path}
use Rattle.range_split.specs.Least.{least_above}
use Rattle.range_split.specs.Choice.{choice, subspaces_of}
use Rattle.range_split.proofs.Choosing.{HasMiddle, choice-middle, choice-least, choice-path}
use Rattle.range_split.proofs.Spans.{before_first, upto_last, first_not_after}
use Rattle.std.proofs.lemmas.Option.{slice_get_within}
use Rattle.std.proofs.lemmas.List.{length-map}
use Rattle.range_split.proofs.choice.cut.Given as given
use Rattle.range_split.proofs.choice.cut.Goals as goal
use Rattle.range_split.proofs.choice.cut.Goals.{After-is_above}

-- the two rows that were found, and whether their subspaces rise
record IsCompared (g : given.Over) (c : After-is_above g) : Type 0 where
  pub two : HasMiddle (rows_in c.args.area.now (map g.R.Row.value c.args.snapshot.now)) (g.R.Row.value c.nth-start.result.1.now) (g.R.Row.value c.nth-at.result.1.now)
  pub test : is_gt (bytes_cmp (g.R.Row.value c.nth-at.result.1.now).entry.subspace (g.R.Row.value c.nth-start.result.1.now).entry.subspace) ≡ c.is_above.result

compared : (g : given.Over) (c : After-is_above g) → IsCompared g c
compared g c = record {
  two = record {
    many = omega (arith, c.requires.many, c.requires.count);
    is_first = c.nth-start.ensures.row;
    is_middle = ap (λ n. slice_get (rows_in c.args.area.now (map g.R.Row.value c.args.snapshot.now)) (n / 2)) (sym c.requires.count) ∙ c.nth-at.ensures.row;
  };
  test = ap₂ (λ (e f : Entry). is_gt (bytes_cmp e.subspace f.subspace)) (sym c.entry-2.ensures.entry) (sym c.entry.ensures.entry) ∙ sym c.is_above.ensures;
}

pub returns-then-is_above : goal.returns-then-is_above
returns-then-is_above g c =
    let p = compared g (goal.at.returns-then-is_above g c).After-is_above in
    choice-middle _ _ _ p.two (p.test ∙ c.if-is_above.true) ∙ ap (λ (e : Entry). Some (by_subspace (e.subspace ∷ []))) (sym c.entry-2.ensures.entry)

pub returns-in-Some : goal.returns-in-Some
returns-in-Some g c =
    let held = rows_in c.args.area.now (map g.R.Row.value c.args.snapshot.now) in
    let p = compared g (goal.at.returns-in-Some g c).After-is_above in
    choice-least _ _ _ p.two (p.test ∙ c.if-is_above.false) c.in-Some.key (c.in-Some.ensures ∙ ap (λ (e : Entry). least_above e.subspace (subspaces_of held)) c.entry.ensures.entry)

pub returns-in-None : goal.returns-in-None
returns-in-None g c =
    let rows = map g.R.Row.value c.args.snapshot.now in
    let held = rows_in c.args.area.now rows in
    let p = compared g (goal.at.returns-in-None g c).After-is_above in
    let cut = choice-path _ _ _ p.two (p.test ∙ c.if-is_above.false) (c.in-None.ensures ∙ ap (λ (e : Entry). least_above e.subspace (subspaces_of held)) c.entry.ensures.entry) in
    record {
      middle = ap (λ n. slice_get (positions (is_in c.args.area.now) rows) (n / 2)) (sym c.requires.count) ∙ c.nth-at.ensures.at;
      cut = subst (λ o. IsSomeAnd o (λ row. choice held ≡ Some (by_path (row.entry.path ∷ [])))) (sym c.nth-at.ensures.held) cut;
    }

pub least_above-requires-clause-before : goal.least_above-requires-clause-before
least_above-requires-clause-before g c = before_first (is_in c.args.area.now) (map g.R.Row.value c.args.snapshot.now) c.nth-start.result.0 c.nth-start.ensures.at

pub least_above-requires-clause-upto : goal.least_above-requires-clause-upto
least_above-requires-clause-upto g c =
    upto_last (is_in c.args.area.now) (map g.R.Row.value c.args.snapshot.now) (c.args.count - 1) c.nth-last.result.0 c.nth-last.ensures.at (omega (arith, c.requires.many, c.requires.count))

pub least_above-requires-clause-order : goal.least_above-requires-clause-order
least_above-requires-clause-order g c =
    first_not_after (is_in c.args.area.now) (map g.R.Row.value c.args.snapshot.now) (c.args.count - 1) c.nth-start.result.0 c.nth-last.result.0 c.nth-start.ensures.at c.nth-last.ensures.at

pub least_above-requires-clause-within : goal.least_above-requires-clause-within
least_above-requires-clause-within g c =
    let rows = map g.R.Row.value c.args.snapshot.now in
    omega (arith, slice_get_within rows c.nth-last.result.0 (g.R.Row.value c.nth-last.result.1.now) c.nth-last.ensures.held, length-map c.args.snapshot.now g.R.Row.value)
