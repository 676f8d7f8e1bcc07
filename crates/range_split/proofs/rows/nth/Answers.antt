use Rattle.std.proofs.Common.{◌≡◌, ℕ, ◌<◌, List, [], ◌∷◌, map, slice_get, Some, sym, ◌∙◌, length, get_or, arith}
use Rattle.std.proofs.lemmas.List.{length-map}
use Rattle.std.proofs.lemmas.Option.{slice_get_within, slice_get-get_or}
use Rattle.block_store.specs.InBox.{is_in, rows_in}
use Rattle.range_split.proofs.rows.nth.Goals as goal

-- below the length there is an item
nth_there : {X : Type 0} (xs : List X) (n : ℕ) → n < length xs → (x : X) × (slice_get xs n ≡ Some x)
nth_there [] n h = absurd (omega arith)
nth_there (x ∷ xs) n h = (get_or (x ∷ xs) n x, slice_get-get_or (x ∷ xs) n x h)

pub row_at-requires : goal.row_at-requires
row_at-requires g c =
    let rows = map g.R.Row.value c.args.snapshot.now in
    let row = nth_there (rows_in c.args.area.now rows) c.args.n c.requires in
    let found = c.numbering.ensures.row (is_in c.args.area.now) rows c.args.n c.in-Some.at (sym c.in-Some.ensures) ∙ row.1 in
    omega (arith, slice_get_within rows c.in-Some.at row.0 found, length-map c.args.snapshot.now g.R.Row.value)

pub returns-clause-row : goal.returns-clause-row
returns-clause-row g c =
    let rows = map g.R.Row.value c.args.snapshot.now in
    sym (c.numbering.ensures.row (is_in c.args.area.now) rows c.args.n c.in-Some.at (sym c.in-Some.ensures)) ∙ c.row_at.ensures
