use Rattle.std.proofs.Common.{◌≤◌, ◌++◌, ◌∷◌, [], List, length, sym, ap, subst, arith}
use Rattle.std.proofs.lemmas.List.{length-map, length-append}
use Rattle.block_store.specs.Held.{values_of}
use Rattle.block_store.specs.Packing.{IsGrown, last_size}
use Rattle.block_store.specs.declared.block.Piece.{Piece}
use Rattle.block_store.proofs.Growing.{grown_joined, last_pushed}
use Rattle.block_store.proofs.changing.append.push_joined.Goals as goal

pub returns-clause-grown : goal.returns-clause-grown
returns-clause-grown g c =
    let init = c.args.fresh.now.items in
    let last = c.args.last.now in
    let both = c.in_ok-both.both in
    let larger : length last.block.value.rows.items ≤ length both.block.value.rows.items = omega (
      arith,
      ap length c.in_ok-both.ensures,
      length-append (values_of g.R.Row.value last.block.value.rows.items) (values_of g.R.Row.value c.args.piece.now.block.value.rows.items),
      length-map last.block.value.rows.items (λ a. g.R.Row.value a.value),
      length-map both.block.value.rows.items (λ a. g.R.Row.value a.value),
    ) in
    subst (λ l. IsGrown (init ++ last ∷ []) l) (sym c.in_ok-push.ensures.items) (grown_joined init last both larger)

pub returns-clause-last : goal.returns-clause-last
returns-clause-last g c =
    let init = c.args.fresh.now.items in
    let last = c.args.last.now in
    let both = c.in_ok-both.both in
    omega (
      arith,
      ap length c.in_ok-both.ensures,
      length-append (values_of g.R.Row.value last.block.value.rows.items) (values_of g.R.Row.value c.args.piece.now.block.value.rows.items),
      length-map c.args.piece.now.block.value.rows.items (λ a. g.R.Row.value a.value),
      length-map both.block.value.rows.items (λ a. g.R.Row.value a.value),
      last_pushed init both,
      ap (λ (l : List (Piece g.row.R.Denot g.R.Row)). last_size l) c.in_ok-push.ensures.items,
    )
