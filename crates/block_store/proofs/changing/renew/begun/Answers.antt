use Rattle.std.proofs.Common.{◌≡◌, ◌+◌, ◌-◌, ◌<◌, ◌++◌, ◌∷◌, [], List, length, take, get_or, append-nil, sym, ap, ◌∙◌, arith}
use Rattle.std.proofs.lemmas.List.{get_or-map}
use Rattle.block_store.specs.Blocks.{block_values}
use Rattle.block_store.specs.Held.{values_of}
use Rattle.block_store.specs.Packing.{first_size}
use Rattle.block_store.specs.declared.block.Block.{Block}
use Rattle.block_store.specs.declared.block.Piece.{Piece}
use Rattle.block_store.proofs.Pieces.{values_more}
use Rattle.block_store.proofs.changing.renew.begun.Goals as goal

pub returns-clause-first : goal.returns-clause-first
returns-clause-first g c = λ some.
    let pieces = c.args.pieces.now in
    let at = c.args.at - 1 in
    let before = c.index-pieces-at-2.result in
    let copy = c.in_ok-share.field-0 in
    let one : c.push.new.self.items ≡ copy ∷ [] = c.in_ok-push.ensures.items ∙ ap (λ l. l ++ copy ∷ []) c.new-fresh.ensures.items in
    let same : copy.block.value ≡ (get_or pieces at before).block.value = c.in_ok-share.ensures ∙ ap (λ (p : Piece g.row.R.Denot g.R.Row). p.block.value) c.index-pieces-at-2.is in
    let inside : at < length pieces = omega arith in
    omega (
      arith,
      get_or-map (λ (p : Piece g.row.R.Denot g.R.Row). length p.block.value.rows.items) pieces at before 0 inside,
      ap (λ (b : Block g.row.R.Denot g.R.Row). length b.rows.items) same,
      ap (λ (l : List (Piece g.row.R.Denot g.R.Row)). first_size l) one,
    )

pub returns-clause-values : goal.returns-clause-values
returns-clause-values g c =
    let pieces = c.args.pieces.now in
    let at = c.args.at - 1 in
    let before = c.index-pieces-at-2.result in
    let copy = c.in_ok-share.field-0 in
    let one : c.push.new.self.items ≡ copy ∷ [] = c.in_ok-push.ensures.items ∙ ap (λ l. l ++ copy ∷ []) c.new-fresh.ensures.items in
    let same : copy.block.value ≡ (get_or pieces at before).block.value = c.in_ok-share.ensures ∙ ap (λ (p : Piece g.row.R.Denot g.R.Row). p.block.value) c.index-pieces-at-2.is in
    let inside : at < length pieces = omega arith in
    let next : at + 1 ≡ c.args.at = omega arith in
    ap (λ l. block_values g.R.Row.value (take at pieces) ++ block_values g.R.Row.value l) one
    ∙ ap (λ l. block_values g.R.Row.value (take at pieces) ++ l) (append-nil (values_of g.R.Row.value copy.block.value.rows.items) ∙ ap (λ (b : Block g.row.R.Denot g.R.Row). values_of g.R.Row.value b.rows.items) same)
    ∙ sym (values_more g.R.Row.value pieces at before inside) ∙ ap (λ n. block_values g.R.Row.value (take n pieces)) next
