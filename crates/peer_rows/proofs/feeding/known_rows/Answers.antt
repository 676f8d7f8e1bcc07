use Rattle.std.proofs.Common.{◌≡◌, ◌+◌, [], ◌∷◌, ◌++◌, take, sym, ap, subst, ◌∙◌}
use Rattle.std.specs.List.{AllByRecursion}
use Rattle.std.proofs.lemmas.List.{take_more}
use Rattle.spelling.proofs.Lists.{All-append}
use Rattle.cap_codec.specs.Rows.{RawValue, IsRaw}
use Rattle.peer_rows.proofs.feeding.known_rows.Goals as goal

pub loop-row-preserved : goal.loop-row-preserved
loop-row-preserved c =
    let rows = c.args.rows.now in
    let i = c.loop-row.row-index in
    let row = c.row-item.result in
    let more : take (i + 1) rows ≡ take i rows ++ row ∷ [] = take_more rows i row c.loop-row-test.true ∙ ap (λ (r : RawValue). take i rows ++ r ∷ []) (sym c.row-item.is) in
    subst (AllByRecursion IsRaw) (sym more) (All-append IsRaw (take i rows) (row ∷ []) c.loop-row.invariant (c.known.ensures, tt))
