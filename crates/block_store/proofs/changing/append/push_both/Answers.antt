use Rattle.std.proofs.Common.{◌++◌, ◌∷◌, [], sym, ap, ◌∙◌, subst}
use Rattle.block_store.specs.Packing.{IsGrown}
use Rattle.block_store.proofs.Growing.{grown_pushed}
use Rattle.block_store.proofs.changing.append.push_both.Goals as goal

pub returns-clause-grown : goal.returns-clause-grown
returns-clause-grown g c =
    let init = c.args.fresh.now.items in
    let last = c.args.last in
    let piece = c.args.piece in
    let all = c.in_ok-push-2.ensures.items ∙ ap (λ l. l ++ piece ∷ []) c.in_ok-push.ensures.items in
    subst (λ l. IsGrown (init ++ last ∷ []) l) (sym all) (grown_pushed init last piece c.requires)
