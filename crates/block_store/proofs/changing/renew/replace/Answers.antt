use Rattle.std.proofs.Common.{◌++◌, take, drop, sym, ap, ◌∙◌}
use Rattle.std.proofs.lemmas.Iterator.Adapters.{YieldsList-from_vec}
use Rattle.std.proofs.lemmas.Iterator.{items_from_drains}
use Rattle.std.proofs.lemmas.List.{map-id}
use Rattle.block_store.proofs.changing.renew.replace.Goals as goal

pub returns-clause-blocks : goal.returns-clause-blocks
returns-clause-blocks g c =
    let s = c.in_ok-_gone.ensures.items in
    let all = items_from_drains s.1 (s.3.1.0, s.3.1.1, λ _. (s.3.0, s.3.1.2)) (YieldsList-from_vec c.args.fresh.items s.2.0 (s.2.1 ∙ c.args.fresh.ok.0)) in
    s.4 ∙ ap (λ l. take c.args.from c.args.pieces.now.items ++ (l ++ drop c.args.to c.args.pieces.now.items)) (sym (map-id s.1) ∙ all)
