use Rattle.std.proofs.Common.{map-id, sym, ◌∙◌, rules, tests}
use Rattle.std.proofs.lemmas.Iterator.{YieldsList-from_slice, YieldsList-from_map, items_from_drains}
use Rattle.std.proofs.lemmas.Iterator.Consumers.{YieldsList-at}
use Rattle.peer_run.specs.Telling.{told_tail}
use Rattle.peer_run.proofs.tails.told_tails.Goals as goal

pub returns : goal.returns
returns c =
    let ran = c.in_ok-collect.ensures.ran in
    ran.2.0
    ∙ sym (map-id ran.0)
    ∙ items_from_drains ran.0 ran.1 (YieldsList-from_map _ told_tail (YieldsList-at c.map.ensures.source (YieldsList-from_slice c.args.tails.now cc)) c.map.ensures.closure (λ x r q k. search (rules, tests)))
