use Rattle.std.proofs.Common.{map, ap, ◌∙◌, rules, tests}
use Rattle.std.proofs.lemmas.Iterator.{YieldsList-from_slice, YieldsList-from_map_by, items_from_drains}
use Rattle.std.proofs.lemmas.Iterator.Consumers.{YieldsList-at, YieldsList-from_filter}
use Rattle.scheme_core.specs.Claims.{accepts_claim}
use Rattle.auth_entry.specs.Batch.{awaits_signature, pending_signed}
use Rattle.auth_entry.proofs.signatures.claims.Goals as goal

pub returns : goal.returns
returns c = λ scheme.
    ap (map (accepts_claim scheme)) c.in_ok-collect.ensures.ran.2.0
    ∙ items_from_drains c.in_ok-collect.ensures.ran.0 c.in_ok-collect.ensures.ran.1
    (YieldsList-from_map_by _ (accepts_claim scheme) (pending_signed scheme)
    (YieldsList-at c.map.ensures.source
    (YieldsList-from_filter _ awaits_signature (YieldsList-at c.filter.ensures.source (YieldsList-from_slice c.args.pendings.now cc)) c.filter.ensures.closure (λ x b q k. search (rules, tests))))
    c.map.ensures.closure (λ x r q k. search (rules, tests)))
