use Rattle.std.proofs.Common.{Bool, List, ◌-◌, drop, take, ap, ◌∙◌}
use Rattle.std.proofs.lemmas.List.{drop-map, take-map}
use Rattle.scheme_core.specs.Claims.{accepts_claim}
use Rattle.auth_entry.proofs.together.answered.Goals as goal

pub new-requires : goal.new-requires
new-requires g c =
    let own = accepts_claim g.S.Verify.rules in
    let count = c.args.to - c.args.from in
    ap (λ (l : List Bool). take count (drop c.args.from l)) c.requires.answers
    ∙ ap (take count) (drop-map own c.args.from c.args.claims.now)
    ∙ take-map own count (drop c.args.from c.args.claims.now)
