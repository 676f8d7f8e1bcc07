use Rattle.std.proofs.Common.{ℕ, List, [], sym, subst}
use Rattle.std.specs.List.{AllZip}
use Rattle.auth_entry.specs.Standings.{IsStood}
use Rattle.auth_entry.proofs.standing.all_stand.Goals as goal

pub returns-clause-stood : goal.returns-clause-stood
returns-clause-stood g c =
    let rules = g.S.Verify.rules in
    let begun = subst (AllZip (IsStood rules c.namespace-namespace.result c.args.unknown.now) []) (sym c.in_ok-stood.ensures.items) tt in
    subst (λ (n : List ℕ). AllZip (IsStood rules n c.put_all_stood.new.unknown) c.args.rows.now c.put_all_stood.new.stood.items) c.namespace-namespace.ensures
    (c.in_ok-put_all_stood.ensures.stood [] begun)
