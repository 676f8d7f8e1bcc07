use Rattle.std.proofs.Common.{List, sym, subst}
use Rattle.std.specs.List.{AllZip}
use Rattle.mc_cap.specs.declared.capability.Capability.{Capability}
use Rattle.auth_entry.specs.Places.{carried}
use Rattle.auth_entry.specs.Standings.{IsStood}
use Rattle.auth_entry.proofs.checker.pending_beside.Goals as goal

pub pending_of-requires-clause-stood : goal.pending_of-requires-clause-stood
pending_of-requires-clause-stood g c = λ _ _.
    let rules = g.S.Verify.rules in
    let n = g.C.Checker.judged_in c.args.checker.now in
    let rows = c.args.rows.now in
    let here = subst (λ (unknown : List Capability). AllZip (IsStood rules n unknown) rows c.in_ok-stood.stood.items) (sym c.rows.ensures) c.in_ok-stood.ensures.stood in
    (n, rows, subst (AllZip (IsStood rules n (carried c.rows.result.now)) rows) (sym c.deref.ensures.value) here)

pub returns-clause-refusals : goal.returns-clause-refusals
returns-clause-refusals g c =
    let rules = g.S.Verify.rules in
    let n = g.C.Checker.judged_in c.args.checker.now in
    let rows = c.args.rows.now in
    let here = subst (λ (unknown : List Capability). AllZip (IsStood rules n unknown) rows c.in_ok-stood.stood.items) (sym c.rows.ensures) c.in_ok-stood.ensures.stood in
    c.pending_of.ensures.refusals n rows (subst (AllZip (IsStood rules n (carried c.rows.result.now)) rows) (sym c.deref.ensures.value) here)
