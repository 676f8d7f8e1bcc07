use Rattle.std.proofs.Common.{◌≡◌, map, ◌∙◌}
use Rattle.std.specs.List.{AllZip}
use Rattle.rayon.proofs.ListFacts.{IfOk-then}
use Rattle.auth_entry.specs.Authorised.{row_refusal}
use Rattle.auth_entry.specs.Batch.{pending_refusal}
use Rattle.auth_entry.specs.Places.{carried}
use Rattle.auth_entry.specs.Standings.{IsSettled}
use Rattle.auth_entry.proofs.Settling.{all_stood_by, all_pending}
use Rattle.auth_entry.proofs.checker.pending_of.Goals as goal

pub all_settled-requires : goal.all_settled-requires
all_settled-requires g c =
    let rules = g.S.Verify.rules in
    let given = c.requires.stood in
    let causes = c.deref.ensures.value ∙ c.in_ok-causes.ensures.causes in
    (rules, given.0, all_stood_by rules given.0 (carried c.args.unknown.now) c.deref.result.now causes given.1 c.args.stood.now given.2)

pub returns-clause-refusals : goal.returns-clause-refusals
returns-clause-refusals g c = λ n rows stood.
    let rules = g.S.Verify.rules in
    let unknown = carried c.args.unknown.now in
    let causes = c.deref.ensures.value ∙ c.in_ok-causes.ensures.causes in
    let all = all_stood_by rules n unknown c.deref.result.now causes rows c.args.stood.now stood in
    IfOk-then c.all_settled.result (λ pending. AllZip (IsSettled rules n) c.args.stood.now pending.items)
    (λ pending. map (pending_refusal rules) pending.items ≡ map (row_refusal rules n) rows) (c.all_settled.ensures rules n all)
    (λ pending settled. all_pending rules n unknown rows c.args.stood.now pending.items stood settled)
