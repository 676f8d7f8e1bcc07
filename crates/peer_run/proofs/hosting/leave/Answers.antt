use Rattle.std.proofs.Common.{refl, arith}
use Rattle.std.proofs.lemmas.List.Elements.{All-contains}
use mathlib.Core.List.{IsPrefix}
use Rattle.log_rule.proofs.Prefixes.{prefix_length}
use Rattle.auth_entry.specs.Authorised.{AuthorisedValue}
use Rattle.ns_cell.specs.Passes.{PassValue}
use Rattle.peer_run.proofs.HeardBehind.{unwanted}
use Rattle.peer_run.proofs.hosting.leave.Goals as goal

-- memory was not wanting, so the hub's front is not behind the log's end
pub tell_rest-more-requires : goal.tell_rest-more-requires
tell_rest-more-requires g c =
    let behind = c.args.behind in
    let log = c.close-state.result.log in
    let pass = c.requires.front (unwanted behind.stopped c.in_ok-all_came.all_came c.in_ok-all_came.ensures.accepted) in
    let front = All-contains (λ (p : PassValue AuthorisedValue). IsPrefix p.seen log) behind.passes.items pass.0 c.close-state.ensures.closed.prefixes pass.1 in
    omega (arith, pass.2, prefix_length pass.0.seen log front)

pub overflow_add-left : goal.overflow_add-left
overflow_add-left g c = omega (arith, c.requires.few, c.tell_rest-more.ensures.told.counted, c.tell_rest-more.ensures.few)

pub returns-clause-told : goal.returns-clause-told
returns-clause-told g c = (c.tell_rest-more.result, refl, c.tell_rest-more.ensures.told)
