use Rattle.std.proofs.Common.{sym, ◌∙◌}
use Rattle.std.proofs.lemmas.Result.{err_from_is_err_and}
use Rattle.peer_run.proofs.Agreed.{other_namespace, left_refused, right_refused, unagreed, agrees}
use Rattle.peer_run.proofs.meeting.agree.Goals as goal

pub returns-then-ne : goal.returns-then-ne
returns-then-ne c = other_namespace c.args.words.now c.args.namespace.now c.args.other.now c.args.left_cap c.args.right_cap (sym c.ne.ensures ∙ c.if-ne.true)

pub returns-in_err-left : goal.returns-in_err-left
returns-in_err-left c =
    let p = err_from_is_err_and c.from_residual.result c.from_residual.ensures.1 in
    rw (p.1, p.2) (left_refused c.args.words.now c.args.namespace.now c.args.other.now c.args.left_cap c.args.right_cap (sym c.ne.ensures ∙ c.if-ne.false) c.in_err-left.field-0.0 c.in_err-left.ensures)

pub returns-in_err-right : goal.returns-in_err-right
returns-in_err-right c =
    let p = err_from_is_err_and c.from_residual-in_err-right.result c.from_residual-in_err-right.ensures.1 in
    rw (p.1, p.2) (right_refused c.args.words.now c.args.namespace.now c.args.other.now c.args.left_cap c.args.right_cap (sym c.ne.ensures ∙ c.if-ne.false) c.in_ok-left.left c.in_err-right.field-0.0 c.in_ok-left.ensures
    c.in_err-right.ensures)

pub returns-in_err-common_area : goal.returns-in_err-common_area
returns-in_err-common_area c =
    let p = err_from_is_err_and c.from_residual-in_err-common_area.result c.from_residual-in_err-common_area.ensures.1 in
    rw (p.1, p.2) (unagreed c.args.words.now c.args.namespace.now c.args.other.now c.args.left_cap c.args.right_cap (sym c.ne.ensures ∙ c.if-ne.false) c.in_ok-left.left c.in_ok-right.right c.in_ok-left.ensures c.in_ok-right.ensures)

pub returns : goal.returns
returns c =
    agrees c.args.words.now c.args.namespace.now c.args.other.now c.args.left_cap c.args.right_cap (sym c.ne.ensures ∙ c.if-ne.false) c.in_ok-left.left c.in_ok-right.right c.in_ok-common_area.field-0 c.in_ok-left.ensures
    c.in_ok-right.ensures c.in_ok-common_area.ensures.fields
