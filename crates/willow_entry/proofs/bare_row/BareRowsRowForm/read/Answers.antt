use Rattle.std.proofs.Common.{rules, ◌∙◌}
use Rattle.std.proofs.lemmas.Result.{err_from_is_err_and}
use Rattle.spelling.proofs.Lists.{are_bytes}
use Rattle.willow_entry.specs.RowBody.{row_body}
use Rattle.willow_entry.proofs.EntryReads.{body_from_front, spelled_asks}
use Rattle.willow_entry.proofs.bare_row.BareRowsRowForm.read.Goals as goal

pub returns-in_ok-new-in-Ok-clause-reads : goal.returns-in_ok-new-in-Ok-clause-reads
returns-in_ok-new-in-Ok-clause-reads c = body_from_front c.args.body.now c.in-Ok.entry c.in-Ok.taken c.in_ok-new-in-Ok.field-0
    (are_bytes c.args.body.now (λ i. search (rules, c.type_inv.body i))) c.in-Ok.ensures.decodes.0 c.in-Ok.ensures.decodes.2
    c.in_ok-new-in-Ok.ensures.entry (c.in_ok-new-in-Ok.ensures.token ∙ c.in_ok-token-in-Ok.ensures.items)

pub returns-in-Err-Refused-clause-reads : goal.returns-in-Err-Refused-clause-reads
unfolding row_body
returns-in-Err-Refused-clause-reads c = λ r f e. (rw c.in-Err-Refused.field-0-is at c.in-Err-Refused.ensures.decodes) r.entry r.token f.0 e

pub returns-in_err-token-in-Ok-clause-asked : goal.returns-in_err-token-in-Ok-clause-asked
returns-in_err-token-in-Ok-clause-asked c =
    let e = err_from_is_err_and c.from_residual.result c.from_residual.ensures.1 in
    rw e.1 (spelled_asks c.args.body.now c.in-Ok.entry c.in-Ok.taken c.in-Ok.ensures.decodes.0 c.in-Ok.ensures.decodes.2)

pub returns-in_err-new-in-Ok-clause-asked : goal.returns-in_err-new-in-Ok-clause-asked
returns-in_err-new-in-Ok-clause-asked c =
    let e = err_from_is_err_and c.from_residual-in_err-new-in-Ok.result c.from_residual-in_err-new-in-Ok.ensures.1 in
    rw e.1 (spelled_asks c.args.body.now c.in-Ok.entry c.in-Ok.taken c.in-Ok.ensures.decodes.0 c.in-Ok.ensures.decodes.2)
