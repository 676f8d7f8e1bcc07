use Rattle.std.proofs.Common.{Err, arith}
use Rattle.std.proofs.lemmas.Result.{err_from_is_err_and}
use Rattle.spelling.proofs.Lists.{are_bytes}
use Rattle.cap_codec.proofs.Framed.{all_more, all_read}
use Rattle.cap_codec.proofs.RowReads.{raw-reads, whole_end}
use Rattle.cap_codec.proofs.row.read_whole.Goals as goal

pub returns-in_err-parts-clause-none : goal.returns-in_err-parts-clause-none
returns-in_err-parts-clause-none c =
    let e = err_from_is_err_and c.from_residual.result c.from_residual.ensures.1 in
    rw e.1 (whole_end c.args.body.now c.in_err-parts.field-0.0 (Err e.0) (rw c.new-input.ensures at c.in_err-parts.ensures.gives) e.2)

pub returns-then-len-gt0-clause-none : goal.returns-then-len-gt0-clause-none
returns-then-len-gt0-clause-none c =
    all_more raw-reads c.args.body.now c.new-input.result _ c.read_parts.new.input (record {}) c.new-input.ensures c.in_ok-parts.ensures.gives (omega (arith, c.if-len-gt0.true, c.len.ensures))

pub returns-clause-fits : goal.returns-clause-fits
returns-clause-fits c =
    (all_read raw-reads c.args.body.now c.new-input.result _ c.read_parts.new.input (are_bytes c.args.body.now c.type_inv.body) c.new-input.ensures c.in_ok-parts.ensures.gives (omega (arith, c.if-len-gt0.false, c.len.ensures))).0

pub returns-clause-spelled : goal.returns-clause-spelled
returns-clause-spelled c =
    (all_read raw-reads c.args.body.now c.new-input.result _ c.read_parts.new.input (are_bytes c.args.body.now c.type_inv.body) c.new-input.ensures c.in_ok-parts.ensures.gives (omega (arith, c.if-len-gt0.false, c.len.ensures))).1
