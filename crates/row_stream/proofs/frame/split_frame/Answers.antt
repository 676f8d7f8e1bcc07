use Rattle.std.proofs.Common.{arith}
use Rattle.spelling.proofs.Lists.{are_bytes}
use Rattle.row_stream.proofs.Splitting.{too_long, no_body, split}
use Rattle.row_stream.proofs.frame.split_frame.Goals as goal

pub returns-then-size-gt-MAX_FRAME : goal.returns-then-size-gt-MAX_FRAME
returns-then-size-gt-MAX_FRAME c = too_long c.args.bytes.now c.new-input.result c.in_ok-size.field-0 c.number_u32.new.self c.new-input.ensures c.in_ok-size.ensures.gives (omega arith)

pub returns-in_err-body : goal.returns-in_err-body
returns-in_err-body c =
    no_body _ _ c.args.bytes.now c.new-input.result c.in_ok-size.field-0 c.number_u32.new.self c.in_err-body.field-0.0 c.from_residual-in_err-body.result c.new-input.ensures c.in_ok-size.ensures.gives (omega arith)
    c.in_err-body.ensures.gives c.in_err-body.ensures.sure c.from_residual-in_err-body.ensures.1

pub returns : goal.returns
returns c =
    split c.args.bytes.now c.new-input.result c.in_ok-size.field-0 c.number_u32.new.self c.in_ok-body.body.now c.front.result.now (are_bytes c.args.bytes.now c.type_inv.bytes) c.new-input.ensures c.in_ok-size.ensures.gives (omega arith)
    (rw c.front.ensures c.in_ok-body.ensures.gives)
