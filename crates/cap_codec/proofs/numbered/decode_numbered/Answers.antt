use Rattle.std.proofs.Common.{arith}
use Rattle.spelling.proofs.Lists.{are_bytes}
use Rattle.cap_codec.proofs.NumberedReads.{numbered-reads}
use Rattle.cap_codec.proofs.Framed.{all_end, all_more, all_read}
use Rattle.cap_codec.proofs.numbered.decode_numbered.Goals as goal

pub returns-in_err-row-clause-reads : goal.returns-in_err-row-clause-reads
returns-in_err-row-clause-reads c = all_end numbered-reads c.args.body.now c.new-input.result c.in_err-row.field-0.0 c.from_residual.result c.new-input.ensures c.in_err-row.ensures.gives c.from_residual.ensures.1

pub returns-then-len-gt0-clause-reads : goal.returns-then-len-gt0-clause-reads
returns-then-len-gt0-clause-reads c =
    all_more numbered-reads c.args.body.now c.new-input.result c.in_ok-row.row c.read_numbered.new.input (record {}) c.new-input.ensures c.in_ok-row.ensures.gives (omega (arith, c.if-len-gt0.true, c.len.ensures))

pub returns-clause-reads : goal.returns-clause-reads
returns-clause-reads c =
    all_read numbered-reads c.args.body.now c.new-input.result c.in_ok-row.row c.read_numbered.new.input (are_bytes c.args.body.now c.type_inv.body) c.new-input.ensures c.in_ok-row.ensures.gives (omega (arith, c.if-len-gt0.false, c.len.ensures))
