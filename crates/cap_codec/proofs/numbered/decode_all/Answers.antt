use Rattle.std.proofs.Common.{arith}
use Rattle.spelling.proofs.Lists.{are_bytes}
use Rattle.cap_codec.proofs.CapReads.{capability-reads}
use Rattle.cap_codec.proofs.Framed.{all_end, all_more, all_read}
use Rattle.cap_codec.proofs.numbered.decode_all.Goals as goal

pub returns-in_err-capability-clause-reads : goal.returns-in_err-capability-clause-reads
returns-in_err-capability-clause-reads c = all_end capability-reads c.args.spelled.now c.new-input.result c.in_err-capability.field-0.0 c.from_residual.result c.new-input.ensures c.in_err-capability.ensures.gives c.from_residual.ensures.1

pub returns-then-len-gt0-clause-reads : goal.returns-then-len-gt0-clause-reads
returns-then-len-gt0-clause-reads c =
    all_more capability-reads c.args.spelled.now c.new-input.result c.in_ok-capability.capability c.read_capability.new.input (record {}) c.new-input.ensures c.in_ok-capability.ensures.gives (omega (arith, c.if-len-gt0.true, c.len.ensures))

pub returns-clause-reads : goal.returns-clause-reads
returns-clause-reads c =
    all_read capability-reads c.args.spelled.now c.new-input.result c.in_ok-capability.capability c.read_capability.new.input (are_bytes c.args.spelled.now c.type_inv.spelled) c.new-input.ensures c.in_ok-capability.ensures.gives (omega (arith, c.if-len-gt0.false, c.len.ensures))
