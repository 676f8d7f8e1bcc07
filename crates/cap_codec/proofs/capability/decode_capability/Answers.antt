use Rattle.spelling.proofs.Joining.{decodes_whole, decodes_end}
use Rattle.cap_codec.proofs.CapReads.{capability-reads}
use Rattle.cap_codec.proofs.capability.decode_capability.Goals as goal

pub returns-in_err-capability-clause-decodes : goal.returns-in_err-capability-clause-decodes
returns-in_err-capability-clause-decodes c = decodes_end capability-reads c.args.bytes.now c.new-input.result c.in_err-capability.field-0.0 c.from_residual.result c.new-input.ensures c.in_err-capability.ensures.gives c.from_residual.ensures.1

pub returns-clause-decodes : goal.returns-clause-decodes
returns-clause-decodes c = decodes_whole capability-reads c.args.bytes.now c.new-input.result c.in_ok-capability.capability c.read_capability.new.input c.taken_of.result c.type_inv.bytes c.new-input.ensures c.in_ok-capability.ensures.gives c.taken_of.ensures
