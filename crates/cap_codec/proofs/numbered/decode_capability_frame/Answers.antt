use Rattle.spelling.proofs.Lists.{are_bytes}
use Rattle.mc_cap.specs.Forms.{capability_spelling, IsCapability}
use Rattle.cap_codec.proofs.Framed.{framed_end, framed_err, framed_whole}
use Rattle.cap_codec.proofs.numbered.decode_capability_frame.Goals as goal

pub returns-in_err-spelled-clause-decodes : goal.returns-in_err-spelled-clause-decodes
returns-in_err-spelled-clause-decodes c = framed_end capability_spelling IsCapability c.args.bytes.now c.new-input.result c.in_err-spelled.field-0.0 c.from_residual.result c.new-input.ensures c.in_err-spelled.ensures.gives c.from_residual.ensures.1

pub returns-in_err-capability-clause-decodes : goal.returns-in_err-capability-clause-decodes
returns-in_err-capability-clause-decodes c =
    framed_err capability_spelling IsCapability c.args.bytes.now c.new-input.result c.in_ok-spelled.spelled.now c.read_body.new.input c.in_err-capability.field-0.0 c.from_residual-in_err-capability.result c.new-input.ensures c.in_ok-spelled.ensures.gives c.in_err-capability.ensures.reads c.from_residual-in_err-capability.ensures.1

pub returns-clause-decodes : goal.returns-clause-decodes
returns-clause-decodes c =
    framed_whole capability_spelling IsCapability c.args.bytes.now c.new-input.result c.in_ok-spelled.spelled.now c.read_body.new.input c.in_ok-capability.capability c.taken_of.result (are_bytes c.args.bytes.now c.type_inv.bytes) c.new-input.ensures c.in_ok-spelled.ensures.gives c.in_ok-capability.ensures.reads c.taken_of.ensures
