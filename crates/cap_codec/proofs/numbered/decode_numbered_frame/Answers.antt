use Rattle.spelling.proofs.Lists.{are_bytes}
use Rattle.cap_codec.specs.Numbered.{numbered_spelling, IsNumberedRow}
use Rattle.cap_codec.proofs.Framed.{framed_end, framed_err, framed_whole}
use Rattle.cap_codec.proofs.numbered.decode_numbered_frame.Goals as goal

pub returns-in_err-body-clause-decodes : goal.returns-in_err-body-clause-decodes
returns-in_err-body-clause-decodes c = framed_end numbered_spelling IsNumberedRow c.args.bytes.now c.new-input.result c.in_err-body.field-0.0 c.from_residual.result c.new-input.ensures c.in_err-body.ensures.gives c.from_residual.ensures.1

pub returns-in_err-row-clause-decodes : goal.returns-in_err-row-clause-decodes
returns-in_err-row-clause-decodes c =
    framed_err numbered_spelling IsNumberedRow c.args.bytes.now c.new-input.result c.in_ok-body.body.now c.read_body.new.input c.in_err-row.field-0.0 c.from_residual-in_err-row.result c.new-input.ensures c.in_ok-body.ensures.gives c.in_err-row.ensures.reads c.from_residual-in_err-row.ensures.1

pub returns-clause-decodes : goal.returns-clause-decodes
returns-clause-decodes c =
    framed_whole numbered_spelling IsNumberedRow c.args.bytes.now c.new-input.result c.in_ok-body.body.now c.read_body.new.input c.in_ok-row.row c.taken_of.result (are_bytes c.args.bytes.now c.type_inv.bytes) c.new-input.ensures c.in_ok-body.ensures.gives c.in_ok-row.ensures.reads c.taken_of.ensures
