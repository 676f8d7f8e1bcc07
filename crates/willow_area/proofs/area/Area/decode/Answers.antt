use Rattle.std.proofs.Common.{rules}
use Rattle.spelling.proofs.Joining.{decodes_whole, decodes_end}
use Rattle.willow_area.proofs.AreaReads.{area-reads}
use Rattle.willow_area.proofs.area.Area.decode.Goals as goal

pub returns-in_err-area-clause-decodes : goal.returns-in_err-area-clause-decodes
returns-in_err-area-clause-decodes c = decodes_end area-reads c.args.bytes.now c.new-input.result c.in_err-area.field-0.0 c.from_residual.result c.new-input.ensures c.in_err-area.ensures.gives c.from_residual.ensures.1

pub returns-clause-decodes : goal.returns-clause-decodes
returns-clause-decodes c = decodes_whole area-reads c.args.bytes.now c.new-input.result c.in_ok-area.area c.read_area.new.input c.taken_of.result (λ i. search (rules, c.type_inv.bytes i)) c.new-input.ensures c.in_ok-area.ensures.gives c.taken_of.ensures
