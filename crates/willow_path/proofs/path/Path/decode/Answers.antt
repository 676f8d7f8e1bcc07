use Rattle.std.proofs.Common.{◌≡◌, ◌-◌, length, rules}
use Rattle.spelling.proofs.Joining.{decodes_whole, decodes_end}
use Rattle.willow_path.proofs.PathReads.{path-reads}
use Rattle.willow_path.proofs.path.Path.decode.Goals as goal

pub returns-in_err-path-clause-decodes : goal.returns-in_err-path-clause-decodes
returns-in_err-path-clause-decodes c = decodes_end path-reads c.args.bytes.now c.new-input.result c.in_err-path.field-0.0 c.from_residual.result c.new-input.ensures c.in_err-path.ensures.gives c.from_residual.ensures.1

pub returns-clause-decodes : goal.returns-clause-decodes
returns-clause-decodes c =
    let n : c.saturating_sub.result ≡ length c.args.bytes.now - length c.read_path.new.input = rw c.len.ensures at c.saturating_sub.ensures in
    decodes_whole path-reads c.args.bytes.now c.new-input.result c.in_ok-path.path c.read_path.new.input c.saturating_sub.result (λ i. search (rules, c.type_inv.bytes i)) c.new-input.ensures c.in_ok-path.ensures.gives n
