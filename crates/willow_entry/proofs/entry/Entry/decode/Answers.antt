use Rattle.std.proofs.Common.{◌≡◌, ◌-◌, length, rules}
use Rattle.spelling.proofs.Joining.{decodes_whole, decodes_end}
use Rattle.willow_entry.proofs.EntryReads.{entry-reads}
use Rattle.willow_entry.proofs.entry.Entry.decode.Goals as goal

pub returns-in_err-entry-clause-decodes : goal.returns-in_err-entry-clause-decodes
returns-in_err-entry-clause-decodes c = decodes_end entry-reads c.args.bytes.now c.new-input.result c.in_err-entry.field-0.0 c.from_residual.result c.new-input.ensures c.in_err-entry.ensures.gives c.from_residual.ensures.1

pub returns-clause-decodes : goal.returns-clause-decodes
returns-clause-decodes c =
    let n : c.saturating_sub.result ≡ length c.args.bytes.now - length c.read_entry.new.input = rw c.len.ensures at c.saturating_sub.ensures in
    decodes_whole entry-reads c.args.bytes.now c.new-input.result c.in_ok-entry.entry c.read_entry.new.input c.saturating_sub.result (λ i. search (rules, c.type_inv.bytes i)) c.new-input.ensures c.in_ok-entry.ensures.gives n
