use Rattle.std.proofs.Common.{◌≡◌, ℕ, ◌-◌, List, length, ap, sym, ◌∙◌, arith, length-append}
use Rattle.spelling.specs.Front.{Whole}
use Rattle.spelling.specs.Form.{AreBytes}
use Rattle.spelling.proofs.Lists.{are_bytes}
use Rattle.willow_entry.specs.declared.entry.Entry.{Entry}
use Rattle.willow_entry.specs.EntryForm.{entry_at, entry_spelling}
use Rattle.willow_entry.proofs.EntryReads.{entry-reads, whole_asks}
use Rattle.cap_codec.proofs.row.read_parts.Goals as goal

-- so many bytes were taken as the entry has
entry_is_long : (whole input : List ℕ) (e : Entry) (rest : List ℕ) (n : ℕ) → AreBytes whole → input ≡ whole → entry_at input ≡ Whole e rest → n ≡ length whole - length rest → n ≡ length (entry_spelling e)
entry_is_long whole input e rest n are same h is =
    let entry = entry-reads.takes whole e rest are (ap entry_at (sym same) ∙ h) in
    omega (arith, is, ap length entry.parts, length-append (entry_spelling e) rest)

pub returns-clause-entry_long : goal.returns-clause-entry_long
returns-clause-entry_long c =
    entry_is_long c.args.body.now c.args.input.now c.in_ok-entry.entry c.read_entry.new.input c.taken_of-entry_len.result
    (are_bytes c.args.body.now c.type_inv.body) (sym c.requires) c.in_ok-entry.ensures.gives c.taken_of-entry_len.ensures

pub returns-clause-asks : goal.returns-clause-asks
returns-clause-asks c = whole_asks c.args.input.now c.in_ok-entry.entry c.read_entry.new.input c.in_ok-entry.ensures.gives
