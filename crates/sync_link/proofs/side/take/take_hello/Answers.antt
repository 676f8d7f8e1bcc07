use Rattle.std.proofs.Common.{rules}
use Rattle.row_intake.specs.Found.{IsFound}
use Rattle.sync_link.specs.Readers.{hello_seen}
use Rattle.sync_link.proofs.Owing.{asks_so, owes_hello}
use Rattle.sync_link.proofs.side.take.take_hello.Goals as goal

pub returns-in_ok-due-in-Whole-clause-due : goal.returns-in_ok-due-in-Whole-clause-due
returns-in_ok-due-in-Whole-clause-due g c =
    let found : IsFound hello_seen c.args.bytes.now c.in-Whole.hello c.in-Whole.taken = search rules in
    asks_so _ _ _ _ _ _ (λ h at. owes_hello g.S.Verify.rules g.R.Row.value c.args.participant.now c.args.bytes.now c.in-Whole.hello c.in-Whole.taken found h.0 h.1 at) c.hear_hello.ensures.due

pub returns-in_err-due-in-Whole-clause-due : goal.returns-in_err-due-in-Whole-clause-due
returns-in_err-due-in-Whole-clause-due g c =
    let found : IsFound hello_seen c.args.bytes.now c.in-Whole.hello c.in-Whole.taken = search rules in
    asks_so _ _ _ _ _ _ (λ h at. owes_hello g.S.Verify.rules g.R.Row.value c.args.participant.now c.args.bytes.now c.in-Whole.hello c.in-Whole.taken found h.0 h.1 at) c.hear_hello.ensures.due
