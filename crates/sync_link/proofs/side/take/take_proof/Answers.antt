use Rattle.std.proofs.Common.{rules}
use Rattle.row_intake.specs.Found.{IsFound}
use Rattle.sync_link.specs.Readers.{proof_seen}
use Rattle.sync_link.proofs.Owing.{asks_both, owes_proof}
use Rattle.sync_link.proofs.PieceReads.{signed_by}
use Rattle.sync_link.proofs.side.take.take_proof.Goals as goal

pub returns-in_ok-due-in-Whole-clause-signs : goal.returns-in_ok-due-in-Whole-clause-signs
returns-in_ok-due-in-Whole-clause-signs g c =
    signed_by (g.K.Signer.gives c.args.signer.now) c.args.participant.now c.hear_proof.new.participant c.args.other.now c.in_ok-due-in-Whole.ensures.signs

pub returns-in_ok-due-in-Whole-clause-due : goal.returns-in_ok-due-in-Whole-clause-due
returns-in_ok-due-in-Whole-clause-due g c =
    let found : IsFound proof_seen c.args.bytes.now c.as_slice.result.now c.in-Whole.taken = search rules in
    asks_both _ _ _ _ _ _ _ (λ calls none at. owes_proof g.S.Verify.rules g.R.Row.value c.args.participant.now c.args.other.now c.args.bytes.now c.as_slice.result.now c.in-Whole.taken found calls none at) c.hear_proof.ensures.calls c.hear_proof.ensures.accepts

pub returns-in_err-due-in-Whole-clause-due : goal.returns-in_err-due-in-Whole-clause-due
returns-in_err-due-in-Whole-clause-due g c =
    let found : IsFound proof_seen c.args.bytes.now c.as_slice.result.now c.in-Whole.taken = search rules in
    asks_both _ _ _ _ _ _ _ (λ calls none at. owes_proof g.S.Verify.rules g.R.Row.value c.args.participant.now c.args.other.now c.args.bytes.now c.as_slice.result.now c.in-Whole.taken found calls none at) c.hear_proof.ensures.calls c.hear_proof.ensures.accepts
