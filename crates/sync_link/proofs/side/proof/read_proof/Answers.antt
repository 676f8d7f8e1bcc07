use Rattle.std.proofs.Common.{rules}
use Rattle.spelling.proofs.Lists.{are_bytes}
use Rattle.sync_link.proofs.Finding.{proof_found, proof_begun, proof_wrong}
use Rattle.sync_link.proofs.side.proof.read_proof.Goals as goal

pub returns-in-Ok : goal.returns-in-Ok
returns-in-Ok c =
    proof_found c.args.bytes.now c.in-Ok.signature c.read_signature.new.input c.taken_of.result (are_bytes c.args.bytes.now c.type_inv.bytes) (search rules) (search rules)

pub returns-in-Err-Part : goal.returns-in-Err-Part
returns-in-Err-Part c = proof_begun c.args.bytes.now (search rules)

pub returns-in-Err-Wrong : goal.returns-in-Err-Wrong
returns-in-Err-Wrong c = proof_wrong c.args.bytes.now (are_bytes c.args.bytes.now c.type_inv.bytes) (search rules)
