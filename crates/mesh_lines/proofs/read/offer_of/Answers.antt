use Rattle.mesh_lines.proofs.Lines.{no_offer, no_offered_node, no_offered_row}
use Rattle.mesh_lines.proofs.read.offer_of.Goals as goal

pub returns-in_err-first : goal.returns-in_err-first
returns-in_err-first c = rw c.from_residual.ensures (no_offer c.args.nodes c.args.words.now (c.in_err-first.ensures))

pub returns-in_err-node : goal.returns-in_err-node
returns-in_err-node c =
    rw c.from_residual-in_err-node.ensures (no_offered_node c.args.nodes c.args.words.now c.in_ok-first.first.now c.in_ok-first.second.now (c.in_ok-first.ensures) (c.in_err-node.ensures))

pub returns-in_err-row : goal.returns-in_err-row
returns-in_err-row c =
    rw c.from_residual-in_err-row.ensures (no_offered_row c.args.nodes c.args.words.now c.in_ok-first.first.now c.in_ok-first.second.now (c.in_ok-first.ensures) (c.in_err-row.ensures))
