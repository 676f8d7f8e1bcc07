use Rattle.mesh_lines.proofs.Lines.{no_same, no_same_left, no_same_right}
use Rattle.mesh_lines.proofs.read.same_of.Goals as goal

pub returns-in_err-first : goal.returns-in_err-first
returns-in_err-first c = rw c.from_residual.ensures (no_same c.args.nodes c.args.words.now (c.in_err-first.ensures))

pub returns-in_err-left : goal.returns-in_err-left
returns-in_err-left c =
    rw c.from_residual-in_err-left.ensures (no_same_left c.args.nodes c.args.words.now c.in_ok-first.first.now c.in_ok-first.second.now (c.in_ok-first.ensures) (c.in_err-left.ensures))

pub returns-in_err-right : goal.returns-in_err-right
returns-in_err-right c =
    rw c.from_residual-in_err-right.ensures (no_same_right c.args.nodes c.args.words.now c.in_ok-first.first.now c.in_ok-first.second.now (c.in_ok-first.ensures) (c.in_err-right.ensures))
