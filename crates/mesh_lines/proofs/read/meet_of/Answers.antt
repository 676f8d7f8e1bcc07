use Rattle.mesh_lines.proofs.Lines.{no_meet, no_right, no_time, no_left, no_other, not_itself, no_key, no_from}
use Rattle.mesh_lines.proofs.read.meet_of.Goals as goal

pub returns-in_err-first : goal.returns-in_err-first
returns-in_err-first c = rw c.from_residual.ensures (no_meet c.args.nodes c.args.words.now (c.in_err-first.ensures))

pub returns-in_err-second : goal.returns-in_err-second
returns-in_err-second c =
    rw c.from_residual-in_err-second.ensures (no_right c.args.nodes c.args.words.now c.in_ok-first.first.now c.in_ok-first.others.now (c.in_ok-first.ensures) (c.in_err-second.ensures))

pub returns-in_err-third : goal.returns-in_err-third
returns-in_err-third c =
    rw c.from_residual-in_err-third.ensures
    (no_time c.args.nodes c.args.words.now c.in_ok-first.first.now c.in_ok-first.others.now c.in_ok-second.second.now c.in_ok-second.rest.now (c.in_ok-first.ensures) (c.in_ok-second.ensures) (c.in_err-third.ensures))

pub returns-in_err-left : goal.returns-in_err-left
returns-in_err-left c =
    rw c.from_residual-in_err-left.ensures
    (no_left c.args.nodes c.args.words.now c.in_ok-first.first.now c.in_ok-first.others.now c.in_ok-second.second.now c.in_ok-second.rest.now (c.in_ok-first.ensures) (c.in_ok-second.ensures) (c.in_err-left.ensures))

pub returns-in_err-right : goal.returns-in_err-right
returns-in_err-right c =
    rw c.from_residual-in_err-right.ensures
    (no_other c.args.nodes c.args.words.now c.in_ok-first.first.now c.in_ok-first.others.now c.in_ok-second.second.now c.in_ok-second.rest.now (c.in_ok-first.ensures) (c.in_ok-second.ensures) (c.in_err-right.ensures))

pub returns-then-left-right : goal.returns-then-left-right
returns-then-left-right c =
    not_itself c.args.nodes c.args.words.now c.in_ok-first.first.now c.in_ok-first.others.now c.in_ok-second.second.now c.in_ok-second.rest.now (c.in_ok-first.ensures) (c.in_ok-second.ensures)
    c.in_ok-left.left c.in_ok-right.right (c.in_ok-left.ensures) (c.in_ok-right.ensures) c.if-left-right.true

pub returns-in_err-subspace : goal.returns-in_err-subspace
returns-in_err-subspace c =
    rw c.from_residual-in_err-subspace.ensures
    (no_key c.args.nodes c.args.words.now c.in_ok-first.first.now c.in_ok-first.others.now c.in_ok-second.second.now c.in_ok-second.rest.now (c.in_ok-first.ensures) (c.in_ok-second.ensures)
    c.in_ok-third.third.now c.in_ok-third.fourth.now (c.in_ok-third.ensures) (c.in_err-subspace.ensures))

pub returns-in_err-from : goal.returns-in_err-from
returns-in_err-from c =
    rw c.from_residual-in_err-from.ensures
    (no_from c.args.nodes c.args.words.now c.in_ok-first.first.now c.in_ok-first.others.now c.in_ok-second.second.now c.in_ok-second.rest.now (c.in_ok-first.ensures) (c.in_ok-second.ensures)
    c.in_ok-third.third.now c.in_ok-third.fourth.now (c.in_ok-third.ensures) (c.in_err-from.ensures))
