use Rattle.std.proofs.Common.{◌≡◌, ◌<◌, ◌-◌, length, arith}
use Rattle.std.proofs.lemmas.Bool.Decides.{nat_tests}
use Rattle.mesh_lines.proofs.Texts.{no_line, wrong_at, wrong_first}
use Rattle.mesh_lines.proofs.text.read_mesh.Goals as goal

pub returns-in_default-first_line : goal.returns-in_default-first_line
returns-in_default-first_line c = wrong_first c.args.bytes.now c.in-Some.first.now c.in-Some.behind.now (c.in-Some.ensures) (c.in_default-first_line.ensures)

pub returns-in_default-line_of : goal.returns-in_default-line_of
returns-in_default-line_of c =
    let some : 0 < length c.loop-left.left.now = grind (arith, nat_tests) in
    let place : c.saturating_sub-at.result ≡ length c.args.bytes.now - length c.loop-left.left.now = omega arith in
    wrong_at c.args.bytes.now c.in-Some-first_line.nodes c.loop-left.lines.items c.loop-left.left.now c.saturating_sub-at.result c.loop-left.invariant.front c.loop-left.invariant.few some place
    (no_line c.in-Some-first_line.nodes c.loop-left.left.now c.in-Some-cut.line.now c.in-Some-cut.others.now (c.in-Some-cut.ensures) (c.in_default-line_of.ensures))
