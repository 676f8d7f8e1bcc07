use Rattle.std.proofs.Common.{◌+◌, refl}
use Rattle.std.proofs.lemmas.List.{take_rest}
use Rattle.mesh_lines.proofs.Cuts.{found}
use Rattle.mesh_lines.proofs.cut.cut.Goals as goal

pub returns-then-byte-mark : goal.returns-then-byte-mark
returns-then-byte-mark c =
    found c.args.mark c.args.bytes.now c.loop-at.at _ _ c.loop-at-test.true c.loop-at.invariant c.if-byte-mark.true refl (take_rest c.args.bytes.now (c.loop-at.at + 1))
