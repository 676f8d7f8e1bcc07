use Rattle.std.proofs.Common.{sym, subst}
use Rattle.peer_stage.specs.Stages.{IsReadWhole}
use Rattle.peer_stage.proofs.Faults.{stands_at}
use Rattle.mesh_command.specs.declared.run.TheConstants.{MESH_LIMIT}
use Rattle.mesh_command.proofs.Given.{input_answered}
use Rattle.mesh_command.proofs.run.answer_input.Goals as goal

pub returns-clause-answers : goal.returns-clause-answers
returns-clause-answers g c =
    let i = g.I.Source.facts c.args.input.now in
    let i' = g.I.Source.facts c.read_input.new.input in
    input_answered g.M.MeshStores.rules i i' c.deref.result.now c.answer_bytes.result (subst (IsReadWhole MESH_LIMIT i i') (sym c.deref.ensures.value) c.in_ok-bytes.ensures.reads) c.answer_bytes.ensures

pub returns-clause-faults : goal.returns-clause-faults
returns-clause-faults g c = stands_at (g.I.Source.facts c.args.input.now).faults (g.I.Source.facts c.read_input.new.input).faults c.answer_bytes.result c.in_ok-bytes.ensures.faults
