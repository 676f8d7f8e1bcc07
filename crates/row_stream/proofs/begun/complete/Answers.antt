use Rattle.std.proofs.lemmas.Result.{IfOk-weaker}
use Rattle.row_stream.specs.Steps.{TellsSize}
use Rattle.std.specs.Prelude.{Some}
use Rattle.row_stream.proofs.Completing.{completed}
use Rattle.row_stream.proofs.begun.complete.Goals as goal

pub returns-in-Some-clause-completes : goal.returns-in-Some-clause-completes
returns-in-Some-clause-completes c =
    let tells : TellsSize c.fill.new.begun.items (Some c.in-Some.size) = rw (← c.deref.ensures.value) c.in-Some.ensures in
    IfOk-weaker c.fill-in-Some.result _ _
    (λ rest two. completed c.args.begun.now.items c.args.piece.now c.fill.new.begun.items c.in_ok-rest.rest.now c.fill-in-Some.new.begun.items rest.now c.in-Some.size c.requires c.in_ok-rest.ensures.fills c.fill.ensures.kept tells two c.fill-in-Some.ensures.kept)
    c.fill-in-Some.ensures.fills
