use Rattle.std.proofs.Common.{◌≡◌, rules}
use Rattle.sync_core.specs.declared.stage.Stage.TheVariants as stage
use Rattle.sync_core.specs.Place.{stage_of}
use Rattle.sync_link.proofs.Speech.{said_all}
use Rattle.sync_link.proofs.side.speak.speak.Goals as goal

pub returns-clause-said : goal.returns-clause-said
returns-clause-said g c =
    let now = c.loop-core in
    let silent : stage_of now.core.doing ≡ stage.Writing → ⊥ = search rules in
    said_all c.args.core.now now.core c.args.out.now.items now.out.items now.invariant.sound now.invariant.bytes now.invariant.last silent
