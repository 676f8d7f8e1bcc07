use Rattle.std.proofs.Common.{◌≡◌, map, sym, ◌∙◌}
use Rattle.std.proofs.lemmas.Bool.{iff_false}
use Rattle.sync_core.specs.declared.stage.Stage.TheVariants as stage
use Rattle.sync_core.specs.Place.{stage_of}
use Rattle.sync_pair.proofs.TurnEnds.{all_passed}
use Rattle.sync_pair.proofs.pass.pass_turn.Goals as goal

pub returns-clause-passed : goal.returns-clause-passed
returns-clause-passed g c =
    let now = c.loop-from in
    let silent : stage_of now.from.side.doing ≡ stage.Writing → ⊥ = iff_false c.is_writing.ensures c.loop-from-test.false in
    record { end = sym now.invariant.end ∙ all_passed now.from.side now.to.side now.bytes.items (map g.R.Row.value now.to.got.items) silent }
