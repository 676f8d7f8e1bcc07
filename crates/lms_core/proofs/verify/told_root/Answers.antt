use Rattle.std.proofs.lemmas.List.{take_rest}
use Rattle.lms_core.proofs.Accepting.{root_by_steps}
use Rattle.lms_core.proofs.verify.told_root.Goals as goal

pub returns : goal.returns
returns c =
    let a = c.args in
    root_by_steps a.height a.identifier.now a.message.now a.signature.now _ _ _ _ _ _ _ _ c.number_at-index.ensures c.field_at-randomizer.ensures c.leaves.ensures.value c.levels.ensures.value c.told_key-key.ensures c.leaf.ensures (take_rest a.signature.now 1132) c.climbed.ensures
