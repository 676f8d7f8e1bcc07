use Rattle.std.proofs.Common.{List, map, ap, ◌∙◌}
use Rattle.sha_lanes.specs.declared.chain.Chain.{Chain}
use Rattle.sha_lanes.specs.Chain.{ended}
use Rattle.lms_core.specs.OneTime.{one_time_key}
use Rattle.lms_core.specs.KeyChains.{values_of}
use Rattle.lms_core.proofs.ChainLists.{values_of-told}
use Rattle.lms_core.proofs.one_time.key_of_values.Goals as goal

pub returns : goal.returns
returns c =
    let a = c.args in
    let ran = c.run_chains.ensures ∙ ap (λ (chains : List Chain). map ended chains) c.told_chains-chains.ensures in
    c.key_of_ends.ensures
    ∙ ap (one_time_key a.identifier.now a.index) (ap (λ (chains : List Chain). values_of chains) ran ∙ values_of-told a.identifier.now a.index 0 a.digits.now a.values.now)
