use Rattle.std.proofs.Common.{List, map, ap, ◌∙◌}
use Rattle.sha_lanes.specs.declared.chain.Chain.{Chain}
use Rattle.sha_lanes.specs.Chain.{ended}
use Rattle.lms_core.specs.OneTime.{one_time_key}
use Rattle.lms_core.specs.Signer.{key_of_leaf, last_digits}
use Rattle.lms_core.specs.KeyChains.{values_of}
use Rattle.lms_core.proofs.ChainLists.{values_of-secret}
use Rattle.lms_core.proofs.tree.Tree.leaf_key.Goals as goal

pub returns : goal.returns
unfolding key_of_leaf last_digits
returns c =
    let t = c.args.self.now in
    let ran = c.run_chains.ensures ∙ ap (λ (chains : List Chain). map ended chains) c.secret_chains-chains.ensures in
    c.key_of_ends.ensures
    ∙ ap (one_time_key t.identifier c.args.index) (ap (λ (chains : List Chain). values_of chains) ran ∙ values_of-secret t.identifier t.seed c.args.index 0 (last_digits 34))
