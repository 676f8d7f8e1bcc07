use Rattle.std.proofs.Common.{◌++◌, arith}
use Rattle.std.proofs.lemmas.List.{take_all}
use Rattle.lms_core.specs.OneTime.{front, d_pblc, one_time_key}
use Rattle.lms_core.specs.KeyChains.{values_of}
use Rattle.lms_core.proofs.key_chains.key_of_ends.Goals as goal

pub returns : goal.returns
unfolding one_time_key
returns c =
    let a = c.args in
    let all = take_all c.chains.chain-index a.chains.now (omega arith) in
    c.finalize.ensures (front a.identifier.now a.index d_pblc ++ values_of a.chains.now) (rw all at c.chains.invariant)
