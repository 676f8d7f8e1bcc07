use Rattle.std.proofs.Common.{rules, [], get_or, arith}
use Rattle.std.proofs.lemmas.List.{get_or_default}
use Rattle.std.proofs.lemmas.List.Edits.{map_over_more}
use Rattle.sha_lanes.specs.declared.chain.Chain.{Chain}
use Rattle.lms_core.specs.KeyChains.{lengthened}
use Rattle.lms_core.proofs.key_chains.lengthen.Goals as goal

pub chains-preserved : goal.chains-preserved
chains-preserved c =
    let none : Chain = record { front = []; at = 0; to = 0; value = [] } in
    let chain = get_or c.chains.chains c.chains.number none in (
      search rules,
      map_over_more lengthened c.args.chains.now c.chains.chains c.chains.number chain (omega arith) c.chains.invariant.1
          (get_or_default c.chains.chains c.chains.number none chain (omega arith)),
    )
