use Rattle.std.proofs.Common.{ℕ, ◌+◌, ◌<◌, ◌≤◌, List, [], slice_index_or, ap, arith}
use Rattle.sha_lanes.specs.declared.chain.Chain.{Chain}
use Rattle.sha_lanes.specs.Running.{chain_at}
use Rattle.sha_lanes.proofs.OfChains.{Advances-four}
use Rattle.sha_lanes.proofs.running.advance.Goals as goal

pub advanced_four-advanced-requires-clause-first : goal.advanced_four-advanced-requires-clause-first
advanced_four-advanced-requires-clause-first c = omega (arith, c.left.ensures.room)

pub advanced_four-advanced-requires-clause-second : goal.advanced_four-advanced-requires-clause-second
advanced_four-advanced-requires-clause-second c = omega (arith, c.left-2.ensures.room)

pub advanced_four-advanced-requires-clause-third : goal.advanced_four-advanced-requires-clause-third
advanced_four-advanced-requires-clause-third c = omega (arith, c.left-3.ensures.room)

pub advanced_four-advanced-requires-clause-fourth : goal.advanced_four-advanced-requires-clause-fourth
advanced_four-advanced-requires-clause-fourth c = omega (arith, c.left-4.ensures.room)

pub returns : goal.returns
returns c =
    let chains = c.args.chains.now in
    let none : Chain = record { front = []; at = 0; to = 0; value = [] } in
    let n = c.min-count.result in
    let made = λ (k : ℕ). ap (λ (xs : List Chain). slice_index_or xs k none) c.advanced_four-advanced.ensures in
    let some : 0 < n = omega (arith, c.left.ensures.value, c.left-2.ensures.value, c.left-3.ensures.value, c.left-4.ensures.value) in
    let first : (chain_at chains c.args.first).at + n ≤ (chain_at chains c.args.first).to = omega (arith, c.left.ensures.value) in
    let second : (chain_at chains c.args.second).at + n ≤ (chain_at chains c.args.second).to = omega (arith, c.left-2.ensures.value) in
    let third : (chain_at chains c.args.third).at + n ≤ (chain_at chains c.args.third).to = omega (arith, c.left-3.ensures.value) in
    let fourth : (chain_at chains c.args.fourth).at + n ≤ (chain_at chains c.args.fourth).to = omega (arith, c.left-4.ensures.value) in
    let r = c.requires in
    Advances-four chains _ _ _ _ n _ _ _ _ r.first r.second r.third r.fourth some first second third fourth (made 0) (made 1) (made 2) (made 3)
