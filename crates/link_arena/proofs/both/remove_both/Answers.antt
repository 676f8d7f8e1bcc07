use Rattle.std.proofs.Common.{arith}
use Rattle.link_arena.proofs.Boths.{both_removed}
use Rattle.link_arena.proofs.both.remove_both.Goals as goal

pub remove-key-requires : goal.remove-key-requires
remove-key-requires g c = let can = c.requires.there.1.1 in (_, record { tree = can.both.by_key.tree; there = can.there })

pub remove-rank-requires : goal.remove-rank-requires
remove-rank-requires g c =
    let can = c.requires.there.1.1 in
    let stays = c.remove-key.ensures.other _ _ can.both.by_rank in
    (_, record { tree = stays.tree; there = let there = can.there in omega (arith, can.both.same c.args.slot) })

pub returns-clause-removed : goal.returns-clause-removed
returns-clause-removed g c = λ t u can.
    let there = can.there in
    let a = c.remove-key.ensures.removed t can.both.by_key (record { tree = can.both.by_key.tree; there = can.there }) in
    let stays = c.remove-key.ensures.other _ u can.both.by_rank in
    let b = c.remove-rank.ensures.removed u stays (record { tree = stays.tree; there = omega (arith, can.both.same c.args.slot) }) in
    both_removed _ _ _ t u _ _ _ _ _ _ can a (c.remove-rank.ensures.other _ a.tree a.ordered) b
