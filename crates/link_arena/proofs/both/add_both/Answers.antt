use Rattle.std.proofs.Common.{arith}
use Rattle.link_arena.proofs.Boths.{can_key, can_rank, both_added}
use Rattle.link_arena.proofs.both.add_both.Goals as goal

pub add-key-requires : goal.add-key-requires
add-key-requires g c = (_, can_key _ _ _ _ _ _ _ c.requires.1.1)

pub add-rank-requires : goal.add-rank-requires
add-rank-requires g c =
    let can = c.requires.1.1 in
    (_, can_rank _ _ _ _ _ _ _ _ can (omega arith) c.add-key.ensures.contents (c.add-key.ensures.other _ _ can.both.by_rank))

pub returns-clause-added : goal.returns-clause-added
returns-clause-added g c = λ t u can.
    let a = c.add-key.ensures.added t can.both.by_key (can_key _ _ _ t u _ _ can) in
    let stays = c.add-key.ensures.other _ u can.both.by_rank in
    let b = c.add-rank.ensures.added u stays (can_rank _ _ _ t u _ _ _ can (omega arith) c.add-key.ensures.contents stays) in
    both_added _ _ _ t u _ _ _ _ _ _ can a (c.add-rank.ensures.other _ a.tree a.ordered) b
