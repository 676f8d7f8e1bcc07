use Rattle.std.proofs.Common.{◌≡◌, ℕ, List, ap, ◌∙◌}
use Rattle.sha2.specs.Sha256.{compress, initial_hash_256}
use Rattle.sha_lanes.specs.Lanes.{one_of}
use Rattle.sha_lanes.proofs.first_blocks.FirstBlocks.state_behind.Goals as goal

from_start : (start reached block : List ℕ) → start ≡ initial_hash_256 → reached ≡ compress start block → reached ≡ compress initial_hash_256 block
from_start start reached block is step = step ∙ ap (λ (s : List ℕ). compress s block) is

pub returns-then-is_none-4 : goal.returns-then-is_none-4
returns-then-is_none-4 c = λ l h.
    let block = one_of c.args.first.now c.args.second.now c.args.third.now c.args.fourth.now l in
    from_start _ _ block (c.initial_state.ensures l h) (c.compress-state.ensures l block h (c.first_words.ensures l h))

pub returns-else-is_none-4 : goal.returns-else-is_none-4
returns-else-is_none-4 c = λ l h.
    let block = one_of c.args.first.now c.args.second.now c.args.third.now c.args.fourth.now l in
    from_start _ _ block (c.initial_state.ensures l h) (c.compress-state.ensures l block h (c.first_words.ensures l h))
