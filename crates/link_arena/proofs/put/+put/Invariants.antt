use Rattle.link_arena.specs.Slots.{side, root_height}
use Rattle.link_arena.proofs.put.+put.Given as goal

abbrev pub decreases-put : goal.decreases-put
decreases-put g l = root_height (side l.order l.slots.now) l.root
