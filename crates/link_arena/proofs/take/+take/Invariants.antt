use Rattle.link_arena.specs.Slots.{side, root_height}
use Rattle.link_arena.proofs.take.+take.Given as goal

abbrev pub decreases-take : goal.decreases-take
decreases-take g l = root_height (side l.order l.slots.now) l.root
