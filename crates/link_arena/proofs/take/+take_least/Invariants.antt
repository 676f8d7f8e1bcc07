use Rattle.link_arena.specs.Slots.{side}
use Rattle.link_arena.proofs.take.+take_least.Given as goal

abbrev pub decreases-take_least : goal.decreases-take_least
decreases-take_least g l = (side l.order l.slots.now l.at).height
