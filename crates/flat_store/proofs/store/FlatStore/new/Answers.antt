use Rattle.willow_entry.proofs.Between.{live-empty}
use Rattle.flat_store.proofs.store.FlatStore.new.Goals as goal

pub invariant_of-result : goal.invariant_of-result
invariant_of-result g c = rw c.new.ensures.items live-empty
