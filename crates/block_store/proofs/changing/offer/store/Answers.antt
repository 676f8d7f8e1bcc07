use Rattle.block_store.proofs.changing.offer.store.Goals as goal

pub returns-clause-placed : goal.returns-clause-placed
returns-clause-placed g c = (c.requires.uncovered, c.in_ok-pruned.ensures.pruned)
