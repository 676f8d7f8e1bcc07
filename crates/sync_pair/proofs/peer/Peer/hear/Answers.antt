use Rattle.sync_core.proofs.OneByOne.{reads_to_hear}
use Rattle.sync_pair.proofs.peer.Peer.hear.Goals as goal

pub give_item-requires-clause-reads : goal.give_item-requires-clause-reads
give_item-requires-clause-reads g c = reads_to_hear _ _ c.requires.comes
