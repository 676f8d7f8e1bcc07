use Rattle.cap_codec.specs.Rows.{row_of}
use Rattle.sync_msg.specs.Items.{item_value}
use Rattle.sync_link.proofs.Sound.{sound_heard}
use Rattle.sync_link.proofs.side.hear.hear.Goals as goal

pub speak-requires : goal.speak-requires
speak-requires g c = sound_heard c.args.core.now c.give_item.new.self (item_value row_of c.args.item) c.requires.sound c.in-Ok.ensures.hears
