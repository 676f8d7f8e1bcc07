use Rattle.spelling.proofs.Lists.{are_bytes}
use Rattle.sync_link.proofs.Finding.{finds_item}
use Rattle.sync_link.proofs.side.find.find_item.Goals as goal

pub returns : goal.returns
returns c = finds_item c.args.reader.now c.next.new.self c.args.bytes.now c.next.result (are_bytes c.args.bytes.now c.type_inv.bytes) c.next.ensures.steps
