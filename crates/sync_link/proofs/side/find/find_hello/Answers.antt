use Rattle.spelling.proofs.Lists.{are_bytes}
use Rattle.sync_link.proofs.Finding.{finds_hello}
use Rattle.sync_link.proofs.side.find.find_hello.Goals as goal

pub returns : goal.returns
returns c = finds_hello c.args.bytes.now c.read_hello.result (are_bytes c.args.bytes.now c.type_inv.bytes) c.read_hello.ensures.reads
