use Rattle.willow_outside.proofs.NamesPut.{names-inserted}
use Rattle.willow_outside.proofs.cabinet.Cabinet.replace.Goals as goal

pub returns : goal.returns
returns c = names-inserted c.args.self.now.contents c.insert.new.self c.in_ok-key.key c.args.name.now c.args.bytes.now c.in_ok-copy.copy c.in_ok-key.ensures.ok c.in_ok-copy.ensures.items c.in_ok-insert.ensures.updates
