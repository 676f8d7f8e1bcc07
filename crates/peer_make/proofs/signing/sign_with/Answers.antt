use Rattle.std.proofs.Common.{refl}
use Rattle.peer_stage.proofs.Faults.{stands_at}
use Rattle.peer_make.proofs.signing.sign_with.Goals as goal

pub returns-in-OpenKey-clause-read_faults : goal.returns-in-OpenKey-clause-read_faults
returns-in-OpenKey-clause-read_faults g c = let count = (g.H.Shelf.facts c.args.shelf.now).read_faults in stands_at count count c.sign_open.result refl

pub returns-in-OpenKey-clause-write_faults : goal.returns-in-OpenKey-clause-write_faults
returns-in-OpenKey-clause-write_faults g c = let count = (g.H.Shelf.facts c.args.shelf.now).write_faults in stands_at count count c.sign_open.result refl
