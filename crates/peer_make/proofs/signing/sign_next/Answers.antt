use Rattle.peer_stage.proofs.Faults.{stands_at}
use Rattle.peer_make.proofs.Signatures.{unused}
use Rattle.peer_make.proofs.signing.sign_next.Goals as goal

pub sign_once-requires : goal.sign_once-requires
sign_once-requires g c = unused _ _ _ _ c.in_ok-signer.ensures.hands

pub returns-clause-read_faults : goal.returns-clause-read_faults
returns-clause-read_faults g c = stands_at (g.H.Shelf.facts c.args.shelf.now).read_faults (g.H.Shelf.facts c.take_next.new.shelf).read_faults c.sign_once.result c.in_ok-signer.ensures.read_faults

pub returns-clause-write_faults : goal.returns-clause-write_faults
returns-clause-write_faults g c = stands_at (g.H.Shelf.facts c.args.shelf.now).write_faults (g.H.Shelf.facts c.take_next.new.shelf).write_faults c.sign_once.result c.in_ok-signer.ensures.write_faults
