use Rattle.sync_follow.proofs.Feedings.{last_failed}
use Rattle.sync_follow.proofs.feeding.write_piece.Goals as goal

pub returns-in-Err-clause-writes : goal.returns-in-Err-clause-writes
returns-in-Err-clause-writes g c = last_failed (g.L.Link.facts c.args.link.now) (g.L.Link.facts c.send.new.link) c.args.out.now.items c.deref.result.now c.in-Err.fault c.deref.ensures.value c.in-Err.ensures.held c.in-Err.ensures.cause
