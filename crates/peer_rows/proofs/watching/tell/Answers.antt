use Rattle.peer_rows.proofs.Watched.{told_slice}
use Rattle.peer_rows.proofs.watching.tell.Goals as goal

pub returns-clause-told : goal.returns-clause-told
returns-clause-told g c = told_slice _ _ c.rows_from.result.now c.args.log.now c.front.result c.args.hub.now.front c.pump-left.result c.front.ensures c.rows_from.ensures c.pump-left.ensures.pumped
