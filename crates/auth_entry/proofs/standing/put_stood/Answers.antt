use Rattle.std.proofs.Common.{refl}
use Rattle.auth_entry.proofs.Settling.{stood_more}
use Rattle.auth_entry.proofs.standing.put_stood.Goals as goal

pub returns-clause-stood : goal.returns-clause-stood
returns-clause-stood g c = λ rows before.
    stood_more g.S.Verify.rules c.args.namespace.now c.args.unknown.now c.stand.new.unknown rows c.args.row.now c.args.stood.now.items _ c.push.new.self.items c.stand.ensures.stay before
    c.in_ok-standing.ensures.stands refl c.in_ok-push.ensures.items
