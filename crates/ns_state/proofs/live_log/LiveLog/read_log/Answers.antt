use Rattle.std.proofs.Common.{◌≡◌, map, take, drop, IfOk, ap, ◌∙◌, subst}
use Rattle.ns_state.specs.Log.{plain_row}
use Rattle.ns_state.proofs.Logs.{plain_part}
use Rattle.ns_state.proofs.live_log.LiveLog.read_log.Goals as goal

pub returns : goal.returns
returns g c = subst (λ l. IfOk c.read_rows.result (λ rows. map plain_row rows.items ≡ l))
    (ap (λ l. map plain_row (take c.args.most (drop c.args.from l))) c.deref.ensures.value
    ∙ plain_part c.args.from c.args.most c.self.inside.log.items ∙ ap (λ s. take c.args.most (drop c.args.from s.log)) c.self.view_is)
    c.read_rows.ensures
