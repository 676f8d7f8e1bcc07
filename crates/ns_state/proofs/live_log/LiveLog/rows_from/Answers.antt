use Rattle.std.proofs.Common.{map, drop, sym, ap, ◌∙◌}
use Rattle.std.specs.List.{drop-map}
use Rattle.ns_state.specs.Log.{plain_row}
use Rattle.ns_state.proofs.live_log.LiveLog.rows_from.Goals as goal

pub returns : goal.returns
returns g c =
    ap (map plain_row) (c.rows_from.ensures ∙ ap (drop c.args.at) c.deref.ensures.value)
    ∙ sym (drop-map plain_row c.args.at c.self.inside.log.items) ∙ ap (λ s. drop c.args.at s.log) c.self.view_is
