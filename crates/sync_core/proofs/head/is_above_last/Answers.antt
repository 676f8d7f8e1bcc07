use Rattle.std.proofs.Common.{sym, ap, ◌∙◌}
use Rattle.std.specs.Ordering.{is_lt}
use Rattle.sync_core.proofs.Order.{above_last}
use Rattle.sync_core.proofs.head.is_above_last.Goals as goal

pub returns-in-Some : goal.returns-in-Some
returns-in-Some g c =
    c.is_lt.ensures ∙ ap is_lt c.by_inner_place.ensures
    ∙ sym (above_last c.args.read.now (g.Q.Row.value c.args.row.now) c.in-Some.last.now (sym c.in-Some.ensures.value))
