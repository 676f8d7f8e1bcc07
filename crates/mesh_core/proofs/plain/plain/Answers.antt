use Rattle.std.proofs.Common.{Some, sym, ap, ◌∙◌}
use Rattle.mesh_core.proofs.Putting.{one_more_put}
use Rattle.mesh_core.proofs.plain.plain.Goals as goal

pub loop-at-preserved : goal.loop-at-preserved
loop-at-preserved c =
    one_more_put c.args.store.now c.loop-at.at c.in_ok-shared.field-0.value c.loop-at.rows c.take_shared.new.store c.loop-at.invariant
    (c.row_at.ensures ∙ ap (λ row. Some row) (sym c.in_ok-shared.ensures)) c.in_ok-take_shared.ensures.rows c.take_shared.ensures.few
