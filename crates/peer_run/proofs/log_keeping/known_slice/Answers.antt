use Rattle.std.proofs.Common.{ℕ, ◌∙◌, add-one, take, sym, ap, subst}
use Rattle.std.specs.declared.sync.Arc.{Arc}
use Rattle.std.specs.declared.alloc.Global.{Global}
use Rattle.willow_entry.specs.declared.row.LogRow.{LogRow}
use Rattle.auth_entry.specs.Authorised.{AuthorisedValue}
use Rattle.sync_link.proofs.Openings.{CanTell, can_tell}
use Rattle.peer_run.specs.LogFiles.{slice_values}
use Rattle.peer_run.proofs.KeptSlices.{CanHold, hold_more}
use Rattle.peer_run.proofs.log_keeping.known_slice.Goals as goal

pub loop-logged-preserved : goal.loop-logged-preserved
loop-logged-preserved c =
    let rows = c.args.rows.now in
    let at = c.loop-logged.logged-index in
    let is = c.deref.ensures ∙ ap (λ (l : LogRow (Arc AuthorisedValue Global)). l.row.value) c.logged-item.is in
    subst (λ (n : ℕ). CanHold (slice_values (take n rows))) (sym (add-one at))
    (hold_more rows at c.logged-item.result c.loop-logged-test.true (subst CanTell is (can_tell c.deref.result.now c.row-row.ensures.fits)) c.loop-logged.invariant)
