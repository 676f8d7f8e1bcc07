use Rattle.std.proofs.Common.{◌≡◌, ◌≤◌, ◌<◌, ◌^◌, length, Some, IfSome, Ok, subst, arith}
use Rattle.log_keeper.specs.Readings.{ReadsFile}
use Rattle.log_keeper.proofs.FilesRead.{opened_sound}
use Rattle.log_keeper.proofs.keeper.LogKeeper.open.Goals as goal

pub invariant_of-keeper : goal.invariant_of-keeper
invariant_of-keeper g c =
    let s = c.in-Ok-Some in
    let e : s.field-0 ≡ Some (s.rows, s.end) = s.field-0-is in
    let contents = (g.D.Disk.facts c.args.disk).contents in
    opened_sound g.F.RowForm.IsRow g.F.R.Row.value c.args.namespace.now (g.D.Disk.may_leave c.read_disk.new.disk) s.rows s.end c.len-count.result contents (g.D.Disk.facts c.read_disk.new.disk).contents
    (subst (λ f. IfSome contents (ReadsFile g.F.RowForm.IsRow g.F.R.Row.value c.args.namespace.now (Ok f))) e s.ensures.reads)
    (subst (λ f. IfSome f (λ log. (length log.0.items ≤ log.1) × (log.1 < 2 ^ 62))) e s.ensures.few) s.ensures.contents s.ensures.settled (omega (arith, c.len-count.ensures, s.rows.ok.0))
