use Rattle.std.proofs.Common.{[], arith}
use Rattle.log_keeper.specs.Crashes.{HoldsNoRow}
use Rattle.log_keeper.specs.LogFile.{new_log}
use Rattle.log_keeper.specs.Torn.{HoldsNoneOr}
use Rattle.log_keeper.proofs.Moments.{weaker}
use Rattle.log_keeper.proofs.NewLogs.{no_row_held, keeps_begun}
use Rattle.log_keeper.proofs.keeper.LogKeeper.create.Goals as goal

pub returns-in-Ok-clause-keeps : goal.returns-in-Ok-clause-keeps
returns-in-Ok-clause-keeps g c =
    keeps_begun g.F.RowForm.IsRow c.args.namespace.now c.begin_log.ensures.key.whole (g.D.Disk.facts c.args.disk).contents (g.D.Disk.facts c.begin_log.new.disk).contents (g.D.Disk.may_leave c.begin_log.new.disk) c.in-Ok.ensures.contents c.in-Ok.ensures.settled

pub invariant_of-result : goal.invariant_of-result
invariant_of-result g c = record {
  few = omega arith;
  keeps = λ unbroken. (
    c.args.namespace.now,
    [],
    keeps_begun g.F.RowForm.IsRow c.args.namespace.now c.begin_log.ensures.key.whole (g.D.Disk.facts c.args.disk).contents (g.D.Disk.facts c.begin_log.new.disk).contents (g.D.Disk.may_leave c.begin_log.new.disk) c.in-Ok.ensures.contents c.in-Ok.ensures.settled,
  );
}

pub returns-in-Ok-clause-moments : goal.returns-in-Ok-clause-moments
returns-in-Ok-clause-moments g c =
    weaker g.D.Disk.moment g.D.Disk.left_since c.args.disk c.begin_log.new.disk (HoldsNoneOr (new_log c.args.namespace.now)) (HoldsNoRow g.F.RowForm.IsRow c.args.namespace.now) (no_row_held g.F.RowForm.IsRow c.args.namespace.now c.begin_log.ensures.key.whole) c.begin_log.ensures.moments

pub returns-in-Err-clause-moments : goal.returns-in-Err-clause-moments
returns-in-Err-clause-moments g c =
    weaker g.D.Disk.moment g.D.Disk.left_since c.args.disk c.begin_log.new.disk (HoldsNoneOr (new_log c.args.namespace.now)) (HoldsNoRow g.F.RowForm.IsRow c.args.namespace.now) (no_row_held g.F.RowForm.IsRow c.args.namespace.now c.begin_log.ensures.key.whole) c.begin_log.ensures.moments
