use Rattle.std.proofs.Common.{All, List, Ok, ap, subst, arith}
use Rattle.willow_outside.specs.Facts.{DiskFacts}
use Rattle.cap_codec.specs.Rows.{IsRaw, RawValue}
use Rattle.peer_run.specs.LogOpening.{BeginsFile}
use Rattle.peer_run.proofs.OpenedFiles.{read_file}
use Rattle.peer_run.proofs.RefusedFiles.{read_well, refused_opening}
use Rattle.peer_run.proofs.log_opening.read_or_begin.Goals as goal

pub returns-in-Ok-Log : goal.returns-in-Ok-Log
returns-in-Ok-Log g c =
    let keeper = c.in-Ok-Log.keeper in
    let rows = c.in-Ok-Log.rows in
    let is = ap (λ o. Ok o) c.in-Ok-Log.field-0-is in
    read_file g.K.Disk.facts g.K.Disk.may_leave g.K.Disk.moment g.K.Disk.left_since c.args.namespace.now c.args.disk (record { keeper = keeper; kept = c.len-kept.result; front = 0 }) rows.items (c.in-Ok-Log.ensures.read keeper rows is)
    (c.in-Ok-Log.ensures.keeps keeper rows is) (c.in-Ok-Log.ensures.place keeper rows is) (omega (arith, c.len-kept.ensures, rows.ok.0)) (subst (λ (l : List RawValue). All IsRaw l) c.deref.ensures.value c.known_raws.ensures)

-- a disk that holds no log tells what it told
pub returns-in-Ok-Absent : goal.returns-in-Ok-Absent
returns-in-Ok-Absent g c =
    let d = g.K.Disk in
    let well = (c.in-Ok-Absent.ensures.absent c.in-Ok-Absent.disk (ap (λ o. Ok o) c.in-Ok-Absent.field-0-is)).0 in
    subst (λ (told : DiskFacts). BeginsFile d.facts c.args.namespace.now told c.begin.result) (read_well d.facts d.may_leave d.moment d.left_since c.args.disk c.in-Ok-Absent.disk well) c.begin.ensures

pub returns-in-Err : goal.returns-in-Err
returns-in-Err g c =
    let d = g.K.Disk in
    let back = c.in-Err.back in
    let left = c.in-Err.ensures in
    refused_opening d.facts d.may_leave d.moment d.left_since g.met.K.Disk.contents_left c.args.namespace.now c.args.disk back.0 back.1 c.requires.settled left.only_read left.unwritten left.cause
