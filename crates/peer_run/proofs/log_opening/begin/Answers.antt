use Rattle.peer_run.proofs.RefusedFiles.{refused_beginning}
use Rattle.peer_run.proofs.log_opening.begin.Goals as goal

pub returns-in-Err : goal.returns-in-Err
returns-in-Err g c =
    let d = g.K.Disk in
    let back = c.in-Err.back in
    let left = c.in-Err.ensures in
    refused_beginning d.facts d.may_leave d.moment d.left_since g.met.K.Disk.contents_left c.args.namespace.now c.args.disk back.0 back.1 c.requires.settled g.met.K.Disk.counts_now c.requires.no_log left.moments left.told left.unwritten left.cause
