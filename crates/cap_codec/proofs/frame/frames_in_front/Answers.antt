use Rattle.std.proofs.lemmas.Result.{err_from_is_err_and}
use Rattle.cap_codec.proofs.Asking.{first_asks, read_asks}
use Rattle.cap_codec.proofs.Frames.{frame_on}
use Rattle.cap_codec.proofs.frame.frames_in_front.Goals as goal

pub frames-preserved : goal.frames-preserved
frames-preserved c =
    rw (c.in_ok-push.ensures.items, c.behind-left.ensures) (frame_on c.args.bytes.now c.frames.left.now c.frames.rows.items c.in-Ok.read.0 c.in-Ok.read.1 c.frames.invariant c.in-Ok.ensures.decodes)

pub returns-in-Err-NoMemory-clause-asked : goal.returns-in-Err-NoMemory-clause-asked
returns-in-Err-NoMemory-clause-asked c = first_asks c.args.bytes.now c.frames.rows.items c.frames.left.now c.frames.invariant (c.in-Err-NoMemory.ensures.asked cc)

pub returns-in_err-push-clause-asked : goal.returns-in_err-push-clause-asked
returns-in_err-push-clause-asked c =
    let p = err_from_is_err_and c.from_residual.result c.from_residual.ensures.1 in
    rw p.1 (first_asks c.args.bytes.now c.frames.rows.items c.frames.left.now c.frames.invariant (read_asks c.frames.left.now c.in-Ok.read.0 c.in-Ok.read.1 c.in-Ok.ensures.decodes))
