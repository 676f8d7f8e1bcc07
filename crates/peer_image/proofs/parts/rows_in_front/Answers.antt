use Rattle.std.proofs.Common.{◌∷◌, [], length, ap, arith, length-append}
use Rattle.std.proofs.lemmas.Result.{err_from_is_err_and}
use Rattle.cap_codec.proofs.Asking.{first_asks, read_asks}
use Rattle.cap_codec.proofs.Frames.{frame_on}
use Rattle.peer_image.proofs.parts.rows_in_front.Goals as goal

pub frames-preserved : goal.frames-preserved
frames-preserved c = record {
  so = rw (c.in_ok-push.ensures.items, c.behind-left.ensures) (frame_on c.args.bytes.now c.frames.left.now c.frames.rows.items c.in-Ok.read.0 c.in-Ok.read.1 c.frames.invariant.so c.in-Ok.ensures.decodes);
  within = omega (arith, ap length c.in_ok-push.ensures.items, length-append c.frames.rows.items (c.in-Ok.read.0 ∷ []));
}

pub returns-in-Err-NoMemory-clause-asked : goal.returns-in-Err-NoMemory-clause-asked
returns-in-Err-NoMemory-clause-asked c = first_asks c.args.bytes.now c.frames.rows.items c.frames.left.now c.frames.invariant.so (c.in-Err-NoMemory.ensures.asked cc)

pub returns-in_err-push-clause-asked : goal.returns-in_err-push-clause-asked
returns-in_err-push-clause-asked c =
    let p = err_from_is_err_and c.from_residual.result c.from_residual.ensures.1 in
    rw p.1 (first_asks c.args.bytes.now c.frames.rows.items c.frames.left.now c.frames.invariant.so (read_asks c.frames.left.now c.in-Ok.read.0 c.in-Ok.read.1 c.in-Ok.ensures.decodes))
