use Rattle.std.proofs.Common.{◌∷◌, [], ◌++◌, true, drop, length, set, ap, ◌∙◌, arith, length-append}
use Rattle.std.proofs.lemmas.List.{length-set}
use Rattle.std.proofs.lemmas.Result.{err_from_is_err_and}
use Rattle.peer_image.specs.ImageTwoParts.{HasMarkedSome}
use Rattle.peer_image.proofs.TwoReading.{row_asked, rows_ask, rows_on}
use Rattle.peer_image.proofs.read_two.rows_among.Goals as goal

pub returns-in-Err-NoMemory-clause-asked : goal.returns-in-Err-NoMemory-clause-asked
returns-in-Err-NoMemory-clause-asked c =
    rows_ask c.args.told.now c.args.bytes.now c.args.marks.now c.rows.rows.items c.rows.marks c.rows.left.now c.rows.invariant.so (c.in-Err-NoMemory.ensures.asked cc)

pub returns-in-Err-NoMemory-clause-short : goal.returns-in-Err-NoMemory-clause-short
returns-in-Err-NoMemory-clause-short c = record { rows = c.rows.rows.items; left = c.rows.left.now; so = c.rows.invariant.so; within = c.rows.invariant.within }

pub returns-in_err-push-clause-asked : goal.returns-in_err-push-clause-asked
returns-in_err-push-clause-asked c =
    let next = c.in-Ok.ensures.reads in
    let p = err_from_is_err_and c.from_residual.result c.from_residual.ensures.1 in
    rw p.1 (rows_ask c.args.told.now c.args.bytes.now c.args.marks.now c.rows.rows.items c.rows.marks c.rows.left.now c.rows.invariant.so (row_asked c.rows.left.now next.numbered c.in-Ok.read.2 next.fits.fits next.spelled))

pub returns-in_err-push-clause-short : goal.returns-in_err-push-clause-short
returns-in_err-push-clause-short c =
    let rows = c.rows.rows.items in
    let next = c.in-Ok.read.0 in
    let p = err_from_is_err_and c.from_residual.result c.from_residual.ensures.1 in
    let marked : HasMarkedSome c.args.told.now c.args.bytes.now c.args.most c.args.marks.now (set c.rows.marks c.in-Ok.read.1 true) = record {
      rows = rows ++ next ∷ [];
      left = drop c.in-Ok.read.2 c.rows.left.now;
      so = rows_on c.args.told.now c.args.bytes.now c.args.marks.now rows c.rows.marks c.rows.left.now next c.in-Ok.read.1 c.in-Ok.read.2 c.rows.invariant.so c.in-Ok.ensures.reads;
      within = omega (arith, c.rows-test.true, length-append rows (next ∷ []));
    } in
    rw p.1 marked

pub rows-preserved : goal.rows-preserved
rows-preserved c = record {
  so =
      rw (c.in_ok-push.ensures.items, c.behind-left.ensures)
      (rows_on c.args.told.now c.args.bytes.now c.args.marks.now c.rows.rows.items c.rows.marks c.rows.left.now c.in-Ok.read.0 c.in-Ok.read.1 c.in-Ok.read.2 c.rows.invariant.so c.in-Ok.ensures.reads);
  long = length-set c.rows.marks c.in-Ok.read.1 true ∙ c.rows.invariant.long;
  within = omega (arith, ap length c.in_ok-push.ensures.items, length-append c.rows.rows.items (c.in-Ok.read.0 ∷ []));
}
