use Rattle.peer_image.proofs.TwoReading.{part_two_shorter}
use Rattle.peer_rows.specs.declared.parts.TheConstants.{PART}
use Rattle.peer_rows.proofs.AskingParts.{on_err, part_two_asks}
use Rattle.peer_rows.proofs.parts_two.take_part_two.Goals as goal

pub returns-then-branch-clause-takes : goal.returns-then-branch-clause-takes
returns-then-branch-clause-takes g c = λ n seen h.
    let rows = c.in_ok-rows.rows.items in
    record {
      rows = rows;
      part = c.in_ok-rows.ensures.reads;
      all_taken = c.in_ok-take_rows.ensures.takes n seen h c.if-branch.true;
      shorter = part_two_shorter c.args.told.now c.args.bytes.now PART c.args.marks.now rows c.rows_among.new.marks c.in_ok-rows.left.now c.in_ok-rows.ensures.reads (c.in_ok-take_rows.ensures.some c.if-branch.true);
    }

pub returns-in_err-take_rows-clause-asked : goal.returns-in_err-take_rows-clause-asked
returns-in_err-take_rows-clause-asked g c =
    let asks = part_two_asks c.args.told.now c.args.bytes.now PART c.args.marks.now c.in_ok-rows.rows.items c.rows_among.new.marks c.in_ok-rows.left.now c.in_ok-rows.ensures.reads c.in_err-take_rows.ensures.asked in
    on_err c.from_residual-in_err-take_rows.result asks
