use Rattle.peer_image.proofs.ReadParts.{part_shorter}
use Rattle.peer_rows.specs.declared.parts.TheConstants.{PART}
use Rattle.peer_rows.proofs.AskingParts.{on_err, part_asks}
use Rattle.peer_rows.proofs.parts.take_part.Goals as goal

pub returns-then-branch-clause-takes : goal.returns-then-branch-clause-takes
returns-then-branch-clause-takes g c = λ n seen h.
    let rows = c.in_ok-rows.rows.items in
    record {
      rows = rows;
      part = c.in_ok-rows.ensures.reads;
      all_taken = c.in_ok-take_rows.ensures.takes n seen h c.if-branch.true;
      shorter = part_shorter c.args.bytes.now PART rows c.in_ok-rows.left.now c.in_ok-rows.ensures.reads (c.in_ok-take_rows.ensures.some c.if-branch.true);
    }

pub returns-in_err-take_rows-clause-asked : goal.returns-in_err-take_rows-clause-asked
returns-in_err-take_rows-clause-asked g c =
    on_err c.from_residual-in_err-take_rows.result
    (part_asks c.args.bytes.now PART c.in_ok-rows.rows.items c.in_ok-rows.left.now c.in_ok-rows.ensures.reads c.in_err-take_rows.ensures.asked)
