use Rattle.sync_msg.proofs.InFront.{head_asks, none_due, row_asks, some_due}
use Rattle.sync_msg.proofs.reader.item_in_front.Goals as goal

pub returns-then-due-gt0-clause-front : goal.returns-then-due-gt0-clause-front
returns-then-due-gt0-clause-front g c = some_due g.F.RowForm.IsRow c.args.version g.F.R.Row.value c.args.due c.args.bytes.now c.row_in_front.result c.if-due-gt0.true c.row_in_front.ensures.front

pub returns-else-due-gt0-clause-front : goal.returns-else-due-gt0-clause-front
returns-else-due-gt0-clause-front g c = none_due g.F.RowForm.IsRow c.args.version g.F.R.Row.value c.args.due c.args.bytes.now c.head_in_front.result c.if-due-gt0.false c.head_in_front.ensures.front

pub returns-then-due-gt0-clause-asked : goal.returns-then-due-gt0-clause-asked
returns-then-due-gt0-clause-asked g c = λ wants. row_asks c.args.version c.args.due c.args.bytes.now c.if-due-gt0.true (c.row_in_front.ensures.asked wants)

pub returns-else-due-gt0-clause-asked : goal.returns-else-due-gt0-clause-asked
returns-else-due-gt0-clause-asked g c = λ wants. head_asks c.args.version c.args.due c.args.bytes.now c.if-due-gt0.false (c.head_in_front.ensures.asked wants)
