use Rattle.std.proofs.Common.{◌≡◌, length, inr, arith}
use Rattle.peer_rows.proofs.AskingParts.{head_two_opens, on_err, told_opens}
use Rattle.peer_rows.proofs.parts_two.log_of_two.Goals as goal

pub returns-in_err-told-clause-asked : goal.returns-in_err-told-clause-asked
returns-in_err-told-clause-asked g c =
    let front = c.in-Some.front in
    on_err c.from_residual.result (head_two_opens c.args.bytes.now front.0 front.1.now c.in-Some.ensures.0 c.in-Some.ensures.1 (inr c.in_err-told.ensures.asked.1))

pub returns-clause-asked : goal.returns-clause-asked
returns-clause-asked g c =
    let front = c.in-Some.front in
    let read = c.in_ok-told in
    let all : length read.told.items ≡ front.0.count = omega (arith, c.if-len-head.false, read.ensures.reads.within) in
    on_err c.log_behind_told.result (told_opens c.args.bytes.now front.0 front.1.now read.told.items read.middle.now c.in-Some.ensures.0 c.in-Some.ensures.1 read.ensures.reads all)
