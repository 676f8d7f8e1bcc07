use Rattle.std.proofs.Common.{arith}
use Rattle.peer_image.proofs.TwoReading.{no_row_at, row_asked}
use Rattle.peer_image.proofs.read_two.next_row.Goals as goal

pub returns-in-None-clause-reads : goal.returns-in-None-clause-reads
returns-in-None-clause-reads c =
    let ok = c.in_ok-numbered in
    no_row_at c.args.told.now c.args.bytes.now ok.numbered ok.taken ok.ensures.decodes.0 ok.ensures.decodes.2 (omega (arith, c.in-None.ensures.lookup))

pub returns-in_err-row-clause-asked : goal.returns-in_err-row-clause-asked
returns-in_err-row-clause-asked c =
    let ok = c.in_ok-numbered in
    λ want. row_asked c.args.bytes.now ok.numbered ok.taken ok.ensures.decodes.0 ok.ensures.decodes.2
