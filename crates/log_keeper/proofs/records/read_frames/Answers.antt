use Rattle.std.proofs.Common.{Err, subst}
use Rattle.row_stream.specs.Feeding.{Feeds}
use Rattle.log_keeper.proofs.Splits.{cut_none, wrong_none}
use Rattle.log_keeper.proofs.records.read_frames.Goals as goal

pub returns-in-Ok : goal.returns-in-Ok
returns-in-Ok g c = cut_none g.F.RowForm.IsRow c.one_reading.ensures c.new-stream.result c.feed.new.self c.args.bytes.now _ c.in-Err.field-0 c.new-stream.ensures c.in-Ok.ensures.feeds c.in-Err.ensures

pub returns-in-Err-Refused : goal.returns-in-Err-Refused
returns-in-Err-Refused g c =
    wrong_none g.F.RowForm.IsRow c.one_reading.ensures c.new-stream.result c.feed.new.self c.args.bytes.now c.in-Err-Refused.field-0-0 c.new-stream.ensures (subst (λ e. Feeds g.F.RowForm.IsRow c.new-stream.result c.feed.new.self c.args.bytes.now (Err e)) c.in-Err-Refused.field-0-is c.in-Err-Refused.ensures.feeds)
