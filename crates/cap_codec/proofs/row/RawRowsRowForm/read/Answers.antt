use Rattle.cap_codec.proofs.RowReads.{body_there, body_none, not_read}
use Rattle.cap_codec.proofs.row.RawRowsRowForm.read.Goals as goal

pub returns-in-Ok-clause-reads : goal.returns-in-Ok-clause-reads
returns-in-Ok-clause-reads c = body_there c.args.body.now c.in-Ok.row c.in-Ok.ensures.reads

pub returns-in-Err-Refused-clause-reads : goal.returns-in-Err-Refused-clause-reads
returns-in-Err-Refused-clause-reads c = body_none c.args.body.now (not_read c.args.body.now c.in-Err-Refused.field-0 c.in-Err-Refused.field-0-0 c.in-Err-Refused.field-0-is c.in-Err-Refused.ensures.reads)
