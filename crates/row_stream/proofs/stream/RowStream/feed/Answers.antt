use Rattle.std.proofs.Common.{rules}
use Rattle.row_stream.proofs.Handing.{handed_out}
use Rattle.row_stream.proofs.stream.RowStream.feed.Goals as goal

pub returns-in-Ok-clause-feeds : goal.returns-in-Ok-clause-feeds
returns-in-Ok-clause-feeds g c = handed_out g.F.RowForm.IsRow g.F.R.Row.value c.args.self.now _ c.args.piece.now c.in-Ok.rows.items (search rules) (search rules) (rw (← c.self.view_is) c.in-Ok.ensures.reads)
