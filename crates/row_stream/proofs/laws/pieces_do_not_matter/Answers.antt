use Rattle.row_stream.proofs.Alike.{alike_in_any_pieces}
use Rattle.row_stream.proofs.laws.pieces_do_not_matter.Goals as goal

pub returns : goal.returns
returns g c = alike_in_any_pieces g.F.RowForm.IsRow g.met.F.RowForm.entries_fit
