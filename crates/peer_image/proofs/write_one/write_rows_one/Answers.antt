use Rattle.willow_entry.specs.Frame.{HasFrame}
use Rattle.peer_image.proofs.Places.{all_here}
use Rattle.peer_image.proofs.write_one.write_rows_one.Goals as goal

pub encode_row_frame-requires : goal.encode_row_frame-requires
encode_row_frame-requires g c =
    all_here g.R.Row.value c.args.rows.now c.loop-row.row-index c.row-item.result c.loop-row-test.true c.row-item.is HasFrame c.requires.frames
