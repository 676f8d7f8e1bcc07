use Rattle.cap_codec.specs.Rows.{IsRawRow}
use Rattle.peer_rows.proofs.Pieces.{breaks, piece_wrong, fed_on}
use Rattle.peer_rows.proofs.feeding.feed_piece.Goals as goal

pub returns-in-Err-Refused : goal.returns-in-Err-Refused
returns-in-Err-Refused c = λ bytes rows h.
    piece_wrong bytes c.args.piece.now rows c.args.stream.now c.feed.new.self c.in-Err-Refused.refusal c.stop_of.result h
    (breaks IsRawRow c.args.stream.now c.feed.new.self c.args.piece.now c.in-Err-Refused.field-0 c.in-Err-Refused.refusal h.unrefused c.in-Err-Refused.field-0-is c.in-Err-Refused.ensures.feeds) (cc)

pub returns : goal.returns
returns c = λ bytes rows h.
    fed_on bytes rows c.args.stream.now h c.feed.new.self c.args.piece.now c.in-Ok.rows.items c.in-Ok.ensures.feeds (rw c.deref.ensures.value at c.known_rows.ensures)
