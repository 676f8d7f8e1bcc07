use Rattle.std.proofs.Common.{◌≡◌, length, ap, ◌∙◌, arith}
use Rattle.peer_image.specs.Image.{trailer}
use Rattle.peer_image.proofs.Asking.{header_asks}
use Rattle.peer_image.proofs.OneStops.{front_behind, image_of_front}
use Rattle.peer_image.proofs.read_one.read_behind.Goals as goal

pub returns-then-is_trailer-clause-rows : goal.returns-then-is_trailer-clause-rows
returns-then-is_trailer-clause-rows c =
    let rows = c.in-Ok.rows.items in
    let left = c.in-Ok.left.now in
    let n : c.len.result ≡ length rows = omega (arith, c.len.ensures) in
    image_of_front c.args.bytes.now c.args.namespace rows left
    (front_behind c.args.bytes.now c.args.namespace c.args.behind.now rows left c.requires.key c.requires.behind c.in-Ok.ensures.reads)
    (omega (arith, n, c.if-is_trailer.ensures.0))
    (c.if-is_trailer.ensures.1 ∙ ap trailer n)

pub returns-in-Err-clause-asked : goal.returns-in-Err-clause-asked
returns-in-Err-clause-asked c = λ wants. header_asks c.args.bytes.now c.args.namespace c.args.behind.now c.requires.key c.requires.behind c.in-Err.ensures.asked
