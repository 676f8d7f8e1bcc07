use Rattle.std.proofs.Common.{◌≡◌, ℕ, ◌∷◌, ◌++◌, replicate, drop, ◌*◌, ◌-◌, ◌%◌, ◌^◌, length, arith, ap, ◌∙◌, length-append, length-drop}
use Rattle.std.proofs.lemmas.List.{take_all}
use Rattle.std.specs.Int.{w64, to_be_bytes}
use Rattle.sha2.specs.Sha256.{padding}
use Rattle.sha_lanes.proofs.OfMessages.{block-before, block-piece, block-whole, last_block-padded, padded-pieces}
use Rattle.sha_lanes.proofs.message.Message.block.Goals as goal

pub returns-then-number-length : goal.returns-then-number-length
returns-then-number-length c =
    let bytes = c.args.self.now.front.now ++ c.args.self.now.rest.now in
    c.block_within.ensures ∙ block-before bytes (padding (length bytes)) (c.args.number * 64) (omega (arith, c.length-length.ensures))

pub returns-then-self-number : goal.returns-then-self-number
returns-then-self-number c =
    let front = c.args.self.now.front.now in
    let rest = c.args.self.now.rest.now in
    let bits = c.to_be_bytes-bit_length.result in
    let start = c.args.number * 64 in
    let long = c.length-length.ensures in
    let skip = start - length front in
    let tail = take_all (length rest - skip) (drop skip rest) (omega (arith, length-drop skip rest)) in
    c.last_block.ensures
    ∙ last_block-padded front rest _ bits start (omega arith) (omega (arith, long)) (omega (arith, long)) tail
    (c.to_be_bytes-bit_length.ensures ∙ ap (λ (n : ℕ). to_be_bytes w64 (n * 8 % 2 ^ 64)) long) (omega arith)

pub returns : goal.returns
returns c =
    let front = c.args.self.now.front.now in
    let rest = c.args.self.now.rest.now in
    let zeros = c.padding-zeros.result.now in
    let bits = c.to_be_bytes-bit_length.result in
    let start = c.args.number * 64 in
    let at_rest : c.saturating_sub-behind_front.result ≡ start - length front = omega arith in
    let at_zeros : c.saturating_sub-behind_rest.result ≡ start - length (front ++ rest) = omega (arith, length-append front rest) in
    let at_bits : c.saturating_sub-behind_zeros.result ≡ start - length ((front ++ rest) ++ zeros) = omega (arith, length-append front rest, length-append (front ++ rest) zeros) in
    let one = c.put_piece-used.ensures in
    let two = c.put_piece-used-2.ensures in
    let three = c.put_piece-used-3.ensures in
    let four = c.put_piece.ensures in
    let held = block-piece front rest start _ _ _ _ _ one.room c.put_piece-used.array_long one.put at_rest two.put in
    let padded = block-piece (front ++ rest) zeros start _ _ _ _ _ two.room c.put_piece-used-2.array_long held at_zeros three.put in
    let whole = block-piece ((front ++ rest) ++ zeros) bits start _ _ _ _ _ three.room c.put_piece-used-3.array_long padded at_bits four.put in
    let pieces = padded-pieces front rest zeros bits (c.padding-zeros.ensures ∙ ap (λ (n : ℕ). 0x80 ∷ replicate ((119 - n % 64) % 64) 0) c.length-length.ensures)
    (c.to_be_bytes-bit_length.ensures ∙ ap (λ (n : ℕ). to_be_bytes w64 (n * 8 % 2 ^ 64)) c.length-length.ensures) in
    block-whole _ _ start _ four.room c.put_piece.array_long (omega (arith, c.requires)) (rw pieces at whole)
