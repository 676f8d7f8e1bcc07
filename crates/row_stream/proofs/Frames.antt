-- A whole frame in front of bytes.
use Rattle.std.proofs.Common.{◌≡◌, ℕ, ◌+◌, ◌<◌, ◌^◌, List, ◌++◌, length, take, drop, refl, sym, ap, ◌∙◌, append_assoc, arith}
use Rattle.std.specs.Int.{w32, to_be_bytes, from_be_bytes}
use Rattle.std.proofs.lemmas.List.{length-take, length-drop, length-append, take_at, drop_at}
use Rattle.std.proofs.lemmas.Nat.{from_be_bytes-to_be_bytes_4}
use Rattle.spelling.specs.Spelling.{text_spelling}
use Rattle.willow_entry.specs.Row.{RowValue}
use Rattle.willow_entry.specs.RowBody.{row_body}
use Rattle.willow_entry.specs.Frame.{row_frame, HasFrame}
use Rattle.row_stream.specs.Places.{length_told, body_told}
use Rattle.row_stream.specs.Steps.{IsSplit}

-- the body that is split off is as long as is told
pub body_long : (bytes body behind : List ℕ) → IsSplit bytes body behind → length body ≡ length_told bytes
body_long bytes body behind s = omega (arith, ap length s.body_is, length-take (length_told bytes) (drop 4 bytes), length-drop 4 bytes, s.whole)

-- a row's frame stands in front
pub row_split : (bytes body behind : List ℕ) (r : RowValue) → IsSplit bytes body behind → body ≡ row_body r → bytes ≡ row_frame r ++ behind
row_split bytes body behind r s is = s.parts ∙ ap (λ (l : List ℕ). text_spelling (to_be_bytes w32) l ++ behind) is

pub row_framed : (bytes body behind : List ℕ) (r : RowValue) → IsSplit bytes body behind → body ≡ row_body r → HasFrame r
row_framed bytes body behind r s is = omega (arith, s.within, body_long bytes body behind s, ap length is)

pub split_long : (bytes body behind : List ℕ) → IsSplit bytes body behind → length bytes ≡ 4 + length body + length behind
split_long bytes body behind s = omega (arith, ap length s.parts, length-append (text_spelling (to_be_bytes w32) body) behind, length-append (to_be_bytes w32 (length body)) body)

-- ---- the frame of a row, told back

module _ (r : RowValue) (framed : HasFrame r) (rest : List ℕ) where
  fits : length (row_body r) < 2 ^ 32
  fits = omega (arith, framed)

  four : length (to_be_bytes w32 (length (row_body r))) ≡ 4
  four = refl

  front_is : take 4 (row_frame r ++ rest) ≡ to_be_bytes w32 (length (row_body r))
  front_is = ap (take 4) (append_assoc (to_be_bytes w32 (length (row_body r))) (row_body r) rest) ∙ take_at (to_be_bytes w32 (length (row_body r))) (row_body r ++ rest) 4 four

  pub told_back : length_told (row_frame r ++ rest) ≡ length (row_body r)
  unfolding length_told
  told_back = ap (from_be_bytes w32) front_is ∙ from_be_bytes-to_be_bytes_4 (length (row_body r)) fits

  pub frame_long : length (row_frame r) ≡ 4 + length (row_body r)
  frame_long = omega (arith, length-append (to_be_bytes w32 (length (row_body r))) (row_body r), four)

  pub body_back : body_told (row_frame r ++ rest) ≡ row_body r
  body_back =
      let behind : drop 4 (row_frame r ++ rest) ≡ row_body r ++ rest =
      ap (drop 4) (append_assoc (to_be_bytes w32 (length (row_body r))) (row_body r) rest) ∙ drop_at (to_be_bytes w32 (length (row_body r))) (row_body r ++ rest) 4 four in
      ap (take (length_told (row_frame r ++ rest))) behind ∙ take_at (row_body r) rest (length_told (row_frame r ++ rest)) (sym told_back)
