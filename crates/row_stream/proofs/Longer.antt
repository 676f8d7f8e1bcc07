-- What goes wrong goes wrong with any bytes behind it.
use Rattle.std.proofs.Common.{◌≡◌, ℕ, ◌+◌, ◌≤◌, List, ◌++◌, length, take, drop, Option, Some, None, sym, ap, subst, ◌∙◌, append_assoc, arith}
use Rattle.std.specs.Int.{w32, from_be_bytes}
use Rattle.std.proofs.lemmas.List.{length-append, length-drop, take-append-le, drop-append-le}
use Rattle.std.proofs.lemmas.Grind.{flat_map-append}
use Rattle.spelling.proofs.Lists.{All-append}
use Rattle.willow_entry.specs.Row.{RowValue}
use Rattle.willow_entry.specs.Frame.{row_frame}
use Rattle.willow_entry.specs.RowBody.{ReadsBody}
use Rattle.row_stream.specs.declared.refusal.StreamRefusal.{StreamRefusal}
use Rattle.row_stream.specs.declared.refusal.StreamRefusal.TheVariants.{BadFrame, FrameTooLong, CutShort}
use Rattle.row_stream.specs.Places.{length_told, body_told, IsTooLong, IsBadFrame}
use Rattle.row_stream.specs.Streams.{frames_of, IsStreamRow, IsJudged, IsStream, GoesWrong}

-- with more bytes behind them four bytes tell the same length
pub told_more : (left more : List ℕ) → 4 ≤ length left → length_told (left ++ more) ≡ length_told left
unfolding length_told
told_more left more there = ap (from_be_bytes w32) (take-append-le 4 left more there)

pub body_more : (left more : List ℕ) → 4 ≤ length left → 4 + length_told left ≤ length left → body_told (left ++ more) ≡ body_told left
body_more left more there whole =
    ap (λ (n : ℕ). take n (drop 4 (left ++ more))) (told_more left more there)
    ∙ ap (take (length_told left)) (drop-append-le 4 left more there)
    ∙ take-append-le (length_told left) (drop 4 left) more (omega (arith, whole, length-drop 4 left))

pub too_long_more : (left more : List ℕ) → IsTooLong left → IsTooLong (left ++ more)
too_long_more left more long = record {
  field_there = omega (arith, long.field_there, length-append left more);
  beyond = omega (arith, long.beyond, told_more left more long.field_there);
}

pub bad_frame_more : (IsRow : RowValue → Type 0) (left more : List ℕ) → IsBadFrame IsRow left → IsBadFrame IsRow (left ++ more)
bad_frame_more IsRow left more bad =
    let same = told_more left more bad.field_there in
    record {
      field_there = omega (arith, bad.field_there, length-append left more);
      within = omega (arith, bad.within, same);
      whole = omega (arith, bad.whole, same, length-append left more);
      no_row = subst (λ (b : List ℕ). ReadsBody IsRow b None) (sym (body_more left more bad.field_there bad.whole)) bad.no_row;
    }

judged_more : (IsRow : RowValue → Type 0) (here : ℕ) (left more : List ℕ) (refusal : StreamRefusal) → IsJudged IsRow here left (Some refusal) → IsJudged IsRow here (left ++ more) (Some refusal)
judged_more IsRow here left more (BadFrame at) j = (bad_frame_more IsRow left more j.0, j.1)
judged_more IsRow here left more (FrameTooLong at) j = (too_long_more left more j.0, j.1)
judged_more IsRow here left more (CutShort at) j = j

pub stream_more : (IsRow : RowValue → Type 0) (from : ℕ) (bytes : List ℕ) (rows : List RowValue) (left more : List ℕ) (refusal : StreamRefusal)
    → IsStream IsRow from bytes rows left (Some refusal) → IsStream IsRow from (bytes ++ more) rows (left ++ more) (Some refusal)
stream_more IsRow from bytes rows left more refusal s = record {
  fit = s.fit;
  parts = ap (λ (l : List ℕ). l ++ more) s.parts ∙ append_assoc (frames_of rows) left more;
  judged = judged_more IsRow (from + length (frames_of rows)) left more refusal s.judged;
}

pub wrong_more : (IsRow : RowValue → Type 0) (from : ℕ) (bytes more : List ℕ) (refusal : StreamRefusal) → GoesWrong IsRow from bytes refusal → GoesWrong IsRow from (bytes ++ more) refusal
wrong_more IsRow from bytes more refusal w = record { rows = w.rows; left = w.left ++ more; stream = stream_more IsRow from bytes w.rows w.left more refusal w.stream }

-- ---- a stream that goes on

module _ (IsRow : RowValue → Type 0) (from : ℕ) (bytes : List ℕ) (rows : List RowValue) (left : List ℕ) (s : IsStream IsRow from bytes rows left None) where
  frames_both : (others : List RowValue) → frames_of (rows ++ others) ≡ frames_of rows ++ frames_of others
  frames_both others = flat_map-append row_frame rows others

  pub frames_longer : (others : List RowValue) → from + length (frames_of rows) + length (frames_of others) ≡ from + length (frames_of (rows ++ others))
  frames_longer others = omega (arith, ap length (frames_both others), length-append (frames_of rows) (frames_of others))

  -- more bytes come, which with those left are the frames of further rows
  pub stream_on : (piece : List ℕ) (others : List RowValue) (rest : List ℕ) (why : Option StreamRefusal)
      → IsStream IsRow (from + length (frames_of rows)) (left ++ piece) others rest why → IsStream IsRow from (bytes ++ piece) (rows ++ others) rest why
  stream_on piece others rest why next =
      record {
        fit = All-append (IsStreamRow IsRow) rows others s.fit next.fit;
        parts =
            ap (λ (l : List ℕ). l ++ piece) s.parts
            ∙ append_assoc (frames_of rows) left piece
            ∙ ap (λ (l : List ℕ). frames_of rows ++ l) next.parts
            ∙ sym (append_assoc (frames_of rows) (frames_of others) rest)
            ∙ ap (λ (l : List ℕ). l ++ rest) (sym (frames_both others));
        judged = subst (λ (n : ℕ). IsJudged IsRow n rest why) (frames_longer others) next.judged;
      }

  pub wrong_on : (piece : List ℕ) (refusal : StreamRefusal) → GoesWrong IsRow (from + length (frames_of rows)) (left ++ piece) refusal → GoesWrong IsRow from (bytes ++ piece) refusal
  wrong_on piece refusal w = record { rows = rows ++ w.rows; left = w.left; stream = stream_on piece w.rows w.left (Some refusal) w.stream }
