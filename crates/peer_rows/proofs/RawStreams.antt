-- A stream of rows with their tokens read out, as frames and as a stream of any grammar.
use Rattle.std.proofs.Common.{◌≡◌, ℕ, ◌+◌, ◌<◌, List, [], ◌∷◌, ◌++◌, length, map, Option, Some, None, refl, sym, ap, subst, ◌∙◌, append_assoc, arith}
use Rattle.std.specs.List.{AllByRecursion, flat_map}
use Rattle.std.proofs.lemmas.List.{append-nil, length-append, map-append}
use Rattle.std.proofs.lemmas.List.Concat.{flat_map-cons}
use Rattle.willow_entry.specs.Row.{RowValue}
use Rattle.willow_entry.specs.RowBody.{row_body}
use Rattle.willow_entry.specs.Frame.{row_frame}
use Rattle.cap_codec.specs.Rows.{RawValue, IsRaw, IsRawRow, row_of, frame, FitsFrame, AreFrames}
use Rattle.cap_codec.specs.Streams.{HasNoFrame, AreAllFrames, FramesStopAt}
use Rattle.cap_codec.proofs.Frames.{frame_long, frame_form}
use Rattle.cap_codec.proofs.RowReads.{frame_same, body_short}
use Rattle.row_stream.specs.declared.refusal.StreamRefusal.{StreamRefusal}
use Rattle.row_stream.specs.declared.refusal.StreamRefusal.TheVariants.{BadFrame, FrameTooLong, CutShort}
use Rattle.row_stream.specs.Streams.{frames_of, IsStreamRow, IsJudged, IsStream, GoesWrong}
use Rattle.row_stream.proofs.OneReading.{no_frame, one_reading}
use Rattle.row_stream.proofs.Longer.{stream_more}
use Rattle.peer_rows.specs.Join.{BeginNoFrames, AreRightSoFar}
use Rattle.peer_rows.specs.Coming.{offset_of, AreWrong}

-- ---- rows

stream_row : (r : RawValue) → FitsFrame r → IsStreamRow IsRawRow (row_of r)
stream_row r fits = record {
  fits = record { entry_fits = fits.raw.entry_fits; read_out = r.token; token_fits = fits.raw.token_fits; spelled = refl };
  framed = body_short r fits;
}

stream_rows : (rows : List RawValue) → AllByRecursion FitsFrame rows → AllByRecursion (IsStreamRow IsRawRow) (map row_of rows)
stream_rows [] fit = tt
stream_rows (r ∷ rows) fit = (stream_row r fit.0, stream_rows rows fit.1)

pub frames_same : (rows : List RawValue) → frames_of (map row_of rows) ≡ flat_map frame rows
frames_same [] = refl
frames_same (r ∷ rows) =
    flat_map-cons row_frame (row_of r) (map row_of rows)
    ∙ ap (λ (l : List ℕ). l ++ frames_of (map row_of rows)) (frame_same r)
    ∙ ap (λ (l : List ℕ). frame r ++ l) (frames_same rows)
    ∙ sym (flat_map-cons frame r rows)

framed_row : (r : RawValue) → IsRaw r → IsStreamRow IsRawRow (row_of r) → FitsFrame r
unfolding row_body
framed_row r is s = record { raw = is; short = s.framed }

-- rows within their limits that stand in a stream fit frames
pub framed_rows : (rows : List RawValue) → AllByRecursion IsRaw rows → AllByRecursion (IsStreamRow IsRawRow) (map row_of rows) → AllByRecursion FitsFrame rows
framed_rows [] are fit = tt
framed_rows (r ∷ rows) are fit = (framed_row r are.0 fit.0, framed_rows rows are.1 fit.1)

-- the rows of a stream with their tokens read out
pub record ReadOut (values : List RowValue) : Type 0 where
  pub rows : List RawValue
  pub fit : AllByRecursion FitsFrame rows
  pub same : map row_of rows ≡ values

with_token : RowValue → List ℕ → RowValue
with_token v token = record { entry = v.entry; token = token }

read_out_one : (v : RowValue) → IsStreamRow IsRawRow v → (r : RawValue) × FitsFrame r × (row_of r ≡ v)
unfolding with_token
read_out_one v s =
    let r : RawValue = record { entry = v.entry; token = s.fits.read_out } in
    let same : row_of r ≡ v = ap (with_token v) (sym s.fits.spelled) in
    let is : IsRaw r = record { entry_fits = s.fits.entry_fits; token_fits = s.fits.token_fits } in
    (r, framed_row r is (subst (IsStreamRow IsRawRow) (sym same) s), same)

read_out : (values : List RowValue) → AllByRecursion (IsStreamRow IsRawRow) values → ReadOut values
read_out [] fit = record { rows = []; fit = tt; same = refl }
read_out (v ∷ values) fit =
    let one = read_out_one v fit.0 in
    let more = read_out values fit.1 in
    record { rows = one.0 ∷ more.rows; fit = (one.1, more.fit); same = ap (λ (x : RowValue). x ∷ map row_of more.rows) one.2 ∙ ap (λ (l : List RowValue). v ∷ l) more.same }

-- ---- what is left

nothing_in_front : (here : ℕ) (left : List ℕ) (why : Option StreamRefusal) → IsJudged IsRawRow here left why → HasNoFrame left
nothing_in_front here left why judged r rest fits e =
    no_frame IsRawRow (λ v f. f.entry_fits) here (row_of r) rest left why (stream_row r fits) (e ∙ ap (λ (l : List ℕ). l ++ rest) (sym (frame_same r))) judged

all_frames : (from : ℕ) (bytes : List ℕ) (rows : List RawValue) (left : List ℕ) (why : Option StreamRefusal) → AllByRecursion FitsFrame rows → IsStream IsRawRow from bytes (map row_of rows) left why → AreAllFrames bytes rows left
all_frames from bytes rows left why fit s = record {
  fit = fit;
  parts = s.parts ∙ ap (λ (l : List ℕ). l ++ left) (frames_same rows);
  no_frame = nothing_in_front (from + length (frames_of (map row_of rows))) left why s.judged;
}

-- ---- a stream in which nothing is wrong

pub right_so_far : (from : ℕ) (bytes : List ℕ) (rows : List RawValue) (left : List ℕ) → AllByRecursion FitsFrame rows → IsStream IsRawRow from bytes (map row_of rows) left None → AreRightSoFar bytes rows
right_so_far from bytes rows left fit s = record { left = left; frames = all_frames from bytes rows left None fit s; unfinished = s.judged }

right_stream : (bytes : List ℕ) (rows : List RawValue) → (r : AreRightSoFar bytes rows) → IsStream IsRawRow 0 bytes (map row_of rows) r.left None
right_stream bytes rows r = record {
  fit = stream_rows rows r.frames.fit;
  parts = r.frames.parts ∙ ap (λ (l : List ℕ). l ++ r.left) (sym (frames_same rows));
  judged = r.unfinished;
}

-- ---- how a stream ends

-- frames of rows, and nothing behind them
pub whole_stream : (bytes : List ℕ) (rows : List RawValue) → AreFrames bytes rows → IsStream IsRawRow 0 bytes (map row_of rows) [] None
whole_stream bytes rows are = record {
  fit = stream_rows rows are.fit;
  parts = are.spelled ∙ sym (frames_same rows) ∙ sym (append-nil (frames_of (map row_of rows)));
  judged = λ there. absurd (omega (arith, there));
}

pub whole_frames : (bytes : List ℕ) (rows : List RawValue) (left : List ℕ) → left ≡ [] → AllByRecursion FitsFrame rows → IsStream IsRawRow 0 bytes (map row_of rows) left None → AreFrames bytes rows
whole_frames bytes rows left none fit s = record {
  fit = fit;
  spelled = s.parts ∙ ap (λ (l : List ℕ). frames_of (map row_of rows) ++ l) none ∙ append-nil (frames_of (map row_of rows)) ∙ frames_same rows;
}

-- a frame that is not whole
pub cut_stops : (bytes : List ℕ) (rows : List RawValue) (left : List ℕ) (at : ℕ) → AllByRecursion FitsFrame rows → IsStream IsRawRow 0 bytes (map row_of rows) left None → 0 < length left → at + length left ≡ length bytes → FramesStopAt bytes at
cut_stops bytes rows left at fit s more place = record {
  rows = rows;
  left = left;
  frames = all_frames 0 bytes rows left None fit s;
  place = omega (arith, place, ap length s.parts, length-append (frames_of (map row_of rows)) left, ap length (frames_same rows));
  more = more;
}

some_left : (here : ℕ) (left : List ℕ) (refusal : StreamRefusal) → IsJudged IsRawRow here left (Some refusal) → (0 < length left) × (offset_of refusal ≡ here)
some_left here left (BadFrame at) j = (omega (arith, j.0.field_there), j.1)
some_left here left (FrameTooLong at) j = (omega (arith, j.0.field_there), j.1)
some_left here left (CutShort at) j = absurd j

-- what is refused
wrong_stops : (bytes : List ℕ) (refusal : StreamRefusal) → GoesWrong IsRawRow 0 bytes refusal → FramesStopAt bytes (offset_of refusal)
wrong_stops bytes refusal w =
    let out = read_out w.rows w.stream.fit in
    let stream : IsStream IsRawRow 0 bytes (map row_of out.rows) w.left (Some refusal) = subst (λ (xs : List RowValue). IsStream IsRawRow 0 bytes xs w.left (Some refusal)) (sym out.same) w.stream in
    let there = some_left (0 + length (frames_of (map row_of out.rows))) w.left refusal stream.judged in
    record {
      rows = out.rows;
      left = w.left;
      frames = all_frames 0 bytes out.rows w.left (Some refusal) out.fit stream;
      place = omega (arith, there.1, ap length (frames_same out.rows));
      more = there.0;
    }

some_is_none : {A : Type 0} (x : A) → Some x ≡ None → ⊥
some_is_none x e = cc

one_verdict : (bytes : List ℕ) (rows others : List RowValue) (left rest : List ℕ) (refusal : StreamRefusal) → IsStream IsRawRow 0 bytes rows left (Some refusal) → IsStream IsRawRow 0 bytes others rest None → ⊥
one_verdict bytes rows others left rest refusal s t =
    some_is_none refusal (one_reading IsRawRow (λ v f. f.entry_fits) 0 bytes rows others left rest (Some refusal) None s t).2

-- and nothing that comes behind mends it
wrong_begins : (bytes : List ℕ) (refusal : StreamRefusal) → GoesWrong IsRawRow 0 bytes refusal → BeginNoFrames bytes
wrong_begins bytes refusal w more rows are =
    one_verdict (bytes ++ more) w.rows (map row_of rows) (w.left ++ more) [] refusal
    (stream_more IsRawRow 0 bytes w.rows w.left more refusal w.stream) (whole_stream (bytes ++ more) rows are)

pub wrong_there : (bytes : List ℕ) (refusal : StreamRefusal) → GoesWrong IsRawRow 0 bytes refusal → AreWrong bytes (offset_of refusal)
wrong_there bytes refusal w = record {
  wrong = wrong_stops bytes refusal w;
  cause = wrong_begins bytes refusal w;
  judged = λ rows r. one_verdict bytes w.rows (map row_of rows) w.left r.left refusal w.stream (right_stream bytes rows r);
}

-- ---- frames in front

pub rows_in_front : (rows others : List RawValue) (behind : List ℕ) → AllByRecursion FitsFrame rows → AllByRecursion FitsFrame others → flat_map frame rows ++ behind ≡ flat_map frame others → (more : List RawValue) × (rows ++ more ≡ others)
rows_in_front [] others behind f g e = (others, refl)
rows_in_front (r ∷ rows) [] behind f g e = absurd (omega (arith, ap length e, length-append (frame r ++ flat_map frame rows) behind, length-append (frame r) (flat_map frame rows), frame_long r))
rows_in_front (r ∷ rows) (s ∷ others) behind f g e =
    let both = frame_form r s (flat_map frame rows ++ behind) (flat_map frame others) f.0 g.0 (sym (append_assoc (frame r) (flat_map frame rows) behind) ∙ e) in
    let more = rows_in_front rows others behind f.1 g.1 both.1 in
    (more.0, ap (λ (x : RawValue). x ∷ rows ++ more.0) both.0 ∙ ap (λ (l : List RawValue). s ∷ l) more.1)

-- ---- a stream that goes on

pub more_rows : (rows others : List RawValue) → map row_of (rows ++ others) ≡ map row_of rows ++ map row_of others
more_rows rows others = map-append row_of rows others
