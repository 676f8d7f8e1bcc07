-- How the rows of an input go on by one piece.
use Rattle.std.proofs.Common.{◌≡◌, ℕ, ◌+◌, ◌*◌, ◌≤◌, List, [], ◌∷◌, ◌++◌, length, map, Option, Some, None, refl, sym, ap, subst, arith, inl, inr}
use Rattle.std.specs.List.{AllByRecursion, flat_map}
use Rattle.std.proofs.lemmas.List.{length-append}
use Rattle.spelling.proofs.Lists.{All-append}
use Rattle.willow_entry.specs.Row.{RowValue}
use Rattle.cap_codec.specs.Rows.{RawValue, IsRaw, IsRawRow, row_of, frame, FitsFrame}
use Rattle.cap_codec.proofs.Frames.{frame_long}
use Rattle.row_stream.specs.declared.refusal.StreamRefusal.{StreamRefusal}
use Rattle.row_stream.specs.Streams.{frames_of, IsStream, GoesWrong}
use Rattle.row_stream.specs.Feeding.{StreamState, nothing_fed, Feeds, HandsOutRows, Breaks}
use Rattle.std.specs.Prelude.{Err}
use Rattle.spelling.specs.declared.ending.End.{End}
use Rattle.spelling.specs.declared.ending.End.TheVariants.{Refused}
use Rattle.peer_stage.specs.declared.outcome.Origin.TheVariants as origin
use Rattle.peer_stage.specs.declared.outcome.Stop.{Stop}
use Rattle.peer_stage.specs.declared.outcome.Stop.TheVariants as stop
use Rattle.row_stream.proofs.Longer.{stream_on, wrong_on}
use Rattle.peer_rows.specs.Coming.{AreFed, FeedsPiece, offset_of}
use Rattle.peer_rows.specs.Join.{AreRightSoFar}
use Rattle.peer_rows.proofs.RawStreams.{framed_rows, more_rows, frames_same, right_so_far, wrong_there}

-- ---- nothing is read yet

pub none_fed : (state : StreamState) → state ≡ nothing_fed → AreFed [] [] state
none_fed state start =
    record {
      fit = tt;
      unrefused = ap (λ (s : StreamState). s.refusal) start;
      stream = subst (λ (s : StreamState). IsStream IsRawRow 0 [] [] s.begun None) (sym start) (record { fit = tt; parts = refl; judged = λ there. absurd (omega (arith, there)) });
      all_fed = omega (arith, ap (λ (s : StreamState). s.at) start, ap (λ (s : StreamState). length s.begun) start);
    }

-- ---- how many rows there are

pub frames_many : (rows : List RawValue) → 4 * length rows ≤ length (flat_map frame rows)
frames_many [] = omega arith
frames_many (r ∷ rows) = omega (arith, frames_many rows, length-append (frame r) (flat_map frame rows), frame_long r)

module _ (bytes : List ℕ) (rows : List RawValue) (state : StreamState) (h : AreFed bytes rows state) where
  -- the offset of the frame that has begun
  at_is : state.at ≡ 0 + length (frames_of (map row_of rows))
  at_is = omega (arith, h.all_fed, ap length h.stream.parts, length-append (frames_of (map row_of rows)) state.begun)

  -- each row has four bytes at least
  pub few_fed : 4 * length rows ≤ length bytes
  few_fed =
      omega (
        arith,
        frames_many rows,
        ap length (frames_same rows),
        ap length h.stream.parts,
        length-append (frames_of (map row_of rows)) state.begun,
      )

  -- nothing in the bytes is wrong
  pub right_fed : AreRightSoFar bytes rows
  right_fed = right_so_far 0 bytes rows state.begun h.fit h.stream

  module _ (state' : StreamState) (piece : List ℕ) where
    pub goes_wrong : (refusal : StreamRefusal) → Breaks IsRawRow state piece refusal → GoesWrong IsRawRow 0 (bytes ++ piece) refusal
    goes_wrong refusal b = wrong_on IsRawRow 0 bytes (map row_of rows) state.begun h.stream piece refusal (subst (λ (n : ℕ). GoesWrong IsRawRow n (state.begun ++ piece) refusal) at_is b.wrong)

    module _ (more : List RawValue) (out : HandsOutRows IsRawRow state state' piece (map row_of more)) where
      stream_goes : IsStream IsRawRow 0 (bytes ++ piece) (map row_of (rows ++ more)) state'.begun None
      stream_goes =
          subst (λ (xs : List RowValue). IsStream IsRawRow 0 (bytes ++ piece) xs state'.begun None) (sym (more_rows rows more))
          (stream_on IsRawRow 0 bytes (map row_of rows) state.begun h.stream piece (map row_of more) state'.begun None
          (subst (λ (n : ℕ). IsStream IsRawRow n (state.begun ++ piece) (map row_of more) state'.begun None) at_is out.stream))

      pub fed_on : AllByRecursion IsRaw more → AreFed (bytes ++ piece) (rows ++ more) state'
      fed_on are = record {
        fit = All-append FitsFrame rows more h.fit (framed_rows more are out.stream.fit);
        unrefused = out.goes_on;
        stream = stream_goes;
        all_fed = omega (arith, out.none_lost, h.all_fed, length-append bytes piece);
      }

-- ---- a piece that goes wrong

none_is_some : {A : Type 0} (o : Option A) (x : A) → o ≡ None → o ≡ Some x → ⊥
none_is_some o x e f = cc

-- the stream breaks, since it was not refused before
pub breaks : (IsRow : RowValue → Type 0) (state state' : StreamState) (piece : List ℕ) (e : End StreamRefusal) (refusal : StreamRefusal) → state.refusal ≡ None → e ≡ Refused refusal → Feeds IsRow state state' piece (Err e) → Breaks IsRow state piece refusal
breaks IsRow state state' piece e refusal none is fed =
    elim ((subst (λ (d : End StreamRefusal). Feeds IsRow state state' piece (Err d)) is fed).1) [ inl was ↦ absurd (none_is_some state.refusal refusal none was) | inr now ↦ now ]

pub piece_wrong : (bytes piece : List ℕ) (rows : List RawValue) (state state' : StreamState) (refusal : StreamRefusal) (s : Stop) → AreFed bytes rows state → Breaks IsRawRow state piece refusal
    → s ≡ stop.BadInput origin.Input (offset_of refusal) → FeedsPiece (bytes ++ piece) rows state' (Err s)
piece_wrong bytes piece rows state state' refusal s h b is =
    let wrong = goes_wrong bytes rows state h state' piece refusal b in
    subst (λ (e : Stop). FeedsPiece (bytes ++ piece) rows state' (Err e)) (sym is) (wrong_there (bytes ++ piece) refusal wrong, tt)
