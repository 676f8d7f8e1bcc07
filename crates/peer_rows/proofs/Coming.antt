-- How the rows that come of an input go on by a read, and how they end.
use Rattle.std.proofs.Common.{◌≡◌, ℕ, ◌+◌, ◌-◌, ◌^◌, ◌<◌, ◌≤◌, List, [], ◌++◌, length, take, Some, refl, sym, ap, subst, ◌∙◌, append-nil, arith, inl, inr}
use Rattle.std.specs.Prelude.{Ok, Err}
use Rattle.std.specs.Io.KnownBytes.{Consumes, IsAtEnd}
use Rattle.std.proofs.KnownBytes.{Consumes-nil, Consumes-trans}
use Rattle.std.proofs.lemmas.List.{length-append}
use Rattle.std.proofs.Math.Seq.{take-append_seam}
use Rattle.willow_outside.specs.Counts.{Rose}
use Rattle.willow_outside.specs.Facts.{SourceFacts}
use Rattle.cap_codec.specs.Rows.{RawValue}
use Rattle.cap_codec.specs.Streams.{FramesStopAt}
use Rattle.row_stream.specs.Feeding.{StreamState, Finishes, nothing_fed}
use Rattle.row_stream.specs.declared.refusal.StreamRefusal.{StreamRefusal}
use Rattle.peer_stage.specs.Stages.{IsReadWhole, IsReadSomewhat}
use Rattle.peer_stage.specs.declared.outcome.Origin.TheVariants as origin
use Rattle.peer_stage.specs.declared.outcome.Stop.{Stop}
use Rattle.peer_stage.specs.declared.outcome.Stop.TheVariants as stop
use Rattle.peer_stage.specs.declared.stage.TheConstants.{INPUT_LIMIT}
use Rattle.peer_rows.specs.Coming.{offset_of, AreAll, AreFed, AreWrong, EndsStream, FeedsPiece, HaveCome, MayReadOn, StopsBehind}
use Rattle.peer_rows.specs.Join.{AreRightSoFar, IsFullStream, IsWrongStream}
use Rattle.peer_rows.specs.Logged.{PassesLog}
use Rattle.peer_rows.specs.declared.reading.Reading.{Reading}
use Rattle.peer_rows.proofs.Pieces.{few_fed, frames_many, none_fed, right_fed}
use Rattle.peer_rows.proofs.RawStreams.{whole_frames, cut_stops}

-- a buffer that was filled whole holds what was given
pub buffer_given : (size : ℕ) (given rest buffer : List ℕ) → buffer ≡ take size (given ++ rest) → length given ≡ size → buffer ≡ given
buffer_given size given rest buffer is whole = is ∙ ap (λ (n : ℕ). take n (given ++ rest)) (sym whole) ∙ take-append_seam given rest

-- what is read after what was read
pub somewhat_on : (old now new : SourceFacts) → IsReadSomewhat old now → IsReadSomewhat now new → IsReadSomewhat old new
somewhat_on old now new had more = (had.0 ++ more.0, Consumes-trans old.left now.left new.left had.0 more.0 had.1 more.1)

-- no row came yet
pub none_come : (input : SourceFacts) (reading : Reading) → reading.stream ≡ nothing_fed → 0 < length reading.piece.items → reading.left ≡ INPUT_LIMIT → HaveCome input input reading []
none_come input reading start room all = record {
  bytes = [];
  consumed = Consumes-nil input.left;
  fed = none_fed reading.stream start;
  count = omega (arith, all);
  room = room;
  not_ended = refl;
  no_fault = refl;
}

module _ (old now : SourceFacts) (reading : Reading) (rows : List RawValue) (h : HaveCome old now reading rows) where
  -- they can be counted
  pub few_come : length rows < 2 ^ 32
  few_come = omega (arith, h.count, few_fed h.bytes rows reading.stream h.fed)

  -- where one of them is too many behind those had before, that is told
  pub full_there : (namespace : List ℕ) (had : List RawValue) → PassesLog namespace (had ++ rows) → IsFullStream namespace had old now
  full_there namespace had passes = record {
    bytes = h.bytes;
    taken = h.consumed;
    within = omega (arith, h.count);
    not_ended = h.not_ended;
    rows = rows;
    not_wrong = right_fed h.bytes rows reading.stream h.fed;
    passes = passes;
  }

  pub come_somewhat : (new : SourceFacts) → IsReadSomewhat now new → IsReadSomewhat old new
  come_somewhat new more = somewhat_on old now new (h.bytes, h.consumed) more

  module _ (new : SourceFacts) where
    -- ---- a piece

    module _ (piece : List ℕ) (consumed : Consumes now.left new.left piece) where
      taken_on : Consumes old.left new.left (h.bytes ++ piece)
      taken_on = Consumes-trans old.left now.left new.left h.bytes piece h.consumed consumed

      many : length piece ≤ reading.left → length (h.bytes ++ piece) + (reading.left - length piece) ≡ INPUT_LIMIT
      many few = omega (arith, few, h.count, length-append h.bytes piece)

      module _ (few : length piece ≤ reading.left) where
        pub come_on : (reading' : Reading) (rows' : List RawValue) → reading'.left ≡ reading.left - length piece → 0 < length reading'.piece.items → AreFed (h.bytes ++ piece) rows' reading'.stream → new.ends ≡ now.ends
            → new.faults ≡ now.faults → HaveCome old new reading' rows'
        come_on reading' rows' is room fed ends faults = record {
          bytes = h.bytes ++ piece;
          consumed = taken_on;
          fed = fed;
          count = ap (λ (k : ℕ). length (h.bytes ++ piece) + k) is ∙ many few;
          room = room;
          not_ended = ends ∙ h.not_ended;
          no_fault = faults ∙ h.no_fault;
        }

        -- no memory for a piece
        pub piece_unpaid : (reading' : Reading) (bytes : List ℕ) (e : Stop) → e ≡ stop.NoMemory → FeedsPiece bytes rows reading'.stream (Err e) → new.ends ≡ now.ends → MayReadOn old new reading'
        piece_unpaid reading' bytes e is fed ends = record {
          short = record { bytes = h.bytes ++ piece; taken = taken_on; within = omega (arith, many few); not_ended = ends ∙ h.not_ended };
          unrefused = subst (λ (s : Stop). FeedsPiece bytes rows reading'.stream (Err s)) is fed;
        }

        wrong_bytes : (at : ℕ) → AreWrong (h.bytes ++ piece) at → IsWrongStream old new at
        wrong_bytes at w = record {
          bytes = h.bytes ++ piece;
          taken = taken_on;
          within = omega (arith, many few);
          wrong = w.wrong;
          cause = inr w.cause;
          not_early = λ rows right. absurd (w.judged rows right);
        }

        pub piece_stops : (stream' : StreamState) (e : Stop) → FeedsPiece (h.bytes ++ piece) rows stream' (Err e) → StopsBehind old new rows e
        piece_stops stream' (stop.BadInput from at) t = λ namespace had fits. (inr (wrong_bytes at t.0), t.1)
        piece_stops stream' stop.NoMemory t = λ namespace had fits. (h.bytes ++ piece, taken_on)
        piece_stops stream' e t = absurd t

      -- a byte came behind the last that may be taken
      pub read_too_far : reading.left ≡ 0 → 0 < length piece → StopsBehind old new rows (stop.BadInput origin.Input INPUT_LIMIT)
      read_too_far none some = λ namespace had fits.
          let all : length h.bytes ≡ INPUT_LIMIT = omega (arith, none, h.count) in
          let below : take INPUT_LIMIT (h.bytes ++ piece) ≡ h.bytes = ap (λ (n : ℕ). take n (h.bytes ++ piece)) (sym all) ∙ take-append_seam h.bytes piece in (
            inl (
              record {
                bytes = h.bytes ++ piece;
                too_far = record { taken = taken_on; beyond = omega (arith, all, some, length-append h.bytes piece) };
                rows = rows;
                not_wrong = subst (λ (bytes : List ℕ). AreRightSoFar bytes rows) (sym below) (right_fed h.bytes rows reading.stream h.fed);
                fits_log = fits;
              },
              refl,
            ),
            tt,
          )

    -- ---- the end

    module _ (consumed : Consumes now.left new.left []) (at_end : IsAtEnd new.left) (rose : Rose now.ends new.ends) where
      read_whole : IsReadWhole INPUT_LIMIT old new h.bytes
      read_whole = record {
        taken = subst (Consumes old.left new.left) (append-nil h.bytes) (taken_on [] consumed);
        at_end = at_end;
        ended = subst (λ (count : ℕ). Rose count new.ends) h.not_ended rose;
        within = omega (arith, h.count);
      }

      pub all_come : Finishes reading.stream (Ok tt) → AreAll old new rows
      all_come finishes = record {
        bytes = h.bytes;
        read = read_whole;
        frames = whole_frames h.bytes rows reading.stream.begun finishes.1 h.fed.fit h.fed.stream;
      }

      cut : (at : ℕ) (refusal : StreamRefusal) → Finishes reading.stream (Err refusal) → at ≡ offset_of refusal → FramesStopAt h.bytes at
      cut at refusal (inl was) is = absurd (unrefused refusal was) where
        unrefused : (r : StreamRefusal) → reading.stream.refusal ≡ Some r → ⊥
        unrefused r was = cc
      cut at refusal (inr inside) is =
          cut_stops h.bytes rows reading.stream.begun at h.fed.fit h.fed.stream inside.some_begun (omega (arith, is, ap offset_of inside.told, h.fed.all_fed))

      pub end_stops : (e : Stop) → EndsStream reading.stream (Err e) → StopsBehind old new rows e
      end_stops (stop.BadInput from at) t = λ namespace had fits. (
        inr (record {
          bytes = h.bytes;
          taken = read_whole.taken;
          within = read_whole.within;
          wrong = cut at t.0.0 t.0.1 t.0.2;
          cause = inl read_whole;
          not_early = λ rows right. read_whole;
        }),
        t.1,
      )
      end_stops e t = absurd t

-- all of them can be counted
pub few_all : (old now : SourceFacts) (rows : List RawValue) → AreAll old now rows → length rows < 2 ^ 32
few_all old now rows all = omega (arith, frames_many rows, ap length all.frames.spelled, all.read.within)
