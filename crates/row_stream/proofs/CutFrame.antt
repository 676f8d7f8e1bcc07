-- A frame that the end of a piece has cut, and the bytes behind it.
use Rattle.std.proofs.Common.{◌≡◌, ℕ, ◌+◌, ◌≤◌, List, [], ◌∷◌, ◌++◌, length, map, Option, Some, None, Result, Ok, Err, refl, sym, ap, subst, ◌∙◌, arith, Bor}
use Rattle.std.specs.Global.{Vec}
use Rattle.std.proofs.lemmas.List.{append-nil, length-append}
use Rattle.std.specs.Result.{IsErrAnd}
use Rattle.std.proofs.lemmas.Result.{err_from_is_err_and}
use Rattle.spelling.specs.declared.input.Unread.{Unread}
use Rattle.spelling.specs.declared.input.Unread.TheVariants as unread
use Rattle.spelling.specs.declared.ending.End.{End}
use Rattle.spelling.specs.declared.ending.End.TheVariants.{Refused, NoMemory}
use Rattle.willow_entry.specs.Row.{RowValue}
use Rattle.willow_entry.specs.Frame.{row_frame}
use Rattle.willow_entry.specs.RowBody.{ReadsBody}
use Rattle.row_stream.specs.declared.refusal.StreamRefusal.{StreamRefusal}
use Rattle.row_stream.specs.declared.refusal.StreamRefusal.TheVariants.{BadFrame, FrameTooLong}
use Rattle.row_stream.specs.Places.{IsTooLong}
use Rattle.row_stream.specs.Streams.{frames_of, IsStream, GoesWrong}
use Rattle.row_stream.specs.Steps.{Adds, GivesNoRow, ReadsFrames, IsSplit, Splits, IsCompleted}
use Rattle.row_stream.proofs.Frames.{row_split, row_framed, split_long, body_long}
use Rattle.row_stream.proofs.Passing.{nothing_passed, bad_here, too_long_here}
use Rattle.row_stream.proofs.Longer.{wrong_more, stream_on, frames_longer}

nothing : (left : List ℕ) → length left ≤ 0 → left ≡ []
nothing [] h = refl
nothing (b ∷ left) h = absurd (omega (arith, h))

-- what a reader's error says of the bytes
pub told_wrong : (bytes slice : List ℕ) (u : Unread) → slice ≡ bytes → u ≡ unread.Wrong → Splits {X = Bor (List ℕ) × Bor (List ℕ)} (λ x. x.0.now) (λ x. x.1.now) slice (Err u) → IsTooLong bytes
told_wrong bytes slice u is wrong s = subst IsTooLong is (subst (λ (v : Unread). Splits {X = Bor (List ℕ) × Bor (List ℕ)} (λ x. x.0.now) (λ x. x.1.now) slice (Err v)) wrong s)

module _ {R : Type 0} (IsRow : RowValue → Type 0) (value : R → RowValue) (from : ℕ) (begun piece filled rest : List ℕ) (done : IsCompleted begun piece filled rest) where
  pub long : from + length filled + length rest ≡ from + length begun + length piece
  long = omega (arith, ap length done.parts, length-append filled rest, length-append begun piece)

  pub too_long : IsTooLong filled → GoesWrong IsRow from (begun ++ piece) (FrameTooLong from)
  too_long wrong =
      subst (λ (l : List ℕ). GoesWrong IsRow from l (FrameTooLong from)) done.parts
      (wrong_more IsRow from filled rest (FrameTooLong from) (too_long_here IsRow value from filled [] [] from filled (nothing_passed IsRow value from filled []) wrong))

  module _ (body behind : List ℕ) (s : IsSplit filled body behind) where
    bad : (refusal : StreamRefusal) → ReadsBody IsRow body None → refusal ≡ BadFrame from → GoesWrong IsRow from (begun ++ piece) refusal
    bad refusal none told =
        subst (λ (l : List ℕ). GoesWrong IsRow from l refusal) done.parts
        (wrong_more IsRow from filled rest refusal (bad_here IsRow value from filled [] [] from filled (nothing_passed IsRow value from filled []) body behind refusal s none told))

    -- the body is no row's, and that is handed on
    pub bad_on : (rows : List R) (left : List ℕ) (e : End StreamRefusal) (result : Result ℕ (End StreamRefusal)) → GivesNoRow IsRow from body e → IsErrAnd result (λ d. d ≡ e)
        → ReadsFrames IsRow value (λ n. n) (λ n. left) from (begun ++ piece) [] rows result
    bad_on rows left e result read err =
        let p = err_from_is_err_and result err in
        subst (λ (r : Result ℕ (End StreamRefusal)). ReadsFrames IsRow value (λ n. n) (λ n. left) from (begun ++ piece) [] rows r) (ap (λ (d : End StreamRefusal). Err d) (sym p.2) ∙ sym p.1) (told e read)
      where
        told : (d : End StreamRefusal) → GivesNoRow IsRow from body d → ReadsFrames IsRow value (λ n. n) (λ n. left) from (begun ++ piece) [] rows (Err d)
        told (Refused refusal) h = bad refusal h.0 h.1
        told NoMemory h = tt

    nothing_behind : behind ≡ []
    nothing_behind = nothing behind (omega (arith, done.alone s.field_there s.within, split_long filled body behind s, body_long filled body behind s))

    module _ (row : R) (read : ReadsBody IsRow body (Some (value row))) where
      frame_is : filled ≡ row_frame (value row)
      frame_is = row_split filled body behind (value row) s read.1 ∙ ap (λ (l : List ℕ). row_frame (value row) ++ l) nothing_behind ∙ append-nil (row_frame (value row))

      one_row : IsStream IsRow from filled (value row ∷ []) [] None
      one_row = record {
        fit = (record { fits = read.0; framed = row_framed filled body behind (value row) s read.1 }, tt);
        parts = frame_is ∙ sym (append-nil (row_frame (value row) ++ []) ∙ append-nil (row_frame (value row)));
        judged = λ there. absurd (omega (arith, there));
      }

      behind_is : from + length filled ≡ from + length (frames_of (value row ∷ []))
      behind_is = ap (λ (l : List ℕ). from + length l) (frame_is ∙ sym (append-nil (row_frame (value row))))

      joined : (others : List RowValue) (left : List ℕ) (why : Option StreamRefusal) (at : ℕ) → at ≡ from + length filled → IsStream IsRow at rest others left why → IsStream IsRow from (begun ++ piece) (value row ∷ others) left why
      joined others left why at is stream =
          subst (λ (l : List ℕ). IsStream IsRow from l (value row ∷ others) left why) done.parts
          (stream_on IsRow from filled (value row ∷ []) [] one_row rest others left why (subst (λ (n : ℕ). IsStream IsRow n rest others left why) (is ∙ behind_is) stream))

      more_added : (at : ℕ) (earlier rows : List R) (here : ℕ) (left : List ℕ) → earlier ≡ row ∷ [] → at ≡ from + length filled → Adds IsRow value at rest earlier rows here left → Adds IsRow value from (begun ++ piece) [] rows here left
      more_added at earlier rows here left one is a = record {
        more = row ∷ a.more;
        added = a.added ∙ ap (λ (l : List R). l ++ a.more) one;
        stream = joined (map value a.more) left None at is a.stream;
        place = a.place ∙ ap (λ (n : ℕ). n + length (frames_of (map value a.more))) (is ∙ behind_is) ∙ frames_longer IsRow from filled (value row ∷ []) [] one_row (map value a.more);
      }

      pub goes_on : (at : ℕ) (earlier rows : List R) (left : List ℕ) (result : Result ℕ (End StreamRefusal)) → earlier ≡ row ∷ [] → at ≡ from + length filled
          → ReadsFrames IsRow value (λ n. n) (λ n. left) at rest earlier rows result → ReadsFrames IsRow value (λ n. n) (λ n. left) from (begun ++ piece) [] rows result
      goes_on at earlier rows left (Ok here) one is h = more_added at earlier rows here left one is h
      goes_on at earlier rows left (Err (Refused refusal)) one is h = record { rows = value row ∷ h.rows; left = h.left; stream = joined h.rows h.left (Some refusal) at is h.stream }
      goes_on at earlier rows left (Err NoMemory) one is h = tt
