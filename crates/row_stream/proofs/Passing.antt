-- How the frames in front of bytes are read, one after the other.
use Rattle.std.proofs.Common.{◌≡◌, ℕ, ◌+◌, List, [], ◌∷◌, ◌++◌, length, map, Some, None, refl, sym, ap, subst, ◌∙◌, append_assoc, arith}
use Rattle.std.specs.List.{AllByRecursion}
use Rattle.std.proofs.lemmas.List.{append-nil, length-append, map-append}
use Rattle.std.proofs.lemmas.Grind.{flat_map-append}
use Rattle.spelling.proofs.Lists.{All-append}
use Rattle.willow_entry.specs.Row.{RowValue}
use Rattle.willow_entry.specs.Frame.{row_frame}
use Rattle.willow_entry.specs.RowBody.{ReadsBody}
use Rattle.row_stream.specs.declared.refusal.StreamRefusal.{StreamRefusal}
use Rattle.row_stream.specs.declared.refusal.StreamRefusal.TheVariants.{BadFrame, FrameTooLong}
use Rattle.row_stream.specs.Places.{IsUnfinished, IsTooLong}
use Rattle.row_stream.specs.Streams.{frames_of, IsStreamRow, IsJudged, GoesWrong}
use Rattle.row_stream.specs.Steps.{Adds, IsSplit}
use Rattle.row_stream.proofs.Frames.{row_split, row_framed, split_long}

-- the frames of some more rows were read, and this is left, at this offset
pub record Passed {R : Type 0} (IsRow : RowValue → Type 0) (value : R → RowValue) (from : ℕ) (bytes : List ℕ) (earlier rows : List R) (here : ℕ) (left : List ℕ) : Type 0 where
  pub more : List R
  pub added : rows ≡ earlier ++ more
  pub fit : AllByRecursion (IsStreamRow IsRow) (map value more)
  pub parts : bytes ≡ frames_of (map value more) ++ left
  pub place : here ≡ from + length (frames_of (map value more))

module _ {R : Type 0} (IsRow : RowValue → Type 0) (value : R → RowValue) (from : ℕ) (bytes : List ℕ) (earlier : List R) where
  pub nothing_passed : Passed IsRow value from bytes earlier earlier from bytes
  nothing_passed = record { more = []; added = sym (append-nil earlier); fit = tt; parts = refl; place = omega arith }

  module _ (rows : List R) (here : ℕ) (left : List ℕ) (so_far : Passed IsRow value from bytes earlier rows here left) where
    abbrev passed : List RowValue
    passed = map value so_far.more

    -- what is left ends with the bytes
    pub left_short : here + length left ≡ from + length bytes
    left_short = omega (arith, so_far.place, ap length so_far.parts, length-append (frames_of passed) left)

    one_more : (row : R) → map value (so_far.more ++ row ∷ []) ≡ passed ++ value row ∷ []
    one_more row = map-append value so_far.more (row ∷ [])

    frames_more : (row : R) → frames_of (map value (so_far.more ++ row ∷ [])) ≡ frames_of passed ++ row_frame (value row)
    frames_more row = ap frames_of (one_more row) ∙ flat_map-append row_frame passed (value row ∷ []) ∙ ap (λ (l : List ℕ). frames_of passed ++ l) (append-nil (row_frame (value row)))

    -- one more frame
    pub passed_on : (body behind : List ℕ) (row : R) (rows' : List R) (here' : ℕ) → IsSplit left body behind → ReadsBody IsRow body (Some (value row))
        → rows' ≡ rows ++ row ∷ [] → here' ≡ here + (4 + length body) → Passed IsRow value from bytes earlier rows' here' behind
    passed_on body behind row rows' here' s read goes on =
        let front = row_split left body behind (value row) s read.1 in
        record {
          more = so_far.more ++ row ∷ [];
          added = goes ∙ ap (λ (l : List R). l ++ row ∷ []) so_far.added ∙ append_assoc earlier so_far.more (row ∷ []);
          fit = subst (AllByRecursion (IsStreamRow IsRow)) (sym (one_more row)) (All-append (IsStreamRow IsRow) passed (value row ∷ []) so_far.fit (record { fits = read.0; framed = row_framed left body behind (value row) s read.1 }, tt));
          parts = so_far.parts ∙ ap (λ (l : List ℕ). frames_of passed ++ l) front ∙ sym (append_assoc (frames_of passed) (row_frame (value row)) behind) ∙ ap (λ (l : List ℕ). l ++ behind) (sym (frames_more row));
          place = omega (arith, on, so_far.place, ap length (frames_more row), length-append (frames_of passed) (row_frame (value row)), ap length front, length-append (row_frame (value row)) behind, split_long left body behind s);
        }

    -- nothing whole is left
    pub all_passed : IsUnfinished left → Adds IsRow value from bytes earlier rows here left
    all_passed late = record { more = so_far.more; added = so_far.added; stream = record { fit = so_far.fit; parts = so_far.parts; judged = late }; place = so_far.place }

    pub too_long_here : IsTooLong left → GoesWrong IsRow from bytes (FrameTooLong here)
    too_long_here long = record { rows = passed; left = left; stream = record { fit = so_far.fit; parts = so_far.parts; judged = (long, so_far.place) } }

    pub bad_here : (body behind : List ℕ) (refusal : StreamRefusal) → IsSplit left body behind → ReadsBody IsRow body None → refusal ≡ BadFrame here → GoesWrong IsRow from bytes refusal
    bad_here body behind refusal s none told = record {
      rows = passed;
      left = left;
      stream = record {
        fit = so_far.fit;
        parts = so_far.parts;
        judged = subst (λ (r : StreamRefusal). IsJudged IsRow (from + length (frames_of passed)) left (Some r)) (sym told)
            (record { field_there = s.field_there; within = s.within; whole = s.whole; no_row = subst (λ (b : List ℕ). ReadsBody IsRow b None) s.body_is none }, so_far.place);
      };
    }
