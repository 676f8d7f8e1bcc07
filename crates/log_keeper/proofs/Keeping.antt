-- What a keep does to the file that it keeps.
use Rattle.std.proofs.Common.{◌≡◌, inl, inr, ℕ, ◌+◌, ◌*◌, ◌≤◌, List, [], ◌∷◌, ◌++◌, length, drop, Option, Some, None, IfSome, refl, sym, ◌∙◌, ap, subst, arith, length-append}
use Rattle.std.specs.Option.{option_map}
use Rattle.std.specs.Int.{w32, to_be_bytes}
use Rattle.std.specs.List.{AllByRecursion}
use Rattle.std.proofs.lemmas.List.Concat.{flat_map-cons}
use Rattle.willow_entry.specs.Row.{RowValue}
use Rattle.willow_entry.specs.Frame.{row_frame}
use Rattle.row_stream.specs.Streams.{frames_of, IsStreamRow}
use Rattle.row_stream.proofs.Frames.{frame_long}
use Rattle.willow_outside.specs.Disks.{written, IsTorn, IsWithin, LeavesContents}
use Rattle.log_keeper.specs.LogFile.{record_body, last_record, IsRecord, HoldsRowsTo, HoldsRows}
use Rattle.log_keeper.specs.Crashes.{HoldsBeforeOrAfter, KeepsFile}
use Rattle.log_keeper.specs.Slices.{AreFramed, AreShort}
use Rattle.log_keeper.specs.Torn.{IsTornOf, IsTornAtGate}
use Rattle.log_keeper.proofs.LogCrash.{end_within, behind_torn, gate_torn, record_written}
use Rattle.std.proofs.lemmas.Option.{none-some}
use Rattle.log_keeper.proofs.Told.{some-some}

module _ (IsRow : RowValue → Type 0) (images : List ℕ → Type 0) (end count : ℕ) (namespace : List ℕ) (before : List RowValue) where
  pub keeps_within : (contents : Option (List ℕ)) → KeepsFile IsRow contents images end count namespace before → IsWithin contents (end + 1)
  keeps_within None k = tt
  keeps_within (Some bytes) k = end_within IsRow namespace bytes before end k.file

  -- at rest a crash leaves the rows
  pub at_rest_left : (contents : Option (List ℕ)) → KeepsFile IsRow contents images end count namespace before → (c : List ℕ) → images c → HoldsRows IsRow namespace c before
  at_rest_left None k c left = absurd (none-some c (k.settled c left))
  at_rest_left (Some bytes) k c left = record { end = end; to = subst (λ (b : List ℕ). HoldsRowsTo IsRow namespace b before end) (some-some bytes c (k.settled c left)) k.file }

  module _ (slice : List RowValue) (fits : IsRecord IsRow slice) (piece : List ℕ) (is : piece ≡ last_record slice) where
    behind_left : (contents : Option (List ℕ)) → KeepsFile IsRow contents images end count namespace before → (n : ℕ) (c : List ℕ) → IsTornOf contents (end + 1) n c → HoldsBeforeOrAfter IsRow namespace before slice c
    behind_left None k n c (bytes, told, torn) = absurd (none-some bytes told)
    behind_left (Some there) k n c (bytes, told, torn) =
        inl (behind_torn IsRow namespace there before end k.file n c (subst (λ (b : List ℕ). IsTorn (end + 1) n b c) (sym (some-some there bytes told)) torn))

    over_left : (contents : Option (List ℕ)) → KeepsFile IsRow contents images end count namespace before → (c : List ℕ) → IsTornOf (option_map (written (end + 1) (drop 1 piece)) contents) end 1 c → HoldsBeforeOrAfter IsRow namespace before slice c
    over_left None k c (bytes, told, torn) = absurd (none-some bytes told)
    over_left (Some there) k c (bytes, told, torn) =
        let staged : bytes ≡ written (end + 1) (record_body slice ++ 0 ∷ []) there = sym (some-some (written (end + 1) (drop 1 piece) there) bytes told) ∙ ap (λ (p : List ℕ). written (end + 1) (drop 1 p) there) is in
        gate_torn IsRow namespace there before end k.file slice fits c (subst (λ (b : List ℕ). IsTorn end 1 b c) staged torn)

    -- at each moment of a keep
    pub either_left : (contents : Option (List ℕ)) → KeepsFile IsRow contents images end count namespace before → (c : List ℕ) → IsTornAtGate contents end (drop 1 piece) c → HoldsBeforeOrAfter IsRow namespace before slice c
    either_left contents k c (inl torn) = behind_left contents k (length (drop 1 piece)) c torn
    either_left contents k c (inr torn) = over_left contents k c torn

    file_after : (contents : Option (List ℕ)) → KeepsFile IsRow contents images end count namespace before → IfSome (option_map (written end piece) contents) (λ bytes. HoldsRowsTo IsRow namespace bytes (before ++ slice) (end + 1 + length (record_body slice)))
    file_after None k = tt
    file_after (Some bytes) k =
        subst (λ (p : List ℕ). HoldsRowsTo IsRow namespace (written end p bytes) (before ++ slice) (end + 1 + length (record_body slice))) (sym is) (record_written IsRow namespace bytes before end k.file slice fits)

    -- and after it
    pub keeps_more : (contents new : Option (List ℕ)) (later : List ℕ → Type 0) (place number : ℕ) → KeepsFile IsRow contents images end count namespace before
        → new ≡ option_map (written end piece) contents → LeavesContents new later → place ≡ end + 1 + length (record_body slice) → number ≡ count + length slice
        → KeepsFile IsRow new later place number namespace (before ++ slice)
    keeps_more contents new later place number k became settled ends counts = record {
      file = subst (λ (n : ℕ). IfSome new (λ bytes. HoldsRowsTo IsRow namespace bytes (before ++ slice) n)) (sym ends) (subst (λ (o : Option (List ℕ)). IfSome o (λ bytes. HoldsRowsTo IsRow namespace bytes (before ++ slice) (end + 1 + length (record_body slice)))) (sym became) (file_after contents k));
      counted = omega (arith, counts, k.counted, length-append before slice);
      settled = settled;
    }

-- ---- slices

pub framed : (IsRow : RowValue → Type 0) (rows : List RowValue) → AllByRecursion (IsStreamRow IsRow) rows → AreFramed rows
framed IsRow [] all = tt
framed IsRow (r ∷ rows) all = (all.0.framed, framed IsRow rows all.1)

-- the frames of so many rows have at most so many bytes, and at least one each
pub frames_long : (rows : List RowValue) → AreFramed rows → length (frames_of rows) ≤ 131076 * length rows
frames_long [] all = omega arith
frames_long (r ∷ rows) all =
    omega (arith, frames_long rows all.1, ap length (flat_map-cons row_frame r rows), length-append (row_frame r) (frames_of rows), frame_long r all.0 [], all.0)

pub frames_some : (rows : List RowValue) → AreFramed rows → length rows ≤ length (frames_of rows)
frames_some [] all = omega arith
frames_some (r ∷ rows) all =
    omega (arith, frames_some rows all.1, ap length (flat_map-cons row_frame r rows), length-append (row_frame r) (frames_of rows), frame_long r all.0 [])

pub is_record : (IsRow : RowValue → Type 0) (rows : List RowValue) → AllByRecursion (IsStreamRow IsRow) rows → length rows ≤ 256 → IsRecord IsRow rows
is_record IsRow rows all few = record { fit = all; within = omega (arith, frames_long rows (framed IsRow rows all), few) }

pub body_long : (rows : List RowValue) → length (record_body rows) ≡ 4 + length (frames_of rows)
body_long rows = omega (arith, length-append (to_be_bytes w32 (length (frames_of rows))) (frames_of rows), four (length (frames_of rows)))
  where
    four : (n : ℕ) → length (to_be_bytes w32 n) ≡ 4
    four n = refl

-- the closed gate stands where the record ends
pub last_long : (rows : List RowValue) → length (last_record rows) ≡ length (record_body rows) + 2
last_long rows = omega (arith, length-append (record_body rows) (0 ∷ []))

pub body_short : (IsRow : RowValue → Type 0) → AreShort IsRow
body_short IsRow rows all few = omega (arith, body_long rows, frames_long rows (framed IsRow rows all), few)
