-- How the records of a log are read, one after the other.
use Rattle.std.proofs.Common.{◌≡◌, inr, ℕ, ◌+◌, ◌<◌, ◌^◌, List, [], ◌∷◌, ◌++◌, length, map, get_or, take, drop, true, false, refl, sym, ◌∙◌, ap, subst, arith, append_assoc, length-append}
use Rattle.std.specs.List.{AllByRecursion, flat_map}
use Rattle.std.specs.Int.{w32, to_be_bytes, from_be_bytes}
use Rattle.std.proofs.lemmas.List.{map-append, take_at, drop_at}
use Rattle.std.proofs.lemmas.Nat.{from_be_bytes-to_be_bytes_4}
use Rattle.spelling.specs.Spelling.{text_spelling}
use Rattle.spelling.proofs.Lists.{All-append}
use Rattle.willow_entry.specs.Row.{RowValue}
use Rattle.row_stream.specs.Streams.{frames_of}
use Rattle.log_keeper.specs.LogFile.{log_mark, log_front, open_record, IsShut, IsRecord, HoldsRowsTo, HoldsNoLog}
use Rattle.log_keeper.specs.BadLogs.{IsNoRecord, IsBadGate, IsBadLog}
use Rattle.log_keeper.specs.Readings.{AreRecords, RecordsGoWrong, IsCutShort, IsOpenRecord, AppendsRowFrames}
use Rattle.log_keeper.proofs.LogCrash.{records_more, rows_more}

-- a record tells its frames
pub one_record : (frames others behind rest : List ℕ) → length frames < 2 ^ 32 → length others < 2 ^ 32 → text_spelling (to_be_bytes w32) frames ++ behind ≡ text_spelling (to_be_bytes w32) others ++ rest → frames ≡ others
one_record frames others behind rest f o e =
    let front : (xs ys : List ℕ) → take 4 (text_spelling (to_be_bytes w32) xs ++ ys) ≡ to_be_bytes w32 (length xs) = λ xs ys. ap (take 4) (append_assoc (to_be_bytes w32 (length xs)) xs ys) ∙ take_at (to_be_bytes w32 (length xs)) (xs ++ ys) 4 refl in
    let back : (xs ys : List ℕ) → drop 4 (text_spelling (to_be_bytes w32) xs ++ ys) ≡ xs ++ ys = λ xs ys. ap (drop 4) (append_assoc (to_be_bytes w32 (length xs)) xs ys) ∙ drop_at (to_be_bytes w32 (length xs)) (xs ++ ys) 4 refl in
    let same : length frames ≡ length others = sym (from_be_bytes-to_be_bytes_4 (length frames) f) ∙ ap (from_be_bytes w32) (sym (front frames behind) ∙ ap (take 4) e ∙ front others rest) ∙ from_be_bytes-to_be_bytes_4 (length others) o in
    let tails : frames ++ behind ≡ others ++ rest = sym (back frames behind) ∙ ap (drop 4) e ∙ back others rest in
    sym (take_at frames behind (length others) same) ∙ ap (take (length others)) tails ∙ take_at others rest (length others) refl

-- ---- what stands at a gate

closed_parts : (left : List ℕ) → IsShut left → left ≡ get_or left 0 0 ∷ drop 1 left
closed_parts [] shut = absurd (omega (arith, shut.some))
closed_parts (gate ∷ rest) shut = refl

pub open_long : (left frames behind : List ℕ) → IsOpenRecord left frames behind → length left ≡ 5 + length frames + length behind
open_long left frames behind o =
    omega (arith, ap length o.parts, ap length o.split.parts, length-append (text_spelling (to_be_bytes w32) frames) behind, length-append (to_be_bytes w32 (length frames)) frames, four (length frames))
  where
    four : (n : ℕ) → length (to_be_bytes w32 n) ≡ 4
    four n = refl

module _ (IsRow : RowValue → Type 0) where
  pub cut_wrong : (left : List ℕ) → IsCutShort left → IsBadGate IsRow left
  cut_wrong [] cut = tt
  cut_wrong (gate ∷ bytes) cut = (cut.0, λ rows rest fits e. cut.1 (frames_of rows) rest (record { parts = e; within = fits.within }))

  -- what may be a record and is no frames of rows
  pub bad_wrong : {R : Type 0} (value : R → RowValue) (left frames behind : List ℕ) (old new : List R) → IsOpenRecord left frames behind → AppendsRowFrames IsRow value frames old new false → IsBadGate IsRow left
  bad_wrong value left frames behind old new o none = subst (IsBadGate IsRow) (sym o.parts) (refl, no_frames)
    where
      no_frames : IsNoRecord IsRow o.after
      no_frames rows rest fits e = none rows fits.fit (one_record frames (frames_of rows) behind rest o.split.within fits.within (sym o.split.parts ∙ e))

-- ---- the records so far

-- some records were read, and this is left, at this place
pub record Passed {R : Type 0} (IsRow : RowValue → Type 0) (value : R → RowValue) (from : ℕ) (bytes : List ℕ) (rows : List R) (at : ℕ) (left : List ℕ) : Type 0 where
  pub records : List (List RowValue)
  pub parts : bytes ≡ flat_map open_record records ++ left
  pub fit : AllByRecursion (IsRecord IsRow) records
  pub rows_are : map value rows ≡ flat_map (λ r. r) records
  pub place : at ≡ from + length (flat_map open_record records)

module _ {R : Type 0} (IsRow : RowValue → Type 0) (value : R → RowValue) (from : ℕ) (bytes : List ℕ) where
  pub nothing_passed : Passed IsRow value from bytes [] from bytes
  nothing_passed = record { records = []; parts = refl; fit = tt; rows_are = refl; place = omega arith }

  module _ (rows : List R) (at : ℕ) (left : List ℕ) (so_far : Passed IsRow value from bytes rows at left) where
    pub left_short : at + length left ≡ from + length bytes
    left_short = omega (arith, so_far.place, ap length so_far.parts, length-append (flat_map open_record so_far.records) left)

    pub passed_on : (frames behind : List ℕ) (rows' : List R) (at' : ℕ) → IsOpenRecord left frames behind → AppendsRowFrames IsRow value frames rows rows' true → at' ≡ at + (5 + length frames) → Passed IsRow value from bytes rows' at' behind
    passed_on frames behind rows' at' o (more, fit, spelled, goes) on =
        let slice = map value more in
        let record_is : left ≡ open_record slice ++ behind = o.parts ∙ ap (λ (l : List ℕ). 1 ∷ l) (o.split.parts ∙ ap (λ (f : List ℕ). text_spelling (to_be_bytes w32) f ++ behind) spelled) in
        record {
          records = so_far.records ++ slice ∷ [];
          parts = so_far.parts ∙ ap (λ (l : List ℕ). flat_map open_record so_far.records ++ l) record_is ∙ sym (append_assoc (flat_map open_record so_far.records) (open_record slice) behind) ∙ ap (λ (l : List ℕ). l ++ behind) (sym (records_more so_far.records slice));
          fit = All-append (IsRecord IsRow) so_far.records (slice ∷ []) so_far.fit (record { fit = fit; within = subst (λ (f : List ℕ). length f < 2 ^ 32) spelled o.split.within }, tt);
          rows_are = ap (map value) goes ∙ map-append value rows more ∙ ap (λ (l : List RowValue). l ++ slice) so_far.rows_are ∙ sym (rows_more so_far.records slice);
          place = omega (arith, on, so_far.place, ap length (records_more so_far.records slice), length-append (flat_map open_record so_far.records) (open_record slice), ap length record_is, length-append (open_record slice) behind, open_long left frames behind o);
        }

    -- a closed gate
    pub all_passed : IsShut left → AreRecords IsRow from bytes (map value rows) at
    all_passed shut = record {
      records = so_far.records;
      gate = get_or left 0 0;
      rest = drop 1 left;
      parts = so_far.parts ∙ ap (λ (l : List ℕ). flat_map open_record so_far.records ++ l) (closed_parts left shut);
      closed = shut.closed;
      fit = so_far.fit;
      rows_are = so_far.rows_are;
      place = so_far.place;
    }

    pub wrong_here : IsBadGate IsRow left → RecordsGoWrong IsRow from bytes at
    wrong_here wrong = record { records = so_far.records; left = left; parts = so_far.parts; fit = so_far.fit; wrong = wrong; place = so_far.place }

-- ---- with the header in front

module _ (IsRow : RowValue → Type 0) (namespace bytes head left : List ℕ) (parts : bytes ≡ head ++ left) (is : head ≡ 1 ∷ log_mark ++ namespace) (long : length head ≡ 38) where
  joined : (more : List ℕ) → (records : List (List RowValue)) → left ≡ flat_map open_record records ++ more → bytes ≡ log_front namespace records ++ more
  joined more records e = parts ∙ ap (λ (h : List ℕ). h ++ left) is ∙ ap (λ (l : List ℕ). (1 ∷ log_mark ++ namespace) ++ l) e ∙ sym (append_assoc (1 ∷ log_mark ++ namespace) (flat_map open_record records) more)

  place_is : (records : List (List RowValue)) → length (log_front namespace records) ≡ 38 + length (flat_map open_record records)
  place_is records = omega (arith, ap length is, long, length-append (1 ∷ log_mark ++ namespace) (flat_map open_record records))

  pub holds_read : (rows : List RowValue) (end : ℕ) → AreRecords IsRow 38 left rows end → HoldsRowsTo IsRow namespace bytes rows end
  holds_read rows end a = record { records = a.records; gate = a.gate; rest = a.rest; parts = joined (a.gate ∷ a.rest) a.records a.parts; closed = a.closed; fit = a.fit; rows_are = a.rows_are; place = omega (arith, a.place, place_is a.records) }

  pub goes_wrong : (at : ℕ) → (HoldsNoLog bytes → ⊥) → RecordsGoWrong IsRow 38 left at → IsBadLog IsRow namespace bytes at
  goes_wrong at log w = inr (record { log = log; records = w.records; left = w.left; parts = joined w.left w.records w.parts; fit = w.fit; wrong = w.wrong; place = omega (arith, w.place, place_is w.records) })
