-- How a record is split off the bytes, and how its frames are read.
use Rattle.std.proofs.Common.{◌≡◌, ◌⊎◌, inl, inr, ⊎_elim, ℕ, ◌<◌, ◌≤◌, ◌^◌, Bool, true, false, cond, ltb, List, [], ◌++◌, length, take, drop, Option, Some, None, IfSome, IfNone, Err, refl, sym, ap, subst, ◌∙◌, append_assoc, append-nil, length-append, length-take, take-append-drop, arith}
use Rattle.std.specs.List.{AllByRecursion}
use Rattle.std.specs.Int.{w32, from_be_bytes, to_be_bytes}
use Rattle.std.proofs.lemmas.Bool.{ltb-false}
use Rattle.std.proofs.lemmas.Nat.{be_bytes_4, from_be_bytes-to_be_bytes_4}
use Rattle.std.proofs.lemmas.List.{take_at, drop_at}
use Rattle.spelling.specs.Form.{AreBytes}
use Rattle.spelling.proofs.Lists.{All-take, byte_below}
use Rattle.spelling.specs.Front.{Whole, Part}
use Rattle.spelling.specs.Reading.{number_at}
use Rattle.spelling.specs.declared.ending.End.TheVariants.{Refused}
use Rattle.willow_entry.specs.Row.{RowValue}
use Rattle.row_stream.specs.declared.refusal.StreamRefusal.{StreamRefusal}
use Rattle.row_stream.specs.Streams.{frames_of, IsStream, IsStreamRow, GoesWrong}
use Rattle.row_stream.specs.Feeding.{StreamState, nothing_fed, HandsOutRows, Feeds, Finishes}
use Rattle.row_stream.specs.Pieces.{HaveOneStream}
use Rattle.log_keeper.specs.Readings.{IsSplitOff, SplitsOff}

there : {A : Type 0} (short : Bool) (made x : A) (left rest : List ℕ) → cond short Part (Whole made left) ≡ Whole x rest → (short ≡ false) × (made ≡ x) × (left ≡ rest)
there true made x left rest e = absurd cc
there false made x left rest e = (refl, cc, cc)

field_spelled : (bytes : List ℕ) → AreBytes bytes → 4 ≤ length bytes → to_be_bytes w32 (from_be_bytes w32 (take 4 bytes)) ≡ take 4 bytes
field_spelled bytes are long = be_bytes_4 (take 4 bytes) (from_be_bytes w32 (take 4 bytes)) (omega (arith, length-take 4 bytes, long)) (λ i. byte_below (take 4 bytes) i (All-take _ 4 bytes are)) refl

-- where the length is there
module _ (bytes : List ℕ) (size : ℕ) (left : List ℕ) (are : AreBytes bytes) (e : number_at w32 bytes ≡ Whole size left) (fits : size < 2 ^ 32) where
  has : (ltb (length bytes) 4 ≡ false) × (from_be_bytes w32 (take 4 bytes) ≡ size) × (drop 4 bytes ≡ left)
  has = there (ltb (length bytes) 4) (from_be_bytes w32 (take 4 bytes)) size (drop 4 bytes) left e

  spelled : to_be_bytes w32 size ≡ take 4 bytes
  spelled = ap (to_be_bytes w32) (sym has.1) ∙ field_spelled bytes are (ltb-false _ _ has.0)

  split_off : (frames behind : List ℕ) → left ≡ frames ++ behind → length frames ≡ size → IsSplitOff bytes frames behind
  split_off frames behind parts long = record {
    parts = sym (take-append-drop 4 bytes) ∙ ap (λ (l : List ℕ). l ++ drop 4 bytes) (sym spelled ∙ ap (to_be_bytes w32) (sym long)) ∙ ap (λ (l : List ℕ). to_be_bytes w32 (length frames) ++ l) (has.2 ∙ parts) ∙ sym (append_assoc (to_be_bytes w32 (length frames)) frames behind);
    within = omega (arith, long, fits);
  }

  none_off : length left < size → (frames behind : List ℕ) → IsSplitOff bytes frames behind → ⊥
  none_off short frames behind s =
      let front : take 4 bytes ≡ to_be_bytes w32 (length frames) = ap (take 4) (s.parts ∙ append_assoc (to_be_bytes w32 (length frames)) frames behind) ∙ take_at (to_be_bytes w32 (length frames)) (frames ++ behind) 4 refl in
      let told : size ≡ length frames = sym has.1 ∙ ap (from_be_bytes w32) front ∙ from_be_bytes-to_be_bytes_4 (length frames) s.within in
      let rest : left ≡ frames ++ behind = sym has.2 ∙ ap (drop 4) (s.parts ∙ append_assoc (to_be_bytes w32 (length frames)) frames behind) ∙ drop_at (to_be_bytes w32 (length frames)) (frames ++ behind) 4 refl in
      omega (arith, told, ap length rest, length-append frames behind, short)

  pub splits : {X : Type 0} (frames behind : X → List ℕ) (result : Option X) → IfSome result (λ x. left ≡ frames x ++ behind x) → IfSome result (λ x. length (frames x) ≡ size) → IfNone result (length left < size) → SplitsOff frames behind bytes result
  splits frames behind (Some x) parts long none = split_off (frames x) (behind x) parts long
  splits frames behind None parts long none = none_off none

-- ---- the frames

module _ (IsRow : RowValue → Type 0) (one : HaveOneStream IsRow) where
  -- bytes with something else behind some rows are no frames of rows
  not_whole : (bytes : List ℕ) (rows : List RowValue) (left : List ℕ) (why : Option StreamRefusal) → IsStream IsRow 0 bytes rows left why → (0 < length left) ⊎ (why ≡ None → ⊥) → (others : List RowValue) → AllByRecursion (IsStreamRow IsRow) others → bytes ≡ frames_of others → ⊥
  not_whole bytes rows left why stream behind others all e =
      let whole : IsStream IsRow 0 bytes others [] None = record { fit = all; parts = e ∙ sym (append-nil (frames_of others)); judged = λ long. absurd (omega (arith, long)) } in
      let same = one 0 bytes others rows [] left None why whole stream in
      ⊎_elim (λ some. omega (arith, ap length same.1, some)) (λ refused. refused (sym same.2)) behind

  pub cut_none : (old new : StreamState) (bytes : List ℕ) (rows : List RowValue) (why : StreamRefusal) → old ≡ nothing_fed → HandsOutRows IsRow old new bytes rows → Finishes new (Err why) → (others : List RowValue) → AllByRecursion (IsStreamRow IsRow) others → bytes ≡ frames_of others → ⊥
  cut_none old new bytes rows why fresh h (inl refused) = absurd (cc (refused, h.goes_on))
  cut_none old new bytes rows why fresh h (inr cut) = not_whole bytes rows new.begun None (subst (λ (s : StreamState). IsStream IsRow s.at (s.begun ++ bytes) rows new.begun None) fresh h.stream) (inl cut.some_begun)

  pub wrong_none : (old new : StreamState) (bytes : List ℕ) (why : StreamRefusal) → old ≡ nothing_fed → Feeds IsRow old new bytes (Err (Refused why)) → (others : List RowValue) → AllByRecursion (IsStreamRow IsRow) others → bytes ≡ frames_of others → ⊥
  wrong_none old new bytes why fresh (stays, inl refused) = absurd (cc (refused, ap (λ (s : StreamState). s.refusal) fresh))
  wrong_none old new bytes why fresh (stays, inr breaks) =
      let wrong : GoesWrong IsRow 0 bytes why = subst (λ (s : StreamState). GoesWrong IsRow s.at (s.begun ++ bytes) why) fresh breaks.wrong in
      not_whole bytes wrong.rows wrong.left (Some why) wrong.stream (inr (λ e. cc e))

  pub whole_read : (old new : StreamState) (bytes : List ℕ) (rows : List RowValue) → old ≡ nothing_fed → HandsOutRows IsRow old new bytes rows → new.begun ≡ [] → AllByRecursion (IsStreamRow IsRow) rows × (bytes ≡ frames_of rows)
  whole_read old new bytes rows fresh h none =
      let stream : IsStream IsRow 0 bytes rows new.begun None = subst (λ (s : StreamState). IsStream IsRow s.at (s.begun ++ bytes) rows new.begun None) fresh h.stream in
      (stream.fit, stream.parts ∙ ap (λ (l : List ℕ). frames_of rows ++ l) none ∙ append-nil (frames_of rows))
