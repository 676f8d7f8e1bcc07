-- A file is read in one way.
use Rattle.std.proofs.Common.{◌≡◌, ◌≢◌, inl, inr, ℕ, List, [], ◌∷◌, ◌++◌, length, get_or, take, drop, None, refl, sym, ◌∙◌, ap, subst, append_assoc, append-nil, length-append, arith}
use Rattle.std.specs.List.{AllByRecursion, flat_map}
use Rattle.std.proofs.lemmas.List.{take_at, drop_at}
use Rattle.std.proofs.lemmas.List.Concat.{flat_map-cons}
use Rattle.willow_entry.specs.Row.{RowValue}
use Rattle.row_stream.specs.Streams.{frames_of, IsStream, IsStreamRow}
use Rattle.row_stream.specs.Pieces.{HaveOneStream}
use Rattle.willow_path.specs.Key.{IsKey}
use Rattle.log_keeper.specs.BadLogs.{HasOtherHeader, IsBadGate, IsBadLog, AreReadOneWay}
use Rattle.log_keeper.specs.LogFile.{log_mark, log_front, record_body, open_record, IsRecord, HoldsOneWay, HoldsNoLog, HoldsRowsTo}
use Rattle.log_keeper.proofs.RecordsRead.{one_record}

behind_same : (front a b : List ℕ) → front ++ a ≡ front ++ b → a ≡ b
behind_same front a b e = sym (drop_at front a (length front) refl) ∙ ap (drop (length front)) e ∙ drop_at front b (length front) refl

front_of : (r : List RowValue) (records : List (List RowValue)) (more : List ℕ) → flat_map open_record (r ∷ records) ++ more ≡ 1 ∷ (record_body r ++ (flat_map open_record records ++ more))
front_of r records more = ap (λ (l : List ℕ). l ++ more) (flat_map-cons open_record r records) ∙ append_assoc (open_record r) (flat_map open_record records) more

module _ (IsRow : RowValue → Type 0) (one : HaveOneStream IsRow) where
  -- no open record stands in front
  HasNoRecord : List ℕ → Type 0
  HasNoRecord left = (r : List RowValue) (rest : List ℕ) → IsRecord IsRow r → left ≡ 1 ∷ (record_body r ++ rest) → ⊥

  closed_none : (gate : ℕ) (rest : List ℕ) → gate ≢ 1 → HasNoRecord (gate ∷ rest)
  unfolding HasNoRecord
  closed_none gate rest shut r more fits e = shut (ap (λ (l : List ℕ). get_or l 0 0) e)

  wrong_none : (left : List ℕ) → IsBadGate IsRow left → HasNoRecord left
  unfolding HasNoRecord
  wrong_none left wrong r rest fits e = let here : IsBadGate IsRow (1 ∷ (record_body r ++ rest)) = subst (IsBadGate IsRow) e wrong in here.1 r rest fits refl

  same_frames : (rows others : List RowValue) → AllByRecursion (IsStreamRow IsRow) rows → AllByRecursion (IsStreamRow IsRow) others → frames_of rows ≡ frames_of others → rows ≡ others
  same_frames rows others all also e = (one 0 (frames_of rows) rows others [] [] None None (whole rows all refl) (whole others also e)).0
    where
      whole : (of : List RowValue) → AllByRecursion (IsStreamRow IsRow) of → frames_of rows ≡ frames_of of → IsStream IsRow 0 (frames_of rows) of [] None
      whole of fit same = record { fit = fit; parts = same ∙ sym (append-nil (frames_of of)); judged = λ long. absurd (omega (arith, long)) }

  -- so many open records stand in front, and no more
  same_records : (records others : List (List RowValue)) (left rest : List ℕ) → AllByRecursion (IsRecord IsRow) records → AllByRecursion (IsRecord IsRow) others → HasNoRecord left → HasNoRecord rest
      → flat_map open_record records ++ left ≡ flat_map open_record others ++ rest → (records ≡ others) × (left ≡ rest)
  unfolding HasNoRecord
  same_records [] [] left rest f k none also e = (refl, e)
  same_records [] (q ∷ others) left rest f k none also e = absurd (none q (flat_map open_record others ++ rest) k.0 (e ∙ front_of q others rest))
  same_records (r ∷ records) [] left rest f k none also e = absurd (also r (flat_map open_record records ++ left) f.0 (sym e ∙ front_of r records left))
  same_records (r ∷ records) (q ∷ others) left rest f k none also e =
      let x = flat_map open_record records ++ left in
      let y = flat_map open_record others ++ rest in
      let bodies : record_body r ++ x ≡ record_body q ++ y = ap (drop 1) (sym (front_of r records left) ∙ e ∙ front_of q others rest) in
      let frames : frames_of r ≡ frames_of q = one_record (frames_of r) (frames_of q) x y f.0.within k.0.within bodies in
      let same : r ≡ q = same_frames r q f.0.fit k.0.fit frames in
      let more : x ≡ y = behind_same (record_body q) x y (ap (λ (l : List RowValue). record_body l ++ x) (sym same) ∙ bodies) in
      let both = same_records records others left rest f.1 k.1 none also more in
      (ap (λ (l : List RowValue). l ∷ records) same ∙ ap (λ (l : List (List RowValue)). q ∷ l) both.0, both.1)

  module _ (namespace : List ℕ) where
    abbrev head : List ℕ
    head = 1 ∷ log_mark ++ namespace

    joined : (records : List (List RowValue)) (left : List ℕ) → log_front namespace records ++ left ≡ head ++ (flat_map open_record records ++ left)
    joined records left = append_assoc head (flat_map open_record records) left

    behind_header : (bytes : List ℕ) (records others : List (List RowValue)) (left rest : List ℕ) → bytes ≡ log_front namespace records ++ left → bytes ≡ log_front namespace others ++ rest → flat_map open_record records ++ left ≡ flat_map open_record others ++ rest
    behind_header bytes records others left rest e f =
        behind_same head (flat_map open_record records ++ left) (flat_map open_record others ++ rest) (sym (joined records left) ∙ sym e ∙ f ∙ joined others rest)

    at_same : (records others : List (List RowValue)) → records ≡ others → length (log_front namespace records) ≡ length (log_front namespace others)
    at_same records others same = ap (λ (l : List (List RowValue)). length (log_front namespace l)) same

    module _ (bytes : List ℕ) (key : IsKey namespace) where
      head_long : length head ≡ 38
      head_long = omega (arith, length-append log_mark namespace, key.whole)

      none_or_log : (rows : List RowValue) (end : ℕ) → HoldsNoLog bytes → HoldsRowsTo IsRow namespace bytes rows end → ⊥
      none_or_log rows end (inl short) h =
          omega (arith, short, ap length (h.parts ∙ joined h.records (h.gate ∷ h.rest)), length-append head (flat_map open_record h.records ++ h.gate ∷ h.rest), length-append (flat_map open_record h.records) (h.gate ∷ h.rest), head_long)
      none_or_log rows end (inr shut) h = shut (ap (λ (l : List ℕ). get_or l 0 0) (h.parts ∙ joined h.records (h.gate ∷ h.rest)))

      none_or_bad : (at : ℕ) → HoldsNoLog bytes → IsBadLog IsRow namespace bytes at → ⊥
      none_or_bad at none (inl other) = other.0.log none
      none_or_bad at none (inr wrong) = wrong.log none

      -- another header is no header of the namespace
      not_other : (records : List (List RowValue)) (left : List ℕ) → bytes ≡ log_front namespace records ++ left → HasOtherHeader namespace bytes → ⊥
      not_other records left e other = other.other (ap (take 38) (e ∙ joined records left) ∙ take_at head (flat_map open_record records ++ left) 38 head_long)

      log_or_bad : (rows : List RowValue) (end at : ℕ) → HoldsRowsTo IsRow namespace bytes rows end → IsBadLog IsRow namespace bytes at → ⊥
      log_or_bad rows end at h (inl other) = not_other h.records (h.gate ∷ h.rest) h.parts other.0
      log_or_bad rows end at h (inr w) =
          let same = same_records h.records w.records (h.gate ∷ h.rest) w.left h.fit w.fit (closed_none h.gate h.rest h.closed) (wrong_none w.left w.wrong) (behind_header bytes h.records w.records (h.gate ∷ h.rest) w.left h.parts w.parts) in
          let here : IsBadGate IsRow (h.gate ∷ h.rest) = subst (IsBadGate IsRow) (sym same.1) w.wrong in
          h.closed here.0

      one_place : (at place : ℕ) → IsBadLog IsRow namespace bytes at → IsBadLog IsRow namespace bytes place → at ≡ place
      one_place at place (inl other) (inl also) = other.1 ∙ sym also.1
      one_place at place (inl other) (inr w) = absurd (not_other w.records w.left w.parts other.0)
      one_place at place (inr w) (inl other) = absurd (not_other w.records w.left w.parts other.0)
      one_place at place (inr w) (inr v) =
          let same = same_records w.records v.records w.left v.left w.fit v.fit (wrong_none w.left w.wrong) (wrong_none v.left v.wrong) (behind_header bytes w.records v.records w.left v.left w.parts v.parts) in
          w.place ∙ at_same w.records v.records same.0 ∙ sym v.place

  pub one_way : HoldsOneWay IsRow
  one_way namespace bytes rows others end place s t =
      let same = same_records s.records t.records (s.gate ∷ s.rest) (t.gate ∷ t.rest) s.fit t.fit (closed_none s.gate s.rest s.closed) (closed_none t.gate t.rest t.closed) (behind_header namespace bytes s.records t.records (s.gate ∷ s.rest) (t.gate ∷ t.rest) s.parts t.parts) in
      (s.rows_are ∙ ap (flat_map (λ r. r)) same.0 ∙ sym t.rows_are, s.place ∙ at_same namespace s.records t.records same.0 ∙ sym t.place)

  pub are_read : AreReadOneWay IsRow
  are_read namespace bytes key = record { none_or_log = none_or_log namespace bytes key; none_or_bad = none_or_bad namespace bytes key; log_or_bad = log_or_bad namespace bytes key; one_place = one_place namespace bytes key }
