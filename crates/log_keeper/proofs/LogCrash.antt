-- What a crash leaves of a log while a slice is kept.
use Rattle.std.proofs.Common.{◌≡◌, ◌≢◌, inl, inr, ℕ, ◌+◌, ◌≤◌, List, [], ◌∷◌, ◌++◌, length, get_or, drop, refl, sym, ◌∙◌, ap, subst, arith, append_assoc, append-nil, length-append}
use Rattle.std.proofs.lemmas.Bool.{cases_eq}
use Rattle.std.proofs.lemmas.Grind.{flat_map-append}
use Rattle.std.specs.List.{flat_map}
use Rattle.spelling.proofs.Lists.{All-append}
use Rattle.willow_entry.specs.Row.{RowValue}
use Rattle.willow_outside.specs.Disks.{written, IsTorn}
use Rattle.log_keeper.specs.LogFile.{log_mark, log_front, record_body, open_record, last_record, IsRecord, HoldsRowsTo, HoldsRows}
use Rattle.log_keeper.specs.Crashes.{HoldsBeforeOrAfter}
use Rattle.log_keeper.proofs.Gates.{gated_long, torn_behind, written_behind, written_over, torn_gate}

-- one record more
pub records_more : (records : List (List RowValue)) (slice : List RowValue) → flat_map open_record (records ++ slice ∷ []) ≡ flat_map open_record records ++ open_record slice
records_more records slice = flat_map-append open_record records (slice ∷ []) ∙ ap (λ (l : List ℕ). flat_map open_record records ++ l) (append-nil (open_record slice))

pub rows_more : (records : List (List RowValue)) (slice : List RowValue) → flat_map (λ r. r) (records ++ slice ∷ []) ≡ flat_map (λ r. r) records ++ slice
rows_more records slice =
    flat_map-append (λ (r : List RowValue). r) records (slice ∷ []) ∙ ap (λ (l : List RowValue). flat_map (λ r. r) records ++ l) (append-nil slice)

front_more : (namespace : List ℕ) (records : List (List RowValue)) (slice : List RowValue) → log_front namespace (records ++ slice ∷ []) ≡ log_front namespace records ++ open_record slice
front_more namespace records slice =
    let head = 1 ∷ log_mark ++ namespace in
    ap (λ (l : List ℕ). head ++ l) (records_more records slice) ∙ sym (append_assoc head (flat_map open_record records) (open_record slice))

module _ (IsRow : RowValue → Type 0) (namespace bytes : List ℕ) (before : List RowValue) (end : ℕ) (h : HoldsRowsTo IsRow namespace bytes before end) where
  abbrev front : List ℕ
  front = log_front namespace h.records

  -- a closed gate ends the rows, whatever stands behind it
  to_front : (gate : ℕ) (rest : List ℕ) → gate ≢ 1 → HoldsRowsTo IsRow namespace (front ++ gate ∷ rest) before end
  to_front gate rest shut = record { records = h.records; gate = gate; rest = rest; parts = refl; closed = shut; fit = h.fit; rows_are = h.rows_are; place = h.place }

  pub end_within : end + 1 ≤ length bytes
  end_within = omega (arith, h.place, ap length h.parts, gated_long front h.gate h.rest)

  -- the rows from before stand in each outcome of a write behind the gate
  pub behind_torn : (n : ℕ) (c : List ℕ) → IsTorn (end + 1) n bytes c → HoldsRows IsRow namespace c before
  behind_torn n c torn =
      let here : IsTorn (length front + 1) n (front ++ h.gate ∷ h.rest) c = subst (λ (k : ℕ). IsTorn (k + 1) n (front ++ h.gate ∷ h.rest) c) h.place (subst (λ (b : List ℕ). IsTorn (end + 1) n b c) h.parts torn) in
      let is = torn_behind front h.gate h.rest n c here in
      record { end = end; to = subst (λ (b : List ℕ). HoldsRowsTo IsRow namespace b before end) (sym is) (to_front h.gate (drop (length front + 1) c) h.closed) }

  module _ (slice : List RowValue) (fits : IsRecord IsRow slice) where
    abbrev piece : List ℕ
    piece = record_body slice ++ 0 ∷ []

    abbrev tail : List ℕ
    tail = 0 ∷ drop (length piece) h.rest

    -- the file with a record behind the closed gate
    staged_is : written (end + 1) piece bytes ≡ front ++ (h.gate ∷ (record_body slice ++ tail))
    staged_is =
        ap (λ (b : List ℕ). written (end + 1) piece b) h.parts ∙ ap (λ (k : ℕ). written (k + 1) piece (front ++ h.gate ∷ h.rest)) h.place ∙ written_behind front h.gate h.rest piece
        ∙ ap (λ (l : List ℕ). front ++ h.gate ∷ l) (append_assoc (record_body slice) (0 ∷ []) (drop (length piece) h.rest))

    opened_parts : front ++ (1 ∷ (record_body slice ++ tail)) ≡ log_front namespace (h.records ++ slice ∷ []) ++ tail
    opened_parts = sym (append_assoc front (open_record slice) tail) ∙ ap (λ (l : List ℕ). l ++ tail) (sym (front_more namespace h.records slice))

    -- an open gate makes it count
    opened : HoldsRowsTo IsRow namespace (front ++ (1 ∷ (record_body slice ++ tail))) (before ++ slice) (end + 1 + length (record_body slice))
    opened = record {
      records = h.records ++ slice ∷ [];
      gate = 0;
      rest = drop (length piece) h.rest;
      parts = opened_parts;
      closed = omega arith;
      fit = All-append (IsRecord IsRow) h.records (slice ∷ []) h.fit (fits, tt);
      rows_are = ap (λ (l : List RowValue). l ++ slice) h.rows_are ∙ sym (rows_more h.records slice);
      place = omega (arith, h.place, ap length (front_more namespace h.records slice), length-append front (open_record slice));
    }

    any_gate : (gate : ℕ) → HoldsBeforeOrAfter IsRow namespace before slice (front ++ (gate ∷ (record_body slice ++ tail)))
    any_gate gate = elim (cases_eq gate 1) [
      | inl is_open ↦ inr (record { end = end + 1 + length (record_body slice); to = subst (λ (g : ℕ). HoldsRowsTo IsRow namespace (front ++ (g ∷ (record_body slice ++ tail))) (before ++ slice) (end + 1 + length (record_body slice))) (sym is_open) opened })
      | inr shut ↦ inl (record { end = end; to = to_front gate (record_body slice ++ tail) shut })
    ]

    -- the record stands whole in each outcome of the write over the gate
    pub gate_torn : (c : List ℕ) → IsTorn end 1 (written (end + 1) piece bytes) c → HoldsBeforeOrAfter IsRow namespace before slice c
    gate_torn c torn =
        let here : IsTorn (length front) 1 (front ++ (h.gate ∷ (record_body slice ++ tail))) c = subst (λ (k : ℕ). IsTorn k 1 (front ++ (h.gate ∷ (record_body slice ++ tail))) c) h.place (subst (λ (b : List ℕ). IsTorn end 1 b c) staged_is torn) in
        subst (HoldsBeforeOrAfter IsRow namespace before slice) (sym (torn_gate front h.gate (record_body slice ++ tail) c here)) (any_gate (get_or c (length front) 0))

    pub record_written : HoldsRowsTo IsRow namespace (written end (last_record slice) bytes) (before ++ slice) (end + 1 + length (record_body slice))
    record_written =
        let is : written end (last_record slice) bytes ≡ front ++ (1 ∷ (record_body slice ++ tail)) =
        ap (written end (last_record slice)) h.parts ∙ ap (λ (k : ℕ). written k (last_record slice) (front ++ h.gate ∷ h.rest)) h.place ∙ written_over front (last_record slice) (h.gate ∷ h.rest)
        ∙ ap (λ (l : List ℕ). front ++ l) (append_assoc (open_record slice) (0 ∷ []) (drop (length piece) h.rest)) in
        subst (λ (b : List ℕ). HoldsRowsTo IsRow namespace b (before ++ slice) (end + 1 + length (record_body slice))) (sym is) opened
