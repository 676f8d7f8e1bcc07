-- What a box includes of rows in blocks, block by block.
use Rattle.std.proofs.Common.{◌≡◌, ◌⊎◌, ℕ, zero, suc, ◌+◌, ◌-◌, ◌≤◌, ◌<◌, Bool, true, false, List, [], ◌∷◌, ◌++◌, length, map, take, drop, get_or, slice_get, Some, refl, sym, ap, ◌∙◌, subst, append-nil, Less, nat_le, leb-true, arith}
use Rattle.std.specs.List.{All, AllByRecursion}
use Rattle.std.specs.List.Sorted.{IsStrictlySortedBy, IsPartitionPoint}
use Rattle.std.proofs.Math.Seq.{drop-append_seam}
use Rattle.std.proofs.lemmas.Bool.{both_ways, false≢true}
use Rattle.std.proofs.lemmas.List.{take_all}
use Rattle.std.proofs.lemmas.List.Elements.{filter-append, recursion_from_All}
use Rattle.lane_sum.specs.declared.lanes.Lanes.{Lanes}
use Rattle.willow_area.specs.Boxes.{Ranges, IsBox}
use Rattle.willow_area.specs.Times.{in_times}
use Rattle.willow_entry.specs.Row.{RowValue, IsRising, place_cmp}
use Rattle.block_store.specs.Blocks.{block_rows, block_values, index_of, IsSpot}
use Rattle.block_store.specs.BoxKinds.{HasAllPaths, HasAllTimes}
use Rattle.block_store.specs.BoxRuns.{AreAllIn, IsRunOf}
use Rattle.block_store.specs.Ends.{is_before_key}
use Rattle.block_store.specs.Held.{values_of}
use Rattle.block_store.specs.InBox.{is_in, rows_in}
use Rattle.block_store.specs.Times.{AreWritten}
use Rattle.block_store.specs.Leaves.{summary_of}
use Rattle.block_store.specs.Starts.{values_at}
use Rattle.block_store.specs.Summaries.{summaries_of}
use Rattle.block_store.specs.declared.block.Piece.{Piece}
use Rattle.block_store.specs.declared.reading.runs.Run.{Run}
use Rattle.block_store.specs.declared.looking.spot.Spot.{Spot}
use Rattle.block_store.proofs.Spans.{within_front, within_back, within_between, all_parts, filter_all, filter_none, front_items, back_items, cut_at, piece_more, piece_between}
use Rattle.block_store.proofs.Narrowing.{IsUpTo, up_to_at, one_namespace, between_in, times_between, key_start_first, key_before, key_behind, whole_inside}
use Rattle.block_store.proofs.Pieces.{values_long, values_seen}
use Rattle.block_store.proofs.Spots.{piece_some, starts_rise, spot_inside, spot_within}

-- the values of the first blocks, then those of the next
pub values_more : {R : Type 0} {b : _} (value : R → RowValue) (pieces : List (Piece R b)) (i : ℕ) (d : Piece R b) → i < length pieces → block_values value (take (i + 1) pieces) ≡ block_values value (take i pieces) ++ values_of value (get_or pieces i d).block.value.rows.items
values_more value pieces i d h = piece_more (λ p. values_of value p.block.value.rows.items) pieces i d h

-- ---- rising rows

rising_front : (xs ys : List RowValue) → IsRising (xs ++ ys) → IsRising xs
unfolding IsStrictlySortedBy
rising_front [] ys up = tt
rising_front (x ∷ xs) ys up = ((all_parts (λ s. place_cmp x s ≡ Less) xs ys up.0).0, rising_front xs ys up.1)

rising_back : (xs ys : List RowValue) → IsRising (xs ++ ys) → IsRising ys
unfolding IsStrictlySortedBy
rising_back [] ys up = up
rising_back (x ∷ xs) ys up = rising_back xs ys up.1

-- the rows of a block rise where all do
pub block_rises : {R : Type 0} {b : _} (value : R → RowValue) (pieces : List (Piece R b)) (i : ℕ) (d : Piece R b) → i < length pieces → IsRising (block_values value pieces) → IsRising (values_of value (get_or pieces i d).block.value.rows.items)
block_rises value pieces i d h up =
    let here = values_of value (get_or pieces i d).block.value.rows.items in
    let behind = block_values value (drop (i + 1) pieces) in
    rising_front here behind (rising_back (block_values value (take i pieces)) (here ++ behind) (subst IsRising (piece_between (λ p. values_of value p.block.value.rows.items) pieces i d h) up))

-- ---- runs

module _ {R : Type 0} {b : _} (value : R → RowValue) (area : Ranges) (pieces : List (Piece R b)) (run : Run) (is : IsRunOf value area pieces run) where
  abbrev test : RowValue → Bool
  test = is_in area

  abbrev seen : List RowValue
  seen = block_values value pieces

  abbrev start : ℕ → ℕ
  start i = length (block_values value (take i pieces))

  start_is : (i : ℕ) → start i ≡ length (block_rows (take i pieces))
  start_is i = values_long value (take i pieces)

  -- the blocks before the first spot's have no row in the box
  pub none_in_front : rows_in area (block_values value (take run.from.block pieces)) ≡ []
  none_in_front =
      let low : start run.from.block ≤ index_of pieces run.from = omega (arith, start_is run.from.block) in
      filter_none test (block_values value (take run.from.block pieces))
      (subst (AllByRecursion (λ r. test r ≡ false)) (front_items (λ p. values_of value p.block.value.rows.items) pieces run.from.block)
      (within_front (λ r. test r ≡ false) seen (start run.from.block) (λ k d le lt. is.between.before k d le (omega arith))))

  -- nor have those behind the second spot's
  pub all_in_front : (i : ℕ) → index_of pieces run.to ≤ length (block_rows (take i pieces)) → rows_in area (block_values value (take i pieces)) ≡ rows_in area seen
  all_in_front i h =
      let high : index_of pieces run.to ≤ start i = omega (arith, start_is i) in
      let none = filter_none test (block_values value (drop i pieces))
      (subst (AllByRecursion (λ r. test r ≡ false)) (back_items (λ p. values_of value p.block.value.rows.items) pieces i)
      (within_back (λ r. test r ≡ false) seen (start i) (λ k d le lt. is.between.behind k d (omega arith) lt))) in
      sym (ap (rows_in area) (cut_at (λ p. values_of value p.block.value.rows.items) pieces i)
      ∙ filter-append test (block_values value (take i pieces)) (block_values value (drop i pieces))
      ∙ ap (λ l. rows_in area (block_values value (take i pieces)) ++ l) none ∙ append-nil (rows_in area (block_values value (take i pieces))))

  -- of an exact run the blocks between those of its spots are in the box, with all their rows
  pub whole_between : (i : ℕ) (d : Piece R b) → run.exact ≡ true → run.from.block < i → i < run.to.block → rows_in area (values_of value (get_or pieces i d).block.value.rows.items) ≡ values_of value (get_or pieces i d).block.value.rows.items
  whole_between i d exact above below =
      let here = values_of value (get_or pieces i d).block.value.rows.items in
      let inside : i < length pieces = omega (arith, is.to_is.within) in
      let low : index_of pieces run.from ≤ start i = omega (arith, start_is i, spot_inside pieces run.from is.from_is (omega (arith, is.to_is.within)), starts_rise pieces (run.from.block + 1) i (omega arith)) in
      let high : start (i + 1) ≤ index_of pieces run.to = omega (arith, start_is (i + 1), starts_rise pieces (i + 1) run.to.block (omega arith)) in
      let rows : drop (start i) (take (start (i + 1)) seen) ≡ here =
      ap (drop (start i)) (front_items (λ p. values_of value p.block.value.rows.items) pieces (i + 1) ∙ values_more value pieces i d inside)
      ∙ drop-append_seam (block_values value (take i pieces)) here in
      filter_all test here (subst (AllByRecursion (λ r. test r ≡ true)) rows
      (within_between (λ r. test r ≡ true) seen (start i) (start (i + 1)) (λ k e le lt. is.all_in exact k e (omega arith) (omega arith))))

-- ---- rows and their values

some_at : {X Y : Type 0} (f : X → Y) (xs : List X) (i : ℕ) (x : X) (d : Y) → slice_get xs i ≡ Some x → get_or (map f xs) i d ≡ f x
some_at f [] i x d e = absurd cc
some_at f (y ∷ xs) zero x d e = let same : y ≡ x = cc in ap f same
some_at f (y ∷ xs) (suc i) x d e = some_at f xs i x d e

pub read_at : {R : Type 0} {b : _} (value : R → RowValue) (pieces : List (Piece R b)) (i : ℕ) (row : R) (d : RowValue) → slice_get (block_rows pieces) i ≡ Some row → get_or (block_values value pieces) i d ≡ value row
read_at value pieces i row d e = ap (λ l. get_or l i d) (sym (values_seen value pieces)) ∙ some_at value (block_rows pieces) i row d e

-- ---- runs by tests

-- where the rows that pass one test end no later than those that pass a test that is passed where the first is
points_rise : (rows : List RowValue) (low high : RowValue → Bool) (i j : ℕ) (d : RowValue) → IsPartitionPoint (λ r. low r ≡ true) (λ r. low r ≡ false) rows i → IsPartitionPoint (λ r. high r ≡ true) (λ r. high r ≡ false) rows j
    → i ≤ length rows → ((r : RowValue) → low r ≡ true → high r ≡ true) → i ≤ j
points_rise rows low high i j d p q within up = go (nat_le i j) refl where
  go : (b : Bool) → nat_le i j ≡ b → i ≤ j
  go true e = leb-true i j e
  go false e =
      let lt : j < i = above i j e in
      absurd (both_ways (high (get_or rows j d)) (q.1 j d (omega arith) (omega arith)) (up (get_or rows j d) (p.0 j d (omega arith) lt)))
    where
      above : (m n : ℕ) → nat_le m n ≡ false → n < m
      above m n e = grind arith

module _ {R : Type 0} {b : _} (value : R → RowValue) (area : Ranges) (pieces : List (Piece R b)) where
  pub whole_run : (from to : Spot) → from.block ≡ 0 → from.row ≡ 0 → to.block ≡ length pieces → to.row ≡ 0 → IsRunOf value area pieces (record { from = from; to = to; exact = false })
  whole_run from to a z n m =
      let all : length (block_rows (take to.block pieces)) ≡ length (block_rows pieces) = ap (λ l. length (block_rows l)) (take_all to.block pieces (omega (arith, n))) in
      let none : length (block_rows (take from.block pieces)) ≡ 0 = ap (λ k. length (block_rows (take k pieces))) a in
      let long = values_long value pieces in
      record {
        from_is = record { within = omega (arith, a); row = λ p h. omega (arith, z, piece_some (get_or pieces from.block p)); end = λ _. z };
        to_is = record { within = omega (arith, n); row = λ p h. absurd (omega (arith, n)); end = λ _. m };
        between = record {
          order = omega (arith, all, none, z, m);
          within = omega (arith, all, m, long);
          before = λ k d le lt. absurd (omega (arith, none, z));
          behind = λ k d le lt. absurd (omega (arith, all, m, long));
        };
        all_in = λ e. absurd (false≢true e);
      }

  pub run_by_tests : (from to : Spot) (exact : Bool) (low high : RowValue → Bool) → IsSpot pieces from → IsSpot pieces to
      → IsPartitionPoint (λ r. low r ≡ true) (λ r. low r ≡ false) (block_values value pieces) (index_of pieces from)
      → IsPartitionPoint (λ r. high r ≡ true) (λ r. high r ≡ false) (block_values value pieces) (index_of pieces to)
      → ((r : RowValue) → low r ≡ true → high r ≡ true)
      → All (λ r. (low r ≡ true → is_in area r ≡ false) × (high r ≡ false → is_in area r ≡ false)) (block_values value pieces)
      → (exact ≡ true → AreAllIn area (block_values value pieces) (index_of pieces from) (index_of pieces to))
      → IsRunOf value area pieces (record { from = from; to = to; exact = exact })
  run_by_tests from to exact low high from_is to_is p q up outside inside =
      let long = values_long value pieces in
      let first : index_of pieces from ≤ length (block_values value pieces) = omega (arith, long, spot_within pieces from from_is) in
      let last : index_of pieces to ≤ length (block_values value pieces) = omega (arith, long, spot_within pieces to to_is) in
      record {
        from_is = from_is;
        to_is = to_is;
        between = record {
          order = rises (block_values value pieces) first p q;
          within = last;
          before = λ k d le lt. (outside k d (omega arith)).0 (p.0 k d le lt);
          behind = λ k d le lt. (outside k d lt).1 (q.1 k d le lt);
        };
        all_in = inside;
      }
    where
      rises : (rows : List RowValue) → index_of pieces from ≤ length rows → IsPartitionPoint (λ r. low r ≡ true) (λ r. low r ≡ false) rows (index_of pieces from) → IsPartitionPoint (λ r. high r ≡ true) (λ r. high r ≡ false) rows (index_of pieces to) → index_of pieces from ≤ index_of pieces to
      rises [] h p q = omega arith
      rises (r ∷ rows) h p q = points_rise (r ∷ rows) low high (index_of pieces from) (index_of pieces to) r p q h up

  -- the same by the ends of the box's keys
  module _ (from to : Spot) (exact : Bool) (from_is : IsSpot pieces from) (to_is : IsSpot pieces to)
      (low : IsPartitionPoint (λ r. is_before_key (Some area.keys.start) r ≡ true) (λ r. is_before_key (Some area.keys.start) r ≡ false) (block_values value pieces) (index_of pieces from))
      (high : IsPartitionPoint (λ r. is_before_key area.keys.end r ≡ true) (λ r. is_before_key area.keys.end r ≡ false) (block_values value pieces) (index_of pieces to)) where
    pub run_by_keys : IsBox area → (exact ≡ true → AreAllIn area (block_values value pieces) (index_of pieces from) (index_of pieces to)) → IsRunOf value area pieces (record { from = from; to = to; exact = exact })
    run_by_keys box inside =
        run_by_tests from to exact (is_before_key (Some area.keys.start)) (is_before_key area.keys.end) from_is to_is low high
        (λ r h. key_start_first area.keys.start area.keys.end r box.keys_rise h)
        (λ k d lt. (key_before area (get_or (block_values value pieces) k d), key_behind area (get_or (block_values value pieces) k d))) inside

    pub all_of_keys : HasAllTimes area → HasAllPaths area → AreAllIn area (block_values value pieces) (index_of pieces from) (index_of pieces to)
    all_of_keys times paths k d le lt =
        whole_inside area (get_or (block_values value pieces) k d) times paths
        (low.1 k d le (omega (arith, values_long value pieces, spot_within pieces to to_is))) (high.0 k d (omega arith) lt)

-- rising rows between two that are in the box are in it, in one namespace, where they were written within its times and the two are of one subspace or no path is outside
pub lies_within : (rows : List RowValue) (area : Ranges) (first last : RowValue) (earliest latest : ℕ) → IsRising rows → 0 < length rows → ((d : RowValue) → get_or rows 0 d ≡ first) → ((d : RowValue) → get_or rows (length rows - 1) d ≡ last)
    → AreWritten earliest latest rows → in_times area.times earliest ≡ true → in_times area.times latest ≡ true → first.entry.namespace ≡ last.entry.namespace → is_in area first ≡ true → is_in area last ≡ true
    → (first.entry.subspace ≡ last.entry.subspace) ⊎ HasAllPaths area → rows_in area rows ≡ rows
lies_within rows area first last earliest latest up some a z written early late same low high paths =
    let one = one_namespace rows first up (ap (λ r. r.entry.namespace) (a first) ∙ same ∙ ap (λ r. r.entry.namespace) (sym (z first))) in
    filter_all (is_in area) rows (recursion_from_All (λ r. is_in area r ≡ true) rows (λ k d lt.
    let r = get_or rows k d in
    let w = written k d lt in
    between_in area first r last
    (subst (λ s. IsUpTo s r) (a d) (up_to_at rows up one 0 k d (omega arith) lt))
    (subst (λ s. IsUpTo r s) (z d) (up_to_at rows up one k (length rows - 1) d (omega arith) (omega arith)))
    low high (times_between area.times earliest r.entry.timestamp latest early late w.0 w.1) paths))

-- ---- the rows of one block

pub at_is : {R : Type 0} {b : _} (value : R → RowValue) (pieces : List (Piece R b)) (i : ℕ) (d : Piece R b) → i < length pieces → values_at value pieces i ≡ values_of value (get_or pieces i d).block.value.rows.items
at_is value [] i d h = absurd (omega arith)
at_is value (p ∷ pieces) zero d h = append-nil (values_of value p.block.value.rows.items)
at_is value (p ∷ pieces) (suc i) d h = at_is value pieces i d (omega arith)

pub read_is : {R : Type 0} {b : _} (value : R → RowValue) (pieces : List (Piece R b)) (i : ℕ) (p : Piece R b) → i < length pieces → p ≡ get_or pieces i p → values_of value p.block.value.rows.items ≡ values_at value pieces i
read_is value pieces i p h e = ap (λ q. values_of value q.block.value.rows.items) e ∙ sym (at_is value pieces i p h)

-- the rows of a block rise where all do
pub at_rises : {R : Type 0} {b : _} (value : R → RowValue) (pieces : List (Piece R b)) (i : ℕ) → i < length pieces → IsRising (block_values value pieces) → IsRising (values_at value pieces i)
at_rises value [] i h up = absurd (omega arith)
at_rises value (p ∷ pieces) i h up = subst IsRising (sym (at_is value (p ∷ pieces) i p h)) (block_rises value (p ∷ pieces) i p h up)

-- what is kept of a block
pub summary_at : {R : Type 0} {b : _} (value : R → RowValue) (pieces : List (Piece R b)) (i : ℕ) (p : Piece R b) (x : Lanes × List Lanes) → i < length pieces → x ≡ get_or (summaries_of value pieces) i x → x ≡ summary_of (values_of value (get_or pieces i p).block.value.rows.items)
summary_at value [] i p x h e = absurd (omega arith)
summary_at value (q ∷ pieces) zero p x h e = e
summary_at value (q ∷ pieces) (suc i) p x h e = summary_at value pieces i p x (omega arith) e

pub summary_at_is : {R : Type 0} {b : _} (value : R → RowValue) (pieces : List (Piece R b)) (i : ℕ) (x : Lanes × List Lanes) → i < length pieces → x ≡ get_or (summaries_of value pieces) i x → x ≡ summary_of (values_at value pieces i)
summary_at_is value [] i x h e = absurd (omega arith)
summary_at_is value (p ∷ pieces) i x h e = summary_at value (p ∷ pieces) i p x h e ∙ ap summary_of (sym (at_is value (p ∷ pieces) i p h))

-- the values of the first blocks, then those of the next, then those behind
pub at_more : {R : Type 0} {b : _} (value : R → RowValue) (pieces : List (Piece R b)) (i : ℕ) → i < length pieces → block_values value (take (i + 1) pieces) ≡ block_values value (take i pieces) ++ values_at value pieces i
at_more value [] i h = absurd (omega arith)
at_more value (p ∷ pieces) i h = values_more value (p ∷ pieces) i p h ∙ ap (λ l. block_values value (take i (p ∷ pieces)) ++ l) (sym (at_is value (p ∷ pieces) i p h))

pub at_between : {R : Type 0} {b : _} (value : R → RowValue) (pieces : List (Piece R b)) (i : ℕ) → i < length pieces → block_values value pieces ≡ block_values value (take i pieces) ++ (values_at value pieces i ++ block_values value (drop (i + 1) pieces))
at_between value [] i h = absurd (omega arith)
at_between value (p ∷ pieces) i h =
    piece_between (λ q. values_of value q.block.value.rows.items) (p ∷ pieces) i p h
    ∙ ap (λ l. block_values value (take i (p ∷ pieces)) ++ (l ++ block_values value (drop (i + 1) (p ∷ pieces)))) (sym (at_is value (p ∷ pieces) i p h))

-- what a box includes of one block more
pub in_more : {R : Type 0} {b : _} (value : R → RowValue) (area : Ranges) (pieces : List (Piece R b)) (i : ℕ) → i < length pieces → rows_in area (block_values value (take (i + 1) pieces)) ≡ rows_in area (block_values value (take i pieces)) ++ rows_in area (values_at value pieces i)
in_more value area pieces i h =
    ap (rows_in area) (at_more value pieces i h) ∙ filter-append (is_in area) (block_values value (take i pieces)) (values_at value pieces i)

-- the blocks between those of the spots of an exact run are in the box, with all their rows
pub at_whole : {R : Type 0} {b : _} (value : R → RowValue) (area : Ranges) (pieces : List (Piece R b)) (run : Run) → IsRunOf value area pieces run → (i : ℕ) → i < length pieces → run.exact ≡ true → run.from.block < i → i < run.to.block → rows_in area (values_at value pieces i) ≡ values_at value pieces i
at_whole value area [] run is i h exact above below = absurd (omega arith)
at_whole value area (p ∷ pieces) run is i h exact above below =
    let at = at_is value (p ∷ pieces) i p h in
    ap (rows_in area) at ∙ whole_between value area (p ∷ pieces) run is i p exact above below ∙ sym at
