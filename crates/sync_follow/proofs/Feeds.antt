-- Feeds are read as what they spell, and what is read whole is a feed.
use Rattle.std.proofs.Common.{◌≡◌, ℕ, zero, suc, ◌+◌, ◌<◌, ◌≤◌, Bool, true, false, cond, List, [], ◌∷◌, ◌++◌, length, Option, Some, None, refl, sym, ap, ◌∙◌, subst, arith, append_assoc, length-append}
use Rattle.std.specs.List.{AllByRecursion, flat_map}
use Rattle.std.proofs.lemmas.List.Elements.{All-from_recursion, recursion_from_All}
use Rattle.spelling.specs.Front.{Front}
use Rattle.spelling.specs.Front as front
use Rattle.spelling.specs.Form.{AreBytes}
use Rattle.spelling.specs.Spelling.{text_spelling}
use Rattle.std.specs.Int.{w32, to_be_bytes}
use Rattle.willow_area.specs.declared.area.Area.{Area}
use Rattle.willow_entry.specs.Frame.{HasFrame}
use Rattle.willow_entry.specs.Row.{RowValue}
use Rattle.willow_entry.specs.declared.frame.TheConstants.{MAX_FRAME}
use Rattle.cap_codec.specs.Rows.{IsRawRow}
use Rattle.ns_state.specs.declared.live_log.TheConstants.{LOG_LIMIT}
use Rattle.sync_msg.specs.declared.refusal.CoreRefusal.{CoreRefusal}
use Rattle.sync_msg.specs.declared.refusal.CoreRefusal.TheVariants.{EntryOutside}
use Rattle.session_rules.specs.Machine.{Step, Goes, Refuses}
use Rattle.session_rules.specs.Reading.{Stand, Waits, Over, Broken, Refused, Move, then, stay, stepped, move, run, read, ending_of, Done}
use Rattle.session_rules.proofs.Growing.{read_part}
use Rattle.session_rules.proofs.Runs.{run_append, run_idle}
use Rattle.session_rules.proofs.Spelled.{read_due}
use Rattle.row_intake.proofs.Fronts.{body_back}
use Rattle.row_intake.proofs.Moves.{read_wrong}
use Rattle.sync_follow.specs.Feeds.{has_entry, fed_row, feed_end, feed_spelling}
use Rattle.sync_follow.specs.Grammar.{FeedText, Body, Stop, FeedMessage, FedRow, FeedEnd, text_in_feed, message_of}
use Rattle.sync_follow.specs.Following.{feed_of, feed_ending, rows_fed}
use Rattle.sync_follow.specs.FeedLaws.{AreFit, FeedsAreRead, IsWhole, WholeFeedsAreFeeds}
use Rattle.sync_follow.proofs.Grammar.{row_as, end_as, part_found, wrong_found, none_found, row_room, text_taken}

abbrev quiet : Stand ℕ CoreRefusal → List RowValue → Move ℕ FeedMessage RowValue CoreRefusal
quiet to rows = record { stand = to; says = []; rows = rows }

-- what comes of a row by whether the area includes its entry
abbrev row_step : ℕ → RowValue → Bool → Step ℕ FeedMessage RowValue CoreRefusal
row_step count row b = cond b (Goes (count + 1) [] (row ∷ [])) (Refuses EntryOutside)

-- a row that a feed may have, whose entry the area includes
pub record IsFedRow (area : Area) (row : RowValue) : Type 0 where
  pub read_out : IsRawRow row
  pub framed : HasFrame row
  pub inside : has_entry area row ≡ true

module _ (area : Area) where
  -- ---- what is spelled is read

  one_read : (count at : ℕ) (row : RowValue) → IsFedRow area row → count < LOG_LIMIT → read (feed_of area) (Waits count at []) (fed_row row) ≡ quiet (Waits (count + 1) (at + length (fed_row row)) []) (row ∷ [])
  one_read count at row f room =
      let is = row_as count row f.read_out f.framed room in
      read_due (feed_of area) count at (FedRow row) (fed_row row) is [] (fed_row row) refl is.some_bytes
      ∙ ap (λ b. stepped (at + length (fed_row row)) (row_step count row b)) f.inside

  end_read : (count at : ℕ) → read (feed_of area) (Waits count at []) (feed_end count) ≡ quiet Over []
  end_read count at = let is = end_as count in read_due (feed_of area) count at FeedEnd (feed_end count) is [] (feed_end count) refl is.some_bytes

  all_read : (count at : ℕ) (rows : List RowValue) → AllByRecursion (IsFedRow area) rows → count + length rows ≤ LOG_LIMIT
      → read (feed_of area) (Waits count at []) (flat_map fed_row rows ++ feed_end (count + length rows)) ≡ quiet Over rows
  all_read count at [] f few = ap (λ n. read (feed_of area) (Waits count at []) (feed_end n)) (omega arith) ∙ end_read count at
  all_read count at (row ∷ rows) f few =
      let end = feed_end (count + length (row ∷ rows)) in
      let rest = flat_map fed_row rows ++ feed_end (count + 1 + length rows) in
      let at' = at + length (fed_row row) in
      let split : flat_map fed_row (row ∷ rows) ++ end ≡ fed_row row ++ rest =
      append_assoc (fed_row row) (flat_map fed_row rows) end ∙ ap (λ n. fed_row row ++ (flat_map fed_row rows ++ feed_end n)) (omega arith) in
      ap (read (feed_of area) (Waits count at [])) split
      ∙ run_append (move (feed_of area)) (Waits count at []) (fed_row row) rest
      ∙ ap (λ m. then m (read (feed_of area) m.stand rest)) (one_read count at row f.0 (omega (arith, few)))
      ∙ ap (then (quiet (Waits (count + 1) at' []) (row ∷ []))) (all_read (count + 1) at' rows f.1 (omega (arith, few)))

  fits_each : (rows : List RowValue) → AllByRecursion IsRawRow rows → AllByRecursion HasFrame rows → AllByRecursion (λ row. has_entry area row ≡ true) rows → AllByRecursion (IsFedRow area) rows
  fits_each [] a b c = tt
  fits_each (row ∷ rows) a b c = (record { read_out = a.0; framed = b.0; inside = c.0 }, fits_each rows a.1 b.1 c.1)

  pub feed_read : (rows : List RowValue) → AreFit area rows → read (feed_of area) (Waits 0 0 []) (feed_spelling rows) ≡ quiet Over rows
  feed_read rows f =
      ap (λ n. read (feed_of area) (Waits 0 0 []) (flat_map fed_row rows ++ feed_end n)) (omega arith)
      ∙ all_read 0 0 rows
      (fits_each rows (recursion_from_All IsRawRow rows f.read_out) (recursion_from_All HasFrame rows f.framed) (recursion_from_All (λ row. has_entry area row ≡ true) rows f.inside))
      (omega (arith, f.few))

  -- ---- what is read whole was spelled

  record IsWholeFrom (count : ℕ) (bytes : List ℕ) (rows : List RowValue) : Type 0 where
    fit : AllByRecursion (IsFedRow area) rows
    few : count + length rows ≤ LOG_LIMIT
    rest : List ℕ
    parts : bytes ≡ (flat_map fed_row rows ++ feed_end (count + length rows)) ++ rest

  abbrev Claim : ℕ → List ℕ → Move ℕ FeedMessage RowValue CoreRefusal → Type 0
  Claim count bytes m = m.stand ≡ Over → IsWholeFrom count bytes m.rows

  not_waits : (s at : ℕ) (held : List ℕ) → ◌≡◌ {A = Stand ℕ CoreRefusal} (Waits s at held) Over → ⊥
  not_waits s at held e = cc

  not_broken : (at : ℕ) → ◌≡◌ {A = Stand ℕ CoreRefusal} (Broken at) Over → ⊥
  not_broken at e = cc

  not_refused : (cause : CoreRefusal) → ◌≡◌ {A = Stand ℕ CoreRefusal} (Refused cause) Over → ⊥
  not_refused cause e = cc

  ended : (count : ℕ) (bytes rest : List ℕ) → count ≤ LOG_LIMIT → bytes ≡ feed_end count ++ rest → IsWholeFrom count bytes []
  ended count bytes rest few parts = record {
    fit = tt;
    few = omega (arith, few);
    rest = rest;
    parts = parts ∙ ap (λ n. feed_end n ++ rest) (omega arith);
  }

  more_whole : (count : ℕ) (bytes rest : List ℕ) (row : RowValue) (rows : List RowValue) → IsFedRow area row → bytes ≡ fed_row row ++ rest → IsWholeFrom (count + 1) rest rows → IsWholeFrom count bytes (row ∷ rows)
  more_whole count bytes rest row rows f parts w = record {
    fit = (f, w.fit);
    few = omega (arith, w.few);
    rest = w.rest;
    parts =
        let now = flat_map fed_row rows ++ feed_end (count + 1 + length rows) in
        parts
        ∙ ap (λ l. fed_row row ++ l) w.parts
        ∙ sym (append_assoc (fed_row row) now w.rest)
        ∙ ap (λ l. l ++ w.rest) (sym (append_assoc (fed_row row) (flat_map fed_row rows) (feed_end (count + 1 + length rows))) ∙ ap (λ n. (fed_row row ++ flat_map fed_row rows) ++ feed_end n) (omega arith));
  }

  module _ (n count at : ℕ) (bytes : List ℕ) (are : AreBytes bytes) (le : length bytes ≤ suc n) (few : count ≤ LOG_LIMIT)
      (later : (count at : ℕ) (bytes : List ℕ) → AreBytes bytes → length bytes ≤ n → count ≤ LOG_LIMIT → Claim count bytes (read (feed_of area) (Waits count at []) bytes)) where
    by : (m : Move ℕ FeedMessage RowValue CoreRefusal) → read (feed_of area) (Waits count at []) bytes ≡ m → Claim count bytes m → Claim count bytes (read (feed_of area) (Waits count at []) bytes)
    by m e claim = subst (Claim count bytes) (sym e) claim

    module _ (rest : List ℕ) (row : RowValue) (f : IsRawRow row) (framed : HasFrame row) (room : count < LOG_LIMIT) (parts : bytes ≡ fed_row row ++ rest) (rest_are : AreBytes rest) where
      split : read (feed_of area) (Waits count at []) bytes ≡ then (stepped (at + length (fed_row row)) (row_step count row (has_entry area row))) (read (feed_of area) (stepped (at + length (fed_row row)) (row_step count row (has_entry area row))).stand rest)
      split =
          let is = row_as count row f framed room in
          ap (read (feed_of area) (Waits count at [])) parts
          ∙ run_append (move (feed_of area)) (Waits count at []) (fed_row row) rest
          ∙ ap (λ m. then m (read (feed_of area) m.stand rest)) (read_due (feed_of area) count at (FedRow row) (fed_row row) is [] (fed_row row) refl is.some_bytes)

      behind : Bool → Move ℕ FeedMessage RowValue CoreRefusal
      behind b =
          let m = stepped (at + length (fed_row row)) (row_step count row b) in
          then m (read (feed_of area) m.stand rest)

      by_inside : (b : Bool) → has_entry area row ≡ b → Claim count bytes (behind b)
      unfolding behind
      by_inside true is over =
          more_whole count bytes rest row (read (feed_of area) (Waits (count + 1) (at + length (fed_row row)) []) rest).rows (record { read_out = f; framed = framed; inside = is }) parts
          (later (count + 1) (at + length (fed_row row)) rest rest_are (omega (arith, le, ap length parts, length-append (fed_row row) rest)) (omega (arith, room)) over)
      by_inside false is over =
          absurd (not_refused EntryOutside (sym (ap (λ m. m.stand) (run_idle (move (feed_of area)) (Refused EntryOutside) (λ b. refl) rest)) ∙ over))

      row_whole : Claim count bytes (read (feed_of area) (Waits count at []) bytes)
      unfolding behind
      row_whole = by (behind (has_entry area row)) split (by_inside (has_entry area row) refl)

    by_message : (body rest : List ℕ) → text_in_feed count bytes ≡ front.Whole (Body body) rest → (o : Option FeedMessage) → message_of (Body body) ≡ o → Claim count bytes (read (feed_of area) (Waits count at []) bytes)
    by_message body rest whole None is = by (stay (Broken at)) (read_wrong (feed_of area) count at [] bytes (none_found count bytes are (Body body) rest whole is)) (λ over. absurd (not_broken at over))
    by_message body rest whole (Some m) is =
        let t = text_taken count bytes are (Body body) rest whole in
        let b = body_back FedRow body m t.fits.1.1.1.1 is in
        row_whole rest b.0 b.1 (subst (λ l. length l ≤ MAX_FRAME) b.2 t.fits.1.1.1.0) (row_room count bytes are body rest whole) (t.parts ∙ ap (λ l. (10 ∷ text_spelling (to_be_bytes w32) l) ++ rest) b.2) t.rest_are

    by_front : (f : Front FeedText) → text_in_feed count bytes ≡ f → Claim count bytes (read (feed_of area) (Waits count at []) bytes)
    by_front (front.Whole (Body body) rest) is = by_message body rest is (message_of (Body body)) refl
    by_front (front.Whole Stop rest) is =
        let t = text_taken count bytes are Stop rest is in
        by (then (quiet Over []) (read (feed_of area) Over rest))
        (ap (read (feed_of area) (Waits count at [])) t.parts
        ∙ run_append (move (feed_of area)) (Waits count at []) (feed_end count) rest
        ∙ ap (λ m. then m (read (feed_of area) m.stand rest)) (end_read count at))
        (λ over. subst (λ m. IsWholeFrom count bytes (then (quiet Over []) m).rows) (sym (run_idle (move (feed_of area)) Over (λ b. refl) rest)) (ended count bytes rest few t.parts))
    by_front front.Part is = by (stay (Waits count at bytes)) (read_part (feed_of area) count at [] bytes (part_found count bytes is)) (λ over. absurd (not_waits count at bytes over))
    by_front front.Wrong is = by (stay (Broken at)) (read_wrong (feed_of area) count at [] bytes (wrong_found count bytes are is)) (λ over. absurd (not_broken at over))

  whole_by : (n count at : ℕ) (bytes : List ℕ) → AreBytes bytes → length bytes ≤ n → count ≤ LOG_LIMIT → Claim count bytes (read (feed_of area) (Waits count at []) bytes)
  unfolding run
  whole_by zero count at [] are le few = λ over. absurd (not_waits count at [] over)
  whole_by zero count at (byte ∷ bytes) are le few = absurd (omega (arith, le))
  whole_by (suc n) count at bytes are le few = by_front n count at bytes are le few (whole_by n) (text_in_feed count bytes) refl

  raw_each : (rows : List RowValue) → AllByRecursion (IsFedRow area) rows → AllByRecursion IsRawRow rows
  raw_each [] f = tt
  raw_each (row ∷ rows) f = (f.0.read_out, raw_each rows f.1)

  framed_each : (rows : List RowValue) → AllByRecursion (IsFedRow area) rows → AllByRecursion HasFrame rows
  framed_each [] f = tt
  framed_each (row ∷ rows) f = (f.0.framed, framed_each rows f.1)

  inside_each : (rows : List RowValue) → AllByRecursion (IsFedRow area) rows → AllByRecursion (λ row. has_entry area row ≡ true) rows
  inside_each [] f = tt
  inside_each (row ∷ rows) f = (f.0.inside, inside_each rows f.1)

  over_of : (q : Stand ℕ CoreRefusal) → ending_of q ≡ Done → q ≡ Over
  over_of (Waits s at held) e = cc
  over_of Over e = refl
  over_of (Broken at) e = cc
  over_of (Refused cause) e = cc

  pub whole_feed : (bytes : List ℕ) → AreBytes bytes → feed_ending area bytes ≡ Done → IsWhole area bytes
  whole_feed bytes are done =
      let rows = rows_fed area bytes in
      let w = whole_by (length bytes) 0 0 bytes are (omega arith) (omega arith) (over_of (read (feed_of area) (Waits 0 0 []) bytes).stand done) in
      record {
        fit = record {
          read_out = All-from_recursion IsRawRow rows (raw_each rows w.fit);
          framed = All-from_recursion HasFrame rows (framed_each rows w.fit);
          inside = All-from_recursion (λ row. has_entry area row ≡ true) rows (inside_each rows w.fit);
          few = omega (arith, w.few);
        };
        rest = w.rest;
        parts = w.parts ∙ ap (λ n. (flat_map fed_row rows ++ feed_end n) ++ w.rest) (omega arith);
      }

pub feeds_are_read : FeedsAreRead
feeds_are_read area rows f = let e = feed_read area rows f in (ap (λ m. flat_map (feed_of area).spelling m.says) e, ap (λ m. m.rows) e, ap (λ m. ending_of m.stand) e)

pub whole_feeds_are_feeds : WholeFeedsAreFeeds
whole_feeds_are_feeds area bytes are done = whole_feed area bytes are done
