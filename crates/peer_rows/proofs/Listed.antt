-- The listing of the rows of an image in order, from what is live of their log.
use Rattle.std.proofs.Common.{◌≡◌, ℕ, ◌<◌, List, [], ◌∷◌, ◌++◌, map, length, Option, Some, None, inl, inr, refl, sym, ap, ◌∙◌, subst, arith}
use Rattle.std.specs.Prelude.{Result, Ok, Err}
use Rattle.std.specs.List.{flat_map}
use Rattle.std.specs.Borrow.{Bor}
use Rattle.std.proofs.lemmas.List.{length-map}
use Rattle.willow_outside.specs.Facts.{SourceFacts, SinkFacts}
use Rattle.willow_entry.specs.declared.entry.Entry.{Entry}
use Rattle.willow_entry.specs.Row.{RowValue}
use Rattle.lms_core.specs.Use.{peer_rules}
use Rattle.cap_codec.specs.Rows.{RawValue, row_of}
use Rattle.auth_entry.specs.Authorised.{AuthorisedValue, authorised}
use Rattle.peer_stage.specs.Stages.{IsInput, IsPartlyWritten, IsReadShort, IsReadWhole, ReadsInput}
use Rattle.peer_stage.specs.declared.stage.TheConstants.{INPUT_LIMIT}
use Rattle.peer_stage.specs.declared.outcome.JoinCounts.{JoinCounts}
use Rattle.peer_stage.specs.declared.outcome.Origin.TheVariants as origin
use Rattle.peer_stage.specs.declared.outcome.Stop.{Stop}
use Rattle.peer_stage.specs.declared.outcome.Stop.TheVariants as stop
use Rattle.peer_rows.proofs.AuthorisedRows.{authorised_live}
use Rattle.peer_rows.proofs.Taken.{taken_live}
use Rattle.peer_rows.proofs.Writing.{nothing_written, some_behind, writing_unpaid}
use Rattle.peer_listing.specs.Listing.{hex_text, listing_head, listing_line}
use Rattle.auth_entry.specs.Rows.{entry_row}
use Rattle.peer_rows.specs.Logged.{authorised_rows, live_rows, AreCounts}
use Rattle.peer_rows.specs.Opened.{LogsBytes}
use Rattle.peer_rows.specs.Parts.{IsLoggedImage}
use Rattle.peer_rows.specs.Show.{listing, asked_listing, AreShown, IsShownOf, ShowsInput}
use Rattle.peer_rows.specs.Listed.{log_listing, row_line, rows_listing, show_counts, shown, ShowsInputLog}
use Rattle.peer_rows.specs.declared.log.Log.{Log}

-- the lines of rows are those of what a store sees of them
lines_same : (rows : List RawValue) → flat_map (λ (r : RowValue). listing_line r.entry) (map row_of rows) ≡ flat_map (λ (r : RawValue). listing_line r.entry) rows
lines_same [] = refl
lines_same (r ∷ rows) = ap (λ text. listing_line r.entry ++ text) (lines_same rows)

rows_same : (n : List ℕ) (rows : List RawValue) → rows_listing n (authorised_rows n rows) ≡ listing n rows
rows_same n rows =
    ap (λ k. listing_head n k ++ flat_map (λ (r : RowValue). listing_line r.entry) (authorised_rows n rows)) (length-map (authorised peer_rules n rows) row_of)
    ∙ ap (λ text. listing_head n (length (authorised peer_rules n rows)) ++ text) (lines_same (authorised peer_rules n rows))

asked_same : (asked : Option ℕ) (n : List ℕ) (rows : List RawValue) → log_listing asked n (authorised_rows n rows) ≡ asked_listing asked n rows
asked_same None n rows = rows_same n rows
asked_same (Some most) n rows = refl

-- where all authorised rows are live, the listing of the log is that of the rows
pub log_listed : (asked : Option ℕ) (n m : List ℕ) (rows : List RawValue) (held : List RowValue) → m ≡ n → held ≡ authorised_rows n rows → log_listing asked m held ≡ asked_listing asked n rows
log_listed asked n m rows held same is = ap (λ k. log_listing asked k held) same ∙ ap (log_listing asked n) is ∙ asked_same asked n rows

pub are_shown : (n : List ℕ) (rows : List RawValue) (counts : JoinCounts) → AreCounts n rows counts → AreShown n rows (show_counts counts)
are_shown n rows counts is = record { all = is.all; refused = omega (arith, is.refused, length-map (authorised peer_rules n rows) row_of); first = is.first }

flat-map : {X : Type 0} (f : X → RowValue) (xs : List X) → flat_map (λ (r : RowValue). listing_line r.entry) (map f xs) ≡ flat_map (λ x. listing_line (f x).entry) xs
flat-map f [] = refl
flat-map f (x ∷ xs) = ap (λ text. listing_line (f x).entry ++ text) (flat-map f xs)

-- the lines of rows that are seen as these, and how many they are, are the listing of these
pub rows_text : {X : Type 0} (n : List ℕ) (f : X → RowValue) (xs : List X) (rows : List RowValue) (head lines : List ℕ) → map f xs ≡ rows
    → head ≡ listing_head n (length xs) → lines ≡ flat_map (λ x. listing_line (f x).entry) xs → head ++ lines ≡ rows_listing n rows
rows_text n f xs rows head lines same head_is lines_are =
    ap (λ h. h ++ lines) (head_is ∙ ap (listing_head n) (sym (length-map xs f) ∙ ap length same))
    ∙ ap (λ l. listing_head n (length rows) ++ l) (lines_are ∙ sym (flat-map f xs) ∙ ap (flat_map (λ (r : RowValue). listing_line r.entry)) same)

-- ---- nothing of it is empty

pub line_some : (e : Entry) → 0 < length (listing_line e)
line_some e = some_behind (hex_text e.subspace) _ (omega arith)

pub listing_some : (n : List ℕ) (rows : List RowValue) → 0 < length (rows_listing n rows)
listing_some n rows = omega arith

pub row_some : (row : Bor AuthorisedValue) → 0 < length (row_line row)
row_some row = line_some (entry_row row.now).entry

-- there was no memory to begin with
pub listing_unpaid : (output : SinkFacts) (n : List ℕ) (rows : List RowValue) → IsPartlyWritten output output (rows_listing n rows)
listing_unpaid output n rows = writing_unpaid output output (rows_listing n rows) [] (rows_listing n rows) (nothing_written output (rows_listing n rows) [] (rows_listing n rows) refl) (listing_some n rows)

-- ---- an image

module _ (asked : Option ℕ) where
  is_shown : (bytes : List ℕ) (log : Log) → IsLoggedImage bytes log → IsShownOf asked bytes (shown asked log).0 (shown asked log).1
  is_shown bytes log is =
      let n = log.kept.namespace in
      record {
        namespace = n;
        rows = is.rows;
        is_image = is.is_image.is_image;
        in_order = is.is_image.in_order;
        fits_log = is.whole.fits_log;
        counted = are_shown n is.rows log.counts is.whole.is_log.counted;
        is_listing = log_listed asked n n is.rows (live_rows log.kept) refl (taken_live entry_row (authorised_rows n is.rows) log.kept is.whole.is_log.taken ∙ authorised_live n is.rows is.is_image.in_order);
      }

  -- an input that is not read whole stops the showing
  pub reading_stops : (i i' : SourceFacts) (e : Stop) → (e ≡ stop.NoMemory → IsReadShort INPUT_LIMIT i i') → ReadsInput INPUT_LIMIT i i' (Err e) → ShowsInput asked i i' (Err e)
  reading_stops i i' stop.ReadFault short h = h
  reading_stops i i' (stop.BadInput from at) short (far, input, same) = ((far.0, inl (far.1, same)), input)
  reading_stops i i' stop.NoMemory short h = inl (short refl)
  reading_stops i i' e short h = absurd h

  -- else the log of its bytes decides
  pub log_shown : (i i' : SourceFacts) (bytes : List ℕ) (result : Result Log Stop) → IsReadWhole INPUT_LIMIT i i' bytes → LogsBytes origin.Input bytes result → ShowsInputLog asked i i' result
  log_shown i i' bytes (Ok log) read is = record { bytes = bytes; read = read; shown = is_shown bytes log is }
  log_shown i i' bytes (Err (stop.BadInput from at)) read (wrong, same) = ((bytes, inr (read, wrong)), subst IsInput (sym same) tt)
  log_shown i i' bytes (Err (stop.NotRising from row)) read (wrong, same) = ((bytes, read, wrong), subst IsInput (sym same) tt)
  log_shown i i' bytes (Err (stop.Pruned from row by)) read (wrong, same) = ((bytes, read, wrong), subst IsInput (sym same) tt)
  log_shown i i' bytes (Err stop.LogFull) read full = (bytes, read, full)
  log_shown i i' bytes (Err stop.NoMemory) read none = inr (bytes, read)
  log_shown i i' bytes (Err e) read h = absurd h
