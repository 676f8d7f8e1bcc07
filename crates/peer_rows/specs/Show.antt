-- What `show` does: the listing of the authorised rows of the image that the input is.
use Rattle.std.specs.Prelude.{◌≡◌, ℕ, ◌+◌, ◌⊎◌, List, ◌++◌, length, map, take, Option, Some, None, Result, Ok, Err}
use Rattle.std.specs.List.{flat_map}
use Rattle.willow_outside.specs.Facts.{SourceFacts}
use Rattle.lms_core.specs.Use.{peer_rules}
use Rattle.willow_entry.specs.Row.{RowValue}
use Rattle.recency_index.specs.Rows.{newest_rows}
use Rattle.cap_codec.specs.Rows.{RawValue, row_of}
use Rattle.auth_entry.specs.Authorised.{authorised}
use Rattle.peer_listing.specs.Listing.{listing_head, listing_line}
use Rattle.peer_image.specs.ImageReading.{IsImage, IsWrong, IsMisordered}
use Rattle.peer_image.specs.Order.{order_refusal}
use Rattle.peer_image.specs.declared.refusal.ImageRefusal.{ImageRefusal}
use Rattle.peer_image.specs.declared.refusal.ImageRefusal.TheVariants as refusal
use Rattle.peer_rows.specs.Logged.{authorised_rows, first_refused, FitsLog, PassesLog}
use Rattle.peer_stage.specs.Steps.{Step, Then, OnInput, OnOutput}
use Rattle.peer_stage.specs.Stages.{IsInput, IsReadWhole, IsReadTooFar, IsReadToFault, IsReadShort, Writes}
use Rattle.peer_stage.specs.declared.stage.TheConstants.{INPUT_LIMIT}
use Rattle.peer_stage.specs.declared.outcome.ShowCounts.{ShowCounts}
use Rattle.peer_stage.specs.declared.outcome.Done.{Done}
use Rattle.peer_stage.specs.declared.outcome.Done.TheVariants as done
use Rattle.peer_stage.specs.declared.outcome.Stop.{Stop}
use Rattle.peer_stage.specs.declared.outcome.Stop.TheVariants as stop

-- ---- listings

-- the lines of the rows that are authorised in the namespace, in order
abbrev pub listing_lines : List ℕ → List RawValue → List ℕ
listing_lines n rows = flat_map (λ r. listing_line r.entry) (authorised peer_rules n rows)

-- the head, which counts the rows that are authorised in the namespace, and the lines of these in order
abbrev pub listing : List ℕ → List RawValue → List ℕ
listing n rows = listing_head n (length (authorised peer_rules n rows)) ++ listing_lines n rows

-- the rows that are authorised in the namespace: the first so many by recency, or all where there are fewer
abbrev pub newest_authorised : ℕ → List ℕ → List RawValue → List RowValue
newest_authorised most n rows = take most (newest_rows (authorised_rows n rows))

-- the head, which counts the lines behind it, and the lines of the newest rows, the most recent first
abbrev pub newest_listing : ℕ → List ℕ → List RawValue → List ℕ
newest_listing most n rows = listing_head n (length (newest_authorised most n rows)) ++ flat_map (λ r. listing_line r.entry) (newest_authorised most n rows)

-- the listing that is asked for: of so many of the newest rows, or of all
abbrev pub asked_listing : Option ℕ → List ℕ → List RawValue → List ℕ
asked_listing None n rows = listing n rows
asked_listing (Some most) n rows = newest_listing most n rows

-- the report's numbers: every row, those that are not authorised, and the first of these
pub record AreShown (namespace : List ℕ) (rows : List RawValue) (counts : ShowCounts) : Type 0 where
  pub all : counts.rows ≡ length rows
  pub refused : length (authorised peer_rules namespace rows) + counts.refused ≡ length rows
  pub first : counts.first ≡ first_refused namespace rows

-- ---- over bytes

-- The bytes are an image of rows in order, whose listing is this text, with these numbers. Each row that would be stored
-- found room.
pub record IsShownOf (asked : Option ℕ) (bytes text : List ℕ) (counts : ShowCounts) : Type 0 where
  pub namespace : List ℕ
  pub rows : List RawValue
  pub is_image : IsImage bytes namespace rows
  pub in_order : order_refusal (map row_of rows) ≡ None
  pub fits_log : FitsLog namespace rows
  pub counted : AreShown namespace rows counts
  pub is_listing : text ≡ asked_listing asked namespace rows

-- the bytes are an image of rows in order, of which one too many would be stored
pub record IsFullImage (bytes : List ℕ) : Type 0 where
  pub namespace : List ℕ
  pub rows : List RawValue
  pub is_image : IsImage bytes namespace rows
  pub in_order : order_refusal (map row_of rows) ≡ None
  pub passes : PassesLog namespace rows

-- ---- over the bytes taken of the input

-- the input was read whole, and its listing is this text, with these numbers
pub record IsShownRead (asked : Option ℕ) (i i' : SourceFacts) (text : List ℕ) (counts : ShowCounts) : Type 0 where
  pub bytes : List ℕ
  pub read : IsReadWhole INPUT_LIMIT i i' bytes
  pub shown : IsShownOf asked bytes text counts

-- the input passes the limit, which is told as its place, or was read whole and goes wrong at this place
abbrev pub IsBadImage : SourceFacts → SourceFacts → ℕ → Type 0
IsBadImage i i' at = (bytes : List ℕ) × ((IsReadTooFar INPUT_LIMIT i i' bytes × (at ≡ INPUT_LIMIT)) ⊎ (IsReadWhole INPUT_LIMIT i i' bytes × IsWrong bytes at))

-- the input was read whole, and is an image of rows that are refused just so for their order
abbrev pub IsReadMisordered : SourceFacts → SourceFacts → ImageRefusal → Type 0
IsReadMisordered i i' refused = (bytes : List ℕ) × IsReadWhole INPUT_LIMIT i i' bytes × IsMisordered bytes refused

-- the input was read whole, and is an image of which one row too many would be stored
abbrev pub IsReadFull : SourceFacts → SourceFacts → Type 0
IsReadFull i i' = (bytes : List ℕ) × IsReadWhole INPUT_LIMIT i i' bytes × IsFullImage bytes

-- the bytes taken are within the limit, before the end or up to it
abbrev pub IsReadWithin : SourceFacts → SourceFacts → Type 0
IsReadWithin i i' = IsReadShort INPUT_LIMIT i i' ⊎ ((bytes : List ℕ) × IsReadWhole INPUT_LIMIT i i' bytes)

-- how the reading and listing of an input ends, with the listing and the numbers
abbrev pub ShowsInput : Option ℕ → SourceFacts → SourceFacts → Result (List ℕ × ShowCounts) Stop → Type 0
ShowsInput asked i i' (Ok x) = IsShownRead asked i i' x.0 x.1
ShowsInput asked i i' (Err stop.ReadFault) = (bytes : List ℕ) × IsReadToFault INPUT_LIMIT i i' bytes
ShowsInput asked i i' (Err (stop.BadInput origin at)) = IsBadImage i i' at × IsInput origin
ShowsInput asked i i' (Err (stop.NotRising origin row)) = IsReadMisordered i i' (refusal.NotRising row) × IsInput origin
ShowsInput asked i i' (Err (stop.Pruned origin row by)) = IsReadMisordered i i' (refusal.Pruned row by) × IsInput origin
ShowsInput asked i i' (Err stop.LogFull) = IsReadFull i i'
ShowsInput asked i i' (Err stop.NoMemory) = IsReadWithin i i'
ShowsInput asked i i' (Err e) = ⊥

-- ---- the command

-- It reads an image from the input, authorises and stores its rows, and writes the listing.
abbrev pub Shows : Option ℕ → Step Done
Shows asked =
    Then (OnInput (ShowsInput asked)) (λ x.
    OnOutput (Writes x.0 (done.Shown x.1)))
