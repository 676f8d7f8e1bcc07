-- Images that a command reads, and the logs of their rows.
use Rattle.std.specs.Prelude.{◌≡◌, ℕ, List, None, Result, Ok, Err}
use Rattle.spelling.specs.declared.ending.End.{End}
use Rattle.spelling.specs.declared.ending.End.TheVariants.{Refused, NoMemory}
use Rattle.cap_codec.specs.Rows.{RawValue}
use Rattle.auth_entry.specs.Authorised.{AuthorisedValue}
use Rattle.peer_image.specs.ImageReading.{ImageAsks, IsImage, IsWrong, IsMisordered, raw_rows}
use Rattle.peer_image.specs.Order.{order_refusal}
use Rattle.peer_image.specs.declared.read.Image.{Image}
use Rattle.peer_image.specs.declared.refusal.ImageRefusal.{ImageRefusal}
use Rattle.peer_image.specs.declared.refusal.ImageRefusal.TheVariants as refusal
use Rattle.peer_stage.specs.declared.outcome.JoinCounts.{JoinCounts}
use Rattle.peer_stage.specs.declared.outcome.Origin.{Origin}
use Rattle.peer_stage.specs.declared.outcome.Stop.{Stop}
use Rattle.peer_stage.specs.declared.outcome.Stop.TheVariants as stop
use Rattle.ns_state.specs.Log.{StateValue}
use Rattle.ns_state.specs.declared.live_log.LogFull.{LogFull}
use Rattle.peer_rows.specs.RowLogs.{HasTaken}
use Rattle.auth_entry.specs.Rows.{entry_row}
use Rattle.peer_rows.specs.Logged.{authorised_rows, AreCounts, PassesLog}

-- the bytes are the image of these rows in order
pub record IsImageInOrder (bytes namespace : List ℕ) (rows : List RawValue) : Type 0 where
  pub is_image : IsImage bytes namespace rows
  pub in_order : order_refusal (raw_rows rows) ≡ None

-- The image that the bytes are, or why they are none, told of where they came from. Want of memory comes only where an
-- image's reader asks for some.
abbrev pub ReadsImageFrom : Origin → List ℕ → Result Image Stop → Type 0
ReadsImageFrom origin bytes (Ok image) = IsImageInOrder bytes image.namespace image.rows.items
ReadsImageFrom origin bytes (Err (stop.BadInput from at)) = IsWrong bytes at × (from ≡ origin)
ReadsImageFrom origin bytes (Err (stop.NotRising from row)) = IsMisordered bytes (refusal.NotRising row) × (from ≡ origin)
ReadsImageFrom origin bytes (Err (stop.Pruned from row by)) = IsMisordered bytes (refusal.Pruned row by) × (from ≡ origin)
ReadsImageFrom origin bytes (Err stop.NoMemory) = ImageAsks bytes
ReadsImageFrom origin bytes (Err e) = ⊥

-- what was read, told of where its bytes came from
abbrev pub image_told : Origin → Result Image (End ImageRefusal) → Result Image Stop
image_told origin (Ok image) = Ok image
image_told origin (Err (Refused (refusal.BadImage at))) = Err (stop.BadInput origin at)
image_told origin (Err (Refused (refusal.NotRising at))) = Err (stop.NotRising origin at)
image_told origin (Err (Refused (refusal.Pruned at by))) = Err (stop.Pruned origin at by)
image_told origin (Err NoMemory) = Err stop.NoMemory

-- the log of the authorised rows, with the numbers of all of them; or one too many would be stored
abbrev pub LogsImage : List ℕ → List RawValue → Result (StateValue AuthorisedValue × JoinCounts) Stop → Type 0
LogsImage namespace rows (Ok x) = HasTaken entry_row (authorised_rows namespace rows) x.0 × AreCounts namespace rows x.1
LogsImage namespace rows (Err stop.LogFull) = PassesLog namespace rows
LogsImage namespace rows (Err stop.NoMemory) = Unit {0}
LogsImage namespace rows (Err e) = ⊥

-- how a command stops where a row met a full log, or memory was wanting
abbrev pub log_stop : End LogFull → Stop
log_stop (Refused full) = stop.LogFull
log_stop NoMemory = stop.NoMemory
