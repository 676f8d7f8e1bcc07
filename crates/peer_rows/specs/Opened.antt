-- Images whose rows a command takes to a log, told of where their bytes came from.
use Rattle.std.specs.Prelude.{◌≡◌, ℕ, List, Result, Ok, Err}
use Rattle.cap_codec.specs.Rows.{RawValue}
use Rattle.peer_image.specs.ImageReading.{IsWrong, IsMisordered}
use Rattle.peer_image.specs.declared.refusal.ImageRefusal.TheVariants as refusal
use Rattle.peer_stage.specs.declared.outcome.Origin.{Origin}
use Rattle.peer_stage.specs.declared.outcome.Stop.{Stop}
use Rattle.peer_stage.specs.declared.outcome.Stop.TheVariants as stop
use Rattle.peer_rows.specs.Images.{IsImageInOrder}
use Rattle.peer_rows.specs.Logged.{FitsLog, PassesLog}
use Rattle.peer_rows.specs.Parts.{IsLoggedImage}
use Rattle.peer_rows.specs.Show.{IsFullImage}
use Rattle.peer_rows.specs.Stored.{IsWholeLog}
use Rattle.peer_rows.specs.declared.log.Log.{Log}

-- a namespace and rows of it
pub record NamedRows : Type 0 where
  pub namespace : List ℕ
  pub rows : List RawValue

-- why there is no log of the rows of an image: what is wrong with its bytes, or one row too many would be stored
abbrev pub StopsOpening : Origin → List ℕ → Stop → Type 0
StopsOpening origin bytes (stop.BadInput from at) = IsWrong bytes at × (from ≡ origin)
StopsOpening origin bytes (stop.NotRising from row) = IsMisordered bytes (refusal.NotRising row) × (from ≡ origin)
StopsOpening origin bytes (stop.Pruned from row by) = IsMisordered bytes (refusal.Pruned row by) × (from ≡ origin)
StopsOpening origin bytes stop.LogFull = IsFullImage bytes
StopsOpening origin bytes stop.NoMemory = Unit {0}
StopsOpening origin bytes e = ⊥

-- the bytes are an image of these rows in order, and each that would be stored finds room
pub record AreOpened (bytes : List ℕ) (opened : NamedRows) : Type 0 where
  pub is_image : IsImageInOrder bytes opened.namespace opened.rows
  pub fits_log : FitsLog opened.namespace opened.rows

-- the rows of an image that find room in a log
abbrev pub OpensImage : Origin → List ℕ → Result NamedRows Stop → Type 0
OpensImage origin bytes (Ok opened) = AreOpened bytes opened
OpensImage origin bytes (Err e) = StopsOpening origin bytes e

-- the log of the rows of an image
abbrev pub LogsBytes : Origin → List ℕ → Result Log Stop → Type 0
LogsBytes origin bytes (Ok log) = IsLoggedImage bytes log
LogsBytes origin bytes (Err e) = StopsOpening origin bytes e

-- the log of just these rows, or why there is none
abbrev pub LogsRows : List ℕ → List RawValue → Result Log Stop → Type 0
LogsRows namespace rows (Ok log) = IsWholeLog namespace rows log
LogsRows namespace rows (Err stop.LogFull) = PassesLog namespace rows
LogsRows namespace rows (Err stop.NoMemory) = Unit {0}
LogsRows namespace rows (Err e) = ⊥
