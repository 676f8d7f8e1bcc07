-- How a server opens its log file, or begins it.
use Rattle.std.specs.Prelude.{◌≡◌, ◌⊎◌, ℕ, ◌+◌, true, false, All, List, [], map, Some, None, IfSome, is_some, Result, Ok, Err}
use Rattle.std.specs.declared.option.Option.{Option}
use Rattle.std.specs.declared.string.String.{String}
use Rattle.std.specs.declared.alloc.Global.{Global}
use Rattle.std.specs.Global.{Vec}
use Rattle.std.specs.String.{string_bytes}
use Rattle.spelling.specs.declared.ending.End.{End}
use Rattle.spelling.specs.declared.ending.End.TheVariants as ends
use Rattle.willow_outside.specs.Bays.{bytes_under}
use Rattle.willow_outside.specs.Counts.{Rose}
use Rattle.willow_outside.specs.Facts.{BayFacts, DiskFacts}
use Rattle.willow_outside.specs.Links.{list_with}
use Rattle.willow_entry.specs.Row.{RowValue}
use Rattle.cap_codec.specs.Rows.{IsRaw, IsRawRow, RawValue, row_of}
use Rattle.log_keeper.specs.BadLogs.{IsBadFile}
use Rattle.log_keeper.specs.Causes.{CountsNoFault, HasCause, IfUnwritten}
use Rattle.log_keeper.specs.Crashes.{HoldsNoRow}
use Rattle.log_keeper.specs.LogFile.{HoldsNoLog, HoldsRows}
use Rattle.log_keeper.specs.declared.refusal.KeepRefusal.{KeepRefusal}
use Rattle.log_keeper.specs.declared.refusal.KeepRefusal.TheVariants as refusals
use Rattle.peer_stage.specs.Faults.{CountsStep}
use Rattle.peer_stage.specs.Steps.{Step}
use Rattle.peer_stage.specs.World.{World}
use Rattle.peer_stage.specs.declared.outcome.Origin.TheVariants as origin
use Rattle.peer_stage.specs.declared.outcome.Stop.{Stop}
use Rattle.peer_stage.specs.declared.outcome.Stop.TheVariants as stop
use Rattle.peer_run.specs.LogFiles.{FileState, HoldsFile, IsLow, file_state}
use Rattle.peer_run.specs.declared.log_file.LogFile.{LogFile}

-- ---- what a file held

-- these bytes hold a log of the namespace with these rows, or no log, and then there are none
abbrev pub HeldRows : List ℕ → List ℕ → List RowValue → Type 0
HeldRows namespace bytes rows = (HoldsNoLog bytes × (rows ≡ [])) ⊎ HoldsRows IsRawRow namespace bytes rows

-- Bytes hold as those before them: they are the same, or there was no log, and they hold no row.
abbrev pub HoldsAsBefore : List ℕ → List ℕ → List ℕ → Type 0
HoldsAsBefore namespace before after = (after ≡ before) ⊎ (HoldsNoLog before × HoldsNoRow IsRawRow namespace after)

-- where the bay tells what its names hold, this one held these rows
abbrev pub TellsRows : List ℕ → List ℕ → BayFacts → List RowValue → Type 0
TellsRows name namespace bay rows = IfSome bay.names (λ names. HeldRows namespace (bytes_under names name) rows)

-- ---- opened

-- The name was opened at the bay, and its disk is out. The file, of which no fault is counted, holds the rows that the name held, and
-- tells its contents where the bay tells those of its names.
pub record HasOpened (name namespace : List ℕ) (old new : BayFacts) (f : FileState) (rows : List RawValue) : Type 0 where
  pub bay_is : new ≡ record old { out = old.out + 1; asked = list_with name old.asked }
  pub read_out : All IsRaw rows
  pub held : TellsRows name namespace old (map row_of rows)
  pub holds : HoldsFile namespace (map row_of rows) f
  pub told : IfSome old.names (λ names. is_some f.disk.contents ≡ true)
  pub reads : f.disk.read_faults ≡ 0
  pub writes : f.disk.write_faults ≡ 0
  pub unbroken : f.broken ≡ false
  pub low : IsLow f

-- so is the log file of the words
abbrev pub IsFileOpened : Option (String Global) → BayFacts → BayFacts → FileState → Type 0
IsFileOpened log old new f = (name : String Global) × (log ≡ Some name) × (namespace : List ℕ) × (rows : List RawValue) × HasOpened (string_bytes name) namespace old new f rows

-- ---- refused

-- the name was not opened
pub record IsUnopened (old new : BayFacts) : Type 0 where
  pub out : new.out ≡ old.out
  pub names : new.names ≡ old.names
  pub asked : new.asked ≡ old.asked
  pub back : new.back ≡ old.back

-- the name was opened, and this disk of it is back
abbrev pub IsBack : List ℕ → BayFacts → BayFacts → DiskFacts → Type 0
IsBack name old new disk = new ≡ record old { asked = list_with name old.asked; back = list_with disk old.back }

-- The disk that is back has the bytes that the name held, where the bay tells them, and no write of it failed.
pub record IsBackUnwritten (name : List ℕ) (old new : BayFacts) (disk : DiskFacts) : Type 0 where
  pub back : IsBack name old new disk
  pub contents : IfSome old.names (λ names. disk.contents ≡ Some (bytes_under names name))
  pub writes : disk.write_faults ≡ 0

-- The disk that is back holds as before, where the bay tells what the name held, and no read of it failed.
pub record IsBackAsBefore (name namespace : List ℕ) (old new : BayFacts) (disk : DiskFacts) : Type 0 where
  pub back : IsBack name old new disk
  pub holds : IfSome old.names (λ names. (after : List ℕ) × (disk.contents ≡ Some after) × HoldsAsBefore namespace (bytes_under names name) after)
  pub reads : disk.read_faults ≡ 0

-- from this place on the file is bad
abbrev pub IsBadAt : List ℕ → List ℕ → BayFacts → ℕ → Type 0
IsBadAt name namespace bay at = IfSome bay.names (λ names. IsBadFile IsRawRow namespace at (bytes_under names name))

-- Opening fails at the bay or in a read of the disk, or a write of the disk fails, or the file is bad. Each disk that was handed
-- out is back, as it came, or where a write of it failed so that it holds as before.
abbrev pub StopsOpening : String Global → List ℕ → BayFacts → BayFacts → Stop → Type 0
StopsOpening name namespace old new stop.ReadFault = (IsUnopened old new × Rose old.faults new.faults) ⊎ ((disk : DiskFacts) × IsBackUnwritten (string_bytes name) old new disk × Rose 0 disk.read_faults)
StopsOpening name namespace old new stop.WriteFault = (disk : DiskFacts) × IsBackAsBefore (string_bytes name) namespace old new disk × Rose 0 disk.write_faults
StopsOpening name namespace old new (stop.BadInput from at) = (from ≡ origin.Name name) × ((disk : DiskFacts) × IsBackUnwritten (string_bytes name) old new disk × (disk.read_faults ≡ 0)) × IsBadAt (string_bytes name) namespace old at
StopsOpening name namespace old new stop.NoMemory = (new ≡ old) ⊎ ((disk : DiskFacts) × IsBackUnwritten (string_bytes name) old new disk × (disk.read_faults ≡ 0))
StopsOpening name namespace old new e = ⊥

-- ---- as a step

pub record OnBay {A : Type 0} (P : BayFacts → BayFacts → Result A Stop → Type 0) (old new : World) (end : Result A Stop) : Type 0 where
  pub does : P old.bay new.bay end
  pub faults : CountsStep old.bay.faults new.bay.faults end
  pub others : new ≡ record old { bay = new.bay }

-- how a name is opened, where this file stands behind it
abbrev pub OpensName : String Global → List ℕ → Option FileState → BayFacts → BayFacts → Result (Vec RawValue) Stop → Type 0
OpensName name namespace (Some f) old new (Ok rows) = HasOpened (string_bytes name) namespace old new f rows.items
OpensName name namespace None old new (Err e) = StopsOpening name namespace old new e
OpensName name namespace file old new end = ⊥

-- no file is opened where none is named, and there are no rows of one
abbrev pub OpensNone : Result (Vec RawValue) Stop → Type 0
OpensNone (Ok rows) = rows.items ≡ []
OpensNone (Err stop.NoMemory) = Unit {0}
OpensNone (Err e) = ⊥

-- The log file of this name, if there is one, is opened or begun, and gives its rows.
abbrev pub OpensFile : Option (String Global) → Option FileState → List ℕ → Step (Vec RawValue)
OpensFile None None namespace old new end = OpensNone end × (new ≡ old)
OpensFile None (Some f) namespace old new end = ⊥
OpensFile (Some name) file namespace old new end = OnBay (OpensName name namespace file) old new end

-- ---- on a disk

-- why a server stops whose log file of this name is refused
abbrev pub refused_stop : End KeepRefusal → String Global → Stop
refused_stop (ends.Refused refusals.ReadFailed) name = stop.ReadFault
refused_stop (ends.Refused refusals.WriteFailed) name = stop.WriteFault
refused_stop (ends.Refused (refusals.BadLog at)) name = stop.BadInput (origin.Name name) at
refused_stop ends.NoMemory name = stop.NoMemory

-- The file of a disk is open. It holds the rows that the disk held, and no fault is counted.
pub record HasBegun (namespace : List ℕ) (d : DiskFacts) (f : FileState) (rows : List RawValue) : Type 0 where
  pub read_out : All IsRaw rows
  pub held : IfSome d.contents (λ bytes. HeldRows namespace bytes (map row_of rows))
  pub holds : HoldsFile namespace (map row_of rows) f
  pub told : is_some f.disk.contents ≡ is_some d.contents
  pub faults : CountsNoFault d f.disk
  pub unbroken : f.broken ≡ false
  pub low : IsLow f

-- The disk is refused, for a cause. It has the bytes that it had, unless a write of it failed; then it holds as before.
pub record HasRefused (namespace : List ℕ) (d back : DiskFacts) (why : End KeepRefusal) : Type 0 where
  pub cause : HasCause (λ at. IfSome d.contents (IsBadFile IsRawRow namespace at)) d back why
  pub unwritten : IfUnwritten why (back.contents ≡ d.contents)
  pub holds : IfSome d.contents (λ before. (after : List ℕ) × (back.contents ≡ Some after) × HoldsAsBefore namespace before after)

-- how the file of a disk is opened, or begun where it holds no log
abbrev pub BeginsFile : {K : Type 0} → (K → DiskFacts) → List ℕ → DiskFacts → Result (LogFile K × Vec RawValue) (K × End KeepRefusal) → Type 0
BeginsFile facts namespace d (Ok x) = HasBegun namespace d (file_state facts x.0) x.1.items
BeginsFile facts namespace d (Err back) = HasRefused namespace d (facts back.0) back.1
