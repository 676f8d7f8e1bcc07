-- What a side owes for the steps before it meets another one.
use Rattle.std.proofs.Common.{◌≡◌, ℕ, List, ◌++◌, Option, Some, None, ap, subst}
use Rattle.std.specs.Prelude.{Result, Err}
use Rattle.std.specs.declared.string.String.{String}
use Rattle.std.specs.declared.alloc.Global.{Global}
use Rattle.willow_outside.specs.Counts.{Rose}
use Rattle.peer_words.specs.declared.command.AreaWords.{AreaWords}
use Rattle.cap_codec.specs.Rows.{RawValue}
use Rattle.peer_rows.specs.Images.{ReadsImageFrom}
use Rattle.peer_make.specs.Reading.{ReadsCapabilityFrom}
use Rattle.peer_stage.specs.World.{World}
use Rattle.peer_stage.specs.Shelves.{GetsBytes}
use Rattle.peer_stage.specs.Steps.{Inside, OnShelf}
use Rattle.peer_stage.specs.declared.outcome.Origin.TheVariants as origin
use Rattle.peer_stage.specs.declared.outcome.Stop.{Stop}
use Rattle.peer_stage.specs.declared.outcome.Stop.TheVariants as stop
use Rattle.peer_stage.proofs.Closing.{KeepsDoor, inside_keeps, shelf_keeps, then_keeps}
use Rattle.peer_stage.proofs.Owing.{Owes, IsLasting, then_owes, inside_counts, inside_unfailed, shelf_counts, shelf_unfailed, rose_behind}
use Rattle.peer_run.specs.Getting.{GetsImage, GetsCapability}
use Rattle.peer_run.specs.Greeting.{Greets}
use Rattle.peer_run.specs.Meet.{Yields}
use Rattle.peer_run.specs.LogFiles.{FileState}
use Rattle.peer_run.specs.LogOpening.{OpensFile}
use Rattle.peer_run.specs.Opening.{OpensLog}
use Rattle.peer_run.specs.Preparing.{Prepares, PreparesBehind, no_nonce}

-- ---- what may rise

-- what is needed plays no part here
abbrev pub Nothing : World → Type 0
Nothing w = ⊥

-- a count of the shelf rose
abbrev pub GotReads : World → World → Type 0
GotReads old new = Rose old.shelf.read_faults new.shelf.read_faults

abbrev pub GotWrites : World → World → Type 0
GotWrites old new = Rose old.shelf.write_faults new.shelf.write_faults

pub got_reads_last : IsLasting GotReads
got_reads_last old between new counts rose = rose_behind _ _ _ counts.shelf_reads rose

pub got_writes_last : IsLasting GotWrites
got_writes_last old between new counts rose = rose_behind _ _ _ counts.shelf_writes rose

-- ---- steps that get and judge

pub inside_owes : {A : Type 0} (P : Result A Stop → Type 0) → (P (Err stop.ReadFault) → ⊥) → (P (Err stop.WriteFault) → ⊥) → (P (Err stop.Usage) → ⊥) → Owes GotReads GotWrites Nothing (λ a. Nothing) (Inside P)
inside_owes P no_read no_write no_usage =
    record {
      counts = inside_counts P;
      unfailed = inside_unfailed P;
      read_fault = λ old new s. absurd (no_read s.0);
      write_fault = λ old new s. absurd (no_write s.0);
      usage = λ old new s. no_usage s.0;
      stops = λ old new e need condition s. need;
      goes_on = λ old new a need s. need;
    }

getting_owes : (name : String Global) → Owes GotReads GotWrites Nothing (λ got. Nothing) (OnShelf (GetsBytes name))
getting_owes name =
    record {
      counts = shelf_counts (GetsBytes name);
      unfailed = shelf_unfailed (GetsBytes name);
      read_fault = λ old new s. s.does.0;
      write_fault = λ old new s. absurd s.does;
      usage = λ old new s. s.does;
      stops = λ old new e need condition s. need;
      goes_on = λ old new got need s. need;
    }

pub image_owes : (name : String Global) → Owes GotReads GotWrites Nothing (λ image. Nothing) (GetsImage name)
image_owes name =
    then_owes GotReads GotWrites Nothing (λ got. Nothing) (λ image. Nothing) _ _ got_reads_last got_writes_last (getting_owes name)
    (λ got. inside_owes (ReadsImageFrom (origin.Name got.0) got.1.items) (λ h. h) (λ h. h) (λ h. h))

capability_owes : (name : String Global) → Owes GotReads GotWrites Nothing (λ c. Nothing) (GetsCapability name)
capability_owes name =
    then_owes GotReads GotWrites Nothing (λ got. Nothing) (λ c. Nothing) _ _ got_reads_last got_writes_last (getting_owes name)
    (λ got. inside_owes (ReadsCapabilityFrom (origin.Name got.0) got.1.items) (λ h. h) (λ h. h) (λ h. h))

-- behind the image, with the rows of a log file
pub behind_owes : (n : List ℕ) (rows : List RawValue) (cap : String Global) (area : AreaWords) → Owes GotReads GotWrites Nothing (λ r. Nothing) (PreparesBehind n rows cap area)
behind_owes n rows cap area =
    then_owes GotReads GotWrites Nothing (λ opening. Nothing) (λ r. Nothing) _ _ got_reads_last got_writes_last (inside_owes (OpensLog n rows) (λ h. h) (λ h. h) (λ h. h))
    (λ opening. then_owes GotReads GotWrites Nothing (λ c. Nothing) (λ r. Nothing) _ _ got_reads_last got_writes_last (capability_owes cap)
    (λ c. then_owes GotReads GotWrites Nothing (λ h. Nothing) (λ r. Nothing) _ _ got_reads_last got_writes_last (inside_owes (Greets n area c no_nonce) (λ h. h) (λ h. h) (λ h. h))
    (λ h. inside_owes (Yields (record { opening = opening; hello = h })) (λ g. g) (λ g. g) (λ g. g))))

-- ---- the door

image_keeps : (name : String Global) → KeepsDoor (GetsImage name)
image_keeps name = then_keeps _ _ (shelf_keeps (GetsBytes name)) (λ got. inside_keeps (ReadsImageFrom (origin.Name got.0) got.1.items))

capability_keeps : (name : String Global) → KeepsDoor (GetsCapability name)
capability_keeps name = then_keeps _ _ (shelf_keeps (GetsBytes name)) (λ got. inside_keeps (ReadsCapabilityFrom (origin.Name got.0) got.1.items))

file_keeps : (log : Option (String Global)) (file : Option FileState) (n : List ℕ) → KeepsDoor (OpensFile log file n)
file_keeps None None n old new end s = ap (λ (w : World). w.door) s.1
file_keeps None (Some f) n old new end s = absurd s
file_keeps (Some name) file n old new end s = ap (λ (w : World). w.door) s.others

pub preparing_keeps_door : (image cap : String Global) (area : AreaWords) (log : Option (String Global)) (file : Option FileState) → KeepsDoor (Prepares image cap area log file)
preparing_keeps_door image cap area log file =
    then_keeps _ _ (image_keeps image) (λ i.
    then_keeps _ _ (file_keeps log file i.namespace) (λ filed.
    then_keeps _ _ (inside_keeps (OpensLog i.namespace (i.rows.items ++ filed.items))) (λ opening.
    then_keeps _ _ (capability_keeps cap) (λ c.
    then_keeps _ _ (inside_keeps (Greets i.namespace area c no_nonce)) (λ h. inside_keeps (Yields (record { opening = opening; hello = h })))))))

-- a count that was 0 as the link was handed out, and rose in the session, rose from 0
pub from_none : (before now : ℕ) → before ≡ 0 → Rose before now → Rose 0 now
from_none before now none rose = subst (λ (n : ℕ). Rose n now) none rose
