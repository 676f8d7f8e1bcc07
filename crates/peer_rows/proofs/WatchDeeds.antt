-- The laws of `watch`.
use Rattle.std.proofs.Common.{◌≡◌, ℕ, inl, inr, List, ◌++◌, Option, Some, None, refl, sym, ap, ◌∙◌, subst, arith}
use Rattle.std.specs.Prelude.{Result, Ok, Err, ◌⊎◌}
use Rattle.std.specs.String.{string_bytes}
use Rattle.std.specs.declared.string.String.{String}
use Rattle.std.specs.declared.alloc.Global.{Global}
use Rattle.std.specs.Global.{Vec}
use Rattle.willow_outside.specs.Counts.{Rose}
use Rattle.willow_outside.specs.Facts.{Names, ShelfFacts, SourceFacts}
use Rattle.willow_outside.specs.Names.{GetsName}
use Rattle.willow_area.specs.declared.area.Area.{Area}
use Rattle.sub_hub.specs.Hubs.{HubValue}
use Rattle.cap_codec.specs.Rows.{RawValue, AreFrames}
use Rattle.peer_image.specs.ImageReading.{raw_rows}
use Rattle.peer_image.specs.Order.{order_refusal}
use Rattle.peer_image.specs.declared.refusal.ImageRefusal.{ImageRefusal}
use Rattle.peer_image.specs.ImageReading.{IsMisordered}
use Rattle.peer_image.proofs.Stops.{never_both, one_image}
use Rattle.peer_words.specs.declared.command.AreaWords.{AreaWords}
use Rattle.peer_stage.specs.World.{World, NeverFall, Unfailed}
use Rattle.peer_stage.specs.Deed.{IsLawful}
use Rattle.peer_stage.specs.Inputs.{HasInput}
use Rattle.peer_stage.specs.Shelves.{GetsBytes}
use Rattle.peer_stage.specs.Steps.{Inside, OnShelf}
use Rattle.peer_stage.specs.declared.outcome.Done.{Done}
use Rattle.peer_stage.specs.declared.outcome.Done.TheVariants as done
use Rattle.peer_stage.specs.declared.outcome.Origin.{Origin}
use Rattle.peer_stage.specs.declared.outcome.Origin.TheVariants as origin
use Rattle.peer_stage.specs.declared.outcome.Stop.{Stop}
use Rattle.peer_stage.specs.declared.outcome.Stop.TheVariants as stop
use Rattle.peer_stage.proofs.Ends.{IsCondition, IsLocal}
use Rattle.peer_stage.proofs.Faults.{EndsUnfailed, never_falls, stood}
use Rattle.peer_stage.proofs.Owing.{IsLasting, Owes, StaysLocal, inside_counts, inside_unfailed, lawful, rose_behind, shelf_counts, shelf_unfailed, then_local, then_owes}
use Rattle.peer_rows.specs.Deeds.{CanWatch, watch_deed}
use Rattle.peer_rows.specs.Images.{IsImageInOrder}
use Rattle.peer_rows.specs.Logged.{FitsLog, PassesLog}
use Rattle.peer_rows.specs.Opened.{AreOpened, NamedRows, OpensImage, StopsOpening}
use Rattle.peer_rows.specs.Show.{IsFullImage}
use Rattle.peer_rows.specs.Watch.{GivesArea, OnInputToHub, Puts, Watches, WatchesInput}
use Rattle.peer_rows.proofs.Deeds.{input_stops}
use Rattle.peer_rows.proofs.Offered.{PassesLog-longer}

-- ---- what a step owes that tells those who watch

pub hearing_counts : {A : Type 0} (P : SourceFacts → SourceFacts → HubValue → HubValue → Result A Stop → Type 0) (old new : World) (end : Result A Stop) → OnInputToHub P old new end → NeverFall old new
hearing_counts P old new end s = subst (λ (w : World). NeverFall old w) (sym s.others) (record { shelf_reads = omega arith; shelf_writes = omega arith; input_faults = never_falls _ _ end s.faults; input_ends = s.ends; output_faults = omega arith; report_faults = omega arith; door_faults = omega arith; noise_faults = omega arith; bay_faults = omega arith })

pub hearing_unfailed : {A : Type 0} (P : SourceFacts → SourceFacts → HubValue → HubValue → Result A Stop → Type 0) (old new : World) (end : Result A Stop) → EndsUnfailed end → OnInputToHub P old new end → Unfailed old new
hearing_unfailed P old new end none s = subst (λ (w : World). Unfailed old w) (sym s.others) (record { shelf_reads = refl; shelf_writes = refl; input = stood _ _ end none s.faults; output = refl; report = refl; door = refl; noise = refl; bay = refl })

-- ---- reads and writes

-- reading the shelf or the input failed
abbrev Reads : World → World → Type 0
Reads old new = Rose old.shelf.read_faults new.shelf.read_faults ⊎ Rose old.input.faults new.input.faults

-- writing to the shelf failed
abbrev Wrote : World → World → Type 0
Wrote old new = Rose old.shelf.write_faults new.shelf.write_faults

reads_last : IsLasting Reads
reads_last old between new counts (inl rose) = inl (rose_behind _ _ _ counts.shelf_reads rose)
reads_last old between new counts (inr rose) = inr (rose_behind _ _ _ counts.input_faults rose)

wrote_lasts : IsLasting Wrote
wrote_lasts old between new counts rose = rose_behind _ _ _ counts.shelf_writes rose

-- ---- what each step needs

-- the input has the frames of rows, for which there is room behind those of an image
record CanHear (opened : NamedRows) (i : SourceFacts) : Type 0 where
  bytes : List ℕ
  input : HasInput i bytes
  rows : List RawValue
  frames : AreFrames bytes rows
  fits_log : FitsLog opened.namespace (opened.rows ++ rows)

-- these are the bytes of an image of rows in order, and the input is as that needs it
record CanOpen (image : List ℕ) (i : SourceFacts) : Type 0 where
  opened : NamedRows
  is_image : IsImageInOrder image opened.namespace opened.rows
  hears : CanHear opened i

-- ---- the image is got

got_same : (told : Option Names) (names : Names) (name held : List ℕ) (found : Option (List ℕ)) → told ≡ Some names → names name ≡ Some held → GetsName told name found → found ≡ Some held
got_same told names name held found are_told holds gets = sym (subst (λ (t : Option Names). GetsName t name found) are_told gets) ∙ holds

some_same : (a b : List ℕ) → Some a ≡ Some b → a ≡ b
some_same a b e = cc

getting_stops : (name : String Global) (h h' : ShelfFacts) (i : SourceFacts) (e : Stop) → CanWatch (string_bytes name) h.names i → IsCondition e → GetsBytes name h h' (Err e) → ⊥
getting_stops name h h' i (stop.Missing other) can condition s =
    let none : None ≡ Some can.image_bytes = got_same h.names can.names (string_bytes name) can.image_bytes None can.are_told can.held s.1.0 in
    absurd cc
getting_stops name h h' i stop.ReadFault can condition s = condition
getting_stops name h h' i stop.NoMemory can condition s = condition
getting_stops name h h' i e can condition s = s

got : (name : String Global) (h h' : ShelfFacts) (i : SourceFacts) (x : String Global × Vec ℕ) → CanWatch (string_bytes name) h.names i → GetsBytes name h h' (Ok x) → CanOpen x.1.items i
got name h h' i x can s =
    let same = some_same x.1.items can.image_bytes (got_same h.names can.names (string_bytes name) can.image_bytes (Some x.1.items) can.are_told can.held s.1.0) in
    record {
      opened = can.opened;
      is_image = subst (λ (b : List ℕ). IsImageInOrder b can.opened.namespace can.opened.rows) (sym same) can.is_image;
      hears = record { bytes = can.had; input = can.input; rows = can.rows; frames = can.frames; fits_log = can.fits_log };
    }

getting_owes : (name : String Global) → Owes Reads Wrote (λ old. CanWatch (string_bytes name) old.shelf.names old.input) (λ x new. CanOpen x.1.items new.input) (OnShelf (GetsBytes name))
getting_owes name =
    record {
      counts = shelf_counts (GetsBytes name);
      unfailed = shelf_unfailed (GetsBytes name);
      read_fault = λ old new s. inl s.does.0;
      write_fault = λ old new s. absurd s.does;
      usage = λ old new s. s.does;
      stops = λ old new e can condition s. getting_stops name old.shelf new.shelf old.input e can condition s.does;
      goes_on = λ old new x can s. subst (CanOpen x.1.items) (sym (ap (λ (w : World). w.input) s.others)) (got name old.shelf new.shelf old.input x can s.does);
    }

-- ---- the area of the words

area_stops : (words : AreaWords) (e : Stop) → IsCondition e → GivesArea words (Err e) → ⊥
area_stops words stop.NoMemory condition s = condition
area_stops words e condition s = s

area_owes : (image : List ℕ) (words : AreaWords) → Owes Reads Wrote (λ old. CanOpen image old.input) (λ area new. CanOpen image new.input) (Inside (GivesArea words))
area_owes image words =
    record {
      counts = inside_counts (GivesArea words);
      unfailed = inside_unfailed (GivesArea words);
      read_fault = λ old new s. absurd s.0;
      write_fault = λ old new s. absurd s.0;
      usage = λ old new s. s.0;
      stops = λ old new e can condition s. area_stops words e condition s.0;
      goes_on = λ old new area can s. subst (λ (w : World). CanOpen image w.input) (sym s.1) can;
    }

-- ---- the image is opened

module _ (image : List ℕ) (i : SourceFacts) (can : CanOpen image i) where
  no_misorder : (refusal : ImageRefusal) → IsMisordered image refusal → ⊥
  no_misorder refusal wrong =
      let same = (one_image image can.opened.namespace wrong.namespace can.opened.rows wrong.rows can.is_image.is_image wrong.is_image).1 in
      let none : None ≡ Some refusal = sym can.is_image.in_order ∙ ap (λ (rows : List RawValue). order_refusal (raw_rows rows)) same ∙ wrong.refused in
      absurd cc

  no_full_image : IsFullImage image → ⊥
  no_full_image full =
      let same = one_image image can.opened.namespace full.namespace can.opened.rows full.rows can.is_image.is_image full.is_image in
      let passes = subst (λ (n : List ℕ). PassesLog n can.opened.rows) (sym same.0) (subst (λ (rows : List RawValue). PassesLog full.namespace rows) (sym same.1) full.passes) in
      omega (arith, PassesLog-longer can.opened.namespace can.opened.rows can.hears.rows passes, can.hears.fits_log)

  opening_stops : (from : Origin) (e : Stop) → IsCondition e → StopsOpening from image e → ⊥
  opening_stops from (stop.BadInput other at) condition s = never_both image can.opened.namespace can.opened.rows at can.is_image.is_image s.0
  opening_stops from (stop.NotRising other row) condition s = no_misorder _ s.0
  opening_stops from (stop.Pruned other row by) condition s = no_misorder _ s.0
  opening_stops from stop.LogFull condition s = no_full_image s
  opening_stops from stop.NoMemory condition s = condition
  opening_stops from e condition s = s

  opens : (opened : NamedRows) → AreOpened image opened → CanHear opened i
  opens opened are =
      let same = one_image image can.opened.namespace opened.namespace can.opened.rows opened.rows can.is_image.is_image are.is_image.is_image in
      let hears = can.hears in
      record {
        bytes = hears.bytes;
        input = hears.input;
        rows = hears.rows;
        frames = hears.frames;
        fits_log = subst (λ (n : List ℕ). FitsLog n (opened.rows ++ hears.rows)) same.0 (subst (λ (rows : List RawValue). FitsLog can.opened.namespace (rows ++ hears.rows)) same.1 hears.fits_log);
      }

opening_owes : (from : Origin) (image : List ℕ) → Owes Reads Wrote (λ old. CanOpen image old.input) (λ opened new. CanHear opened new.input) (Inside (OpensImage from image))
opening_owes from image =
    record {
      counts = inside_counts (OpensImage from image);
      unfailed = inside_unfailed (OpensImage from image);
      read_fault = λ old new s. absurd s.0;
      write_fault = λ old new s. absurd s.0;
      usage = λ old new s. s.0;
      stops = λ old new e can condition s. opening_stops image old.input can from e condition s.0;
      goes_on = λ old new opened can s. subst (λ (w : World). CanHear opened w.input) (sym s.1) (opens image old.input can opened s.0);
    }

-- ---- the input is read

watching_owes : (area : Area) (opened : NamedRows) → Owes Reads Wrote (λ old. CanHear opened old.input) (λ x new. Unit {0}) (OnInputToHub (WatchesInput area opened))
watching_owes area opened =
    record {
      counts = hearing_counts (WatchesInput area opened);
      unfailed = hearing_unfailed (WatchesInput area opened);
      read_fault = λ old new s. inr s.does.0.1.fault;
      write_fault = λ old new s. absurd s.does.0;
      usage = λ old new s. s.does.0;
      stops = λ old new e can condition s. input_stops old.input new.input can.bytes can.input can.rows can.frames opened.namespace opened.rows can.fits_log e condition s.does.0;
      goes_on = λ old new x can s. tt;
    }

-- ---- the image is put

puts_stops : (name bytes : List ℕ) (done : Done) (h h' : ShelfFacts) (e : Stop) → IsCondition e → Puts name bytes done h h' (Err e) → ⊥
puts_stops name bytes done h h' stop.WriteFault condition s = condition
puts_stops name bytes done h h' stop.NoMemory condition s = condition
puts_stops name bytes done h h' e condition s = s

putting_owes : (name bytes : List ℕ) (done : Done) → Owes Reads Wrote (λ old. Unit {0}) (λ d new. Unit {0}) (OnShelf (Puts name bytes done))
putting_owes name bytes done =
    record {
      counts = shelf_counts (Puts name bytes done);
      unfailed = shelf_unfailed (Puts name bytes done);
      read_fault = λ old new s. absurd s.does;
      write_fault = λ old new s. s.does.0;
      usage = λ old new s. s.does;
      stops = λ old new e can condition s. puts_stops name bytes done old.shelf new.shelf e condition s.does;
      goes_on = λ old new d can s. tt;
    }

puts_local : (name bytes : List ℕ) (done : Done) → IsLocal done → StaysLocal (OnShelf (Puts name bytes done))
puts_local name bytes done is old new d s = subst IsLocal (sym s.does.1) is

-- ---- the command

pub watches_local : (name : String Global) (words : AreaWords) → StaysLocal (Watches name words)
watches_local name words =
    then_local _ _ (λ got. then_local _ _ (λ area. then_local _ _ (λ opened. then_local _ _ (λ x. puts_local (string_bytes name) x.0 (done.Watched x.1) tt))))

pub watch_is_lawful : (name : String Global) (words : AreaWords) → IsLawful (watch_deed name words)
watch_is_lawful name words =
    lawful (watch_deed name words) (λ old. CanWatch (string_bytes name) old.shelf.names old.input) (λ d new. Unit {0}) (λ unbuilt. unbuilt) (λ old new ready. ready)
    (watches_local name words)
    (then_owes Reads Wrote (λ old. CanWatch (string_bytes name) old.shelf.names old.input) (λ got new. CanOpen got.1.items new.input) (λ d new. Unit {0}) _ _ reads_last wrote_lasts (getting_owes name) (λ got.
    then_owes Reads Wrote (λ old. CanOpen got.1.items old.input) (λ area new. CanOpen got.1.items new.input) (λ d new. Unit {0}) _ _ reads_last wrote_lasts (area_owes got.1.items words) (λ area.
    then_owes Reads Wrote (λ old. CanOpen got.1.items old.input) (λ opened new. CanHear opened new.input) (λ d new. Unit {0}) _ _ reads_last wrote_lasts (opening_owes (origin.Name got.0) got.1.items) (λ opened.
    then_owes Reads Wrote (λ old. CanHear opened old.input) (λ x new. Unit {0}) (λ d new. Unit {0}) _ _ reads_last wrote_lasts (watching_owes area opened) (λ x.
    putting_owes (string_bytes name) x.0 (done.Watched x.1))))))
