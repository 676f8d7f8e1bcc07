-- A watch by its stages: what each gives, and how the command ends where one stops.
use Rattle.std.proofs.Common.{◌≡◌, ℕ, ◌<◌, ◌^◌, ◌≤◌, List, [], ◌++◌, length, inl, refl, sym, ap, ◌∙◌, subst}
use Rattle.std.specs.List.{AllByRecursion}
use Rattle.std.specs.Prelude.{Result, Ok, Err}
use Rattle.std.specs.String.{string_bytes}
use Rattle.std.specs.declared.string.String.{String}
use Rattle.std.specs.declared.alloc.Global.{Global}
use Rattle.std.specs.Global.{Vec}
use Rattle.std.proofs.KnownBytes.{Consumes-nil}
use Rattle.willow_outside.specs.Facts.{ShelfFacts, SourceFacts}
use Rattle.willow_area.specs.declared.area.Area.{Area}
use Rattle.willow_entry.specs.Frame.{HasFrame}
use Rattle.willow_entry.specs.Row.{live}
use Rattle.cap_codec.specs.Rows.{RawValue}
use Rattle.auth_entry.specs.Rows.{entry_row}
use Rattle.sub_hub.specs.Hubs.{HubValue, IsPumped, begun_at}
use Rattle.row_stream.specs.Feeding.{nothing_fed}
use Rattle.peer_image.specs.Image.{image}
use Rattle.peer_image.proofs.Stops.{image_raw}
use Rattle.peer_words.specs.declared.command.AreaWords.{AreaWords}
use Rattle.peer_stage.specs.World.{World}
use Rattle.peer_stage.specs.Faults.{CountsStep}
use Rattle.peer_stage.specs.Shelves.{GetsBytes}
use Rattle.peer_stage.specs.Steps.{Step, Then}
use Rattle.peer_stage.specs.declared.stage.TheConstants.{INPUT_LIMIT}
use Rattle.peer_stage.specs.declared.outcome.Done.{Done}
use Rattle.peer_stage.specs.declared.outcome.Done.TheVariants as done
use Rattle.peer_stage.specs.declared.outcome.Origin.TheVariants as origin
use Rattle.peer_stage.specs.declared.outcome.Stop.{Stop}
use Rattle.peer_stage.specs.declared.outcome.Stop.TheVariants as stop
use Rattle.peer_stage.specs.declared.outcome.WatchCounts.{WatchCounts}
use Rattle.peer_stage.proofs.Faults.{stands_at}
use Rattle.peer_stage.proofs.Steps.{passes, shelf_on, inside_on}
use Rattle.peer_rows.specs.Join.{StopsInput}
use Rattle.peer_rows.specs.Logged.{authorised_rows, live_rows, AreCounts}
use Rattle.peer_rows.specs.Opened.{NamedRows, OpensImage, StopsOpening}
use Rattle.peer_rows.specs.Parts.{IsLoggedImage}
use Rattle.peer_rows.specs.Stored.{IsWholeLog}
use Rattle.peer_rows.specs.Watch.{AreWatchCounts, GivesArea, HaveHeardSome, IsWatched, OnInputToHub, Puts, Watches, WatchesInput, hub_begun, new_behind}
use Rattle.peer_rows.specs.Watching.{HearsInput, IsCounted, IsOpen}
use Rattle.peer_rows.specs.declared.log.Log.{Log}
use Rattle.peer_rows.specs.declared.intake.Intake.{Intake}
use Rattle.peer_rows.specs.declared.reading.Reading.{Reading}
use Rattle.peer_rows.proofs.Framed.{live_all_framed}
use Rattle.peer_rows.proofs.ReadLog.{begins_reading}
use Rattle.peer_rows.proofs.Taken.{taken_live}
use Rattle.peer_rows.proofs.Watched.{kept_many, none_heard}

-- ---- the hub is begun, and the input is opened

module _ (opening : Log) (had : List RawValue) (whole : IsWholeLog opening.kept.namespace had opening) where
  pub begun_is : (h begun : HubValue) (area : Area) (front : ℕ) → begun ≡ begun_at h front area → front ≡ length opening.kept.log → begun ≡ hub_begun (record { namespace = opening.kept.namespace; rows = had }) area h
  begun_is h begun area front is many =
      is ∙ ap (λ (k : ℕ). begun_at h k area) (kept_many opening front many ∙ ap length whole.is_log.taken)

  pub opens_reading : (i : SourceFacts) (reading : Reading) (intake : Intake) → length had < 2 ^ 32 → reading.stream ≡ nothing_fed → 0 < length reading.piece.items → reading.left ≡ INPUT_LIMIT → intake.log ≡ opening → intake.waiting.items ≡ []
      → IsOpen intake.log.kept.namespace had i reading intake
  opens_reading i reading intake few start room all same nobody =
      let behind = subst (λ (log : Log). IsWholeLog log.kept.namespace had log) (sym same) whole in
      record { read = begins_reading intake.log.kept.namespace had i reading intake few start room all behind nobody; whole = behind }

  module _ (i i' : SourceFacts) (h h' : HubValue) (area : Area) (begun : HubValue) (is : begun ≡ hub_begun (record { namespace = opening.kept.namespace; rows = had }) area h) (first : Log) (same : first ≡ opening) where
    -- what is so of the hub that was begun is so of the hub before
    pub watched_stops : (log : Log) (e : Stop) → HearsInput first.kept.namespace had i i' begun h' log (Err e)
        → StopsInput opening.kept.namespace had i i' e × HaveHeardSome opening.kept.namespace had i i' (hub_begun (record { namespace = opening.kept.namespace; rows = had }) area h) h'
    watched_stops log e hears =
        subst (λ (u : HubValue). StopsInput opening.kept.namespace had i i' e × HaveHeardSome opening.kept.namespace had i i' u h') is
        (subst (λ (l : Log). StopsInput l.kept.namespace had i i' e × HaveHeardSome l.kept.namespace had i i' begun h') same hears)

    pub watched_all : (log : Log) (left : ℕ) (counts : WatchCounts) → HearsInput first.kept.namespace had i i' begun h' log (Ok left) → counts.left ≡ left
        → ((namespace : List ℕ) (before rows : List RawValue) → AreCounts namespace before opening.counts → AreCounts namespace (before ++ rows) log.counts → AreWatchCounts namespace before rows counts)
        → IsCounted opening.kept.namespace had i i' (hub_begun (record { namespace = opening.kept.namespace; rows = had }) area h) h' log counts
    watched_all log left counts hears left_is counted =
        let heard = subst (λ (l : Log). HearsInput l.kept.namespace had i i' begun h' log (Ok left)) same hears in
        let fresh = new_behind opening.kept.namespace had heard.read.rows in
        record {
          heard = record {
            read = heard.read;
            told = subst (λ (u : HubValue). IsPumped u h' fresh counts.left) is (subst (λ (k : ℕ). IsPumped begun h' fresh k) (sym left_is) heard.told);
          };
          counted = counted opening.kept.namespace had heard.read.rows whole.is_log.counted heard.read.whole.is_log.counted;
        }

    -- for want of memory before the first read nothing is read and nothing told
    pub watched_none : h' ≡ begun → i' ≡ i → StopsInput opening.kept.namespace had i i' stop.NoMemory × HaveHeardSome opening.kept.namespace had i i' (hub_begun (record { namespace = opening.kept.namespace; rows = had }) area h) h'
    watched_none same_hub same_input =
        subst (λ (s : SourceFacts). StopsInput opening.kept.namespace had i s stop.NoMemory × HaveHeardSome opening.kept.namespace had i s (hub_begun (record { namespace = opening.kept.namespace; rows = had }) area h) h') (sym same_input)
        (subst (λ (u : HubValue). StopsInput opening.kept.namespace had i i stop.NoMemory × HaveHeardSome opening.kept.namespace had i i u h') is
        (subst (λ (u : HubValue). StopsInput opening.kept.namespace had i i stop.NoMemory × HaveHeardSome opening.kept.namespace had i i begun u) (sym same_hub)
        (([], Consumes-nil i.left), none_heard opening.kept.namespace had i begun)))

-- ---- the stages of the command

-- the input was read, and those who watch were told
hearing_on : {A B : Type 0} (P : SourceFacts → SourceFacts → HubValue → HubValue → Result A Stop → Type 0) (next : A → Step B) (others : World) (i i' : SourceFacts) (u u' : HubValue) (last : World) (value : A) (end : Result B Stop)
    → P i i' u u' (Ok value) → i'.faults ≡ i.faults → i.ends ≤ i'.ends → next value (record others { input = i'; hub = u' }) last end → Then (OnInputToHub P) next (record others { input = i; hub = u }) last end
hearing_on P next others i i' u u' last value end does faults ends rest =
    passes (OnInputToHub P) next (record others { input = i; hub = u }) (record others { input = i'; hub = u' }) last value end (record { does = does; faults = faults; ends = ends; others = refl }) rest

module _ (name : String Global) (words : AreaWords) (others : World) where
  -- the objects that a watch calls, and the others
  abbrev objects : ShelfFacts → SourceFacts → HubValue → World
  objects h i u = record others { shelf = h; input = i; hub = u }

  module _ (h h' : ShelfFacts) (i : SourceFacts) (u : HubValue) (got : String Global × Vec ℕ) (gets : GetsBytes name h h' (Ok got)) (reads : h'.read_faults ≡ h.read_faults) (writes : h'.write_faults ≡ h.write_faults) where
    module _ (area : Area) (given : GivesArea words (Ok area)) where
      pub stops_opening : (e : Stop) → StopsOpening (origin.Name got.0) got.1.items e → Watches name words (objects h i u) (objects h' i u) (Err e)
      stops_opening e does =
          shelf_on (GetsBytes name) _ (objects h i u) h h' (objects h' i u) got (Err e) gets reads writes
          (inside_on (GivesArea words) _ (objects h' i u) (objects h' i u) area (Err e) given (inl (does, refl)))

      module _ (log : Log) (logged : IsLoggedImage got.1.items log) (i' : SourceFacts) (u' : HubValue) where
        abbrev pub opened : NamedRows
        opened = record { namespace = log.kept.namespace; rows = logged.rows }

        opens : OpensImage (origin.Name got.0) got.1.items (Ok opened)
        opens = record { is_image = logged.is_image; fits_log = logged.whole.fits_log }

        -- it stopped as the input was read
        pub stops_hearing : (e : Stop) → WatchesInput area opened i i' u u' (Err e) → CountsStep {A = Unit {0}} i.faults i'.faults (Err e) → i.ends ≤ i'.ends → Watches name words (objects h i u) (objects h' i' u') (Err e)
        stops_hearing e does faults ends =
            shelf_on (GetsBytes name) _ (objects h i u) h h' (objects h' i' u') got (Err e) gets reads writes
            (inside_on (GivesArea words) _ (objects h' i u) (objects h' i' u') area (Err e) given
            (inside_on (OpensImage (origin.Name got.0) got.1.items) _ (objects h' i u) (objects h' i' u') opened (Err e) opens
            (inl (record { does = does; faults = faults; ends = ends; others = refl }))))

        -- all was read, and the image was put or tried to be put
        pub puts : (h'' : ShelfFacts) (x : List ℕ × WatchCounts) (end : Result Done Stop) → WatchesInput area opened i i' u u' (Ok x) → i'.faults ≡ i.faults → i.ends ≤ i'.ends
            → Puts (string_bytes name) x.0 (done.Watched x.1) h' h'' end → h''.read_faults ≡ h'.read_faults → CountsStep h'.write_faults h''.write_faults end
            → Watches name words (objects h i u) (objects h'' i' u') end
        puts h'' x end does faults ends put same write_faults =
            shelf_on (GetsBytes name) _ (objects h i u) h h' (objects h'' i' u') got end gets reads writes
            (inside_on (GivesArea words) _ (objects h' i u) (objects h'' i' u') area end given
            (inside_on (OpensImage (origin.Name got.0) got.1.items) _ (objects h' i u) (objects h'' i' u') opened end opens
            (hearing_on (WatchesInput area opened) _ (objects h' i u) i i' u u' (objects h'' i' u') x end does faults ends
            (record { does = put; read_faults = stands_at h'.read_faults h''.read_faults end same; write_faults = write_faults; others = refl }))))

-- ---- the log that was read

module _ (bytes : List ℕ) (first log : Log) (logged : IsLoggedImage bytes first) (i i' : SourceFacts) (h h' : HubValue) (counts : WatchCounts)
    (all : IsCounted first.kept.namespace logged.rows i i' h h' log counts) where
  held : live_rows log.kept ≡ live (authorised_rows first.kept.namespace (logged.rows ++ all.heard.read.rows))
  held = taken_live entry_row (authorised_rows first.kept.namespace (logged.rows ++ all.heard.read.rows)) log.kept all.heard.read.whole.is_log.taken

  -- its live rows have frames
  pub heard_framed : AllByRecursion HasFrame (live_rows log.kept)
  heard_framed =
      subst (AllByRecursion HasFrame) (sym held) (live_all_framed first.kept.namespace logged.rows all.heard.read.rows (image_raw bytes first.kept.namespace logged.rows logged.is_image.is_image) all.heard.read.frames.fit)

  -- and their image is that of all rows
  pub heard_whole : IsWatched first.kept.namespace logged.rows i i' h h' (image log.kept.namespace (live_rows log.kept)) counts
  heard_whole =
      record {
        bytes = all.heard.read.bytes;
        read = all.heard.read.read;
        rows = all.heard.read.rows;
        frames = all.heard.read.frames;
        fits_log = all.heard.read.whole.fits_log;
        counted = all.counted;
        told = all.heard.told;
        is_image = ap (λ (n : List ℕ). image n (live_rows log.kept)) all.heard.read.whole.is_log.of_namespace ∙ ap (image first.kept.namespace) held;
      }
