-- What `watch` does: the image of a name grows by the rows of the input, and those who watch hear of each that is new.
use Rattle.std.specs.Prelude.{◌≡◌, ℕ, ◌+◌, ◌≤◌, List, [], ◌++◌, length, take, drop, Some, None, Result, Ok, Err}
use Rattle.std.specs.String.{string_bytes}
use Rattle.std.specs.declared.string.String.{String}
use Rattle.std.specs.declared.alloc.Global.{Global}
use Rattle.std.specs.Io.KnownBytes.{Consumes}
use Rattle.willow_outside.specs.Facts.{ShelfFacts, SourceFacts}
use Rattle.willow_outside.specs.Names.{GetsName}
use Rattle.willow_area.specs.declared.area.Area.{Area}
use Rattle.willow_entry.specs.Row.{RowValue, new}
use Rattle.cap_codec.specs.Rows.{RawValue, AreFrames}
use Rattle.sub_hub.specs.Hubs.{HubValue, IsPumped, begun_at}
use Rattle.peer_stage.specs.World.{World}
use Rattle.peer_stage.specs.Faults.{CountsStep}
use Rattle.peer_stage.specs.Shelves.{GetsBytes, IsPut, PutsBytes}
use Rattle.peer_stage.specs.Stages.{IsReadWhole}
use Rattle.peer_stage.specs.Steps.{Step, Then, Inside, OnShelf}
use Rattle.peer_stage.specs.declared.stage.TheConstants.{INPUT_LIMIT}
use Rattle.peer_stage.specs.declared.outcome.Done.{Done}
use Rattle.peer_stage.specs.declared.outcome.Done.TheVariants as done
use Rattle.peer_stage.specs.declared.outcome.Origin.TheVariants as origin
use Rattle.peer_stage.specs.declared.outcome.Stop.{Stop}
use Rattle.peer_stage.specs.declared.outcome.Stop.TheVariants as stop
use Rattle.peer_stage.specs.declared.outcome.WatchCounts.{WatchCounts}
use Rattle.peer_words.specs.Areas.{completed}
use Rattle.peer_words.specs.declared.command.AreaWords.{AreaWords}
use Rattle.peer_rows.specs.Join.{AreRightSoFar, StopsInput, joined}
use Rattle.peer_rows.specs.Logged.{authorised_rows, first_refused, FitsLog}
use Rattle.peer_rows.specs.Opened.{AreOpened, NamedRows, OpensImage}

-- ---- what is new

-- how many rows the log of some rows has
abbrev pub log_length : List ℕ → List RawValue → ℕ
log_length namespace rows = length (new (authorised_rows namespace rows))

-- the rows of the log that are new behind those of the rows had before
abbrev pub new_behind : List ℕ → List RawValue → List RawValue → List RowValue
new_behind namespace had rows = drop (log_length namespace had) (new (authorised_rows namespace (had ++ rows)))

-- ---- the numbers

-- The numbers of rows behind those had before; the first that is not authorised is counted over both.
pub record AreWatchCounts (namespace : List ℕ) (had rows : List RawValue) (counts : WatchCounts) : Type 0 where
  pub all : counts.rows ≡ length rows
  pub stored : counts.stored ≡ length (new_behind namespace had rows)
  pub kept : counts.stored + counts.kept ≡ length (authorised_rows namespace rows)
  pub refused : length (authorised_rows namespace rows) + counts.refused ≡ length rows
  pub first : counts.first ≡ first_refused namespace (had ++ rows)

-- ---- the input, and what is heard of it

-- the hub as the input finds it: its front is behind the log of the image's rows, and its area is this
abbrev pub hub_begun : NamedRows → Area → HubValue → HubValue
hub_begun opened area hub = begun_at hub (log_length opened.namespace opened.rows) area

-- The input was read whole and is the frames of rows, for which the log has room behind those had before. All who watch were
-- told of just those that are new, and so many left. This is the image of what is live of all.
pub record IsWatched (namespace : List ℕ) (had : List RawValue) (i i' : SourceFacts) (h h' : HubValue) (image : List ℕ) (counts : WatchCounts) : Type 0 where
  pub bytes : List ℕ
  pub read : IsReadWhole INPUT_LIMIT i i' bytes
  pub rows : List RawValue
  pub frames : AreFrames bytes rows
  pub fits_log : FitsLog namespace (had ++ rows)
  pub counted : AreWatchCounts namespace had rows counts
  pub told : IsPumped h h' (new_behind namespace had rows) counts.left
  pub is_image : image ≡ joined namespace (had ++ rows)

-- All who watch were told of some of the first of the rows that are new in a front of the bytes taken.
pub record HaveHeardSome (namespace : List ℕ) (had : List RawValue) (i i' : SourceFacts) (h h' : HubValue) : Type 0 where
  pub bytes : List ℕ
  pub behind : List ℕ
  pub taken : Consumes i.left i'.left (bytes ++ behind)
  pub rows : List RawValue
  pub not_wrong : AreRightSoFar bytes rows
  pub count : ℕ
  pub left : ℕ
  pub told : IsPumped h h' (take count (new_behind namespace had rows)) left

-- how the watching of an input ends, with the image and the numbers: where it stops some of what is new was told
abbrev pub WatchesInput : Area → NamedRows → SourceFacts → SourceFacts → HubValue → HubValue → Result (List ℕ × WatchCounts) Stop → Type 0
WatchesInput area opened i i' h h' (Ok x) = IsWatched opened.namespace opened.rows i i' (hub_begun opened area h) h' x.0 x.1
WatchesInput area opened i i' h h' (Err e) = StopsInput opened.namespace opened.rows i i' e × HaveHeardSome opened.namespace opened.rows i i' (hub_begun opened area h) h'

-- ---- the command

-- The input is read, and those who watch are told; nothing else outside is touched.
pub record OnInputToHub {A : Type 0} (P : SourceFacts → SourceFacts → HubValue → HubValue → Result A Stop → Type 0) (old new : World) (end : Result A Stop) : Type 0 where
  pub does : P old.input new.input old.hub new.hub end
  pub faults : CountsStep old.input.faults new.input.faults end
  pub ends : old.input.ends ≤ new.input.ends
  pub others : new ≡ record old { input = new.input; hub = new.hub }

-- how a command ends whose last stage makes these bytes and puts them under a name
abbrev pub Puts : List ℕ → List ℕ → Done → ShelfFacts → ShelfFacts → Result Done Stop → Type 0
Puts name bytes done old new (Ok d) = IsPut name bytes old new × (d ≡ done)
Puts name bytes done old new (Err e) = PutsBytes name bytes old new (Err e)

-- the area of the words, where a field without a word is that of the full area
abbrev pub watched_area : AreaWords → Area
watched_area words = completed words (record { subspace = None; path = []; times = record { start = 0; end = None } })

-- the area of the words, unless memory is wanting
abbrev pub GivesArea : AreaWords → Result Area Stop → Type 0
GivesArea words (Ok area) = area ≡ watched_area words
GivesArea words (Err stop.NoMemory) = Unit {0}
GivesArea words (Err e) = ⊥

-- It gets the image of a name and takes its rows to a log, reads row frames from the input and takes each in behind them,
-- tells those who watch an area of the new ones as they come, and puts the image.
abbrev pub Watches : String Global → AreaWords → Step Done
Watches name words =
    Then (OnShelf (GetsBytes name)) (λ got.
    Then (Inside (GivesArea words)) (λ area.
    Then (Inside (OpensImage (origin.Name got.0) got.1.items)) (λ opened.
    Then (OnInputToHub (WatchesInput area opened)) (λ x.
    OnShelf (Puts (string_bytes name) x.0 (done.Watched x.1))))))

-- ---- what a watch leaves that came to its end

-- The name held an image of rows in order, and the input was read whole and is the frames of rows, for which the log has room
-- behind those. The name holds the image of what is live of all that are authorised. Each of those who watch was told of just
-- the rows that are new behind the image's log (`told`), up to the end of the log (`front`). Nothing else outside is touched.
pub record HasWatched (name : List ℕ) (words : AreaWords) (old new : World) (counts : WatchCounts) : Type 0 where
  pub image_bytes : List ℕ
  pub held : GetsName old.shelf.names name (Some image_bytes)
  pub opened : NamedRows
  pub is_opened : AreOpened image_bytes opened
  pub bytes : List ℕ
  pub read : IsReadWhole INPUT_LIMIT old.input new.input bytes
  pub rows : List RawValue
  pub frames : AreFrames bytes rows
  pub fits_log : FitsLog opened.namespace (opened.rows ++ rows)
  pub put : IsPut name (joined opened.namespace (opened.rows ++ rows)) old.shelf new.shelf
  pub counted : AreWatchCounts opened.namespace opened.rows rows counts
  pub told : IsPumped (hub_begun opened (watched_area words) old.hub) new.hub (new_behind opened.namespace opened.rows rows) counts.left
  pub front : new.hub.front ≡ log_length opened.namespace (opened.rows ++ rows)
  pub others : new ≡ record old { shelf = new.shelf; input = new.input; hub = new.hub }
