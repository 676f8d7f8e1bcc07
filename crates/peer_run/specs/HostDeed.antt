-- The commands `sync` and `serve` as a value.
use Rattle.std.specs.Prelude.{◌≡◌, ◌⊎◌, ℕ, ◌+◌, ◌≤◌, true, false, List, ◌++◌, All, Some, None, Contains, length, map, Err}
use Rattle.std.specs.declared.option.Option.{Option}
use Rattle.std.specs.declared.string.String.{String}
use Rattle.std.specs.declared.alloc.Global.{Global}
use Rattle.std.specs.String.{string_bytes}
use Rattle.willow_outside.specs.Bays.{bytes_under}
use Rattle.willow_outside.specs.Facts.{Names, BayFacts, ShelfFacts}
use Rattle.willow_outside.specs.Links.{list_with}
use Rattle.link_host.specs.Hosted.{list_with_all}
use Rattle.willow_area.specs.declared.area.Area.{Area}
use Rattle.willow_entry.specs.Row.{live}
use Rattle.willow_entry.specs.declared.row.LogRow.{LogRow}
use Rattle.auth_entry.specs.Authorised.{AuthorisedValue}
use Rattle.cap_codec.specs.Rows.{IsRaw, IsRawRow, RawValue, row_of}
use Rattle.log_keeper.specs.BadLogs.{IsBadFile}
use Rattle.lms_core.specs.Accepts.{leaves}
use Rattle.lms_core.specs.Key.{Key, IsKey, key_file}
use Rattle.ns_state.specs.Log.{IsLog}
use Rattle.session_end.specs.declared.end.SessionEnd.TheVariants.{LogFull}
use Rattle.auth_entry.specs.Rows.{entry_row}
use Rattle.sync_link.specs.Kept.{log_rows}
use Rattle.call_rules.specs.Visits.{AreVisits}
use Rattle.peer_make.specs.KeySigners.{AreSignersOf}
use Rattle.peer_make.specs.Making.{TakesDraws}
use Rattle.peer_make.specs.declared.key_signer.KeySigner.{KeySigner}
use Rattle.peer_rows.specs.Logged.{PassesLog}
use Rattle.peer_image.specs.Image.{image}
use Rattle.peer_stage.specs.Deed.{Deed}
use Rattle.peer_stage.specs.Shelves.{IsPut}
use Rattle.peer_stage.specs.World.{World, UnfailedInside}
use Rattle.peer_words.specs.declared.command.SignerWord.{SignerWord}
use Rattle.peer_words.specs.declared.command.SignerWord.TheVariants.{OpenKey, LmsFile}
use Rattle.peer_run.specs.Answered.{AreAnswered, GivesFeed, SignsFor}
use Rattle.peer_run.specs.Following.{area_to_follow}
use Rattle.peer_run.specs.Hosting.{BayReads, BayWrites, HostReads, HostWrites, DoesHost, IsBackAtMost, own_role, way_of}
use Rattle.peer_run.specs.LogGiven.{HasOpeningRows}
use Rattle.peer_run.specs.LogOpening.{HeldRows}
use Rattle.peer_run.specs.SideGiven.{SideGiven, AreSideGiven, party_of}
use Rattle.peer_run.specs.Visiting.{Way, Visit, IsVisit, IsAlone, IsShared, first_number}
use Rattle.peer_run.specs.declared.sessions.HostWords.{HostWords}
use Rattle.peer_run.specs.declared.tails.Tail.TheVariants.{Followed}

-- Memory was wanting behind a place that was listened at: accepting a link may have failed before, which stops nothing. A call
-- goes on from no fault.
pub record WantsLater (way : Way) (old new : World) : Type 0 where
  pub awaited : way.awaited ≡ true
  pub inside : UnfailedInside old new
  pub asked : new.door.asked ≡ list_with way.place old.door.asked

-- ---- what it needs

-- the shelf tells that the name holds a key file with so many indices left
pub record HasIndices (h : ShelfFacts) (name : List ℕ) (count : ℕ) : Type 0 where
  pub names : Names
  pub told : h.names ≡ Some names
  pub key : Key
  pub is_key : IsKey key
  pub file : names name ≡ Some (key_file key)
  pub room : key.next + count ≤ leaves key.height

-- an open key can always sign, a key file as often as it has indices left
abbrev pub CanSignAll : SignerWord → ℕ → ShelfFacts → Type 0
CanSignAll (OpenKey key) count h = Unit {0}
CanSignAll (LmsFile name) count h = HasIndices h (string_bytes name) count

-- The sessions that a run had, over the links that are back: the words' signers signed in them, and draws of the run were their
-- nonces. They began with the log of the image's authorised rows, and of those of the log file where there is one, and left one log of the namespace: that of which the image
-- was put (`is_put`). A call was alone with it (`alone`).
pub record HadSessions (words : HostWords) (given : SideGiven) (old new : World) : Type 0 where
  pub signers : List KeySigner
  pub reserved : ShelfFacts
  pub are_signers : AreSignersOf words.key words.links old.shelf reserved signers
  pub draws : List (List ℕ)
  pub drawn : TakesDraws old.noise new.noise draws
  pub many : length draws ≡ words.links
  pub visits : List Visit
  pub back : new.door.back ≡ list_with_all (map (λ (visit : Visit). visit.link) visits) old.door.back
  pub opening : List (LogRow AuthorisedValue)
  pub log : List (LogRow AuthorisedValue)
  pub opens : HasOpeningRows words.log given.namespace given.rows old.bay opening
  pub shared : IsShared words.awaited opening log (length visits)
  pub alone : words.awaited ≡ false → All (IsAlone opening log) visits
  pub is_log : IsLog entry_row given.namespace log
  pub are_visits : AreVisits (IsVisit words.awaited words.follow opening log (party_of (own_role words.awaited) words.area words.limits given)) (first_number words.awaited) signers draws visits
  pub is_put : IsPut (string_bytes words.image) (image given.namespace (live (log_rows log))) reserved new.shelf

-- the bay tells what the name of a log file holds: nothing is bad in it, and its rows fit a log behind those of an image
pub record CanFile (name namespace : List ℕ) (rows : List RawValue) (bay : BayFacts) : Type 0 where
  pub names : Names
  pub are_told : bay.names ≡ Some names
  pub sound : (at : ℕ) → IsBadFile IsRawRow namespace at (bytes_under names name) → ⊥
  pub room : (filed : List RawValue) → All IsRaw filed → HeldRows namespace (bytes_under names name) (map row_of filed) → PassesLog namespace (rows ++ filed) → ⊥

-- the rows of an image fit a log, with those of a log file where one is named
abbrev pub CanOpen : Option (String Global) → List ℕ → List RawValue → BayFacts → Type 0
CanOpen None namespace rows bay = PassesLog namespace rows → ⊥
CanOpen (Some name) namespace rows bay = CanFile (string_bytes name) namespace rows bay

-- The shelf tells that the names hold what a side goes by, the rows with which it begins fit a log, and the signer has a signature left
-- for each link and signs for the capability's receiver. Another side answered over each link up to its session's end (`answered`),
-- and wrote a feed behind that where one is followed (`fed`), and no row that came over one met a full log (`unfilled`).
pub record CanHost (words : HostWords) (old new : World) : Type 0 where
  pub names : Names
  pub are_told : old.shelf.names ≡ Some names
  pub given : SideGiven
  pub are_given : AreSideGiven (string_bytes words.image) (string_bytes words.cap) words.area (Some names) given
  pub can_open : CanOpen words.log given.namespace given.rows old.bay
  pub can_sign : CanSignAll words.key words.links old.shelf
  pub signs : (signers : List KeySigner) (reserved : ShelfFacts) → AreSignersOf words.key words.links old.shelf reserved signers
      → (signer : KeySigner) → Contains signers signer → SignsFor given.cap signer
  pub answered : (had : HadSessions words given old new) → AreAnswered (party_of (own_role words.awaited) words.area words.limits given) had.draws (map (λ (visit : Visit). visit.behind) had.visits)
  pub fed : words.awaited ≡ false → (had : HadSessions words given old new) (visit : Visit) → Contains had.visits visit → (area : Area) → area_to_follow words.follow visit.answer ≡ Some area → GivesFeed area visit.behind visit.link
  pub unfilled : (had : HadSessions words given old new) (visit : Visit) → Contains had.visits visit → (missed : ℕ) → (visit.answer ≡ Err (LogFull missed) → ⊥) × (visit.tail ≡ Followed (Err (LogFull missed)) → ⊥)

-- ---- what failed

-- such a count rose, in a run that is given back as many links at most as the words name: a call just the one
abbrev pub FailedReading : HostWords → World → World → Type 0
FailedReading words old new = (HostReads old new ⊎ BayReads old new) × IsBackAtMost words.links old.door new.door

abbrev pub FailedWriting : HostWords → World → World → Type 0
FailedWriting words old new = (HostWrites old new ⊎ BayWrites old new) × IsBackAtMost words.links old.door new.door

-- ---- the deed

abbrev pub host_deed : HostWords → Deed
host_deed words =
    record {
      meets = DoesHost words;
      ready = CanHost words;
      reads = FailedReading words;
      writes = FailedWriting words;
      wants_later = WantsLater (way_of words);
      unbuilt = ⊥;
    }
