-- What `sync` and `serve` do, part by part: sessions of an image over links, and the image of what is live behind them.
use Rattle.std.specs.Prelude.{◌≡◌, ℕ, ◌≤◌, ◌⊎◌, Bool, true, false, ◌&&◌, List, [], length, Contains, Some, None, Result, Ok, Err}
use Rattle.std.specs.declared.option.Option.{Option}
use Rattle.std.specs.String.{string_bytes}
use Rattle.std.specs.declared.string.String.{String}
use Rattle.std.specs.declared.alloc.Global.{Global}
use Rattle.willow_outside.specs.Counts.{Rose}
use Rattle.willow_outside.specs.Facts.{LinkFacts, DoorFacts, BayFacts, DiskFacts}
use Rattle.link_host.specs.Hosted.{list_with_all}
use Rattle.area_interest.specs.declared.interest.Interest.{Interest}
use Rattle.lms_core.specs.Use.{peer_rules}
use Rattle.sync_msg.specs.declared.role.Role.{Role}
use Rattle.sync_msg.specs.declared.role.Role.TheVariants.{Caller, Answerer}
use Rattle.sync_link.specs.Plans.{planned}
use Rattle.sync_link.specs.Sessions.{Party}
use Rattle.willow_area.specs.declared.area.Area.{Area}
use Rattle.call_rules.specs.Parts.{Rules, Part, Behind}
use Rattle.peer_words.specs.declared.command.AreaWords.{AreaWords}
use Rattle.peer_words.specs.declared.command.SignerWord.{SignerWord}
use Rattle.peer_make.specs.KeySigners.{HandsSigners}
use Rattle.peer_make.specs.Making.{DrawsAll}
use Rattle.peer_make.specs.declared.key_signer.KeySigner.{KeySigner}
use Rattle.peer_stage.specs.Shelves.{PutsBytes}
use Rattle.peer_stage.specs.Status.{stop_status}
use Rattle.peer_stage.specs.Steps.{Step, Then, Inside, OnShelf, OnNoise}
use Rattle.peer_stage.specs.World.{World, NeverFall, Unfailed}
use Rattle.peer_stage.specs.declared.outcome.Done.{Done}
use Rattle.peer_stage.specs.declared.outcome.Stop.{Stop}
use Rattle.peer_stage.specs.declared.outcome.Stop.TheVariants as stop
use Rattle.peer_run.specs.Closing.{image_of, put_answer}
use Rattle.peer_run.specs.Hearing.{HearsSessions, StopsHearing, rows_behind}
use Rattle.peer_run.specs.LogClosing.{GivesBack, filed_end}
use Rattle.peer_run.specs.LogFiles.{FileState, Keeps, StopsFile}
use Rattle.peer_run.specs.LogOpening.{IsFileOpened}
use Rattle.peer_run.specs.Meet.{Yields}
use Rattle.peer_run.specs.Preparing.{Prepares, nonce_of, plan_of}
use Rattle.peer_run.specs.Telling.{Told, AreNotForWant, AreTailsNotForWant, TellsHosted, none_told, first_with_tails, statuses}
use Rattle.peer_run.specs.Visiting.{Way, AreAttended, StopsAttending}
use Rattle.peer_run.specs.declared.sessions.House as house
use Rattle.peer_run.specs.declared.sessions.HostWords.{HostWords}

-- ---- the words

-- one is called for, from the place of the words, and where they say so a feed behind the session is followed
abbrev pub calling_words : String Global → String Global → SignerWord → String Global → AreaWords → Interest → Bool → HostWords
calling_words image cap key to area limits follow = record { awaited = false; image = image; cap = cap; key = key; place = to; links = 1; area = area; limits = limits; follow = follow; log = None }

-- so many are waited for at the place of the words, where they say so each is fed behind all sessions, and there is a log file where
-- one is named
abbrev pub serving_words : String Global → String Global → SignerWord → String Global → ℕ → AreaWords → Interest → Bool → Option (String Global) → HostWords
serving_words image cap key at links area limits follow log = record { awaited = true; image = image; cap = cap; key = key; place = at; links = links; area = area; limits = limits; follow = follow; log = log }

abbrev pub way_of : HostWords → Way
way_of words = record { awaited = words.awaited; follows = words.follow; place = string_bytes words.place }

-- who calls for a link, and who waits for links
abbrev pub own_role : Bool → Role
own_role false = Caller
own_role true = Answerer

-- ---- causes

-- among the links that are back there is one of which this count rose
pub record HasFailedAmong (count : LinkFacts → ℕ) (old new : DoorFacts) : Type 0 where
  pub links : List LinkFacts
  pub back : new.back ≡ list_with_all links old.back
  pub link : LinkFacts
  pub among : Contains links link
  pub rose : Rose 0 (count link)

-- a count of the shelf's reads, of the noise or of the door rose, or that of the reads of a link
abbrev pub HostReads : World → World → Type 0
HostReads old new =
    Rose old.shelf.read_faults new.shelf.read_faults ⊎ (Rose old.noise.faults new.noise.faults ⊎ (Rose old.door.faults new.door.faults ⊎ HasFailedAmong (λ link. link.read_faults) old.door new.door))

-- a count of the shelf's writes rose, or that of the writes of a link
abbrev pub HostWrites : World → World → Type 0
HostWrites old new = Rose old.shelf.write_faults new.shelf.write_faults ⊎ HasFailedAmong (λ link. link.write_faults) old.door new.door

-- among the disks that are back there is one of which this count rose
pub record HasFailedDisk (count : DiskFacts → ℕ) (old new : BayFacts) : Type 0 where
  pub disks : List DiskFacts
  pub back : new.back ≡ list_with_all disks old.back
  pub disk : DiskFacts
  pub among : Contains disks disk
  pub rose : Rose 0 (count disk)

-- a count of the bay rose, or that of the reads of a disk
abbrev pub BayReads : World → World → Type 0
BayReads old new = Rose old.bay.faults new.bay.faults ⊎ HasFailedDisk (λ disk. disk.read_faults) old.bay new.bay

-- a count of the writes of a disk rose
abbrev pub BayWrites : World → World → Type 0
BayWrites old new = HasFailedDisk (λ disk. disk.write_faults) old.bay new.bay

-- at most so many links are back
pub record IsBackAtMost (most : ℕ) (old new : DoorFacts) : Type 0 where
  pub links : List LinkFacts
  pub back : new.back ≡ list_with_all links old.back
  pub few : length links ≤ most

-- no count falls, and the links that are back stay there
pub record GoesOn (old new : World) : Type 0 where
  pub counts : NeverFall old new
  pub links : List LinkFacts
  pub back : new.door.back ≡ list_with_all links old.door.back

abbrev pub host_rules : Rules World Told Stop
host_rules = record { goes_on = GoesOn; unfailed = Unfailed; reads = HostReads; writes = HostWrites; met = statuses; stop = stop_status }

-- ---- the sessions

-- Sessions were run over the links of a way, before which none was told. Those who watch this area heard of what came.
pub record HasAttended (way : Way) (area : Area) (p : List ℕ → List ℕ → Party) (signers : List KeySigner) (draws : List (List ℕ)) (rows : ℕ) (old : World) (told : Told) (new : World) (t : Told) : Type 0 where
  pub none_yet : told.answers ≡ []
  pub no_tails_yet : told.tails ≡ []
  pub all_came_yet : told.all_came ≡ true
  pub does : AreAttended way p signers draws told.state old.door new.door t.answers t.tails t.all_came t.state
  pub first_is : t.first ≡ first_with_tails rows told.first t.answers t.tails
  pub put_is : t.put ≡ told.put
  pub heard : HearsSessions way.awaited area told.state.namespace told.state.log t.state.log old.hub new.hub t.left
  pub others : new ≡ record old { door = new.door; hub = new.hub }

-- Sessions are run over the links of a way, behind an image of so many rows. Only the door is asked, and in a server those who
-- watch this area are told.
abbrev pub RunsSessions : Way → Area → (List ℕ → List ℕ → Party) → List KeySigner → List (List ℕ) → ℕ → Part World Told Stop
RunsSessions way area p signers draws rows old told new (Ok t) = HasAttended way area p signers draws rows old told new t
RunsSessions way area p signers draws rows old told new (Err e) =
    StopsAttending way old.door new.door e × (new ≡ record old { door = new.door; hub = new.hub }) × StopsHearing way.awaited area told.state.namespace told.state.log old.hub new.hub e

-- ---- the image

-- what is told of a put, behind what was told
abbrev pub with_put : Told → Bool → Told
with_put told put = record { answers = told.answers; tails = told.tails; all_came = told.all_came; first = told.first; left = told.left; put = told.put && put; state = told.state }

-- The image was put, or writing it failed, which is told; memory was wanting in none of the sessions, nor in what followed them.
pub record HasPut (name : List ℕ) (old : World) (told : Told) (new : World) (t : Told) : Type 0 where
  pub wanted_none : AreNotForWant told.answers
  pub none_behind : AreTailsNotForWant told.tails
  pub put : Bool
  pub told_is : t ≡ with_put told put
  pub does : OnShelf (PutsBytes name (image_of told.state)) old new (put_answer put)

-- The image of what is live is put. For want of memory, in a session, in what followed it or behind them, none was put.
abbrev pub PutsImage : List ℕ → Part World Told Stop
PutsImage name old told new (Ok t) = HasPut name old told new t
PutsImage name old told new (Err stop.NoMemory) = OnShelf (PutsBytes name (image_of told.state)) old new (Err stop.NoMemory)
PutsImage name old told new (Err e) = ⊥

-- ---- as a command

abbrev pub HostsLinks : Way → Area → (List ℕ → List ℕ → Party) → List KeySigner → List (List ℕ) → ℕ → List ℕ → Part World Told Stop
HostsLinks way area p signers draws rows name = Behind (RunsSessions way area p signers draws rows) (PutsImage name)

-- it ends with what tells what is told, or with the stop
abbrev pub Tells : Part World Told Stop → Told → (Told → Done → Type 0) → Step Done
Tells part start tells old new (Ok d) = (t : Told) × part old start new (Ok t) × tells t d
Tells part start tells old new (Err e) = part old start new (Err e)

-- It gets what a side of this role brings, with the log file that stands so behind it, and reserves as many signers as links are to
-- come.
abbrev pub OpensHouse : Role → String Global → String Global → SignerWord → ℕ → AreaWords → Interest → Option (String Global) → Option FileState → Step house.House
OpensHouse role image cap key links area limits log file =
    Then (Prepares image cap area log file) (λ r.
    Then (OnShelf (HandsSigners key links)) (λ signers.
    Inside (Yields (record { opening = r.opening; plan = plan_of role r.hello limits; signers = signers }))))

-- the side of a session, by its draw
abbrev pub plans_of : house.House → List ℕ → List ℕ → Party
plans_of s draw = planned peer_rules s.opening.state.namespace s.plan (nonce_of draw)

-- It gets the image and the capability, and reserves what signs and draws, for each link that is to come. It runs a session over
-- each, and puts the image of what is live behind all of them. A server tells those who watch the area that it asks for. The log
-- file of the words, if it was opened, stood so before the sessions.
abbrev pub HostsWith : HostWords → Option FileState → Step Done
HostsWith words file =
    Then (OpensHouse (own_role words.awaited) words.image words.cap words.key words.links words.area words.limits words.log file) (λ s.
    Then (OnNoise (DrawsAll words.links)) (λ draws.
    Tells (HostsLinks (way_of words) s.plan.ask (plans_of s) s.signers.items draws.items s.opening.rows (string_bytes words.image)) (none_told s.opening.state s.opening.first) (TellsHosted words.awaited)))

-- ---- with a log file

-- How a log file that was opened stands behind: it keeps the rows that came into the log behind the opening ones, or a write of it
-- failed. Where the run stopped, it is as it was opened, but for want of memory.
abbrev pub KeepsIn : (words : HostWords) (f f' : FileState) (old new : World) (end : Result Done Stop) → HostsWith words (Some f) old new end → Type 0
KeepsIn words f f' old new (Ok d) hosts = Keeps (rows_behind hosts.value.opening.state.log hosts.rest.rest.1.so_far.state.log) f f'
KeepsIn words f f' old new (Err e) hosts = StopsFile e (Some f) (Some f')

-- how it ends, with the file that is open behind it
abbrev pub HostsFile : HostWords → Option FileState → Step Done
HostsFile words None old new end = HostsWith words None old new end
HostsFile words (Some f') old new end = (f : FileState) × (hosts : HostsWith words (Some f) old new end) × IsFileOpened words.log old.bay new.bay f × KeepsIn words f f' old new end hosts

-- The log file of the words was opened, and came to stand so. Its disk is given back behind all else, and the end tells what the file
-- keeps.
pub record HasFiled (words : HostWords) (old new : World) (end : Result Done Stop) : Type 0 where
  pub opened : FileState
  pub left : FileState
  pub between : World
  pub reached : Result Done Stop
  pub hosts : HostsWith words (Some opened) old between reached
  pub is_opened : IsFileOpened words.log old.bay between.bay opened
  pub keeps : KeepsIn words opened left old between reached hosts
  pub back : GivesBack (Some left) between.bay new.bay
  pub others : new ≡ record between { bay = new.bay }
  pub told : end ≡ filed_end left reached

-- with the log file of the words open, or with none
abbrev pub DoesHost : HostWords → Step Done
DoesHost words old new end = HostsWith words None old new end ⊎ HasFiled words old new end
