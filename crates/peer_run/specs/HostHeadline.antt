-- The headline of `sync` and of `serve`, over the links that the door has back. The log behind all sessions is that of the image,
-- of a server's log file, and of rows that came over the links and are authorised, each told by the number of its session. The log
-- file keeps each row that came, behind those that it held. Where the one at the other
-- end of a link whose session was done said what the link gave, the store lies at or above the join of what that session began
-- with and of that one's rows in the area that both may read. What was written on a link is a function of the rows with which
-- its session began in that area and of what was read. Each session told rows of the whole log as it stood at a turn of its own,
-- and only to one that may read them. Each of those who watch a server hears of just the rows of its area that came over the links.
use Rattle.std.specs.Prelude.{◌≡◌, ◌≢◌, ◌⊎◌, ℕ, ◌+◌, ◌≤◌, Bool, true, false, List, ◌++◌, length, map, All, Some, IsNone, IsSome, Result, Ok, Err}
use Rattle.std.specs.declared.option.Option.{Option}
use Rattle.std.specs.List.{sum_by}
use Rattle.std.specs.String.{string_bytes}
use Rattle.std.specs.declared.string.String.{String}
use Rattle.std.specs.declared.alloc.Global.{Global}
use Rattle.area_interest.specs.declared.interest.Interest.{Interest}
use Rattle.willow_outside.specs.Counts.{Rose}
use Rattle.willow_outside.specs.Draws.{IsDraw}
use Rattle.willow_outside.specs.Facts.{LinkFacts, ShelfFacts}
use Rattle.willow_area.specs.declared.area.Area.{Area}
use Rattle.scheme_core.specs.Rules as scheme
use Rattle.willow_entry.specs.Row.{RowValue, HasCovering, live}
use Rattle.willow_entry.specs.declared.row.LogRow.{LogRow}
use Rattle.auth_entry.specs.Authorised.{AuthorisedValue}
use Rattle.ns_cell.specs.Passes.{PassValue, FirstFound}
use Rattle.ns_state.specs.Log.{IsLog}
use Rattle.ns_state.specs.declared.live_log.TheConstants.{LOG_LIMIT}
use Rattle.lms_core.specs.Key.{Key, raised}
use Rattle.lms_core.specs.Reserve.{HoldsKey, KeepsNames, PutsKey}
use Rattle.session_end.specs.declared.end.SessionEnd.{SessionEnd}
use Rattle.session_end.specs.declared.end.SessionEnd.TheVariants.{SignFault, NoMemory}
use Rattle.auth_entry.specs.Rows.{entry_row, authorised_rows as authorised_of}
use Rattle.sync_link.specs.Kept.{log_rows}
use Rattle.sync_link.specs.Ran.{Ran, AreAuthorised, AreToldApart, IsOther, TellsGranted, other_common, opening_of}
use Rattle.sync_link.specs.Run.{Answer}
use Rattle.sync_link.specs.Sessions.{Party, AreSameInCommon, out}
use Rattle.call_rules.specs.Visits.{AreVisits}
use Rattle.peer_image.specs.Image.{image}
use Rattle.peer_make.specs.KeySigners.{AreSignersOf}
use Rattle.peer_make.specs.Making.{TakesDraws}
use Rattle.peer_make.specs.declared.key_signer.KeySigner.{KeySigner}
use Rattle.peer_report.specs.Report.{Reports}
use Rattle.peer_rows.specs.Logged.{first_refused}
use Rattle.peer_stage.specs.Shelves.{IsPut}
use Rattle.peer_stage.specs.declared.outcome.Done.TheVariants as done
use Rattle.peer_stage.specs.declared.outcome.Hosted.{Hosted}
use Rattle.mc_cap.specs.Grant.{granted}
use Rattle.peer_words.specs.Areas.{completed}
use Rattle.peer_words.specs.Commands.{IsWords}
use Rattle.peer_words.specs.declared.command.AreaWords.{AreaWords}
use Rattle.peer_words.specs.declared.command.Command.TheVariants as cmd
use Rattle.peer_words.specs.declared.command.SignerWord.{SignerWord}
use Rattle.peer_words.specs.declared.command.SignerWord.TheVariants.{OpenKey, LmsFile}
use Rattle.peer_run.specs.Calling.{IsUnasked}
use Rattle.peer_run.specs.Following.{FollowsBehind, area_to_follow}
use Rattle.peer_run.specs.Hearing.{HearsSessions, rows_behind}
use Rattle.peer_run.specs.Hosting.{calling_words, serving_words, own_role}
use Rattle.peer_run.specs.LogGiven.{HasOpeningRows}
use Rattle.peer_run.specs.LogKept.{KeepsLog}
use Rattle.peer_run.specs.Run.{Run}
use Rattle.peer_run.specs.SideGiven.{SideGiven, AreSideGiven, party_of}
use Rattle.peer_run.specs.Telling.{Told, TellsJust, first_with_tails}
use Rattle.peer_run.specs.Visiting.{Visit, IsVisit, IsFollowedUp, IsShared, AreCalled, AreBack, Accepts, first_number, ran_of}
use Rattle.peer_run.specs.declared.sessions.HostWords.{HostWords}
use Rattle.peer_run.specs.declared.tails.Tail.{Tail}
use Rattle.peer_run.specs.declared.tails.Tail.TheVariants.{Fed, Followed}

-- ---- what a session makes of the store

-- the session was done, and the log had room for all that came
abbrev pub AnswersOk : Answer → Type 0
AnswersOk (Ok report) = Unit {0}
AnswersOk (Err end) = ⊥

-- what followed it came to its end, where anything did
abbrev pub IsTailDone : Tail → Type 0
IsTailDone (Fed (Err end)) = ⊥
IsTailDone (Followed (Err end)) = ⊥
IsTailDone tail = Unit {0}

-- how many rows its line tells as stored; of another end none
abbrev pub stored_told : Answer → ℕ
stored_told (Ok report) = report.stored
stored_told (Err end) = 0

-- where it answers so
abbrev pub WhereOk : Answer → Type 0 → Type 0
WhereOk (Ok report) P = P
WhereOk (Err end) P = Unit {0}

-- What is live of the log covers the opening store, and all that another side whose bytes were read offers in the area that
-- both may read, if its rows are authorised and fingerprints tell the rows of both apart.
pub record LiesAbove {p : List ℕ → Party} (ran : Ran p) (log : List RowValue) : Type 0 where
  pub own : All (HasCovering (live log)) (opening_of ran)
  pub others : (q : Party) (theirs : List RowValue) → IsOther ran q theirs → AreAuthorised ran theirs → AreToldApart ran q theirs
      → All (HasCovering (live log)) (other_common ran q theirs)

-- Where memory was not wanting, the log with which the session began is the whole one, as it stood at the first turn that its
-- pass had in it.
abbrev pub OpensWhole : {p : List ℕ → Party} → Ran p → Type 0
OpensWhole ran = (ran.answer ≡ Err NoMemory → ⊥) → FirstFound ran.before ran.did.log ran.after

-- The log covers the rows that came; or it is full, unless the session was done. Where signing failed, or memory was wanting, it
-- may cover fewer.
abbrev pub CoversCame : {Report : Type 0} → List RowValue → List RowValue → Result Report SessionEnd → Type 0
CoversCame log rows (Ok report) = All (HasCovering log) rows
CoversCame log rows (Err SignFault) = Unit {0}
CoversCame log rows (Err NoMemory) = Unit {0}
CoversCame log rows (Err end) = All (HasCovering log) rows ⊎ (length log ≡ LOG_LIMIT)

-- So it is with the rows of the feed that one who called followed behind the session.
abbrev pub CoversFed : (rules : scheme.Rules) (namespace : List ℕ) (area : Option Area) (before after : PassValue AuthorisedValue) (link link' : LinkFacts) (tail : Tail) → List RowValue → FollowsBehind rules namespace area before after link link' tail → Type 0
CoversFed rules namespace (Some area) before after link link' (Followed answer) log did = CoversCame log (authorised_of rules namespace did.follows.rows) answer
CoversFed rules namespace area before after link link' tail log did = Unit {0}

abbrev pub CoversFollowed : (awaited follows : Bool) (rules : scheme.Rules) (namespace : List ℕ) (log : List (LogRow AuthorisedValue)) (number : ℕ) (visit : Visit) → IsFollowedUp awaited follows rules namespace log number visit → Type 0
CoversFollowed true follows rules namespace log number visit did = Unit {0}
CoversFollowed false follows rules namespace log number visit did = CoversFed rules namespace (area_to_follow follows visit.answer) visit.between visit.after visit.behind visit.link visit.tail (log_rows log) did

-- What a session makes of the log behind all: the authorised rows that came in it, and in the feed behind it, are covered, its opening store is what is live
-- of the whole log at one moment of the run (`fresh`), the second sentence of the headline (`above`), already by what its pass
-- had then seen, the third (`alike`), whatever the store holds outside of what both may read, and rows and fingerprints are told
-- only to one that may read them (`granted`).
pub record HasVisited {awaited follows : Bool} {opening log : List (LogRow AuthorisedValue)} {p : List ℕ → List ℕ → Party} {number : ℕ} {signer : KeySigner} {draw : List ℕ} {visit : Visit} (run : IsVisit awaited follows opening log p number signer draw visit) : Type 0 where
  pub covers : CoversCame (log_rows log) (authorised_of (p draw run.ran.signature).rules (p draw run.ran.signature).namespace run.ran.rows) visit.answer
  pub covers_fed : CoversFollowed awaited follows (p draw run.ran.signature).rules (p draw run.ran.signature).namespace log number visit run.followed
  pub fresh : OpensWhole (ran_of run)
  pub above : WhereOk visit.answer (LiesAbove (ran_of run) (log_rows visit.between.seen))
  pub alike : (others : List RowValue) → AreSameInCommon (p draw run.ran.signature) run.ran.bytes (live (log_rows run.ran.log)) others
      → out (p draw run.ran.signature) others run.ran.bytes ≡ out (p draw run.ran.signature) (live (log_rows run.ran.log)) run.ran.bytes
  pub granted : TellsGranted (ran_of run)

-- ---- a run

-- the image of these rows was put under the name; where it could not be, a count of writes rose
abbrev pub PutsOrFails : List ℕ → Bool → List ℕ → List RowValue → ShelfFacts → ShelfFacts → Type 0
PutsOrFails name true n rows old new = IsPut name (image n rows) old new
PutsOrFails name false n rows old new = Rose old.write_faults new.write_faults × ((new.names ≡ old.names) ⊎ IsPut name (image n rows) old new)

-- the names hold what they held, but that so many indices of the signer's key file may be used up
abbrev pub KeepsButKeys : SignerWord → ℕ → ShelfFacts → ShelfFacts → Type 0
KeepsButKeys (OpenKey key) links old new = KeepsNames old new
KeepsButKeys (LmsFile name) links old new = KeepsNames old new ⊎ ((k : Key) × HoldsKey old (string_bytes name) k × PutsKey old new (string_bytes name) (raised links k))

-- Nobody was called, and nobody could come: the door is as it was but for its faults, and no image was put.
pub record IsUnhosted (words : HostWords) (run : Run) : Type 0 where
  pub unasked : IsUnasked run.old.door run.new.door
  pub unput : KeepsButKeys words.key words.links run.old.shelf run.new.shelf

-- Sessions were run over the links to the place of the words, or over those that came there, all of which are back.
pub record HasHosted (words : HostWords) (run : Run) : Type 0 where
  pub given : SideGiven
  pub are_given : AreSideGiven (string_bytes words.image) (string_bytes words.cap) words.area run.old.shelf.names given
  -- what signs are the signers of the words, in order, one for each link that was to come
  pub signers : List KeySigner
  pub reserved : ShelfFacts
  pub are_signers : AreSignersOf words.key words.links run.old.shelf reserved signers
  pub counted : reserved.write_faults ≡ run.old.shelf.write_faults
  -- as many draws were taken, each of 32 bytes
  pub draws : List (List ℕ)
  pub are_draws : All IsDraw draws
  pub drawn : TakesDraws run.old.noise run.new.noise draws
  pub as_many : (length signers ≡ words.links) × (length draws ≡ words.links)
  -- what is told of the sessions, and the log behind all of them
  pub told : Told
  -- all links are back in order, and the place was asked for once; fewer came only to a server, where the door failed
  pub visits : List Visit
  pub are_back : AreBack (string_bytes words.place) run.old.door run.new.door (map (λ (visit : Visit). visit.link) visits)
  pub accepts : Accepts words.awaited words.links (length visits) told.all_came run.old.door run.new.door
  -- the log began with the authorised rows of the image, and of the log file where there is one, and each further row is of one of
  -- the sessions, of which a call had one
  pub opening : List (LogRow AuthorisedValue)
  pub opens : HasOpeningRows words.log given.namespace given.rows run.old.bay opening
  pub shared : IsShared words.awaited opening told.state.log (length visits)
  pub is_log : IsLog entry_row given.namespace told.state.log
  pub called : words.awaited ≡ false → AreCalled opening told.state.log visits told.all_came
  -- the session of each link with what followed it, and what it makes of the store
  pub are_visits : AreVisits (IsVisit words.awaited words.follow opening told.state.log (party_of (own_role words.awaited) words.area words.limits given)) (first_number words.awaited) signers draws visits
  pub visited : (p : List ℕ → List ℕ → Party) (number : ℕ) (signer : KeySigner) (draw : List ℕ) (visit : Visit) (run : IsVisit words.awaited words.follow opening told.state.log p number signer draw visit) → HasVisited run
  -- a server told each of those who watch of just the rows that came into the log, for the area that it asks for, up to the log's
  -- end; a call told nobody
  pub told_watchers : HearsSessions words.awaited (completed words.area (granted given.cap)) given.namespace opening told.state.log run.old.hub run.new.hub told.left
  pub front : words.awaited ≡ true → run.new.hub.front ≡ length told.state.log
  -- these are the opening rows and, where each session was done, as many as their lines tell as stored
  pub front_counts : words.awaited ≡ true → All AnswersOk told.answers → run.new.hub.front ≡ length opening + sum_by stored_told told.answers
  -- the image of what is live of the log was put, or could not be
  pub is_put : PutsOrFails (string_bytes words.image) told.put given.namespace (live (log_rows told.state.log)) reserved run.new.shelf
  -- how each session ended and what followed it, and the first row that is not authorised, of the image, of the log file, then of
  -- those that came, and then of the feed
  pub answers_are : told.answers ≡ map (λ (visit : Visit). visit.answer) visits
  pub tails_are : told.tails ≡ map (λ (visit : Visit). visit.tail) visits
  pub first_is : told.first ≡ first_with_tails (length (given.rows ++ opens.filed)) (first_refused given.namespace (given.rows ++ opens.filed)) told.answers told.tails
  -- the log file keeps what came, behind what it held; or a write of it failed, which is told as a failed put
  pub hosted : Hosted
  pub is_hosted : TellsJust words.awaited told hosted
  pub reported : Hosted
  pub keeps : KeepsLog words.log given.namespace (rows_behind opening told.state.log) run.old.bay run.new.bay hosted reported
  -- the report and the status tell all that
  pub reports : Reports run.old.report run.new.report (Ok (done.Hosted reported)) run.status

-- At 0 and 1 all links came, each session was done, each feed written or read whole, the image put, and with a log file each row kept; at 1 a row is not authorised, and at 0 none.
pub record IsWholeHost (words : HostWords) (run : Run) : Type 0 where
  pub hosted : HasHosted words run
  pub all_came : hosted.told.all_came ≡ true
  pub all_done : All (λ (visit : Visit). AnswersOk visit.answer) hosted.visits
  pub all_followed : All (λ (visit : Visit). IsTailDone visit.tail) hosted.visits
  pub put : hosted.told.put ≡ true
  pub kept : hosted.reported.put ≡ true
  pub all_authorised : run.status ≡ 0 → IsNone hosted.told.first
  pub some_refused : run.status ≡ 1 → IsSome hosted.told.first

-- ---- both commands

pub record HostPromises (words : HostWords) (run : Run) : Type 0 where
  pub hosted : run.status ≢ 7 → IsUnhosted words run ⊎ HasHosted words run
  pub whole : run.status ≤ 1 → IsWholeHost words run

abbrev pub SyncHeadline : Run → Type 0
SyncHeadline run = (image cap : String Global) (key : SignerWord) (to : String Global) (area : AreaWords) (limits : Interest) (follow : Bool) → IsWords run.words (cmd.Sync image cap key to area limits.newest limits.bytes follow)
    → HostPromises (calling_words image cap key to area limits follow) run

abbrev pub ServeHeadline : Run → Type 0
ServeHeadline run = (image cap : String Global) (key : SignerWord) (at : String Global) (links : ℕ) (area : AreaWords) (limits : Interest) (follow : Bool) (log : Option (String Global)) → IsWords run.words (cmd.Serve image cap key at links area limits.newest limits.bytes follow log)
    → HostPromises (serving_words image cap key at links area limits follow log) run
