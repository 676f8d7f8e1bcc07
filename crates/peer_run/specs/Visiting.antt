-- Sessions of one side, over a link that it called for or links that it waited for, and what followed each on its link: all over
-- one log, and every link given back behind them.
use Rattle.std.specs.Prelude.{◌≡◌, ◌⊎◌, ℕ, ◌+◌, ◌<◌, Bool, true, false, List, [], map, length, All, Result, Ok, Err}
use mathlib.Core.List.{IsPrefix}
use Rattle.willow_outside.specs.Counts.{HasRisen}
use Rattle.willow_outside.specs.Facts.{LinkFacts, DoorFacts}
use Rattle.willow_outside.specs.Links.{IsFresh, list_with}
use Rattle.link_host.specs.Hosted.{counted_on, list_with_all}
use Rattle.scheme_core.specs.Rules as scheme
use Rattle.willow_area.specs.declared.area.Area.{Area}
use Rattle.willow_entry.specs.declared.row.LogRow.{LogRow}
use Rattle.auth_entry.specs.Authorised.{AuthorisedValue}
use Rattle.log_rule.specs.Views.{rows_of_pass, AreOf}
use Rattle.ns_state.specs.Log.{StateValue, IsLog}
use Rattle.ns_cell.specs.Passes.{PassValue}
use Rattle.auth_entry.specs.Rows.{entry_row}
use Rattle.sync_link.specs.Ran.{Ran}
use Rattle.sync_link.specs.Run.{Answer, Runs}
use Rattle.sync_link.specs.Sessions.{Party}
use Rattle.sub_hub.specs.Hubs.{HubValue}
use Rattle.call_rules.specs.Visits.{AreVisits}
use Rattle.peer_make.specs.KeySigners.{gives_of}
use Rattle.peer_make.specs.declared.key_signer.KeySigner.{KeySigner}
use Rattle.peer_stage.specs.declared.outcome.Stop.{Stop}
use Rattle.peer_stage.specs.declared.outcome.Stop.TheVariants as stop
use Rattle.peer_run.specs.Calling.{IsUnasked}
use Rattle.peer_run.specs.Feeding.{FeedsBehind}
use Rattle.peer_run.specs.Following.{EndsAtByte, FollowsBehind, area_to_follow}
use Rattle.peer_run.specs.Hearing.{HearsSessions, StopsHearing}
use Rattle.peer_run.specs.declared.hosting.Attended.{Attended}
use Rattle.peer_run.specs.declared.tails.Tail.{Tail}

-- ---- how links come

-- At this place one is called for, or as many as come are waited for. Where `follows` is set a feed follows each session: one who
-- calls reads it, and one who waits writes it.
pub record Way : Type 0 where
  pub awaited : Bool
  pub follows : Bool
  pub place : List ℕ

-- the number of the first session: the pass of a call is the first of its cell, those of a server's sessions stand behind it
abbrev pub first_number : Bool → ℕ
first_number false = 0
first_number true = 1

-- of so many links those that were accepted: one that is called for is not
abbrev pub links_accepted : Bool → ℕ → ℕ
links_accepted false links = 0
links_accepted true links = links

-- ---- the session of one link

-- the link as it was handed out, behind the session, and as it came back; the pass before the session, behind it, and behind what
-- followed; and what the session answered, and how what followed ended
pub record Visit : Type 0 where
  pub handed_out : LinkFacts
  pub behind : LinkFacts
  pub link : LinkFacts
  pub before : PassValue AuthorisedValue
  pub between : PassValue AuthorisedValue
  pub after : PassValue AuthorisedValue
  pub answer : Answer
  pub tail : Tail

-- A server fed the link, where links are fed, with rows of this log; its session's pass did nothing more.
pub record IsFedBehind (feeds : Bool) (log : List (LogRow AuthorisedValue)) (number : ℕ) (visit : Visit) : Type 0 where
  pub fed : FeedsBehind feeds log number visit.answer visit.behind visit.link visit.tail
  pub same_pass : visit.after ≡ visit.between

-- by whether links were waited for: what followed the session on its link
abbrev pub IsFollowedUp : Bool → Bool → scheme.Rules → List ℕ → List (LogRow AuthorisedValue) → ℕ → Visit → Type 0
IsFollowedUp true follows rules namespace log number visit = IsFedBehind follows log number visit
IsFollowedUp false follows rules namespace log number visit = FollowsBehind rules namespace (area_to_follow follows visit.answer) visit.between visit.after visit.behind visit.link visit.tail

-- One session was run over the link, of a side that brings this by its draw and its signature. Its pass had seen the opening
-- log, the rows of its number there were its own, and it had had no turn; what it has seen behind it, and behind what followed it,
-- is a front of the log behind all sessions, in which its own list are the rows of its number. A session that one who called
-- follows read its link a byte at a time. A feed is of the log behind all sessions.
pub record IsVisit (awaited follows : Bool) (opening log : List (LogRow AuthorisedValue)) (p : List ℕ → List ℕ → Party) (number : ℕ) (signer : KeySigner) (draw : List ℕ) (visit : Visit) : Type 0 where
  pub fresh : IsFresh visit.handed_out
  pub begun : (visit.before.seen ≡ opening) × (visit.before.own ≡ rows_of_pass number opening)
  pub unturned : visit.before.turns ≡ []
  pub ran : Runs (p draw) (gives_of signer) visit.before visit.between visit.handed_out visit.behind 0 0 visit.answer
  pub by_byte : awaited ≡ false → follows ≡ true → EndsAtByte ran
  pub followed : IsFollowedUp awaited follows (p draw ran.signature).rules (p draw ran.signature).namespace log number visit
  pub front : IsPrefix visit.after.seen log
  pub own : visit.after.own ≡ rows_of_pass number log

-- it as a session of a side
abbrev pub ran_of : {awaited follows : Bool} {opening log : List (LogRow AuthorisedValue)} {p : List ℕ → List ℕ → Party} {number : ℕ} {signer : KeySigner} {draw : List ℕ} {visit : Visit} → IsVisit awaited follows opening log p number signer draw visit → Ran (p draw)
ran_of {awaited} {follows} {opening} {log} {p} {number} {signer} {draw} {visit} is = record {
  gives = gives_of signer;
  before = visit.before;
  after = visit.between;
  link = visit.handed_out;
  link' = visit.behind;
  faults = 0;
  faults' = 0;
  answer = visit.answer;
  did = is.ran;
}

-- ---- those of all links

-- The log behind so many sessions began with the opening one, whose rows are of pass 0. Of a server's sessions none stored a
-- row there; each row has the number of one of the sessions, or that of the opening rows.
pub record IsShared (awaited : Bool) (opening log : List (LogRow AuthorisedValue)) (sessions : ℕ) : Type 0 where
  pub front : IsPrefix opening log
  pub of_first : AreOf 0 opening
  pub opening_own : awaited ≡ true → rows_of_pass 0 log ≡ opening
  pub numbered : All (λ (row : LogRow AuthorisedValue). row.pass < first_number awaited + sessions) log

-- The pass of a session had all rows of the opening log for its own, and has seen all of the log behind it, each row of which is
-- its own.
pub record IsAlone (opening log : List (LogRow AuthorisedValue)) (visit : Visit) : Type 0 where
  pub began : visit.before.own ≡ opening
  pub seen : visit.after.seen ≡ log
  pub own : visit.after.own ≡ log

-- What a call has besides: its link came, and it had the one session, alone with its log.
pub record AreCalled (opening log : List (LogRow AuthorisedValue)) (visits : List Visit) (all_came : Bool) : Type 0 where
  pub came : all_came ≡ true
  pub one : length visits ≡ 1
  pub alone : All (IsAlone opening log) visits

-- ---- the door

-- the place was asked for once, and these links were handed out and are back, in order
pub record AreBack (place : List ℕ) (old new : DoorFacts) (links : List LinkFacts) : Type 0 where
  pub asked : new.asked ≡ list_with place old.asked
  pub out : new.out ≡ old.out
  pub back : new.back ≡ list_with_all links old.back

-- As many links came as were asked for, or fewer, since accepting one failed. Where they were waited for, one accept was made
-- for each that came, and one more where not all came.
abbrev pub Accepts : Bool → ℕ → ℕ → Bool → DoorFacts → DoorFacts → Type 0
Accepts awaited links came true old new = (came ≡ links) × (new.faults ≡ old.faults) × (new.accepts ≡ counted_on (links_accepted awaited came) old.accepts)
Accepts awaited links came false old new = (came < links) × HasRisen old.faults new.faults × (new.accepts ≡ counted_on (links_accepted awaited (came + 1)) old.accepts)

-- One session a link was run, of a side that brings this and began with the log of a state; each over a link of its own, up to
-- as many as there are signers.
pub record AreAttended (way : Way) (p : List ℕ → List ℕ → Party) (signers : List KeySigner) (draws : List (List ℕ)) (opening : StateValue AuthorisedValue) (old new : DoorFacts)
    (answers : List Answer) (tails : List Tail) (all_came : Bool) (state : StateValue AuthorisedValue) : Type 0 where
  pub visits : List Visit
  pub are_visits : AreVisits (IsVisit way.awaited way.follows opening.log state.log p) (first_number way.awaited) signers draws visits
  pub shared : IsShared way.awaited opening.log state.log (length visits)
  pub called : way.awaited ≡ false → AreCalled opening.log state.log visits all_came
  pub is_log : IsLog entry_row opening.namespace state.log
  pub of_namespace : state.namespace ≡ opening.namespace
  pub ends : answers ≡ map (λ (visit : Visit). visit.answer) visits
  pub tailed : tails ≡ map (λ (visit : Visit). visit.tail) visits
  pub back : AreBack way.place old new (map (λ (visit : Visit). visit.link) visits)
  pub accepts : Accepts way.awaited (length signers) (length visits) all_came old new

-- links were waited for at the place, and all that were handed out are back
pub record HasWaited (way : Way) (old new : DoorFacts) : Type 0 where
  pub awaited : way.awaited ≡ true
  pub links : List LinkFacts
  pub back : AreBack way.place old new links

-- nothing was asked, or links were waited for
abbrev pub IsAskedAtMost : Way → DoorFacts → DoorFacts → Type 0
IsAskedAtMost way old new = IsUnasked old new ⊎ HasWaited way old new

-- why no sessions are told: calling or listening failed before any link, or memory was wanting, and then no fault of the door
-- was met
abbrev pub StopsAttending : Way → DoorFacts → DoorFacts → Stop → Type 0
StopsAttending way old new stop.ReadFault = IsUnasked old new × HasRisen old.faults new.faults
StopsAttending way old new stop.NoMemory = IsAskedAtMost way old new × (new.faults ≡ old.faults)
StopsAttending way old new e = ⊥

-- how sessions are run over the links of a way, and what those who watch this area are told of them
abbrev pub Attends : Way → Area → (List ℕ → List ℕ → Party) → List KeySigner → List (List ℕ) → StateValue AuthorisedValue → DoorFacts → DoorFacts → HubValue → HubValue → Result Attended Stop → Type 0
Attends way area p signers draws opening old new hub hub' (Ok x) =
    AreAttended way p signers draws opening old new x.ends.items x.tails.items x.all_came x.state × HearsSessions way.awaited area opening.namespace opening.log x.state.log hub hub' x.left
Attends way area p signers draws opening old new hub hub' (Err e) = StopsAttending way old new e × StopsHearing way.awaited area opening.namespace opening.log hub hub' e
