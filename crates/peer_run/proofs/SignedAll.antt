-- No session of a command failed to sign: a signer of the program counts no faults.
use Rattle.std.proofs.Common.{◌≡◌, ◌∙◌, List, Contains, Option, Some, None, inl, inr, sym, subst, ap, arith}
use Rattle.std.specs.Prelude.{Result, Ok, Err}
use Rattle.willow_outside.specs.Counts.{HasRisen}
use Rattle.session_end.specs.declared.end.SessionEnd.{SessionEnd}
use Rattle.session_end.specs.declared.end.SessionEnd.TheVariants as ending
use Rattle.sync_link.specs.Run.{Answer, CountsSigns}
use Rattle.call_rules.specs.Visits.{IsSomeVisit}
use Rattle.call_rules.proofs.Elements.{contains_from_map}
use Rattle.call_rules.proofs.Visits.{some_visit}
use Rattle.peer_stage.specs.World.{World}
use Rattle.peer_stage.specs.declared.outcome.Done.{Done}
use Rattle.peer_stage.specs.declared.outcome.Done.TheVariants as done
use Rattle.peer_stage.specs.declared.outcome.FollowCounts.{FollowCounts}
use Rattle.peer_stage.specs.declared.outcome.SessionCounts.{SessionCounts}
use Rattle.peer_stage.specs.declared.outcome.Stop.{Stop}
use Rattle.peer_stage.proofs.Ends.{IsLocal}
use Rattle.peer_words.specs.declared.command.Command.{Command}
use Rattle.peer_words.specs.declared.command.Command.TheVariants as cmd
use Rattle.peer_run.specs.Deeds.{deed_of}
use Rattle.peer_run.specs.Hosting.{DoesHost, HostsWith, calling_words, plans_of, serving_words}
use Rattle.peer_run.specs.LogClosing.{filed_end}
use Rattle.peer_run.specs.LogFiles.{FileState}
use Rattle.peer_run.specs.Telling.{TellsHosted, Told, told_of, told_tail}
use Rattle.peer_run.specs.Visiting.{Visit, IsVisit, first_number}
use Rattle.peer_run.specs.declared.sessions.HostWords.{HostWords}
use Rattle.peer_run.specs.declared.tails.Tail.{Tail}
use Rattle.peer_run.proofs.FollowedEnds.{tail_signs}
use Rattle.peer_run.proofs.Laws.{stays_local}

-- a session did not fail to sign
abbrev pub IsSigned : Result SessionCounts SessionEnd → Type 0
IsSigned session = session ≡ Err ending.SignFault → ⊥

-- nor did a feed behind one
abbrev pub IsSignedFeed : Option (Result FollowCounts SessionEnd) → Type 0
IsSignedFeed followed = followed ≡ Some (Err ending.SignFault) → ⊥

-- none of the sessions and feeds did
abbrev pub SignsAll : Done → Type 0
SignsAll (done.Hosted s) =
    ((session : Result SessionCounts SessionEnd) → Contains s.sessions.items session → IsSigned session) × ((followed : Option (Result FollowCounts SessionEnd)) → Contains s.tails.items followed → IsSignedFeed followed)
SignsAll d = Unit {0}

abbrev pub SignsEnd : Result Done Stop → Type 0
SignsEnd (Ok d) = SignsAll d
SignsEnd (Err e) = Unit {0}

from_local : (d : Done) → IsLocal d → SignsAll d
from_local (done.Joined counts) local = tt
from_local (done.Shown counts) local = tt
from_local (done.Met counts) local = tt
from_local (done.Hosted s) local = absurd local
from_local (done.Stopped s) local = absurd local
from_local (done.Watched counts) local = tt
from_local done.Made local = tt

-- ---- sessions

never_rose : HasRisen 0 0 → ⊥
never_rose risen = omega (arith, risen.rose)

answer_signed : (answer : Answer) → CountsSigns 0 0 answer → answer ≡ Err ending.SignFault → ⊥
answer_signed answer counts is = never_rose (subst (CountsSigns 0 0) is counts)

-- one that ended so is told so
told_end : (answer : Answer) (end : SessionEnd) → told_of answer ≡ Err end → answer ≡ Err end
told_end (Ok report) end is = absurd cc
told_end (Err e) end is =
    let same : e ≡ end = cc in
    ap (λ (x : SessionEnd). Err x) same

with_signs : (words : HostWords) (file : Option FileState) (old new : World) (d : Done) → HostsWith words file old new (Ok d) → SignsAll d
with_signs words file old new d p = by d t p.rest.rest.2 signed tail_signed where
  t : Told
  t = p.rest.rest.0

  so_far : Told
  so_far = p.rest.rest.1.so_far

  visits : List Visit
  visits = p.rest.rest.1.given.does.visits

  one_of : (visit : Visit) → Contains visits visit → IsSomeVisit (IsVisit words.awaited words.follow p.value.opening.state.log so_far.state.log (plans_of p.value)) p.value.signers.items p.rest.value.items visit
  one_of visit at = some_visit (IsVisit words.awaited words.follow p.value.opening.state.log so_far.state.log (plans_of p.value)) (first_number words.awaited) p.value.signers.items p.rest.value.items visits p.rest.rest.1.given.does.are_visits visit at

  signed : (answer : Answer) → Contains t.answers answer → answer ≡ Err ending.SignFault → ⊥
  signed answer at is =
      let answers = ap (λ (x : Told). x.answers) p.rest.rest.1.rest.told_is ∙ p.rest.rest.1.given.does.ends in
      let visit = contains_from_map (λ (visit : Visit). visit.answer) visits answer (subst (λ (l : List Answer). Contains l answer) answers at) in
      answer_signed visit.0.answer (one_of visit.0 visit.1).is_visit.ran.counted_faults.signs (visit.2 ∙ is)

  tail_signed : (tail : Tail) → Contains t.tails tail → told_tail tail ≡ Some (Err ending.SignFault) → ⊥
  tail_signed tail at is =
      let tails = ap (λ (x : Told). x.tails) p.rest.rest.1.rest.told_is ∙ p.rest.rest.1.given.does.tailed in
      let visit = contains_from_map (λ (visit : Visit). visit.tail) visits tail (subst (λ (l : List Tail). Contains l tail) tails at) in
      let one = one_of visit.0 visit.1 in
      let party = plans_of p.value one.draw one.is_visit.ran.signature in
      tail_signs words.awaited words.follow party.rules party.namespace so_far.state.log one.number visit.0 one.is_visit.followed (ap told_tail visit.2 ∙ is)

  by : (d : Done) (told : Told) → TellsHosted words.awaited told d → ((answer : Answer) → Contains told.answers answer → answer ≡ Err ending.SignFault → ⊥) → ((tail : Tail) → Contains told.tails tail → told_tail tail ≡ Some (Err ending.SignFault) → ⊥) → SignsAll d
  by (done.Hosted s) told is_told signs feeds = (
    (λ session at is.
        let answer = contains_from_map told_of told.answers session (subst (λ (l : List (Result SessionCounts SessionEnd)). Contains l session) is_told.sessions at) in
        signs answer.0 answer.1 (told_end answer.0 ending.SignFault (answer.2 ∙ is))),
    (λ followed at is.
        let tail = contains_from_map told_tail told.tails followed (subst (λ (l : List (Option (Result FollowCounts SessionEnd))). Contains l followed) is_told.tails at) in
        feeds tail.0 tail.1 (tail.2 ∙ is)),
  )
  by d told is_told signs feeds = absurd is_told

-- what is kept beside them makes no difference
filed_signs : (f : FileState) (d : Done) → SignsAll d → SignsEnd (filed_end f (Ok d))
filed_signs f (done.Hosted s) signs = signs
filed_signs f (done.Joined counts) signs = signs
filed_signs f (done.Shown counts) signs = signs
filed_signs f (done.Met counts) signs = signs
filed_signs f (done.Stopped s) signs = signs
filed_signs f (done.Watched counts) signs = signs
filed_signs f done.Made signs = signs

reached_signs : (words : HostWords) (f f' : FileState) (old new : World) (reached : Result Done Stop) → HostsWith words (Some f) old new reached → SignsEnd (filed_end f' reached)
reached_signs words f f' old new (Ok d) hosts = filed_signs f' d (with_signs words (Some f) old new d hosts)
reached_signs words f f' old new (Err e) hosts = tt

host_signs : (words : HostWords) (old new : World) (d : Done) → DoesHost words old new (Ok d) → SignsAll d
host_signs words old new d (inl hosts) = with_signs words None old new d hosts
host_signs words old new d (inr x) = subst SignsEnd (sym x.told) (reached_signs words x.opened x.left old x.between x.reached x.hosts)

-- ---- all commands

done_signs : (c : Command) (old new : World) (d : Done) → (deed_of c).meets old new (Ok d) → SignsAll d
done_signs (cmd.Sync image grant key to area newest bytes follow) old new d m = host_signs (calling_words image grant key to area (record { newest = newest; bytes = bytes }) follow) old new d m
done_signs (cmd.Serve image grant key at links area newest bytes follow log) old new d m = host_signs (serving_words image grant key at links area (record { newest = newest; bytes = bytes }) follow log) old new d m
done_signs c old new d m = from_local d (stays_local c tt old new d m)

pub signs_end : (c : Command) (old new : World) (end : Result Done Stop) → (deed_of c).meets old new end → SignsEnd end
signs_end c old new (Ok d) m = done_signs c old new d m
signs_end c old new (Err e) m = tt
