-- From the status of a run back to how its command ended.
use Rattle.std.proofs.Common.{◌≡◌, ◌≢◌, ℕ, ◌≤◌, ◌<◌, Bool, true, false, cond, ◌⊎◌, inl, inr, refl, ap, ◌∙◌, arith}
use Rattle.std.specs.Prelude.{Option, None, Some, Result, Ok, Err, nat_le}
use Rattle.std.proofs.lemmas.Bool.Decides.{nat_tests}
use Rattle.willow_outside.specs.Facts.{SinkFacts}
use Rattle.session_end.specs.declared.end.SessionEnd.{SessionEnd}
use Rattle.session_end.specs.declared.end.SessionEnd.TheVariants as ending
use Rattle.peer_stage.specs.declared.outcome.FollowCounts.{FollowCounts}
use Rattle.peer_stage.specs.declared.outcome.SessionCounts.{SessionCounts}
use Rattle.peer_stage.specs.declared.outcome.Hosted.{Hosted}
use Rattle.peer_stage.specs.declared.outcome.Done.{Done}
use Rattle.peer_stage.specs.declared.outcome.Done.TheVariants as done
use Rattle.peer_stage.specs.declared.outcome.Stopped.{Stopped}
use Rattle.peer_stage.specs.declared.outcome.Stop.{Stop}
use Rattle.peer_stage.specs.declared.outcome.Stop.TheVariants as stop
use Rattle.peer_stage.specs.Status.{status_of, stop_status, session_status, tail_status}
use Rattle.peer_stage.proofs.Ends.{IsLocal, above_gave, done_small, hosted_known}
use Rattle.peer_report.specs.Report.{Reports, after_report_fault}
use Rattle.peer_run.specs.Promises.{IsRefusedMaking, IsEnd, IsBadStop, IsBadEnd, IsRefusedSession, IsRefusedFeed, IsRefusedStop, IsRefusedEnd, IsFullSession, IsFullFeed, IsFullStop, IsFullEnd, IsSpentStop, IsSpentEnd}
use Rattle.peer_run.proofs.SignedAll.{IsSigned, IsSignedFeed, SignsAll, SignsEnd}

-- ---- what a status tells of the end

-- after a fault of the report the status is 4 or as it was, and 4 where it was small
pub after_is : (s t : ℕ) → s ≡ after_report_fault t → (s ≡ 4) ⊎ ((s ≡ t) × (1 < t))
after_is s t e = cases (nat_le t 1) refl e where
  cases : (b : Bool) → nat_le t 1 ≡ b → s ≡ cond b 4 t → (s ≡ 4) ⊎ ((s ≡ t) × (1 < t))
  cases true test h = inl h
  cases false test h = inr (h, grind (arith, nat_tests))

-- but for 4 and 7 the status is that of the end
pub own_status : (r r' : SinkFacts) (end : Result Done Stop) (s : ℕ) → Reports r r' end s → s ≢ 4 → s ≢ 7 → s ≡ status_of end
own_status r r' end s (inl told) other memory = told.status_is
own_status r r' end s (inr (inl fault)) other memory = elim (after_is s (status_of end) fault.status_is) [ inl four ↦ absurd (other four) | inr same ↦ same.0 ]
own_status r r' end s (inr (inr none)) other memory = absurd (memory none.status_is)

-- an end with 7 is told so
pub own_seven : (r r' : SinkFacts) (end : Result Done Stop) (s : ℕ) → Reports r r' end s → status_of end ≡ 7 → s ≡ 7
own_seven r r' end s (inl told) seven = told.status_is ∙ seven
own_seven r r' end s (inr (inl fault)) seven = fault.status_is ∙ ap after_report_fault seven
own_seven r r' end s (inr (inr none)) seven = none.status_is

-- without memory the status is 7
pub memory_end : (r r' : SinkFacts) (s : ℕ) → Reports r r' (Err stop.NoMemory) s → s ≡ 7
memory_end r r' s reports = own_seven r r' (Err stop.NoMemory) s reports refl

is_refusal : (e : Stop) → stop_status e ≤ 1 → IsRefusedMaking e
is_refusal (stop.Refused refusal) small = tt
is_refusal e small = absurd (omega (arith, small))

pub is_end : (end : Result Done Stop) → status_of end ≤ 1 → IsEnd end
is_end (Ok (done.Stopped s)) small = is_refusal s.stop small
is_end (Ok d) small = tt
is_end (Err e) small = is_refusal e small

-- ---- what is done, with sessions or without

by_done : (P : Done → Type 0) → ((d : Done) → IsLocal d → P d) → ((s : Hosted) → P (done.Hosted s)) → ((s : Stopped) → P (done.Stopped s)) → (d : Done) → P d
by_done P local host stopped (done.Joined counts) = local (done.Joined counts) tt
by_done P local host stopped (done.Shown counts) = local (done.Shown counts) tt
by_done P local host stopped (done.Met counts) = local (done.Met counts) tt
by_done P local host stopped (done.Hosted s) = host s
by_done P local host stopped (done.Stopped s) = stopped s
by_done P local host stopped (done.Watched counts) = local (done.Watched counts) tt
by_done P local host stopped done.Made = local done.Made tt

-- of a session, by its own status
six_session : (session : Result SessionCounts SessionEnd) → IsSigned session → session_status session ≡ 6 → IsRefusedSession session
six_session (Err (ending.ClosedEarly at)) signs is = tt
six_session (Err (ending.BadMessage at)) signs is = tt
six_session (Err (ending.Hello refusal)) signs is = tt
six_session (Err (ending.Core refusal)) signs is = tt
six_session (Err ending.SignFault) signs is = absurd (signs refl)
six_session (Err end) signs is = absurd (omega (arith, is))
six_session (Ok counts) signs is = absurd (omega (arith, is))

eight_session : (session : Result SessionCounts SessionEnd) → session_status session ≡ 8 → IsFullSession session
eight_session (Err (ending.LogFull missed)) is = tt
eight_session (Err end) is = absurd (omega (arith, is))
eight_session (Ok counts) is = absurd (omega (arith, is))

-- of a feed behind a session
six_feed : (followed : Option (Result FollowCounts SessionEnd)) → IsSignedFeed followed → tail_status followed ≡ 6 → IsRefusedFeed followed
six_feed (Some (Err end)) signs is = six_session (Err end) (λ same. let fault : end ≡ ending.SignFault = cc in signs (ap (λ (e : SessionEnd). Some (Err e)) fault)) is
six_feed (Some (Ok counts)) signs is = absurd (omega (arith, is))
six_feed None signs is = absurd (omega (arith, is))

eight_feed : (followed : Option (Result FollowCounts SessionEnd)) → tail_status followed ≡ 8 → IsFullFeed followed
eight_feed (Some (Err end)) is = eight_session (Err end) is
eight_feed (Some (Ok counts)) is = absurd (omega (arith, is))
eight_feed None is = absurd (omega (arith, is))

refused_host : (s : Hosted) → SignsAll (done.Hosted s) → status_of (Ok (done.Hosted s)) ≡ 6 → IsRefusedEnd (Ok (done.Hosted s))
refused_host s signs is = elim (above_gave s 6 is (omega arith)) [
  | inl session ↦ inl (session.0, session.1, six_session session.0 (signs.0 session.0 session.1) session.2)
  | inr feed ↦ inr (feed.0, feed.1, six_feed feed.0 (signs.1 feed.0 feed.1) feed.2)
]

full_host : (s : Hosted) → status_of (Ok (done.Hosted s)) ≡ 8 → IsFullEnd (Ok (done.Hosted s))
full_host s is = elim (above_gave s 8 is (omega arith)) [
  | inl session ↦ inl (session.0, session.1, eight_session session.0 session.2)
  | inr feed ↦ inr (feed.0, feed.1, eight_feed feed.0 feed.2)
]

-- the stops of each status
bad_stop : (e : Stop) → stop_status e ≡ 5 → IsBadStop e
bad_stop (stop.BadInput from at) is = tt
bad_stop (stop.NotRising from row) is = tt
bad_stop (stop.Pruned from row by) is = tt
bad_stop (stop.Missing name) is = tt
bad_stop (stop.Taken name) is = tt
bad_stop e is = absurd (omega (arith, is))

refused_stop : (e : Stop) → stop_status e ≡ 6 → IsRefusedStop e
refused_stop (stop.SessionRefused refusal) is = tt
refused_stop e is = absurd (omega (arith, is))

full_stop : (e : Stop) → stop_status e ≡ 8 → IsFullStop e
full_stop stop.LogFull is = tt
full_stop e is = absurd (omega (arith, is))

spent_stop : (e : Stop) → stop_status e ≡ 9 → IsSpentStop e
spent_stop stop.KeySpent is = tt
spent_stop e is = absurd (omega (arith, is))

-- the ends of each status
pub bad_end : (end : Result Done Stop) → status_of end ≡ 5 → IsBadEnd end
bad_end (Ok d) is =
    by_done (λ x. status_of (Ok x) ≡ 5 → IsBadEnd (Ok x)) (λ x local e. absurd (omega (arith, done_small x local, e))) (λ s e. absurd ((hosted_known s).no_input e))
    (λ s e. bad_stop s.stop e) d is
bad_end (Err e) is = bad_stop e is

pub refused_end : (end : Result Done Stop) → SignsEnd end → status_of end ≡ 6 → IsRefusedEnd end
refused_end (Ok d) signs is =
    by_done (λ x. SignsAll x → status_of (Ok x) ≡ 6 → IsRefusedEnd (Ok x)) (λ x local signed e. absurd (omega (arith, done_small x local, e)))
    refused_host (λ s signed e. refused_stop s.stop e) d signs is
refused_end (Err e) signs is = refused_stop e is

pub full_end : (end : Result Done Stop) → status_of end ≡ 8 → IsFullEnd end
full_end (Ok d) is =
    by_done (λ x. status_of (Ok x) ≡ 8 → IsFullEnd (Ok x)) (λ x local e. absurd (omega (arith, done_small x local, e))) full_host (λ s e. full_stop s.stop e) d is
full_end (Err e) is = full_stop e is

pub spent_end : (end : Result Done Stop) → status_of end ≡ 9 → IsSpentEnd end
spent_end (Ok d) is =
    by_done (λ x. status_of (Ok x) ≡ 9 → IsSpentEnd (Ok x)) (λ x local e. absurd (omega (arith, done_small x local, e))) (λ s e. absurd (omega (arith, (hosted_known s).small, e)))
    (λ s e. spent_stop s.stop e) d is
spent_end (Err e) is = spent_stop e is
