-- What a session makes of a log that may have grown further: all that its pass has seen behind it is a front of that.
use Rattle.std.proofs.Common.{◌≡◌, ◌≤◌, ◌⊎◌, ℕ, Bool, true, false, Option, Some, None, List, ◌++◌, All, length, flat_map, get_or, inl, inr, refl, sym, ap, subst, arith}
use Rattle.std.specs.Prelude.{Result, Ok, Err}
use Rattle.std.proofs.lemmas.List.{length-map}
use Rattle.std.proofs.lemmas.List.Elements.{All-from_recursion}
use mathlib.Core.List.{IsPrefix}
use Rattle.scheme_core.specs.Rules.{Rules}
use Rattle.willow_outside.specs.Facts.{LinkFacts}
use Rattle.willow_area.specs.declared.area.Area.{Area}
use Rattle.willow_entry.specs.Row.{RowValue, HasCovering, inner_place_cmp, live}
use Rattle.willow_entry.specs.declared.row.LogRow.{LogRow}
use Rattle.willow_entry.proofs.Live.{live_covers_live_front}
use Rattle.willow_entry.proofs.Members.{contains_from_member}
use Rattle.willow_entry.proofs.Rising.{all_from_members}
use Rattle.auth_entry.specs.Authorised.{AuthorisedValue}
use Rattle.log_rule.proofs.Prefixes.{prefix_self, prefix_trans, prefix_length}
use Rattle.ns_state.proofs.NewRows.{live_covering}
use Rattle.ns_state.specs.declared.live_log.TheConstants.{LOG_LIMIT}
use Rattle.ns_cell.specs.Passes.{PassValue}
use Rattle.session_end.specs.declared.end.SessionEnd.{SessionEnd}
use Rattle.session_end.specs.declared.end.SessionEnd.TheVariants.{LinkRead, LinkWrite, ClosedEarly, BadMessage, Hello, Core, SignFault, LogFull, NoMemory}
use Rattle.session_rules.proofs.Growing.{says_of}
use Rattle.session_rules.proofs.Worlds.{same_read}
use Rattle.sync_link.specs.Greetings.{greeting}
use Rattle.auth_entry.specs.Rows.{entry_row, authorised_rows}
use Rattle.sync_link.specs.Kept.{log_rows}
use Rattle.sync_link.specs.Places.{offers_of, places}
use Rattle.sync_link.specs.Ran.{Ran, other_common, opening_of}
use Rattle.row_intake.specs.Answers.{Covers}
use Rattle.sync_link.specs.Run.{Answer}
use Rattle.sync_link.specs.Sessions.{Party, AreSameInCommon, out, own_part, session_of}
use Rattle.sync_link.specs.declared.plan.SessionReport.{SessionReport}
use Rattle.row_intake.proofs.CoveredRows.{covering_more, rows_behind}
use Rattle.sync_link.proofs.CoveringRuns.{runs_cover}
use Rattle.sync_link.proofs.GrantedRuns.{runs_granted}
use Rattle.sync_link.proofs.Promised.{fresh_of}
use Rattle.peer_make.specs.declared.key_signer.KeySigner.{KeySigner}
use Rattle.peer_run.specs.Following.{FollowsBehind, area_to_follow}
use Rattle.peer_run.specs.HostHeadline.{CoversCame, CoversFed, CoversFollowed, HasVisited, WhereOk, LiesAbove}
use Rattle.peer_run.specs.Visiting.{Visit, IsFollowedUp, IsVisit, ran_of}
use Rattle.peer_run.specs.declared.tails.Tail.{Tail}
use Rattle.peer_run.specs.declared.tails.Tail.TheVariants.{Nothing, Followed}
use Rattle.peer_run.proofs.FollowedUp.{followed_later}

-- ---- the longer log

module _ (seen log : List (LogRow AuthorisedValue)) (front : IsPrefix seen log) where
  -- it covers what its front covers
  covering_on : (r : RowValue) → HasCovering (log_rows seen) r → HasCovering (log_rows log) r
  covering_on r h = subst (λ (rows : List RowValue). HasCovering rows r) (sym (rows_behind entry_row seen log front)) (covering_more (log_rows seen) (log_rows front.0) r h)

  all_on : (rows : List RowValue) → All (HasCovering (log_rows seen)) rows → All (HasCovering (log_rows log)) rows
  all_on rows all k d within = covering_on (get_or rows k d) (all k d within)

  -- and is full where its front is
  full_on : length log ≤ LOG_LIMIT → length (log_rows seen) ≡ LOG_LIMIT → length (log_rows log) ≡ LOG_LIMIT
  full_on few full =
      let of_seen : length (log_rows seen) ≡ length seen = length-map seen (λ (l : LogRow AuthorisedValue). entry_row l.row) in
      let of_log : length (log_rows log) ≡ length log = length-map log (λ (l : LogRow AuthorisedValue). entry_row l.row) in
      omega (arith, few, full, of_seen, of_log, prefix_length seen log front)

  either_on : length log ≤ LOG_LIMIT → (rows : List RowValue) → All (HasCovering (log_rows seen)) rows ⊎ (length (log_rows seen) ≡ LOG_LIMIT) → All (HasCovering (log_rows log)) rows ⊎ (length (log_rows log) ≡ LOG_LIMIT)
  either_on few rows (inl all) = inl (all_on rows all)
  either_on few rows (inr full) = inr (full_on few full)

  -- so it covers the rows that came
  pub covers_came : {Report : Type 0} → length log ≤ LOG_LIMIT → (rows : List RowValue) (answer : Result Report SessionEnd) → Covers (log_rows seen) rows answer → CoversCame (log_rows log) rows answer
  covers_came few rows (Ok report) c = all_on rows c
  covers_came few rows (Err LinkRead) c = either_on few rows c
  covers_came few rows (Err LinkWrite) c = either_on few rows c
  covers_came few rows (Err (ClosedEarly at)) c = either_on few rows c
  covers_came few rows (Err (BadMessage at)) c = either_on few rows c
  covers_came few rows (Err (Hello cause)) c = either_on few rows c
  covers_came few rows (Err (Core cause)) c = either_on few rows c
  covers_came few rows (Err SignFault) c = tt
  covers_came few rows (Err (LogFull missed)) c = inr (full_on few c.full)
  covers_came few rows (Err NoMemory) c = tt

-- ---- what the store lies above, where the session was done

module _ {p : List ℕ → Party} (ran : Ran p) (log : List (LogRow AuthorisedValue)) (front : IsPrefix ran.after.seen log) where
  -- what is live of it covers what was live of its front
  abbrev CoversLive : RowValue → Type 0
  CoversLive r = HasCovering (live (log_rows log)) r

  -- the log as the session began
  began : IsPrefix ran.did.log log
  began = prefix_trans ran.did.log ran.after.seen log ran.did.opening.1 front

  covers_own : All CoversLive (opening_of ran)
  covers_own =
      All-from_recursion CoversLive (opening_of ran) (all_from_members inner_place_cmp CoversLive (opening_of ran) (λ r m.
      subst (λ (rows : List RowValue). HasCovering (live rows) r) (sym (rows_behind entry_row ran.did.log log began)) (live_covers_live_front (log_rows ran.did.log) (log_rows began.0) r (contains_from_member (opening_of ran) r m))))

  -- what the log covers, what is live of it covers
  live_all : (rows : List RowValue) → All (HasCovering (log_rows ran.after.seen)) rows → All CoversLive rows
  live_all rows all k d within = live_covering (log_rows log) (get_or rows k d) (covering_on ran.after.seen log front (get_or rows k d) (all k d within))

  lies_above : (report : SessionReport) → ran.answer ≡ Ok report → LiesAbove ran (log_rows log)
  lies_above report is = record { own = covers_own; others = λ q theirs other authorised apart. live_all (other_common ran q theirs) (runs_cover p ran report q theirs is other authorised apart) }

-- ---- what it wrote

-- the same, whatever is held outside of what both may read
alike_in_common : (p : Party) (held others : List RowValue) (bytes : List ℕ) → AreSameInCommon p bytes held others → out p others bytes ≡ out p held bytes
alike_in_common p held others bytes same =
    let a = session_of p held in
    sym (ap (λ m. flat_map a.spelling (a.opening ++ says_of m)) (same_read (greeting p.rules p.namespace) places (own_part p) (offers_of p.interest held) (offers_of p.interest others) bytes same))

-- ---- all of it, for one visit

-- the rows of a feed that was followed are covered too
fed_covered : (rules : Rules) (namespace : List ℕ) (area : Option Area) (before after : PassValue AuthorisedValue) (link link' : LinkFacts) (tail : Tail) (log : List (LogRow AuthorisedValue)) → length log ≤ LOG_LIMIT → IsPrefix after.seen log
    → (did : FollowsBehind rules namespace area before after link link' tail) → CoversFed rules namespace area before after link link' tail (log_rows log) did
fed_covered rules namespace None before after link link' Nothing log few front did = tt
fed_covered rules namespace (Some area) before after link link' (Followed answer) log few front did = covers_came after.seen log front few (authorised_rows rules namespace did.follows.rows) answer did.follows.covers
fed_covered rules namespace None before after link link' tail log few front did = absurd did
fed_covered rules namespace (Some area) before after link link' tail log few front did = absurd did

followed_covered : (awaited follows : Bool) (rules : Rules) (namespace : List ℕ) (log : List (LogRow AuthorisedValue)) (number : ℕ) (visit : Visit) → length log ≤ LOG_LIMIT → IsPrefix visit.after.seen log
    → (did : IsFollowedUp awaited follows rules namespace log number visit) → CoversFollowed awaited follows rules namespace log number visit did
followed_covered true follows rules namespace log number visit few front did = tt
followed_covered false follows rules namespace log number visit few front did =
    fed_covered rules namespace (area_to_follow follows visit.answer) visit.between visit.after visit.behind visit.link visit.tail log few front did

module _ {awaited follows : Bool} {opening log : List (LogRow AuthorisedValue)} {p : List ℕ → List ℕ → Party} {number : ℕ} {signer : KeySigner} {draw : List ℕ} {visit : Visit} (few : length log ≤ LOG_LIMIT) (run : IsVisit awaited follows opening log p number signer draw visit) where
  above : (answer : Answer) → visit.answer ≡ answer → WhereOk answer (LiesAbove (ran_of run) (log_rows visit.between.seen))
  above (Ok report) is = lies_above (ran_of run) visit.between.seen (prefix_self visit.between.seen) report is
  above (Err e) is = tt

  pub has_visited : HasVisited run
  has_visited =
      let party = p draw run.ran.signature in
      let more = followed_later awaited follows party.rules party.namespace log number visit run.followed in
      record {
        covers = covers_came visit.between.seen log (prefix_trans visit.between.seen visit.after.seen log more.seen run.front) few (authorised_rows party.rules party.namespace run.ran.rows) visit.answer run.ran.covers;
        covers_fed = followed_covered awaited follows party.rules party.namespace log number visit few run.front run.followed;
        fresh = fresh_of (ran_of run);
        above = above visit.answer refl;
        alike = λ others same. alike_in_common party (live (log_rows run.ran.log)) others run.ran.bytes same;
        granted = runs_granted (p draw) (ran_of run);
      }
