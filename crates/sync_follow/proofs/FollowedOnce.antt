-- The law of following asks nothing that cannot be: a run that meets its premises.
use Rattle.std.proofs.Common.{◌≡◌, inl, inr, ℕ, ◌+◌, Bool, true, not, ◌&&◌, cond, List, [], ◌∷◌, map, length, All, Contains, Option, None, Some, is_some, option_map, Ok, refl, sym, ap, ◌∙◌, subst, arith, append-nil}
use Rattle.std.proofs.lemmas.List.Elements.{All-cons, All-nil}
use Rattle.spelling.specs.Answers.{or_else, first_some}
use Rattle.spelling.specs.Form.{AreBytes}
use Rattle.scheme_core.specs.Rules.{Rules}
use Rattle.willow_area.specs.declared.area.Area.{Area}
use Rattle.willow_entry.specs.LogRow.{LogValue, log_value}
use Rattle.willow_entry.specs.Pruning.{new_after}
use Rattle.willow_entry.specs.Row.{RowValue, HasCovering, live, new}
use Rattle.willow_entry.proofs.Members.{Member, contains_from_member, member_from_contains}
use Rattle.willow_entry.proofs.RowLaws.{IsLive-live}
use Rattle.mc_cap.specs.declared.refusal.RowRefusal.{RowRefusal}
use Rattle.cap_codec.specs.Rows.{RawValue, IsRaw, row_of}
use Rattle.auth_entry.specs.Authorised.{IsAuthorised, is_authorised, row_refusal}
use Rattle.auth_entry.specs.Rows.{entry_row, authorised_rows, first_refused}
use Rattle.auth_entry.proofs.Meaning.{authorised_means}
use Rattle.ns_state.specs.Log.{logged}
use Rattle.ns_cell.specs.Passes.{CellValue, IsPass}
use Rattle.session_rules.specs.Reading.{Done, More, ending_of, run}
use Rattle.row_intake.specs.Kept.{IsPart}
use Rattle.sync_follow.specs.Feeds.{fed, has_entry, feed_spelling}
use Rattle.sync_follow.specs.Following.{feed_ending, rows_fed}
use Rattle.session_rules.specs.Reading.{got}
use Rattle.session_rules.specs.Pairs.{calling, answering}
use Rattle.sync_follow.specs.BothEnds.{HasRun}
use Rattle.sync_follow.specs.Followed.{IsAuthorisedRow, HaveMet}
use Rattle.sync_follow.specs.FollowedOnce.{OneIsFollowed, idle_session, link_with, one_followed, one_stored, pass_with, stored_by}
use Rattle.sync_follow.specs.SmallSession.{askers, small_ends}
use Rattle.sync_follow.specs.Follows.{Follows, told_first}
use Rattle.sync_follow.proofs.Feeds.{feed_read}
use Rattle.sync_follow.proofs.Followed.{fit_rows}
use Rattle.sync_follow.proofs.SmallSession.{caller_got, server_got, small_ends_meet}

module _ (rules : Rules) (namespace : List ℕ) (area : Area) (cell other : CellValue) (raw : RawValue) (of_cell : cell.namespace ≡ namespace) (fits : IsRaw raw) (is : IsAuthorised rules namespace raw) (inside : has_entry area (row_of raw) ≡ true)
    (are : AreBytes (feed_spelling (row_of raw ∷ []))) where
  abbrev row : RowValue
  row = row_of raw

  abbrev bytes : List ℕ
  bytes = feed_spelling (row ∷ [])

  none_against : row_refusal rules namespace raw ≡ None
  none_against = (authorised_means rules namespace raw).1 is

  one_authorised : authorised_rows rules namespace (raw ∷ []) ≡ row ∷ []
  unfolding is_authorised
  one_authorised = ap (λ (o : Option RowRefusal). map row_of (cond (not (is_some o)) (raw ∷ []) [])) none_against

  none_refused : first_refused rules namespace (raw ∷ []) ≡ None
  unfolding first_some
  none_refused = ap (λ (o : Option RowRefusal). or_else (option_map (λ (refusal : RowRefusal). record { row = 1; refusal = refusal }) o) None) none_against

  fed_is : fed (logged entry_row (stored_by 2 namespace raw)) area 1 0 1 ≡ row ∷ []
  fed_is = ap (λ (b : Bool). map (λ (l : LogValue). l.row) (cond (b && true) (log_value entry_row (record { pass = 2; row = record { namespace = namespace; row = raw } }) ∷ []) [])) inside

  authorised_row : IsAuthorisedRow rules namespace row
  authorised_row = record { raw = raw; fits = fits; read_out = refl; authorised = is }

  alone : (P : RowValue → Type 0) → P row → All P (row ∷ [])
  alone P p = All-cons P row [] p (All-nil P)

  is_read : (rows_fed area bytes ≡ row ∷ []) × (feed_ending area bytes ≡ Done)
  is_read =
      let e = feed_read area (row ∷ []) (fit_rows rules namespace area (row ∷ []) (alone (IsAuthorisedRow rules namespace) authorised_row) only (omega arith)) in
      (ap (λ m. m.rows) e, ap (λ m. ending_of m.stand) e)
    where
      only : (r : RowValue) → Member (row ∷ []) r → has_entry area r ≡ true
      only r (inl e) = ap (has_entry area) (sym e) ∙ inside
      only r (inr m) = absurd m

  nothing_yet : feed_ending area [] ≡ More
  unfolding run
  nothing_yet = refl

  one_new : new (row ∷ []) ≡ row ∷ []
  unfolding new_after
  one_new = refl

  feeder : IsPass entry_row (pass_with cell 0 (stored_by 2 namespace raw) [])
  feeder = record {
    log = record { fresh = one_new; few = omega arith; one_namespace = alone (λ r. r.entry.namespace ≡ cell.namespace) (is.of_namespace.0 ∙ sym of_cell) };
    own = refl;
  }

  abbrev follows : Follows rules namespace area (length bytes) (pass_with other 1 [] []) (pass_with other 1 (stored_by 1 namespace raw) (stored_by 1 namespace raw)) (link_with bytes [] []) (link_with [] bytes []) (Ok one_stored)
  follows = record {
    bytes = bytes;
    rows = raw ∷ [];
    grown = stored_by 1 namespace raw;
    later = record { cell = refl; number = refl; seen = (stored_by 1 namespace raw, refl); turns = ([], refl) };
    are_bytes = are;
    taken = (sym (append-nil bytes), refl);
    unwritten = record { held = refl; faults = refl };
    ended = is_read.1;
    stops = inr (record { front = []; last = bytes; joined = refl; some = omega arith; few = omega arith; goes_on = nothing_yet });
    sent = sym is_read.0;
    read_out = All-cons IsRaw raw [] fits (All-nil IsRaw);
    grew = (refl, subst (IsPart (row ∷ [])) (sym one_authorised) (inl (refl, tt)));
    covers = subst (All (HasCovering (row ∷ []))) (sym one_authorised) (alone (HasCovering (row ∷ [])) (row, contains_from_member (row ∷ []) row (inl refl), inl refl));
    reported = record {
      read = refl;
      stored = refl;
      kept = sym (ap length one_authorised);
      refused = ap (λ n. n + 0) (ap length one_authorised);
      first = sym (ap (option_map told_first) none_refused);
    };
    reads = refl;
    ends = refl;
  }

-- ---- the sessions

none_live : (r : RowValue) → Contains (live []) r → ⊥
none_live r c = member_from_contains [] r (((IsLive-live []).members r).0 c).0

none_new : new [] ≡ []
unfolding new_after
none_new = refl

idle_pass : (cell : CellValue) → IsPass entry_row (pass_with cell 1 [] [])
idle_pass cell = record { log = record { fresh = none_new; few = omega arith; one_namespace = All-nil (λ r. r.entry.namespace ≡ cell.namespace) }; own = refl }

idle_run : (rules : Rules) (namespace : List ℕ) (cell : CellValue) (sent : List RowValue) → sent ≡ [] → HasRun rules namespace (idle_session cell) sent
idle_run rules namespace cell sent none = record {
  is_pass = (idle_pass cell, idle_pass cell);
  later = record { cell = refl; number = refl; seen = ([], refl); turns = ([], refl) };
  opened = (([], refl), ([], refl));
  rows = [];
  read_out = All-nil IsRaw;
  are_sent = sym none;
  grown = [];
  grew = (refl, tt);
  covers = All-nil (HasCovering []);
}

have_met : (rules : Rules) (namespace : List ℕ) (area : Area) (cell other : CellValue) (raw : RawValue) → HaveMet (one_followed rules namespace area cell other raw)
have_met rules namespace area cell other raw = record {
  ends = small_ends_meet;
  called = idle_run rules namespace other (got (calling askers) small_ends.by_server) caller_got;
  served = idle_run rules namespace cell (got (answering askers) small_ends.by_caller) server_got;
  in_box = λ row inside. refl;
  caller_offers = λ row c. absurd (member_from_contains [] row c);
  server_offers = λ row c inside. absurd (none_live row c);
  authorised = All-nil (IsAuthorisedRow rules namespace);
}

pub one_is_followed : OneIsFollowed
one_is_followed rules namespace area cell other raw of_cell fits is inside are =
    let fed = fed_is rules namespace area cell other raw of_cell fits is inside are in
    record {
      met = have_met rules namespace area cell other raw;
      fed_later = (stored_by 2 namespace raw, refl);
      fed_pass = feeder rules namespace area cell other raw of_cell fits is inside are;
      none_stored = refl;
      feeds = record { held = ap (λ (rows : List RowValue). Some (feed_spelling rows)) (sym fed); faults = refl; count = ap length (sym fed); to = refl };
      follows = follows rules namespace area cell other raw of_cell fits is inside are;
      told = [];
      tells = refl;
      took = refl;
      authorised =
          subst (All (IsAuthorisedRow rules namespace)) (sym fed)
          (alone rules namespace area cell other raw of_cell fits is inside are (IsAuthorisedRow rules namespace) (authorised_row rules namespace area cell other raw of_cell fits is inside are));
    }
