-- What comes to two logs that exchange what they offer.
use Rattle.std.proofs.Common.{◌≡◌, List, ◌++◌, Option, inl, inr, sym, ap, ◌∙◌, subst}
use Rattle.std.specs.Prelude.{Err}
use Rattle.std.specs.List.{All, AllByRecursion}
use Rattle.std.proofs.lemmas.List.Elements.{All-from_recursion, recursion_from_All}
use Rattle.spelling.specs.declared.ending.End.{End}
use Rattle.spelling.specs.declared.ending.End.TheVariants.{Refused, NoMemory}
use Rattle.willow_area.specs.Boxes.{Ranges}
use Rattle.willow_entry.specs.Frame.{HasFrame}
use Rattle.willow_entry.specs.Row.{RowValue, live}
use Rattle.area_interest.specs.declared.interest.Interest.{Interest}
use Rattle.block_store.specs.BoxKinds.{IsOfOneNamespace}
use Rattle.auth_entry.specs.Authorised.{AuthorisedValue}
use Rattle.ns_state.specs.Log.{StateValue, IsLog, values}
use Rattle.ns_state.specs.declared.live_log.LogFull.{LogFull}
use Rattle.sync_hello.specs.declared.version.TheConstants.{HIGHEST_VERSION}
use Rattle.sync_pair.specs.Meeting.{IsMeeting}
use Rattle.sync_pair.specs.declared.meet.PairRun.{PairRun}
use Rattle.peer_rows.specs.RowLogs.{HasTaken, ArePastLog}
use Rattle.auth_entry.specs.Rows.{entry_row}
use Rattle.peer_rows.specs.Logged.{live_rows, stored_rows}
use Rattle.peer_rows.proofs.Taken.{taken_live}
use Rattle.peer_run.specs.Exchanged.{AreMet, Exchanges, HasTakenUp, Takes}
use Rattle.peer_run.specs.Offered.{offer}
use Rattle.peer_run.specs.declared.exchanging.Came.{Came}
use Rattle.peer_run.proofs.Members.{log_own, sent_left, sent_right, one_namespace}
use Rattle.peer_run.proofs.Offers.{offer_all}

-- ---- what a log offers

module _ (limits : Interest) (box : Option Ranges) (log : StateValue AuthorisedValue) (rows : List RowValue) (offers : rows ≡ offer limits box (live_rows log)) where
  -- what holds of all that is live holds of it
  all_offered : (P : RowValue → Type 0) → AllByRecursion P (live_rows log) → AllByRecursion P rows
  all_offered P all = subst (AllByRecursion P) (sym offers) (offer_all limits box (live_rows log) P all)

  -- it is of the log's namespace
  offered_own : IsLog entry_row log.namespace log.log → AllByRecursion (λ (r : RowValue). r.entry.namespace ≡ log.namespace) rows
  offered_own is = all_offered (λ (r : RowValue). r.entry.namespace ≡ log.namespace) (log_own log.namespace (values entry_row log.log) is.one_namespace)

  pub offered_one : IsLog entry_row log.namespace log.log → IsOfOneNamespace rows
  offered_one is = one_namespace log.namespace rows (offered_own is)

  pub offered_framed : All HasFrame (live_rows log) → All HasFrame rows
  offered_framed framed = All-from_recursion HasFrame rows (all_offered HasFrame (recursion_from_All HasFrame (live_rows log) framed))

-- what comes to a side is of the other one's namespace
module _ (limits : Interest) (box : Option Ranges) (left right : StateValue AuthorisedValue) (one other : List RowValue) (area : Option Ranges) (run : PairRun AuthorisedValue) (meets : IsMeeting HIGHEST_VERSION entry_row one other area run)
    (same : right.namespace ≡ left.namespace) where
  pub left_here : IsLog entry_row right.namespace right.log → other ≡ offer limits box (live_rows right) → All (λ (r : RowValue). r.entry.namespace ≡ left.namespace) (stored_rows run.to_left.items)
  left_here is held = subst (All (λ (r : RowValue). r.entry.namespace ≡ left.namespace)) (sym meets.to_left)
      (All-from_recursion (λ (r : RowValue). r.entry.namespace ≡ left.namespace) _ (sent_left (λ r. r.entry.namespace ≡ left.namespace) one other area
      (subst (λ n. AllByRecursion (λ (r : RowValue). r.entry.namespace ≡ n) other) same (offered_own limits box right other held is))))

  pub right_here : IsLog entry_row left.namespace left.log → one ≡ offer limits box (live_rows left) → All (λ (r : RowValue). r.entry.namespace ≡ right.namespace) (stored_rows run.to_right.items)
  right_here is held = subst (All (λ (r : RowValue). r.entry.namespace ≡ right.namespace)) (sym meets.to_right)
      (All-from_recursion (λ (r : RowValue). r.entry.namespace ≡ right.namespace) _ (sent_right (λ r. r.entry.namespace ≡ right.namespace) one other area
      (subst (λ n. AllByRecursion (λ (r : RowValue). r.entry.namespace ≡ n) one) (sym same) (offered_own limits box left one held is))))

-- a meeting of what two logs offer is one of the rows that came to them
pub met_of : (a b : List RowValue) (left right : StateValue AuthorisedValue) (one other : List RowValue) (area box : Option Ranges) (limits : Interest) (run : PairRun AuthorisedValue) → HasTaken entry_row a left → HasTaken entry_row b right
    → one ≡ offer limits box (live_rows left) → other ≡ offer limits box (live_rows right) → area ≡ box → IsMeeting HIGHEST_VERSION entry_row one other area run
    → IsMeeting HIGHEST_VERSION entry_row (offer limits box (live a)) (offer limits box (live b)) box run
met_of a b left right one other area box limits run takes takes_too is_left is_right same meets =
    subst (λ x. IsMeeting HIGHEST_VERSION entry_row (offer limits box (live a)) (offer limits box (live b)) x run) same
    (subst (λ rows. IsMeeting HIGHEST_VERSION entry_row rows (offer limits box (live b)) area run) (is_left ∙ ap (offer limits box) (taken_live entry_row a left takes))
    (subst (λ rows. IsMeeting HIGHEST_VERSION entry_row one rows area run) (is_right ∙ ap (offer limits box) (taken_live entry_row b right takes_too)) meets))

module _ (a b : List RowValue) (area : Option Ranges) (limits : Interest) (run : PairRun AuthorisedValue) (is : IsMeeting HIGHEST_VERSION entry_row (offer limits area (live a)) (offer limits area (live b)) area run) where
  pub left_past : (log other : StateValue AuthorisedValue) (e : End LogFull) → Takes a (stored_rows run.to_left.items) log (Err e) → Exchanges a b area limits log other (Err e)
  left_past log other (Refused full) past = inl (subst (λ rows. ArePastLog (a ++ rows)) is.to_left past)
  left_past log other NoMemory past = tt

  pub right_past : (log other : StateValue AuthorisedValue) (e : End LogFull) → Takes b (stored_rows run.to_right.items) other (Err e) → Exchanges a b area limits log other (Err e)
  right_past log other (Refused full) past = inr (subst (λ rows. ArePastLog (b ++ rows)) is.to_right past)
  right_past log other NoMemory past = tt

  pub are_met : (log other : StateValue AuthorisedValue) (left right : Came) → HasTakenUp a (stored_rows run.to_left.items) log left → HasTakenUp b (stored_rows run.to_right.items) other right
      → AreMet a b area limits log other (record { turns = run.turns; items = run.items; left = left; right = right })
  are_met log other left right takes takes_too = record {
    turns = is.turns;
    items = is.items;
    left = subst (λ rows. HasTakenUp a rows log left) is.to_left takes;
    right = subst (λ rows. HasTakenUp b rows other right) is.to_right takes_too;
  }
