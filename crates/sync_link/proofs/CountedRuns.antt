-- How many counted items a session says and reads that meets another.
use Rattle.std.proofs.Common.{◌≡◌, ◌⊎◌, inl, inr, ℕ, suc, ◌+◌, ◌≤◌, List, [], ◌∷◌, ◌++◌, length, flat_map, Option, Some, None, Ok, IfOk, sym, ap, ◌∙◌, subst, arith}
use Rattle.std.specs.List.Sorted.{IsStrictlySortedBy}
use Rattle.std.proofs.lemmas.List.Sums.{sum_by-cons}
use Rattle.willow_area.specs.Boxes.{Ranges}
use Rattle.scheme_core.specs.Rules.{Rules}
use Rattle.willow_entry.specs.Row.{RowValue, inner_place_cmp}
use Rattle.session_end.specs.declared.refusal.HelloRefusal.{HelloRefusal}
use Rattle.exchange_rules.specs.Items.{counted as count_of_items, caller_turns, answerer_turns}
use Rattle.exchange_rules.specs.Exchange.{exchange}
use Rattle.exchange_rules.proofs.Costs.{counted_sides, counted_exchange}
use Rattle.area_interest.specs.declared.interest.Interest.{Interest}
use Rattle.sync_msg.specs.Items.{ItemValue, item_spelling}
use Rattle.sync_msg.specs.declared.refusal.CoreRefusal.{CoreRefusal}
use Rattle.sync_msg.specs.declared.role.Role.TheVariants as roles
use Rattle.sync_hello.specs.declared.hello.Hello.{Hello}
use Rattle.sync_core.specs.Flat.{TurnValue, turn_items}
use Rattle.sync_core.specs.Held.{to_count}
use Rattle.sync_core.specs.Place.{Place, rows_of_area}
use Rattle.sync_core.specs.SyncRules.{sync_rules}
use Rattle.sync_core.proofs.Lawful.{disjoint, can_cut_rows}
use Rattle.sync_core.proofs.Owing.{to_count-append, to_count-turn}
use Rattle.session_rules.specs.Reading as reading
use Rattle.session_rules.specs.Rounds.{IsOver, Meet, rounds}
use Rattle.session_rules.specs.Messages.{tells, dialogue}
use Rattle.session_rules.specs.Turns.{CanReadTurns}
use Rattle.session_rules.specs.Pairs.{Pair, GreetEachOther, caller_side, answerer_side}
use Rattle.session_rules.proofs.Exchanging.{all_said}
use Rattle.session_rules.proofs.Growing.{read_over}
use Rattle.sync_link.specs.Greetings.{Agreement}
use Rattle.sync_link.specs.Places.{of_interest}
use Rattle.sync_link.specs.Sessions.{Party, SessionStage, SessionMessage, SessionCause, session_of, said, out, ending, box_with, offered_to, version_with}
use Rattle.sync_link.specs.Settling.{IsOpening, Accepts, CanMeet, turns_between}
use Rattle.sync_link.specs.Progress.{heard, counted, noting}
use Rattle.sync_link.specs.Run.{Reports}
use Rattle.sync_link.specs.Ran.{Ran, side, opening_of, IsDone, IsOther, most_counted, own_offered, other_offered, own_common, other_common}
use Rattle.sync_link.specs.declared.plan.SessionReport.{SessionReport}
use Rattle.sync_link.proofs.CountedTalk.{said_items, heard_count}
use Rattle.sync_link.proofs.CoveringRuns.{same_box}
use Rattle.sync_link.proofs.MetSides.{is_met}
use Rattle.sync_link.proofs.Offering.{opening_offered}
use Rattle.sync_link.proofs.OtherSides.{IsMet, meets, meets_back, is_over, all_written, own_opens}
use Rattle.sync_link.proofs.ReadOn.{noting_stands}
use Rattle.sync_link.proofs.Settled.{caller, answerer, pair, greet, exchanged, inside, inside_rises, inside_few, inside_sent, same_exchange, session_version_spoken, rises, calling, answering}
use Rattle.sync_link.proofs.TakingTurns.{by_items, take_turns}
use Rattle.sync_link.proofs.CanRead.{can_read_turns}

-- ---- the items of turns

abbrev all_items : ℕ → List TurnValue → List ItemValue
all_items version ts = flat_map (turn_items version) ts

turns_few : (version : ℕ) (ts : List TurnValue) → to_count (all_items version ts) ≤ count_of_items ts
turns_few version [] = omega arith
turns_few version (t ∷ ts) = omega (arith, to_count-append (turn_items version t) (all_items version ts), to_count-turn version t, turns_few version ts, sum_by-cons (λ (u : TurnValue). length u.items) t ts)

-- what both sides of a meeting say and read counts no more than the exchange does
pub record AreCounted (p q : Party) (rows others : List RowValue) (left right : List ℕ) : Type 0 where
  pub by_caller : counted (said p rows right) + counted (heard p rows right) ≤ count_of_items (turns_between p q rows others)
  pub by_answerer : counted (said q others left) + counted (heard q others left) ≤ count_of_items (turns_between p q rows others)

module _ (rules : Rules) (namespace : List ℕ) (hello other : Hello) (limits limits' : Interest) (signature proof : List ℕ) (rows others : List RowValue)
    (own : IsOpening namespace rows) (theirs : IsOpening namespace others)
    (accepts : Accepts (caller rules namespace hello other limits limits' signature proof) (answerer rules namespace hello other limits limits' signature proof))
    (is_accepted : Accepts (answerer rules namespace hello other limits limits' signature proof) (caller rules namespace hello other limits limits' signature proof)) where
  abbrev one : Party
  one = caller rules namespace hello other limits limits' signature proof

  abbrev two : Party
  two = answerer rules namespace hello other limits limits' signature proof

  abbrev x : Option Ranges
  x = box_with one other

  abbrev v : ℕ
  v = version_with one other

  -- what each offers
  abbrev shown : List RowValue
  shown = of_interest limits x rows

  abbrev shown' : List RowValue
  shown' = of_interest limits' x others

  shown_opens : IsOpening namespace shown
  shown_opens = opening_offered namespace limits x rows own

  shown_opens' : IsOpening namespace shown'
  shown_opens' = opening_offered namespace limits' x others theirs

  abbrev mine : List RowValue
  mine = inside x shown

  abbrev theirs_in : List RowValue
  theirs_in = inside x shown'

  abbrev ts : List TurnValue
  ts = exchange (sync_rules v) mine theirs_in x

  abbrev both : Pair Hello (List ℕ) Agreement HelloRefusal RowValue Place ItemValue CoreRefusal
  both = pair rules namespace hello other limits limits' signature proof rows others

  greets : GreetEachOther both
  greets = greet rules namespace hello other limits limits' signature proof rows others accepts is_accepted

  up : IsStrictlySortedBy inner_place_cmp mine
  up = inside_rises namespace shown shown_opens x

  down : IsStrictlySortedBy inner_place_cmp theirs_in
  down = inside_rises namespace shown' shown_opens' x

  can_read : CanReadTurns (by_items v) (caller_side both) (answerer_side both) ts
  can_read =
      can_read_turns v (session_version_spoken hello other is_accepted.hello_passes.speaks accepts.hello_passes.speaks) mine theirs_in (inside_sent namespace shown shown_opens x) (inside_sent namespace shown' shown_opens' x) x

  dialogues : (n : ℕ) → length ts ≤ n → dialogue (caller_side both) (answerer_side both) n ≡ (all_items v (caller_turns ts), all_items v (answerer_turns ts))
  dialogues n h =
      all_said (by_items v) (sync_rules v) (caller_side both) (answerer_side both) mine theirs_in x (disjoint v) (can_cut_rows v mine up) (can_cut_rows v theirs_in down)
      (take_turns v mine theirs_in up down (inside_few namespace shown' shown_opens' x) (inside_few namespace shown shown_opens x) x) n h

  caller_tells : tells (caller_side both) item_spelling (all_items v (answerer_turns ts)) ≡ all_items v (caller_turns ts)
  unfolding rounds
  caller_tells =
      let n = length ts in
      sym (ap (λ (d : List ItemValue × List ItemValue). tells (caller_side both) item_spelling d.1) (dialogues n (omega arith)))
      ∙ ap (λ (d : List ItemValue × List ItemValue). d.0) (dialogues (suc n) (omega arith))

  answerer_tells : tells (answerer_side both) item_spelling (all_items v (caller_turns ts)) ≡ all_items v (answerer_turns ts)
  unfolding rounds
  answerer_tells =
      let n = length ts in
      sym (ap (λ (d : List ItemValue × List ItemValue). tells (answerer_side both) item_spelling d.0) (dialogues (suc n) (omega arith)))
      ∙ ap (λ (d : List ItemValue × List ItemValue). d.1) (dialogues (suc n) (omega arith))

  counts : (left right : List ℕ) → Meet (out one rows) (out two others) left right → AreCounted one two rows others left right
  counts left right meet =
      let e = exchanged rules namespace hello other limits limits' signature proof rows others own theirs accepts is_accepted left right meet in
      let to_caller = all_items v (answerer_turns ts) in
      let to_answerer = all_items v (caller_turns ts) in
      let said_there = ap (λ l. counted (said one rows l)) e.answerer_writes ∙ said_items one rows other proof greets.caller_hears to_caller can_read.caller_can ∙ ap to_count caller_tells in
      let heard_there = heard_count one rows other proof greets.caller_hears to_caller can_read.caller_can in
      let said_back = ap (λ l. counted (said two others l)) e.caller_writes ∙ said_items two others hello signature greets.answerer_hears to_answerer can_read.answerer_can ∙ ap to_count answerer_tells in
      let heard_back = heard_count two others hello signature greets.answerer_hears to_answerer can_read.answerer_can in
      let all = ap (λ (l : List TurnValue). count_of_items l) (same_exchange v x shown shown') in
      record {
        by_caller = omega (arith, said_there, heard_there, ap (λ l. counted (heard one rows l)) e.answerer_writes, turns_few v (caller_turns ts), turns_few v (answerer_turns ts), counted_sides ts, all);
        by_answerer = omega (arith, said_back, heard_back, ap (λ l. counted (heard two others l)) e.caller_writes, turns_few v (caller_turns ts), turns_few v (answerer_turns ts), counted_sides ts, all);
      }

-- ---- two parties

abbrev CountsFor : Party → Party → Type 0
CountsFor p q = (rows others : List RowValue) (left right : List ℕ) → Accepts p q → Accepts q p → IsOpening p.namespace rows → IsOpening p.namespace others → Meet (out p rows) (out q others) left right → AreCounted p q rows others left right

pub counts_for : (p q : Party) → CanMeet p q → CountsFor p q
counts_for p q can =
    let plain : CountsFor (record p { role = roles.Caller }) (record q { rules = p.rules; namespace = p.namespace; role = roles.Answerer }) =
    λ rows others left right accepts is_accepted own theirs meet. counts p.rules p.namespace p.hello q.hello p.interest q.interest p.signature q.signature rows others own theirs accepts is_accepted left right meet in
    let P : Party → Type 0 = λ y. CountsFor (record p { role = roles.Caller }) y in
    subst (λ y. CountsFor y q) (calling p q can) (subst P (answering p q can) plain)

-- ---- the bound

few_in : (namespace : List ℕ) (version : ℕ) (rows others : List RowValue) → IsOpening namespace rows → IsOpening namespace others
    → (box : Option Ranges) → count_of_items (exchange (sync_rules version) rows others box) ≤ most_counted box (length (rows_of_area box rows)) (length (rows_of_area box others))
few_in namespace version rows others own theirs None = omega arith
few_in namespace version rows others own theirs (Some area) =
    omega (arith, counted_exchange (sync_rules version) rows others area (disjoint version) (can_cut_rows version rows (rises namespace rows own)) (can_cut_rows version others (rises namespace others theirs)))

few_turns : (p q : Party) (rows others : List RowValue) → IsOpening p.namespace rows → IsOpening p.namespace others
    → count_of_items (turns_between p q rows others)
    ≤ most_counted (box_with p q.hello) (length (rows_of_area (box_with p q.hello) (offered_to p q.hello rows))) (length (rows_of_area (box_with p q.hello) (offered_to q p.hello others)))
few_turns p q rows others own theirs =
    few_in p.namespace (version_with p q.hello) (offered_to p q.hello rows) (offered_to q p.hello others) (opening_offered p.namespace p.interest (box_with p q.hello) rows own) (opening_offered p.namespace q.interest (box_with q p.hello) others theirs) (box_with p q.hello)

-- whichever side the rows are of
either_way : (box : Option Ranges) (a b : ℕ) → most_counted box a b ≤ most_counted box b a
either_way None a b = omega arith
either_way (Some area) a b = omega arith

-- ---- a session that was done

module _ (p : List ℕ → Party) (ran : Ran p) (q : Party) (others : List RowValue) (other : IsMet ran q others) (done : IsDone ran.answer) where
  abbrev party : Party
  party = side ran

  abbrev rows : List RowValue
  rows = opening_of ran

  abbrev bytes : List ℕ
  bytes = ran.did.bytes

  abbrev others_bytes : List ℕ
  others_bytes = out q others ran.did.written

  over : IsOver (ending party rows bytes)
  over = is_over p ran q others other done

  -- what comes later changes neither what is said nor what is read
  said_all : said party rows others_bytes ≡ said party rows bytes
  said_all = subst (λ all. said party rows all ≡ said party rows bytes) (sym other.hears.joined)
      (ap (λ (m : reading.Move SessionStage SessionMessage RowValue SessionCause). (session_of party rows).opening ++ m.says) (read_over (session_of party rows) bytes other.hears.behind over))

  heard_all : heard party rows others_bytes ≡ heard party rows bytes
  heard_all =
      let notes = noting (session_of party rows) in
      let over_there : IsOver (reading.ending notes bytes) = subst IsOver (sym (ap reading.ending_of (noting_stands (session_of party rows) (reading.start (session_of party rows)) bytes))) over in
      subst (λ all. heard party rows all ≡ heard party rows bytes) (sym other.hears.joined)
      (ap (λ (m : reading.Move SessionStage SessionMessage SessionMessage SessionCause). m.rows) (read_over notes bytes other.hears.behind over_there))

  abbrev IsFew : Type 0
  IsFew = counted (said party rows bytes) + counted (heard party rows bytes) ≤ most_counted (box_with (side ran) q.hello) (length (own_common ran q)) (length (other_common ran q others))

  few_as_caller : CanMeet party q → IsFew
  few_as_caller can =
      let own = own_opens p ran q others other done in
      let c = counts_for party q can rows others ran.did.written others_bytes can.accepts can.is_accepted own other.opens (meets p ran q others other over (all_written p ran q others other done)) in
      omega (arith, c.by_caller, ap counted said_all, ap counted heard_all, few_turns party q rows others own other.opens)

  few_as_answerer : CanMeet q party → IsFew
  few_as_answerer can =
      let own = subst (λ n. IsOpening n rows) can.same_namespace (own_opens p ran q others other done) in
      let theirs = subst (λ n. IsOpening n others) can.same_namespace other.opens in
      let c = counts_for q party can others rows others_bytes ran.did.written can.accepts can.is_accepted theirs own (meets_back p ran q others other over (all_written p ran q others other done)) in
      let box = same_box party q can.answers can.calls in
      let mine = own_offered ran q in
      let yours = other_offered ran q others in
      subst (λ (x : Option Ranges). counted (said party rows bytes) + counted (heard party rows bytes) ≤ most_counted x (length (rows_of_area x mine)) (length (rows_of_area x yours))) box
      (omega (
        arith,
        c.by_answerer,
        ap counted said_all,
        ap counted heard_all,
        few_turns q party others rows theirs own,
        either_way (box_with q party.hello) (length (rows_of_area (box_with q party.hello) yours)) (length (rows_of_area (box_with q party.hello) mine)),
      ))

  pub few : IsFew
  few = by_role other.can_meet
    where
      by_role : CanMeet party q ⊎ CanMeet q party → IsFew
      by_role (inl can) = few_as_caller can
      by_role (inr can) = few_as_answerer can

module _ (p : List ℕ → Party) (ran : Ran p) (report : SessionReport) (q : Party) (others : List RowValue) (ok : ran.answer ≡ Ok report) (other : IsOther ran q others) where
  pub runs_counted : report.sent + report.read ≤ most_counted (box_with (side ran) q.hello) (length (own_common ran q)) (length (other_common ran q others))
  runs_counted =
      let done = subst IsDone (sym ok) tt in
      let reports : IfOk ran.answer (Reports (side ran) ran.did.log ran.did.bytes ran.did.rows (length ran.did.grown) (length ran.after.seen)) = ran.did.reported in
      let r : Reports (side ran) ran.did.log ran.did.bytes ran.did.rows (length ran.did.grown) (length ran.after.seen) report =
      subst (λ a. IfOk a (Reports (side ran) ran.did.log ran.did.bytes ran.did.rows (length ran.did.grown) (length ran.after.seen))) ok reports in
      omega (arith, r.sent, r.read, few p ran q others (is_met p ran q others other) done)
