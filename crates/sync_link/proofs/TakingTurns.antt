-- Two sides of sessions take the turns of the exchange of their rows.
use Rattle.std.proofs.Common.{◌≡◌, ℕ, ◌+◌, ◌≤◌, ◌<◌, Bool, true, false, cond, nat_eq, List, [], ◌∷◌, length, flat_map, length-append, Option, Some, None, Ok, refl, sym, ap, ◌∙◌, subst, arith}
use Rattle.std.specs.List.Sorted.{IsStrictlySortedBy}
use Rattle.std.proofs.lemmas.Bool.{eq-eqb, eqb-true}
use Rattle.willow_area.specs.Boxes.{Ranges}
use Rattle.willow_area.specs.declared.cut.CutAt.{CutAt}
use Rattle.willow_entry.specs.Row.{RowValue, inner_place_cmp}
use Rattle.exchange_rules.specs.Items.{bye, counted as count_of_items}
use Rattle.exchange_rules.specs.Answer.{turn, opened}
use Rattle.exchange_rules.specs.Exchange.{exchange, first_turn, first_asks}
use Rattle.exchange_rules.proofs.Meeting.{read_turn}
use Rattle.exchange_rules.proofs.Costs.{counted_exchange}
use Rattle.sync_msg.specs.Items.{ItemValue, item_spelling}
use Rattle.sync_msg.specs.declared.item.Item.TheVariants.{EndTurn, Bye}
use Rattle.sync_msg.specs.declared.role.Role.TheVariants as roles
use Rattle.sync_msg.specs.declared.refusal.CoreRefusal.{CoreRefusal}
use Rattle.sync_core.specs.declared.stage.TheConstants.{SNAPSHOT_MAX}
use Rattle.sync_core.specs.SyncRules.{sync_rules}
use Rattle.sync_core.specs.Flat.{AskValue, TurnValue, items_of, turn_items, IsToldTurn}
use Rattle.sync_core.specs.Place.{Doing, Saying, Replying, Beginning, Hearing, HearingRows, Parting, Finished, Refused, Place, most_items, saying, answering, first_place}
use Rattle.sync_core.specs.Steps.{waiting}
use Rattle.sync_core.specs.Runs.{hears, HasRoom, place_after, place_behind}
use Rattle.sync_core.proofs.Lawful.{disjoint, can_cut_rows, can_send}
use Rattle.sync_core.proofs.OneByOne.{says_nothing}
use Rattle.sync_core.proofs.SpelledTurns.{told_turn}
use Rattle.sync_core.proofs.Telling.{rows_in-le}
use Rattle.sync_core.proofs.TurnItems.{rows_in_turn, turn_count}
use Rattle.sync_core.proofs.TurnsCounted.{hears_turn, hears_first, hears_first_bye, hears_last_bye}
use Rattle.sync_core.proofs.TwoSides.{says_whole, says_bye}
use Rattle.session_rules.specs.Reading.{Stand, Waits, Over, Move, stay, stepped, run}
use Rattle.session_rules.specs.Messages.{taken}
use Rattle.session_rules.specs.Talk as talk
use Rattle.session_rules.specs.Talk.{answered}
use Rattle.session_rules.specs.Turns.{View, Hearing as IsHearing, HearingAt, Replies, GoesOn, opening_turn, opening_asks, CallerBegins, Awaits, TakeTurns}
use Rattle.sync_link.specs.Greetings.{Agreement}
use Rattle.sync_link.specs.Places.{has_finished}
use Rattle.sync_link.proofs.Speaking.{spoken_as}
use Rattle.sync_link.proofs.Heard.{rows_told, answers_to, side, hears_all}

-- ---- how turns and places are seen

-- the asks whose answers a side reads next, where it has read none of them
abbrev pub next_asks : Doing → Option (List AskValue)
next_asks (Saying items asks) = None
next_asks Replying = None
next_asks Beginning = None
next_asks (Hearing [] opens) = None
next_asks (Hearing (ask ∷ asks) []) = Some (ask ∷ asks)
next_asks (Hearing (ask ∷ asks) (other ∷ opens)) = None
next_asks (HearingRows asks left read opens) = None
next_asks Parting = Some []
next_asks Finished = None
next_asks (Refused cause) = None

-- of a side of the version; one of another is not looked at
abbrev pub asks_of : Bool → Doing → Option (List AskValue)
asks_of true doing = next_asks doing
asks_of false doing = None

abbrev pub asks_in : ℕ → Place → Option (List AskValue)
asks_in version place = asks_of (nat_eq place.version version) place.doing

abbrev pub by_items : ℕ → View RowValue Ranges (List CutAt) Place ItemValue
by_items version = record {
  items_of = turn_items version;
  rows = λ place. place.rows;
  asks = asks_in version;
  counted = λ place. place.sent + place.read;
  most = λ place. most_items place.area place.rows;
}

hearing_asks : (doing : Doing) (ask : AskValue) (asks : List AskValue) → next_asks doing ≡ Some (ask ∷ asks) → doing ≡ Hearing (ask ∷ asks) []
hearing_asks (Saying items mine) ask asks e = absurd cc
hearing_asks Replying ask asks e = absurd cc
hearing_asks Beginning ask asks e = absurd cc
hearing_asks (Hearing [] opens) ask asks e = absurd cc
hearing_asks (Hearing (first ∷ others) []) ask asks e =
    let same : first ∷ others ≡ ask ∷ asks = cc in
    ap (λ l. Hearing l []) same
hearing_asks (Hearing (first ∷ others) (other ∷ opens)) ask asks e = absurd cc
hearing_asks (HearingRows others left read opens) ask asks e = absurd cc
hearing_asks Parting ask asks e = absurd cc
hearing_asks Finished ask asks e = absurd cc
hearing_asks (Refused cause) ask asks e = absurd cc

parting : (doing : Doing) → next_asks doing ≡ Some [] → doing ≡ Parting
parting (Saying items mine) e = absurd cc
parting Replying e = absurd cc
parting Beginning e = absurd cc
parting (Hearing [] opens) e = absurd cc
parting (Hearing (first ∷ others) []) e = absurd cc
parting (Hearing (first ∷ others) (other ∷ opens)) e = absurd cc
parting (HearingRows others left read opens) e = absurd cc
parting Parting e = refl
parting Finished e = absurd cc
parting (Refused cause) e = absurd cc

-- a side that is looked at is of the version
record IsOfVersion (version : ℕ) (place : Place) (asks : List AskValue) : Type 0 where
  same : place.version ≡ version
  next : next_asks place.doing ≡ Some asks

of_version : (version : ℕ) (place : Place) (asks : List AskValue) → asks_in version place ≡ Some asks → IsOfVersion version place asks
of_version version place asks e = by_test (nat_eq place.version version) refl e
  where
    by_test : (b : Bool) → nat_eq place.version version ≡ b → asks_of b place.doing ≡ Some asks → IsOfVersion version place asks
    by_test true is h = record { same = eqb-true place.version version is; next = h }
    by_test false is h = absurd cc

same_version : (version : ℕ) (place : Place) (asks : List AskValue) → place.version ≡ version → next_asks place.doing ≡ Some asks → asks_in version place ≡ Some asks
same_version version place asks same e = ap (λ b. asks_of b place.doing) (eq-eqb place.version version same) ∙ e

waits_for : (asks : List AskValue) → next_asks (waiting asks) ≡ Some asks
waits_for [] = refl
waits_for (ask ∷ asks) = refl

pub not_finished : (asks : List AskValue) → has_finished (waiting asks) ≡ false
not_finished [] = refl
not_finished (ask ∷ asks) = refl

-- ---- a turn that is heard

module _ (role : talk.Role) (begun : List RowValue) (agreed : Agreement) where
  abbrev pub hear : Stand Place CoreRefusal → List ItemValue → Move Place ItemValue RowValue CoreRefusal
  hear q items = run (taken (side role begun agreed) item_spelling) q items

  pub hears_some : (place last : Place) (at : ℕ) (items : List ItemValue) → 0 < length items → hears place items ≡ Ok last
      → (end : ℕ) × (hear (Waits place at []) items ≡ answers_to end last (rows_told items))
  hears_some place last at [] some e = absurd (omega arith)
  hears_some place last at (item ∷ items) some e = hears_all role begun agreed place last at item items e

  pub some_items : (version : ℕ) (t : TurnValue) → 0 < length (turn_items version t)
  some_items version t = omega (arith, length-append (flat_map (items_of version) t.items) (cond t.ends_with_bye Bye EndTurn ∷ []))

  module _ (rows : List RowValue) (rise : IsStrictlySortedBy inner_place_cmp rows) (place : Place) (at : ℕ) (t : TurnValue) (told : IsToldTurn place.version t) (same : place.rows ≡ rows) where
    abbrev version : ℕ
    version = place.version

    abbrev told_items : Move Place ItemValue RowValue CoreRefusal
    told_items = hear (Waits place at []) (turn_items version t)

    -- a side that has heard a turn says the one that answers what it opens
    reply_by : (opens : List AskValue) (end : ℕ) → told_items ≡ answers_to end (place_behind place t opens) (rows_told (turn_items version t))
        → Replies (by_items version) (sync_rules version) rows t opens (place.sent + place.read) (most_items place.area place.rows) told_items
    reply_by [] end is =
        let behind = place_behind place t [] in
        let said = says_bye behind refl in
        let all : told_items ≡ stepped end (answered true (Bye ∷ [], record behind { sent = behind.sent + 0; doing = Finished }) (rows_told (turn_items version t))) =
        is ∙ ap (λ s. stepped end (answered (has_finished s.1.doing) s (rows_told (turn_items version t)))) said in
        record { says = ap (λ m. m.says) all; takes = ap (λ m. m.rows) all ∙ rows_in_turn version t; stands = ap (λ m. m.stand) all }
    reply_by (ask ∷ asks) end is =
        let opens : List AskValue = ask ∷ asks in
        let behind = place_behind place t opens in
        let own : TurnValue = turn (sync_rules version) rows opens in
        let next = opened (sync_rules version) rows opens in
        let doing : behind.doing ≡ saying version own next = ap (λ l. answering version l opens) same in
        let after = place_after behind own next in
        let all : told_items ≡ stepped end (answered false (turn_items version own, after) (rows_told (turn_items version t))) =
        is
        ∙ ap (λ s. stepped end (answered (has_finished s.1.doing) s (rows_told (turn_items version t)))) (says_whole behind own next doing)
        ∙ ap (λ b. stepped end (answered b (turn_items version own, after) (rows_told (turn_items version t)))) (not_finished next) in
        let now : IsHearing (by_items version) rows next (place.sent + place.read + length t.items + length own.items) (most_items place.area place.rows) after =
        record { has = same; hears = same_version version after next refl (waits_for next); so_many = omega (arith, turn_count version t told, turn_count version own (told_turn version rows rise opens)); so_many_may = refl } in
        let P : Move Place ItemValue RowValue CoreRefusal → Type 0 = λ m. HearingAt (by_items version) rows next (place.sent + place.read + length t.items + length own.items) (most_items place.area place.rows) m.stand in
        record { says = ap (λ m. m.says) all; takes = ap (λ m. m.rows) all ∙ rows_in_turn version t; stands = subst P (sym all) now }

    pub replies : (opens : List AskValue) (counted most : ℕ) → place.sent + place.read ≡ counted → most_items place.area place.rows ≡ most → hears place (turn_items version t) ≡ Ok (place_behind place t opens)
        → Replies (by_items version) (sync_rules version) rows t opens counted most told_items
    replies opens counted most so_many may heard =
        let told = hears_some place (place_behind place t opens) at (turn_items version t) (some_items version t) heard in
        let P : ℕ → ℕ → Type 0 = λ c m. Replies (by_items version) (sync_rules version) rows t opens c m told_items in
        subst (λ c. P c most) so_many (subst (λ m. P (place.sent + place.read) m) may (reply_by opens told.0 told.1))

  -- ---- it goes on

  module _ (rows others : List RowValue) (up : IsStrictlySortedBy inner_place_cmp rows) (down : IsStrictlySortedBy inner_place_cmp others) where
    -- what a side of a version replies to the answers of the other one
    abbrev RepliesIn : ℕ → Place → ℕ → AskValue → List AskValue → ℕ → ℕ → Type 0
    RepliesIn version t at ask asks counted most =
        Replies (by_items version) (sync_rules version) rows (turn (sync_rules version) others (ask ∷ asks)) (opened (sync_rules version) others (ask ∷ asks)) counted most
        (hear (Waits t at []) (turn_items version (turn (sync_rules version) others (ask ∷ asks))))

    replies_here : (t : Place) (at : ℕ) (ask : AskValue) (asks : List AskValue) (counted most : ℕ) → IsHearing (by_items t.version) rows (ask ∷ asks) counted most t
        → counted + length (turn (sync_rules t.version) others (ask ∷ asks)).items ≤ most → RepliesIn t.version t at ask asks counted most
    replies_here t at ask asks counted most h few =
        let version = t.version in
        let mine : List AskValue = ask ∷ asks in
        let u : TurnValue = turn (sync_rules version) others mine in
        let opens = opened (sync_rules version) others mine in
        let told = told_turn version others down mine in
        let room : HasRoom t u = omega (arith, few, h.so_many, h.so_many_may, turn_count version u told) in
        replies rows up t at u told h.has opens counted most h.so_many h.so_many_may
        (hears_turn t u told mine (hearing_asks t.doing ask asks (of_version version t mine h.hears).next) opens
        (read_turn (sync_rules version) others (can_cut_rows version others down) (can_send version others down) mine) room)

    replies_on : (version : ℕ) (t : Place) (at : ℕ) (ask : AskValue) (asks : List AskValue) (counted most : ℕ) → IsHearing (by_items version) rows (ask ∷ asks) counted most t
        → counted + length (turn (sync_rules version) others (ask ∷ asks)).items ≤ most → RepliesIn version t at ask asks counted most
    replies_on version t at ask asks counted most h few =
        let same = (of_version version t (ask ∷ asks) h.hears).same in
        subst (λ v. RepliesIn v t at ask asks counted most) same
        (replies_here t at ask asks counted most
        (subst (λ v. IsHearing (by_items v) rows (ask ∷ asks) counted most t) (sym same) h)
        (subst (λ v. counted + length (turn (sync_rules v) others (ask ∷ asks)).items ≤ most) (sym same) few))

    parts_here : (t : Place) (at counted most : ℕ) → IsHearing (by_items t.version) rows [] counted most t → counted ≤ most → hear (Waits t at []) (turn_items t.version bye) ≡ stay Over
    parts_here t at counted most h few =
        let last : Place = record t { doing = Finished } in
        let told = hears_some t last at (turn_items t.version bye) (omega arith) (hears_last_bye t (omega (arith, few, h.so_many, h.so_many_may)) (parting t.doing (of_version t.version t [] h.hears).next)) in
        told.1 ∙ ap (λ s. stepped told.0 (answered (has_finished s.1.doing) s [])) (says_nothing last (λ e. cc))

    parts_on : (version : ℕ) (t : Place) (at counted most : ℕ) → IsHearing (by_items version) rows [] counted most t → counted ≤ most → hear (Waits t at []) (turn_items version bye) ≡ stay Over
    parts_on version t at counted most h few =
        let same = (of_version version t [] h.hears).same in
        subst (λ v. hear (Waits t at []) (turn_items v bye) ≡ stay Over) same
        (parts_here t at counted most (subst (λ v. IsHearing (by_items v) rows [] counted most t) (sym same) h) few)

    pub goes_on : (version : ℕ) → GoesOn (by_items version) (sync_rules version) (side role begun agreed) item_spelling rows others
    goes_on version = record { replies = replies_on version; parts = parts_on version }

-- ---- the beginning

module _ (version : ℕ) (rows others : List RowValue) (up : IsStrictlySortedBy inner_place_cmp rows) (down : IsStrictlySortedBy inner_place_cmp others) (few : length others ≤ SNAPSHOT_MAX) (few' : length rows ≤ SNAPSHOT_MAX) where
  -- what both agree on
  abbrev agreement : Option Ranges → Agreement
  agreement box = record { version = version; box = box }

  first_waits : (t : TurnValue) (asks : List AskValue) (place : Place) → place.version ≡ version → place.sent ≡ 0 → place.read ≡ 0 → IsToldTurn place.version t
      → IsHearing (by_items version) place.rows asks (length t.items) (most_items place.area place.rows) (place_after place t asks)
  first_waits t asks place same none nothing told = record { has = refl; hears = same_version version (place_after place t asks) asks same (waits_for asks); so_many = omega (arith, none, nothing, turn_count place.version t told); so_many_may = refl }

  begins : (box : Option Ranges) → CallerBegins (by_items version) (sync_rules version) (side talk.Caller rows (agreement box)) rows box (most_items box rows)
  begins None =
      let place = first_place version roles.Caller rows None in
      let said = spoken_as place ∙ says_whole place bye [] refl in
      let P : List ItemValue × Place → Type 0 = λ s. IsHearing (by_items version) rows [] 0 (most_items None rows) s.1 in
      record { says = ap (λ s. s.0) said; hears = subst P (sym said) (first_waits bye [] place refl refl refl tt) }
  begins (Some x) =
      let place = first_place version roles.Caller rows (Some x) in
      let t : TurnValue = first_turn (sync_rules version) rows x in
      let asks = first_asks (sync_rules version) rows x in
      let said = spoken_as place ∙ says_whole place t asks refl in
      let P : List ItemValue × Place → Type 0 = λ s. IsHearing (by_items version) rows asks 1 (most_items (Some x) rows) s.1 in
      record { says = ap (λ s. s.0) said; hears = subst P (sym said) (first_waits t asks place refl refl refl (tt, tt)) }

  awaits : (box : Option Ranges) → Awaits (by_items version) (sync_rules version) (side talk.Answerer others (agreement box)) item_spelling others rows box (most_items box others)
  awaits box =
      let place = first_place version roles.Answerer others box in
      let said = spoken_as place ∙ says_nothing place (λ e. cc) in
      let P : List ItemValue × Place → Type 0 = λ s.
      Replies (by_items version) (sync_rules version) others (opening_turn (sync_rules version) rows box) (opening_asks (sync_rules version) rows box) 0 (most_items box others)
      (run (taken (side talk.Answerer others (agreement box)) item_spelling) (Waits s.1 0 []) (turn_items version (opening_turn (sync_rules version) rows box))) in
      record { silent = ap (λ s. s.0) said; replies = subst P (sym said) (first_replies box) }
    where
      first_replies : (box : Option Ranges)
          → Replies (by_items version) (sync_rules version) others (opening_turn (sync_rules version) rows box) (opening_asks (sync_rules version) rows box) 0 (most_items box others)
          (run (taken (side talk.Answerer others (agreement box)) item_spelling) (Waits (first_place version roles.Answerer others box) 0 []) (turn_items version (opening_turn (sync_rules version) rows box)))
      first_replies None =
          let place = first_place version roles.Answerer others None in
          replies talk.Answerer others (agreement None) others down place 0 bye tt refl [] 0 (most_items None others) refl refl (hears_first_bye place (omega arith) refl refl)
      first_replies (Some x) =
          let place = first_place version roles.Answerer others (Some x) in
          let t : TurnValue = first_turn (sync_rules version) rows x in
          let asks = first_asks (sync_rules version) rows x in
          replies talk.Answerer others (agreement (Some x)) others down place 0 t (tt, tt) refl asks 0 (most_items (Some x) others) refl refl (hears_first place t (tt, tt) x refl refl asks refl (omega arith))

  few_counted : (box : Option Ranges) → (count_of_items (exchange (sync_rules version) rows others box) ≤ most_items box rows) × (count_of_items (exchange (sync_rules version) rows others box) ≤ most_items box others)
  few_counted None = (omega arith, omega arith)
  few_counted (Some x) =
      let within = counted_exchange (sync_rules version) rows others x (disjoint version) (can_cut_rows version rows up) (can_cut_rows version others down) in
      (omega (arith, within, few, rows_in-le x others), omega (arith, within, few', rows_in-le x rows))

  pub take_turns : (box : Option Ranges) → TakeTurns (by_items version) (sync_rules version) (side talk.Caller rows (agreement box)) (side talk.Answerer others (agreement box)) rows others box
  take_turns box = record {
    caller_most = most_items box rows;
    answerer_most = most_items box others;
    begins = begins box;
    caller_goes_on = goes_on talk.Caller rows (agreement box) rows others up down version;
    awaits = awaits box;
    answerer_goes_on = goes_on talk.Answerer others (agreement box) others rows down up version;
    few_for_caller = (few_counted box).0;
    few_for_answerer = (few_counted box).1;
  }
