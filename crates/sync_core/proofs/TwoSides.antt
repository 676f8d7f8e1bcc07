-- Two sides, each of which hears what the other says: turn by turn they say the exchange.
use Rattle.std.proofs.Common.{◌≡◌, ℕ, zero, suc, ◌+◌, ◌≤◌, ◌<◌, List, [], ◌∷◌, length, sum_by, Option, Some, None, Ok, refl, sym, ap, ◌∙◌, subst, arith}
use Rattle.std.specs.Prelude.{IsOkAnd}
use Rattle.std.specs.List.Sorted.{IsStrictlySortedBy}
use Rattle.willow_area.specs.Boxes.{Ranges}
use Rattle.willow_entry.specs.Row.{RowValue, inner_place_cmp}
use Rattle.exchange_rules.specs.Items.{bye}
use Rattle.exchange_rules.specs.Answer.{opened, turn}
use Rattle.exchange_rules.specs.Exchange.{turns, enough, exchange, first_turn, first_asks}
use Rattle.exchange_rules.proofs.Sums.{sum_by-one}
use Rattle.exchange_rules.proofs.Potentials.{turn_within}
use Rattle.exchange_rules.proofs.Costs.{cost, costs_within, turn_costs, first_cost}
use Rattle.exchange_rules.proofs.Ends.{enough_for_first}
use Rattle.exchange_rules.proofs.Meeting.{read_turn}
use Rattle.sync_msg.specs.declared.item.Item.TheVariants.{Bye}
use Rattle.sync_msg.specs.declared.role.Role.TheVariants.{Caller, Answerer}
use Rattle.sync_core.specs.declared.stage.TheConstants.{SNAPSHOT_MAX}
use Rattle.sync_core.specs.SyncRules.{sync_rules}
use Rattle.sync_core.specs.Flat.{AskValue, TurnValue, turn_items}
use Rattle.sync_core.specs.Place.{Replying, Parting, Finished, Place, most_items, saying, first_place}
use Rattle.sync_core.specs.Steps.{said, said_at, next_said, waiting}
use Rattle.sync_core.specs.Runs.{said_from, says, left_to_say, says_all, place_after, hears, replying, place_behind, SayTurns}
use Rattle.sync_core.proofs.Owing.{to_count-turn}
use Rattle.sync_core.proofs.Running.{says_turn}
use Rattle.sync_core.proofs.TurnsCounted.{hears_turn, hears_first, hears_first_bye, hears_last_bye}
use Rattle.sync_core.proofs.SpelledTurns.{told_turn}
use Rattle.sync_core.proofs.Telling.{rows_in-le}
use Rattle.sync_core.proofs.Lawful.{disjoint, can_cut_rows, can_send}

-- ---- a turn

-- a side that begins to say a turn says all of it
pub says_whole : (place : Place) (t : TurnValue) (asks : List AskValue) → place.doing ≡ saying place.version t asks → says_all place ≡ (turn_items place.version t, place_after place t asks)
says_whole place t asks is = ap (λ d. says (left_to_say d) place) is ∙ says_turn place t asks is

-- one that replies says farewell
pub says_bye : (place : Place) → place.doing ≡ Replying → says_all place ≡ (Bye ∷ [], record place { sent = place.sent + 0; doing = Finished })
unfolding says said
says_bye place is = ap (λ d. says (left_to_say d) place) is ∙ ap (λ d. said_from (says 0) place (said_at place (next_said d))) is

-- what is said of a turn, and heard
say_turn : (t : TurnValue) (ts : List TurnValue) (writer reader after behind : Place) → says_all writer ≡ (turn_items writer.version t, after) → hears reader (turn_items writer.version t) ≡ Ok behind → SayTurns ts behind after → SayTurns (t ∷ ts) writer reader
unfolding SayTurns
say_turn t ts writer reader after behind says hears rest =
    let then : SayTurns ts behind (says_all writer).1 = subst (λ w. SayTurns ts behind w) (sym (ap (λ r. r.1) says)) rest in
    (ap (λ r. r.0) says, subst (λ o. IsOkAnd o (λ next. SayTurns ts next (says_all writer).1)) (sym hears) then)

-- the place in a session of a version
abbrev at : ℕ → Place → Place
at version place = record place { version = version }

-- the last farewell
say_last : (version : ℕ) (writer reader : Place) → writer.doing ≡ Replying → reader.doing ≡ Parting → reader.sent + reader.read ≤ most_items reader.area reader.rows → SayTurns (bye ∷ []) (at version writer) (at version reader)
unfolding SayTurns
say_last version writer reader writes hears few =
    let w = at version writer in
    let r = at version reader in
    say_turn bye [] w r (record w { sent = writer.sent + 0; doing = Finished }) (record r { doing = Finished }) (says_bye w writes) (hears_last_bye r (omega arith) hears) (refl, refl)

-- ---- the turns behind the first

-- no more counted items may come than this, where these asks still cost so many
abbrev HasCost : Place → ℕ → Type 0
HasCost place n = place.sent + place.read + n ≤ most_items place.area place.rows

-- Before a turn that answers some asks one side begins to answer, and the other hears the answers.
record IsBefore (version : ℕ) (asks : List AskValue) (writer reader : Place) : Type 0 where
  writes : writer.doing ≡ replying version writer.rows asks
  reads : reader.doing ≡ waiting asks
  few_said : HasCost writer (sum_by (cost (sync_rules version) writer.rows reader.rows) asks)
  few_heard : HasCost reader (sum_by (cost (sync_rules version) writer.rows reader.rows) asks)

module _ (version : ℕ) where
  say_turns : (n : ℕ) (asks : List AskValue) (writer reader : Place) → IsStrictlySortedBy inner_place_cmp writer.rows → IsStrictlySortedBy inner_place_cmp reader.rows
      → IsBefore version asks writer reader → sum_by (cost (sync_rules version) writer.rows reader.rows) asks < n → SayTurns (turns (sync_rules version) n writer.rows reader.rows asks) (at version writer) (at version reader)
  unfolding turns
  say_turns zero asks writer reader up down h less = absurd (omega arith)
  say_turns (suc n) [] writer reader up down h less = say_last version writer reader h.writes h.reads (omega (arith, h.few_heard))
  say_turns (suc n) (ask ∷ asks) writer reader up down h less =
      let g = sync_rules version in
      let w = at version writer in
      let r = at version reader in
      let l = writer.rows in
      let m = reader.rows in
      let mine : List AskValue = ask ∷ asks in
      let t : TurnValue = turn g l mine in
      let opens = opened g l mine in
      let can = can_cut_rows version l up in
      let within = turn_within g l (λ item. 1) (cost g l m) (cost g m l) (costs_within g (disjoint version) l m can) mine in
      let one = sum_by-one t.items in
      let few = to_count-turn version t in
      let after = place_after w t opens in
      let behind = place_behind r t opens in
      let next : IsBefore version opens behind after = record {
        writes = refl;
        reads = refl;
        few_said = omega (arith, h.few_heard, within, one, few);
        few_heard = omega (arith, h.few_said, within, one, few);
      } in
      say_turn t (turns g n m l opens) w r after behind (says_whole w t opens h.writes)
      (hears_turn r t (told_turn version l up mine) mine h.reads opens (read_turn g l can (can_send version l up) mine) (omega (arith, h.few_heard, within, one, few)))
      (say_turns n opens behind after down up next (omega (arith, less, turn_costs g (disjoint version) l m can ask asks)))

-- ---- all turns

module _ (version : ℕ) (a b : List RowValue) (up : IsStrictlySortedBy inner_place_cmp a) (down : IsStrictlySortedBy inner_place_cmp b) (few : length a ≤ SNAPSHOT_MAX) (few' : length b ≤ SNAPSHOT_MAX) where
  pub say_exchange : (x : Option Ranges) → SayTurns (exchange (sync_rules version) a b x) (first_place version Caller a x) (first_place version Answerer b x)
  say_exchange None =
      let left = first_place version Caller a None in
      let right = first_place version Answerer b None in
      let after = place_after left bye [] in
      let behind = place_behind right bye [] in
      say_turn bye (bye ∷ []) left right after behind (says_whole left bye [] refl) (hears_first_bye right (omega arith) refl refl) (say_last version behind after refl refl (omega arith))
  say_exchange (Some x) =
      let g = sync_rules version in
      let left = first_place version Caller a (Some x) in
      let right = first_place version Answerer b (Some x) in
      let t : TurnValue = first_turn g a x in
      let asks = first_asks g a x in
      let after = place_after left t asks in
      let behind = place_behind right t asks in
      let cost_first = first_cost g a b x in
      let next : IsBefore version asks behind after = record {
        writes = refl;
        reads = refl;
        few_said = omega (arith, cost_first, few, few', rows_in-le x a, rows_in-le x b);
        few_heard = omega (arith, cost_first, few, few', rows_in-le x a, rows_in-le x b);
      } in
      say_turn t (turns g (enough g a b x) b a asks) left right after behind (says_whole left t asks refl)
      (hears_first right t (tt, tt) x refl refl asks refl (omega arith))
      (say_turns version (enough g a b x) asks behind after down up next (enough_for_first g (disjoint version) a b x))
