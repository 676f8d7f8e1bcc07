-- Two sessions that come to an end with the rows of an exchange.
use Rattle.std.proofs.Common.{◌≡◌, ℕ, suc, ◌≤◌, List, ◌++◌, length, flat_map, Option, sym, ap, ◌∙◌, subst, arith}
use Rattle.exchange_rules.specs.Rules.{Rules}
use Rattle.exchange_rules.specs.Items.{Turn, caller_turns, answerer_turns, to_left, to_right}
use Rattle.exchange_rules.specs.Exchange.{exchange}
use Rattle.exchange_rules.specs.Premises.{HasDisjointParts, CanCut}
use Rattle.session_rules.specs.Reading.{Ending, Done, More, ending_of, start, out}
use Rattle.session_rules.specs.Rounds.{IsOver, Meet}
use Rattle.session_rules.specs.Messages.{CanReadAll, hear, CanTalk}
use Rattle.session_rules.specs.Session.{ends_as}
use Rattle.session_rules.specs.Pairs.{Pair, calling, answering, caller_side, answerer_side, by_caller, by_answerer, GreetEachOther, exchanged}
use Rattle.session_rules.specs.Turns.{View, TakeTurns, CanReadTurns, AreExchanged, HearsAll}
use Rattle.session_rules.proofs.Settling.{sessions_do_meet, are_settled}
use Rattle.session_rules.proofs.Exchanging.{all_said, caller_hears, answerer_hears}

done_over : {G : Type 0} (end : Ending G) → end ≡ Done → IsOver end
done_over end is more = apart (sym is ∙ more)
  where
    apart : {G : Type 0} → ◌≡◌ {A = Ending G} Done More → ⊥
    apart e = cc

module _ {H P A F R X T I G C : Type 0} (p : Pair H P A F R T I G) (v : View R X C T I) (rules : Rules R X C) (rows others : List R) (box : Option X)
    (disjoint : HasDisjointParts rules) (can : CanCut rules rows) (can' : CanCut rules others) (greet : GreetEachOther p)
    (take_turns : TakeTurns v rules (caller_side p) (answerer_side p) rows others box)
    (can_read : CanReadTurns v (caller_side p) (answerer_side p) (exchange rules rows others box)) where
  abbrev all_turns : List (Turn R C)
  all_turns = exchange rules rows others box

  abbrev enough_rounds : ℕ
  enough_rounds = length all_turns

  abbrev spell : List I → List ℕ
  spell items = flat_map p.talk.spelling items

  said_in : (n : ℕ) → length all_turns ≤ n → (exchanged p n).0 ≡ flat_map v.items_of (caller_turns all_turns)
  said_in n h = ap (λ d. d.0) (all_said v rules (caller_side p) (answerer_side p) rows others box disjoint can can' take_turns n h)

  heard_in : (n : ℕ) → length all_turns ≤ n → (exchanged p n).1 ≡ flat_map v.items_of (answerer_turns all_turns)
  heard_in n h = ap (λ d. d.1) (all_said v rules (caller_side p) (answerer_side p) rows others box disjoint can can' take_turns n h)

  can_talk : CanTalk (caller_side p) (answerer_side p) enough_rounds
  can_talk = record {
    first_reads = subst (CanReadAll (caller_side p) p.talk.spelling (start (caller_side p))) (sym (heard_in enough_rounds (omega arith))) can_read.caller_can;
    second_reads = subst (CanReadAll (answerer_side p) p.talk.spelling (start (answerer_side p))) (sym (said_in (suc enough_rounds) (omega arith))) can_read.answerer_can;
  }

  caller_all : HearsAll (caller_side p) p.talk.spelling (exchanged p enough_rounds).1 (to_left all_turns)
  caller_all =
      subst (λ items. HearsAll (caller_side p) p.talk.spelling items (to_left all_turns)) (sym (heard_in enough_rounds (omega arith)))
      (caller_hears v rules (caller_side p) (answerer_side p) rows others box disjoint can can' take_turns)

  answerer_all : HearsAll (answerer_side p) p.talk.spelling (exchanged p (suc enough_rounds)).0 (to_right all_turns)
  answerer_all =
      subst (λ items. HearsAll (answerer_side p) p.talk.spelling items (to_right all_turns)) (sym (said_in (suc enough_rounds) (omega arith)))
      (answerer_hears v rules (caller_side p) (answerer_side p) rows others box disjoint can can' take_turns)

  caller_done : ending_of (hear (caller_side p) p.talk.spelling (exchanged p enough_rounds).1).stand ≡ Done
  caller_done = ap ending_of caller_all.over

  caller_over : IsOver (ending_of (hear (caller_side p) p.talk.spelling (exchanged p enough_rounds).1).stand)
  caller_over = done_over (ending_of (hear (caller_side p) p.talk.spelling (exchanged p enough_rounds).1).stand) caller_done

  pub they_meet : (left : List ℕ) × (right : List ℕ) × Meet (out (calling p)) (out (answering p)) left right
  they_meet = (
    by_caller p ++ flat_map p.talk.spelling (exchanged p (suc enough_rounds)).0,
    by_answerer p ++ flat_map p.talk.spelling (exchanged p (suc enough_rounds)).1,
    sessions_do_meet p greet enough_rounds can_talk caller_over,
  )

  pub exchanged_all : (left right : List ℕ) → Meet (out (calling p)) (out (answering p)) left right → AreExchanged p v all_turns left right
  exchanged_all left right meet =
      let settled = are_settled p greet enough_rounds can_talk caller_over left right meet in
      record {
        caller_writes = settled.caller_writes ∙ ap (λ items. by_caller p ++ spell items) (said_in (suc enough_rounds) (omega arith));
        answerer_writes = settled.answerer_writes ∙ ap (λ items. by_answerer p ++ spell items) (heard_in (suc enough_rounds) (omega arith));
        caller_done = settled.caller_ends ∙ ap (ends_as (length (by_answerer p))) caller_done;
        caller_got = settled.caller_got ∙ caller_all.takes;
        answerer_done = settled.answerer_ends ∙ ap (λ stand. ends_as (length (by_caller p)) (ending_of stand)) answerer_all.over;
        answerer_got = settled.answerer_got ∙ answerer_all.takes;
      }
