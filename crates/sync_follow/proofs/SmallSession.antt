-- Two sessions of stores without rows are each the other end of the other.
use Rattle.std.proofs.Common.{◌≡◌, ℕ, List, [], ◌∷◌, length, Option, Some, refl, ap, subst, arith, length-append}
use Rattle.std.specs.Cmp.Lexicographic.{bytes_decides}
use Rattle.willow_entry.specs.Row.{RowValue}
use Rattle.willow_entry.proofs.RowLaws.{same_row_decides}
use Rattle.exchange_rules.specs.Answer.{reply, turn, opened}
use Rattle.exchange_rules.specs.Exchange.{turns, asked, exchange, Apart}
use Rattle.exchange_rules.specs.Items.{Ask, Print}
use Rattle.exchange_rules.specs.Premises.{IsDeciding, HasDisjointParts, CanCut}
use Rattle.session_rules.specs.Machine.{Machine, Whole}
use Rattle.session_rules.specs.Messages.{IsReadAs, taken}
use Rattle.session_rules.specs.Reading.{Waits, Over, stay, run, out, got}
use Rattle.session_rules.specs.Rounds.{Meet}
use Rattle.session_rules.specs.Talk.{speaks}
use Rattle.session_rules.specs.Pairs.{GreetEachOther, calling, answering, caller_side, answerer_side}
use Rattle.session_rules.specs.Turns.{Replies, GoesOn, TakeTurns, CanReadTurns}
use Rattle.session_rules.proofs.Tellers.{they_greet}
use Rattle.sync_follow.specs.BothEnds.{AreEnds}
use Rattle.sync_follow.specs.SmallSession.{Said, Asks, Agrees, Parts, Turnstile, Asking, Waiting, Parting, Listening, Agreeing, Closing, Gone, said_seen, said_spelling, of_one_box, as_asked, asks_due, askers, small_ends}

one_byte : (byte : ℕ) (said : Said) → said_seen (byte ∷ []) ≡ Whole said → IsReadAs said_seen (byte ∷ []) said
one_byte byte said e = record {
  some_bytes = omega arith;
  whole = e;
  part = λ held due joined some more. absurd (omega (arith, ap length joined, length-append held due));
}

greet : GreetEachOther askers
greet = record { calls = refl; answers = refl; caller_hears = they_greet.caller_hears; answerer_hears = they_greet.answerer_hears }

-- ---- each answers the other's turns

abbrev AnswersTo : Machine Turnstile Said Said RowValue ℕ → ℕ → ℕ → ℕ → List (Ask RowValue (Unit {0})) → Type 0
AnswersTo side at counted most asks =
    Replies as_asked of_one_box [] (turn of_one_box [] asks) (opened of_one_box [] asks) counted most
    (run (taken side said_spelling) (Waits Waiting at []) (as_asked.items_of (turn of_one_box [] asks)))

caller_answers : (at counted most : ℕ) → AnswersTo (caller_side askers) at counted most (Print tt [] ∷ [])
unfolding reply run speaks
caller_answers at counted most = record { says = refl; takes = refl; stands = refl }

answerer_answers : (at counted most : ℕ) → AnswersTo (answerer_side askers) at counted most (Print tt [] ∷ [])
unfolding reply run speaks
answerer_answers at counted most = record { says = refl; takes = refl; stands = refl }

-- whoever waits for an answer waits for this
same_asks : (asks : List (Ask RowValue (Unit {0}))) → ◌≡◌ {A = Option (List (Ask RowValue (Unit {0})))} (Some (Print tt [] ∷ [])) (Some asks) → Print tt [] ∷ [] ≡ asks
same_asks asks e = cc

module _ (side : Machine Turnstile Said Said RowValue ℕ) (answers : (at counted most : ℕ) → AnswersTo side at counted most (Print tt [] ∷ [])) (closes : (at : ℕ) → run (taken side said_spelling) (Waits Closing at []) (Parts ∷ []) ≡ stay Over) where
  replies_at : (t : Turnstile) (at : ℕ) (ask : Ask RowValue (Unit {0})) (asks : List (Ask RowValue (Unit {0}))) (counted most : ℕ) → asks_due t ≡ Some (ask ∷ asks)
      → Replies as_asked of_one_box [] (turn of_one_box [] (ask ∷ asks)) (opened of_one_box [] (ask ∷ asks)) counted most (run (taken side said_spelling) (Waits t at []) (as_asked.items_of (turn of_one_box [] (ask ∷ asks))))
  replies_at Asking at ask asks counted most e = cc
  replies_at Waiting at ask asks counted most e = subst (AnswersTo side at counted most) (same_asks (ask ∷ asks) e) (answers at counted most)
  replies_at Parting at ask asks counted most e = cc
  replies_at Listening at ask asks counted most e = cc
  replies_at Agreeing at ask asks counted most e = cc
  replies_at Closing at ask asks counted most e = cc
  replies_at Gone at ask asks counted most e = cc

  parts_at : (t : Turnstile) (at : ℕ) → asks_due t ≡ Some [] → run (taken side said_spelling) (Waits t at []) (Parts ∷ []) ≡ stay Over
  parts_at Asking at e = cc
  parts_at Waiting at e = cc
  parts_at Parting at e = cc
  parts_at Listening at e = cc
  parts_at Agreeing at e = cc
  parts_at Closing at e = closes at
  parts_at Gone at e = cc

  goes_on : GoesOn as_asked of_one_box side said_spelling [] []
  goes_on = record {
    replies = λ t at ask asks counted most h few. replies_at t at ask asks counted most h.hears;
    parts = λ t at counted most h few. parts_at t at h.hears;
  }

caller_closes : (at : ℕ) → run (taken (caller_side askers) said_spelling) (Waits Closing at []) (Parts ∷ []) ≡ stay Over
unfolding run speaks
caller_closes at = refl

answerer_closes : (at : ℕ) → run (taken (answerer_side askers) said_spelling) (Waits Closing at []) (Parts ∷ []) ≡ stay Over
unfolding run speaks
answerer_closes at = refl

take_turns : TakeTurns as_asked of_one_box (caller_side askers) (answerer_side askers) [] [] (Some tt)
unfolding reply run speaks turns
take_turns = record {
  caller_most = 2;
  answerer_most = 2;
  begins = record { says = refl; hears = record { has = refl; hears = refl; so_many = refl; so_many_may = refl } };
  caller_goes_on = goes_on (caller_side askers) caller_answers caller_closes;
  awaits = record {
    silent = refl;
    replies = record { says = refl; takes = refl; stands = record { has = refl; hears = refl; so_many = refl; so_many_may = refl } };
  };
  answerer_goes_on = goes_on (answerer_side askers) answerer_answers answerer_closes;
  few_for_caller = omega arith;
  few_for_answerer = omega arith;
}

can_read : CanReadTurns as_asked (caller_side askers) (answerer_side askers) (exchange of_one_box [] [] (Some tt))
unfolding reply speaks turns
can_read = record {
  caller_can = (one_byte 1 Agrees refl, tt);
  answerer_can = (one_byte 0 Asks refl, (one_byte 2 Parts refl, tt));
}

-- ---- the rules of their exchange

apart : Apart of_one_box [] [] tt
unfolding reply asked
apart = (λ e. refl, tt)

deciding : IsDeciding of_one_box
deciding = record { rows = same_row_decides; prints = bytes_decides }

disjoint : HasDisjointParts of_one_box
disjoint box cut row = omega arith

can_cut : CanCut of_one_box []
can_cut box cut e = cc

-- ---- the sessions

meet : Meet (out (calling askers)) (out (answering askers)) small_ends.by_caller small_ends.by_server
unfolding run speaks
meet = record { left_writes = refl; right_writes = refl }

pub caller_got : got (calling askers) small_ends.by_server ≡ []
unfolding run speaks
caller_got = refl

pub server_got : got (answering askers) small_ends.by_caller ≡ []
unfolding run speaks
server_got = refl

pub small_ends_meet : AreEnds small_ends
small_ends_meet = record {
  greet = greet;
  reads = meet;
  turns = take_turns;
  can_read = can_read;
  apart = apart;
  deciding = deciding;
  disjoint = disjoint;
  cuts = (can_cut, can_cut);
}
