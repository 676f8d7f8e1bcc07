-- Two sessions whose greetings pass, each of which reads what the other writes.
use Rattle.std.proofs.Common.{◌≡◌, ℕ, zero, suc, List, [], ◌++◌, length, flat_map, append-nil, sym, refl, ap, ap₂, ◌∙◌, subst}
use Rattle.session_rules.specs.Reading.{Ending, Done, More, BadMessage, Refusal, ending_of, run, read, out, got, ending}
use Rattle.session_rules.specs.Rounds.{IsOver, rounds, Meet}
use Rattle.session_rules.specs.Messages.{hear, CanTalk}
use Rattle.session_rules.specs.Session.{opening, to_hello, message_spelling, ends_as}
use Rattle.session_rules.specs.Pairs.{Pair, calling, answering, caller_side, answerer_side, by_caller, by_answerer, GreetEachOther, exchanged, AreSettled}
use Rattle.session_rules.proofs.Growing.{says_of}
use Rattle.session_rules.proofs.Meeting.{first_over, they_meet}
use Rattle.session_rules.proofs.Spelled.{rounds_spelled, over_in_bytes, dialogue_meets, is_dialogue}
use Rattle.session_rules.proofs.Greeted.{hello_whole, out_is_exchange, got_is_exchange, ending_is_exchange}

-- an end of the exchange is one of the session
over_as : {F G : Type 0} (n : ℕ) (end : Ending G) → IsOver end → IsOver (ends_as {F = F} n end)
over_as n Done over = λ e. cc
over_as n More over = absurd (over refl)
over_as n (BadMessage at) over = λ e. cc
over_as n (Refusal cause) over = λ e. cc

abbrev both : List ℕ → List ℕ → List ℕ × List ℕ
both x y = (x, y)

module _ {H P A F R T I G : Type 0} (p : Pair H P A F R T I G) (greet : GreetEachOther p) where
  -- before it reads the caller writes its hello
  first_written : out (calling p) [] ≡ p.greeting.hello_spelling p.caller.hello
  unfolding run
  first_written =
      ap (λ role. flat_map (message_spelling p.greeting p.talk) (opening role p.caller ++ [])) greet.calls
      ∙ append-nil (p.greeting.hello_spelling p.caller.hello)

  -- to which the answerer writes its greeting
  then_written : out (answering p) (p.greeting.hello_spelling p.caller.hello) ≡ by_answerer p
  then_written =
      let spell = flat_map (message_spelling p.greeting p.talk) in
      ap (λ m. spell (opening p.answerer.role p.answerer ++ says_of m)) (hello_whole p.greeting p.talk p.answerer p.answerer_offers p.caller.hello p.caller.proof greet.answerer_hears [])
      ∙ ap (λ role. spell (opening role p.answerer ++ to_hello role p.answerer)) greet.answers
      ∙ ap (λ rest. p.greeting.hello_spelling p.answerer.hello ++ rest) (append-nil (p.greeting.proof_spelling p.answerer.proof))

  caller_goes_on : (read : List ℕ) → out (calling p) (by_answerer p ++ read) ≡ by_caller p ++ out (caller_side p) read
  caller_goes_on read = out_is_exchange p.greeting p.talk p.caller p.caller_offers p.answerer.hello p.answerer.proof greet.caller_hears read

  answerer_goes_on : (read : List ℕ) → out (answering p) (by_caller p ++ read) ≡ by_answerer p ++ out (answerer_side p) read
  answerer_goes_on read = out_is_exchange p.greeting p.talk p.answerer p.answerer_offers p.caller.hello p.caller.proof greet.answerer_hears read

  -- the answerer's greeting, and what it writes in a round of the exchange, in the next round of the session
  second_rounds : (n : ℕ) → (rounds (out (calling p)) (out (answering p)) (suc n)).1 ≡ by_answerer p ++ (rounds (out (caller_side p)) (out (answerer_side p)) n).1
  unfolding rounds
  second_rounds zero = ap (out (answering p)) first_written ∙ then_written ∙ sym (append-nil (by_answerer p))
  second_rounds (suc n) =
      ap (λ read. out (answering p) (out (calling p) read)) (second_rounds n)
      ∙ ap (out (answering p)) (caller_goes_on (rounds (out (caller_side p)) (out (answerer_side p)) n).1)
      ∙ answerer_goes_on (out (caller_side p) (rounds (out (caller_side p)) (out (answerer_side p)) n).1)

  first_rounds : (n : ℕ) → (rounds (out (calling p)) (out (answering p)) (suc (suc n))).0 ≡ by_caller p ++ (rounds (out (caller_side p)) (out (answerer_side p)) (suc n)).0
  unfolding rounds
  first_rounds n = ap (out (calling p)) (second_rounds n) ∙ caller_goes_on (rounds (out (caller_side p)) (out (answerer_side p)) n).1

  pub session_rounds : (n : ℕ) → rounds (out (calling p)) (out (answering p)) (suc (suc n))
      ≡ (by_caller p ++ (rounds (out (caller_side p)) (out (answerer_side p)) (suc n)).0, by_answerer p ++ (rounds (out (caller_side p)) (out (answerer_side p)) (suc n)).1)
  session_rounds n = ap₂ both (first_rounds n) (second_rounds (suc n))

  module _ (n : ℕ) (can : CanTalk (caller_side p) (answerer_side p) n) (over : IsOver (ending_of (hear (caller_side p) p.talk.spelling (exchanged p n).1).stand)) where
    spelled_rounds : rounds (out (calling p)) (out (answering p)) (suc (suc n))
        ≡ (by_caller p ++ flat_map p.talk.spelling (exchanged p (suc n)).0, by_answerer p ++ flat_map p.talk.spelling (exchanged p (suc n)).1)
    spelled_rounds = session_rounds n ∙ ap (λ r. both (by_caller p ++ r.0) (by_answerer p ++ r.1)) (rounds_spelled (caller_side p) (answerer_side p) n can)

    session_over : IsOver (ending (calling p) (rounds (out (calling p)) (out (answering p)) (suc n)).1)
    session_over more =
        let read = (rounds (out (caller_side p)) (out (answerer_side p)) n).1 in
        over_as (length (by_answerer p)) (ending (caller_side p) read) (over_in_bytes (caller_side p) (answerer_side p) n can over)
        (sym (ap (ending (calling p)) (second_rounds n) ∙ ending_is_exchange p.greeting p.talk p.caller p.caller_offers p.answerer.hello p.answerer.proof greet.caller_hears read) ∙ more)

    pub sessions_write : (left right : List ℕ) → Meet (out (calling p)) (out (answering p)) left right
        → both left right ≡ both (by_caller p ++ flat_map p.talk.spelling (exchanged p (suc n)).0) (by_answerer p ++ flat_map p.talk.spelling (exchanged p (suc n)).1)
    sessions_write left right meet = first_over (calling p) (answering p) left right (suc n) meet session_over ∙ spelled_rounds

    pub sessions_do_meet : Meet (out (calling p)) (out (answering p)) (by_caller p ++ flat_map p.talk.spelling (exchanged p (suc n)).0) (by_answerer p ++ flat_map p.talk.spelling (exchanged p (suc n)).1)
    sessions_do_meet = subst (λ r. Meet (out (calling p)) (out (answering p)) r.0 r.1) spelled_rounds (they_meet (calling p) (answering p) (suc n) session_over)

    pub are_settled : (left right : List ℕ) → Meet (out (calling p)) (out (answering p)) left right → AreSettled p n left right
    are_settled left right meet =
        let by_left = flat_map p.talk.spelling (exchanged p (suc n)).0 in
        let by_right = flat_map p.talk.spelling (exchanged p (suc n)).1 in
        let is = is_dialogue (caller_side p) (answerer_side p) n can over by_left by_right (dialogue_meets (caller_side p) (answerer_side p) n can over) in
        let first : left ≡ by_caller p ++ by_left = ap (λ r. r.0) (sessions_write left right meet) in
        let second : right ≡ by_answerer p ++ by_right = ap (λ r. r.1) (sessions_write left right meet) in
        record {
          caller_writes = first;
          answerer_writes = second;
          caller_ends = ap (ending (calling p)) second ∙ ending_is_exchange p.greeting p.talk p.caller p.caller_offers p.answerer.hello p.answerer.proof greet.caller_hears by_right ∙ ap (ends_as (length (by_answerer p))) is.first_ends;
          caller_got = ap (got (calling p)) second ∙ got_is_exchange p.greeting p.talk p.caller p.caller_offers p.answerer.hello p.answerer.proof greet.caller_hears by_right ∙ is.first_got;
          answerer_ends = ap (ending (answering p)) first ∙ ending_is_exchange p.greeting p.talk p.answerer p.answerer_offers p.caller.hello p.caller.proof greet.answerer_hears by_left ∙ ap (ends_as (length (by_caller p))) is.second_ends;
          answerer_got = ap (got (answering p)) first ∙ got_is_exchange p.greeting p.talk p.answerer p.answerer_offers p.caller.hello p.caller.proof greet.answerer_hears by_left ∙ is.second_got;
        }
