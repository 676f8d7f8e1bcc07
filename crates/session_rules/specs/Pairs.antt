-- Two sessions that each read what the other writes.
use Rattle.std.specs.Prelude.{◌≡◌, ℕ, suc, List, ◌++◌, length, flat_map}
use Rattle.session_rules.specs.Machine.{Machine}
use Rattle.session_rules.specs.Reading.{ending_of, got, ending}
use Rattle.session_rules.specs.Messages.{hear, dialogue}
use Rattle.session_rules.specs.Talk.{Caller, Answerer, Talk}
use Rattle.session_rules.specs.Greeting.{Greeting, Own, greeting_bytes, Greets}
use Rattle.session_rules.specs.Session.{Message, Stage, Cause, Offering, exchange_with, session, ends_as}

-- a caller and an answerer that go by the same rules, with what they offer
pub record Pair (H P A F R T I G : Type 0) : Type 0 where
  pub greeting : Greeting H P A F
  pub talk : Talk R A T I G
  pub caller : Own H P
  pub answerer : Own H P
  pub caller_offers : Offering A R
  pub answerer_offers : Offering A R

-- their sessions
abbrev pub calling : {H P A F R T I G : Type 0} → Pair H P A F R T I G → Machine (Stage H T) (Message H P I) (Message H P I) R (Cause F G)
calling p = session p.greeting p.talk p.caller p.caller_offers

abbrev pub answering : {H P A F R T I G : Type 0} → Pair H P A F R T I G → Machine (Stage H T) (Message H P I) (Message H P I) R (Cause F G)
answering p = session p.greeting p.talk p.answerer p.answerer_offers

-- the exchanges behind their greetings
abbrev pub caller_side : {H P A F R T I G : Type 0} → Pair H P A F R T I G → Machine T I I R G
caller_side p = exchange_with p.greeting p.talk p.caller p.caller_offers p.answerer.hello

abbrev pub answerer_side : {H P A F R T I G : Type 0} → Pair H P A F R T I G → Machine T I I R G
answerer_side p = exchange_with p.greeting p.talk p.answerer p.answerer_offers p.caller.hello

-- the bytes of their greetings
abbrev pub by_caller : {H P A F R T I G : Type 0} → Pair H P A F R T I G → List ℕ
by_caller p = greeting_bytes p.greeting p.caller.hello p.caller.proof

abbrev pub by_answerer : {H P A F R T I G : Type 0} → Pair H P A F R T I G → List ℕ
by_answerer p = greeting_bytes p.greeting p.answerer.hello p.answerer.proof

-- each reads the other's hello and proof as what they are, and they pass
pub record GreetEachOther {H P A F R T I G : Type 0} (p : Pair H P A F R T I G) : Type 0 where
  pub calls : p.caller.role ≡ Caller
  pub answers : p.answerer.role ≡ Answerer
  pub caller_hears : Greets p.greeting p.caller p.answerer.hello p.answerer.proof
  pub answerer_hears : Greets p.greeting p.answerer p.caller.hello p.caller.proof

-- what both have said in the exchange after so many rounds
abbrev pub exchanged : {H P A F R T I G : Type 0} → Pair H P A F R T I G → ℕ → List I × List I
exchanged p n = dialogue (caller_side p) (answerer_side p) n

-- Both write their greetings and what they say in the exchange up to a round. Each ends as the exchange does and takes
-- its rows; the caller has heard all a round before.
pub record AreSettled {H P A F R T I G : Type 0} (p : Pair H P A F R T I G) (n : ℕ) (left right : List ℕ) : Type 0 where
  pub caller_writes : left ≡ by_caller p ++ flat_map p.talk.spelling (exchanged p (suc n)).0
  pub answerer_writes : right ≡ by_answerer p ++ flat_map p.talk.spelling (exchanged p (suc n)).1
  pub caller_ends : ending (calling p) right ≡ ends_as (length (by_answerer p)) (ending_of (hear (caller_side p) p.talk.spelling (exchanged p n).1).stand)
  pub caller_got : got (calling p) right ≡ (hear (caller_side p) p.talk.spelling (exchanged p n).1).rows
  pub answerer_ends : ending (answering p) left ≡ ends_as (length (by_caller p)) (ending_of (hear (answerer_side p) p.talk.spelling (exchanged p (suc n)).0).stand)
  pub answerer_got : got (answering p) left ≡ (hear (answerer_side p) p.talk.spelling (exchanged p (suc n)).0).rows
