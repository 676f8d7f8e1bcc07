-- What the laws of sessions say, at whatever hellos H, proofs P, things A that two hellos agree on, rows R, places T, items I
-- and causes to refuse F and G there are.
use Rattle.std.specs.Prelude.{◌≡◌, ◌⊎◌, ◌≤◌, ℕ, suc, Bool, List, [], ◌++◌, length, map, flat_map, filter_map, count_by, Contains, Some}
use Rattle.session_rules.specs.Reading.{said, out, got, ending_of, ending}
use Rattle.session_rules.specs.Rounds.{IsOver, rounds, Meet}
use Rattle.session_rules.specs.Messages.{hear, CanTalk}
use Rattle.session_rules.specs.Talk.{Talk, TellsOwn, TellsNoMore}
use Rattle.session_rules.specs.Greeting.{Greeting, Own, HasHello, IsGreeted, Greets, greeting_bytes}
use Rattle.session_rules.specs.Session.{Item, Proof, Offering, rows_offered, exchange_with, session, message_rows, OfferSame, with_proof, retold, ends_as}
use Rattle.session_rules.specs.Pairs.{Pair, calling, answering, caller_side, answerer_side, by_caller, by_answerer, GreetEachOther, exchanged, AreSettled}

module _ (H P A F R T I G : Type 0) where
  -- ---- what a session grants

  -- a side that said an item was greeted, and the exchange over the rows that it offers to the other said it, reading what
  -- stands behind the greeting
  abbrev pub ItemsAreGranted : Type 0
  ItemsAreGranted = (g : Greeting H P A F) (k : Talk R A T I G) (own : Own H P) (offers : Offering A R) (bytes : List ℕ) (item : I)
      → Contains (said (session g k own offers) bytes) (Item item)
      → (greeted : IsGreeted g own bytes)
      × Contains (said (exchange_with g k own offers greeted.hello) greeted.behind) item

  -- a side that took a row was greeted, and that exchange took it
  abbrev pub RowsAreGranted : Type 0
  RowsAreGranted = (g : Greeting H P A F) (k : Talk R A T I G) (own : Own H P) (offers : Offering A R) (bytes : List ℕ) (row : R)
      → Contains (got (session g k own offers) bytes) row
      → (greeted : IsGreeted g own bytes)
      × Contains (got (exchange_with g k own offers greeted.hello) greeted.behind) row

  -- where sides of the exchange tell only rows that they began with, each row that a side told is one that it offers to
  -- the other
  abbrev pub ToldRowsAreOffered : Type 0
  ToldRowsAreOffered = (g : Greeting H P A F) (k : Talk R A T I G) (own : Own H P) (offers : Offering A R) (bytes : List ℕ) (item : I) (row : R)
      → TellsOwn k → Contains (said (session g k own offers) bytes) (Item item) → k.row_in item ≡ Some row
      → (greeted : IsGreeted g own bytes) × Contains (rows_offered g own offers greeted.hello) row

  -- a side says its proof only where what it read begins with a hello that passes
  abbrev pub ProofsAreGranted : Type 0
  ProofsAreGranted = (g : Greeting H P A F) (k : Talk R A T I G) (own : Own H P) (offers : Offering A R) (bytes : List ℕ) (proof : P)
      → Contains (said (session g k own offers) bytes) (Proof proof) → (hello : H) × HasHello g bytes hello

  -- no row is told; or the side was greeted, and the rows that it told are those that the exchange told over the rows that
  -- it offers to the other, reading what stands behind the greeting
  abbrev pub ToldRowsAreExchange : Type 0
  ToldRowsAreExchange = (g : Greeting H P A F) (k : Talk R A T I G) (own : Own H P) (offers : Offering A R) (bytes : List ℕ)
      → (message_rows k (said (session g k own offers) bytes) ≡ [])
      ⊎ ((greeted : IsGreeted g own bytes)
      × (message_rows k (said (session g k own offers) bytes) ≡ filter_map k.row_in (said (exchange_with g k own offers greeted.hello) greeted.behind)))

  -- where sides of the exchange tell no row more often than they began with it, no row is told; or the side was greeted, and
  -- of the rows that pass a test it told no more than it offers to the other
  abbrev pub ToldRowsAreFew : Type 0
  ToldRowsAreFew = (g : Greeting H P A F) (k : Talk R A T I G) (own : Own H P) (offers : Offering A R) (bytes : List ℕ)
      → TellsNoMore k
      → (message_rows k (said (session g k own offers) bytes) ≡ [])
      ⊎ ((greeted : IsGreeted g own bytes)
      × ((passes : R → Bool) → count_by passes (message_rows k (said (session g k own offers) bytes)) ≤ count_by passes (rows_offered g own offers greeted.hello)))

  -- ---- rows that are not offered

  -- offering the same rows, a side writes the same
  abbrev pub OutSeesOfferedAlone : Type 0
  OutSeesOfferedAlone = (g : Greeting H P A F) (k : Talk R A T I G) (own : Own H P) (offers others : Offering A R) (bytes : List ℕ)
      → OfferSame g own bytes offers others
      → out (session g k own offers) bytes ≡ out (session g k own others) bytes

  -- it takes the same
  abbrev pub GotSeesOfferedAlone : Type 0
  GotSeesOfferedAlone = (g : Greeting H P A F) (k : Talk R A T I G) (own : Own H P) (offers others : Offering A R) (bytes : List ℕ)
      → OfferSame g own bytes offers others
      → got (session g k own offers) bytes ≡ got (session g k own others) bytes

  -- and it ends alike
  abbrev pub EndingSeesOfferedAlone : Type 0
  EndingSeesOfferedAlone = (g : Greeting H P A F) (k : Talk R A T I G) (own : Own H P) (offers others : Offering A R) (bytes : List ℕ)
      → OfferSame g own bytes offers others
      → ending (session g k own offers) bytes ≡ ending (session g k own others) bytes

  -- ---- another proof

  -- a side with another proof says the same, with that in its place
  abbrev pub AnotherProofIsRetold : Type 0
  AnotherProofIsRetold = (g : Greeting H P A F) (k : Talk R A T I G) (own : Own H P) (proof : P) (offers : Offering A R) (bytes : List ℕ)
      → said (session g k (with_proof proof own) offers) bytes ≡ map (retold proof) (said (session g k own offers) bytes)

  -- it takes the same rows
  abbrev pub AnotherProofGetsSame : Type 0
  AnotherProofGetsSame = (g : Greeting H P A F) (k : Talk R A T I G) (own : Own H P) (proof : P) (offers : Offering A R) (bytes : List ℕ)
      → got (session g k (with_proof proof own) offers) bytes ≡ got (session g k own offers) bytes

  -- and comes to the same end
  abbrev pub AnotherProofEndsAlike : Type 0
  AnotherProofEndsAlike = (g : Greeting H P A F) (k : Talk R A T I G) (own : Own H P) (proof : P) (offers : Offering A R) (bytes : List ℕ)
      → ending (session g k (with_proof proof own) offers) bytes ≡ ending (session g k own offers) bytes

  -- ---- behind the greeting

  -- behind a greeting that passes a session writes its own greeting and what the exchange writes
  abbrev pub GreetedWritesExchange : Type 0
  GreetedWritesExchange = (g : Greeting H P A F) (k : Talk R A T I G) (own : Own H P) (offers : Offering A R) (hello : H) (proof : P) (bytes : List ℕ)
      → Greets g own hello proof
      → out (session g k own offers) (greeting_bytes g hello proof ++ bytes)
      ≡ greeting_bytes g own.hello own.proof ++ out (exchange_with g k own offers hello) bytes

  -- it takes what the exchange takes
  abbrev pub GreetedGetsExchange : Type 0
  GreetedGetsExchange = (g : Greeting H P A F) (k : Talk R A T I G) (own : Own H P) (offers : Offering A R) (hello : H) (proof : P) (bytes : List ℕ)
      → Greets g own hello proof
      → got (session g k own offers) (greeting_bytes g hello proof ++ bytes) ≡ got (exchange_with g k own offers hello) bytes

  -- and it ends as the exchange does, which begins behind the greeting
  abbrev pub GreetedEndsAsExchange : Type 0
  GreetedEndsAsExchange = (g : Greeting H P A F) (k : Talk R A T I G) (own : Own H P) (offers : Offering A R) (hello : H) (proof : P) (bytes : List ℕ)
      → Greets g own hello proof
      → ending (session g k own offers) (greeting_bytes g hello proof ++ bytes)
      ≡ ends_as (length (greeting_bytes g hello proof)) (ending (exchange_with g k own offers hello) bytes)

  -- ---- two sessions

  -- two sessions whose greetings pass write these and what the two exchanges write, round by round
  abbrev pub SessionRoundsAreExchange : Type 0
  SessionRoundsAreExchange = (p : Pair H P A F R T I G) (n : ℕ) → GreetEachOther p
      → rounds (out (calling p)) (out (answering p)) (suc (suc n))
      ≡ (
        by_caller p ++ (rounds (out (caller_side p)) (out (answerer_side p)) (suc n)).0,
        by_answerer p ++ (rounds (out (caller_side p)) (out (answerer_side p)) (suc n)).1,
      )

  -- where the caller has ended in a round of these, this is all that they write, whatever it is
  abbrev pub SessionsSettle : Type 0
  SessionsSettle = (p : Pair H P A F R T I G) (n : ℕ) (left right : List ℕ)
      → GreetEachOther p → CanTalk (caller_side p) (answerer_side p) n
      → IsOver (ending_of (hear (caller_side p) p.talk.spelling (exchanged p n).1).stand)
      → Meet (out (calling p)) (out (answering p)) left right → AreSettled p n left right

  -- and so there is such a pair
  abbrev pub SessionsMeet : Type 0
  SessionsMeet = (p : Pair H P A F R T I G) (n : ℕ)
      → GreetEachOther p → CanTalk (caller_side p) (answerer_side p) n
      → IsOver (ending_of (hear (caller_side p) p.talk.spelling (exchanged p n).1).stand)
      → Meet (out (calling p)) (out (answering p))
      (by_caller p ++ flat_map p.talk.spelling (exchanged p (suc n)).0)
      (by_answerer p ++ flat_map p.talk.spelling (exchanged p (suc n)).1)
