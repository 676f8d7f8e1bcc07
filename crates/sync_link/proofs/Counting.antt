-- No more rows come than bytes.
use Rattle.std.proofs.Common.{ℕ, ◌+◌, ◌≤◌, List, [], ◌∷◌, ◌++◌, length, Option, None, Some, option_to_list, Result, Ok, Err, Bool, true, false, arith, length-append, map, ap}
use Rattle.willow_entry.specs.Row.{RowValue}
use Rattle.session_end.specs.declared.refusal.HelloRefusal.{HelloRefusal}
use Rattle.sync_msg.specs.Items.{ItemValue}
use Rattle.sync_msg.specs.declared.refusal.CoreRefusal.{CoreRefusal}
use Rattle.sync_hello.specs.declared.hello.Hello.{Hello}
use Rattle.sync_core.specs.Place.{Place}
use Rattle.session_rules.specs.Machine.{Machine, Seen, Whole, Part, Wrong, Step, Goes, Ends, Refuses}
use Rattle.session_rules.specs.Reading.{Stand, Waits, Over, Broken, Refused, judged, move, stepped, run, read}
use Rattle.std.proofs.lemmas.List.{length-map}
use Rattle.cap_codec.specs.Rows.{RawValue, row_of}
use Rattle.session_rules.specs.Talk.{answered, item_heard, spoken}
use Rattle.session_rules.specs.Greeting.{other_refusal}
use Rattle.session_rules.specs.Session.{Opening, Proving, Talking, Hello as HelloMessage, Proof, Item, exchange_with, hello_read, proof_read, item_read}
use Rattle.sync_link.specs.Greetings.{greeting}
use Rattle.sync_link.specs.Places.{offers_of, places}
use Rattle.sync_link.specs.Sessions.{Party, SessionStage, SessionMessage, SessionCause, own_part, session_of}
use Rattle.sync_link.specs.Standing.{Side, ReadsPiece, party_of}
use Rattle.sync_link.proofs.Reaching.{chosen, may_chosen}

-- the rows of a step
abbrev pub rows_in_step : {S O R E : Type 0} → Step S O R E → List R
rows_in_step (Goes s says rows) = rows
rows_in_step (Ends says rows) = rows
rows_in_step (Refuses e) = []

module _ {S M O R E : Type 0} (a : Machine S M O R E) (one : (s : S) (m : M) → length (rows_in_step (a.step s m)) ≤ 1) where
  stepped_few : (at : ℕ) (step : Step S O R E) → length (rows_in_step step) ≤ 1 → length (stepped at step).rows ≤ 1
  stepped_few at (Goes s says rows) h = h
  stepped_few at (Ends says rows) h = h
  stepped_few at (Refuses e) h = omega arith

  judged_few : (s : S) (at : ℕ) (held : List ℕ) (seen : Seen M) → length (judged a s at held seen).rows ≤ 1
  judged_few s at held (Whole m) = stepped_few (at + length held) (a.step s m) (one s m)
  judged_few s at held Part = omega arith
  judged_few s at held Wrong = omega arith

  move_few : (q : Stand S E) (byte : ℕ) → length (move a q byte).rows ≤ 1
  move_few (Waits s at held) byte = judged_few s at (held ++ byte ∷ []) (a.sees s (held ++ byte ∷ []))
  move_few Over byte = omega arith
  move_few (Broken at) byte = omega arith
  move_few (Refused e) byte = omega arith

  pub read_few : (q : Stand S E) (bytes : List ℕ) → length (read a q bytes).rows ≤ length bytes
  unfolding run
  read_few q [] = omega arith
  read_few q (byte ∷ bytes) =
      let m = move a q byte in
      omega (arith, length-append m.rows (read a m.stand bytes).rows, move_few q byte, read_few m.stand bytes)

-- ---- a session

abbrev Sides : Type 0
Sides = Step Place ItemValue RowValue CoreRefusal

option_few : (o : Option RowValue) → length (option_to_list o) ≤ 1
option_few None = omega arith
option_few (Some row) = omega arith

answered_few : (b : Bool) (spoken : List ItemValue × Place) (rows : List RowValue) → length rows ≤ 1 → length (rows_in_step (item_read {H = Hello} {P = List ℕ} {F = HelloRefusal} {G = CoreRefusal} (answered b spoken rows))) ≤ 1
answered_few true spoken rows h = h
answered_few false spoken rows h = h

heard_few : (item : ItemValue) (o : Result Place CoreRefusal) → length (rows_in_step (item_read {H = Hello} {P = List ℕ} {F = HelloRefusal} (item_heard places item o))) ≤ 1
heard_few item (Ok t) = answered_few (places.is_done (spoken places t).1) (spoken places t) (option_to_list (places.row_in item)) (option_few (places.row_in item))
heard_few item (Err cause) = omega arith

module _ (p : Party) (rows : List RowValue) where
  hello_few : (hello : Hello) (o : Option HelloRefusal) → length (rows_in_step (hello_read {T = Place} {I = ItemValue} {R = RowValue} {G = CoreRefusal} (own_part p) hello o)) ≤ 1
  hello_few hello None = omega arith
  hello_few hello (Some cause) = omega arith

  proof_few : (hello : Hello) (o : Option HelloRefusal) → length (rows_in_step (proof_read {H = Hello} (own_part p) (exchange_with (greeting p.rules p.namespace) places (own_part p) (offers_of p.interest rows) hello) o)) ≤ 1
  proof_few hello None = omega arith
  proof_few hello (Some cause) = omega arith

  step_few : (s : SessionStage) (m : SessionMessage) → length (rows_in_step ((session_of p rows).step s m)) ≤ 1
  step_few Opening (HelloMessage hello) = hello_few hello ((greeting p.rules p.namespace).hello_refusal hello)
  step_few Opening (Proof proof) = omega arith
  step_few Opening (Item item) = omega arith
  step_few (Proving hello) (HelloMessage other) = omega arith
  step_few (Proving hello) (Proof proof) = proof_few hello (other_refusal (greeting p.rules p.namespace) (own_part p) hello proof)
  step_few (Proving hello) (Item item) = omega arith
  step_few (Talking t) (HelloMessage hello) = omega arith
  step_few (Talking t) (Proof proof) = omega arith
  step_few (Talking t) (Item item) = heard_few item (places.heard t item)

  session_few : (q : Stand SessionStage SessionCause) (bytes : List ℕ) → length (read (session_of p rows) q bytes).rows ≤ length bytes
  session_few q bytes = read_few (session_of p rows) step_few q bytes

-- a piece brings no more rows than it has bytes
pub came_few : (old new : Side) (piece out_old out_new : List ℕ) (came : List RawValue) → ReadsPiece old new piece out_old out_new [] (map row_of came) → length came ≤ length piece
came_few old new piece out_old out_new came f =
    let s = chosen new.signature in
    let r = f.reads s (may_chosen new.signature) in
    omega (arith, session_few (party_of old s) old.rows old.stand piece, ap length r.takes, ap length f.got, length-map came row_of)
