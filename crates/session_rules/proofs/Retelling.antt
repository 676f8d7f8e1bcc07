-- Two sessions of one side with different proofs.
use Rattle.std.proofs.Common.{◌≡◌, ℕ, ◌+◌, List, [], ◌∷◌, ◌++◌, map, length, Option, None, Some, sym, refl, ap, ap₂, ◌∙◌}
use Rattle.session_rules.specs.Machine.{Seen, Whole, Part, Wrong, Step, Goes, Ends, Refuses, Machine}
use Rattle.session_rules.specs.Reading.{Stand, Waits, Over, Broken, Refused, Move, then, stepped, judged, move, run, read, start, ending_of, said, got, ending}
use Rattle.session_rules.specs.Talk.{Role, Caller, Answerer, Talk, item_heard}
use Rattle.session_rules.specs.Greeting.{Greeting, Own, other_refusal}
use Rattle.session_rules.specs.Session.{Message, Hello, Proof, Item, Stage, Opening, Proving, Talking, Cause, opening, to_hello, to_proof, exchange_with, hello_read, proof_read, item_read, seen_as, session, with_proof, retold, Offering}
use Rattle.session_rules.proofs.Growing.{rows_of}
use Rattle.session_rules.proofs.Runs.{move_of}
use Rattle.session_rules.proofs.Talking.{map-append}

module _ {H P A F R T I G : Type 0} (g : Greeting H P A F) (k : Talk R A T I G) (own : Own H P) (proof : P) (offers : Offering A R) where
  abbrev one : Machine (Stage H T) (Message H P I) (Message H P I) R (Cause F G)
  one = session g k own offers

  abbrev other : Machine (Stage H T) (Message H P I) (Message H P I) R (Cause F G)
  other = session g k (with_proof proof own) offers

  abbrev AMove : Type 0
  AMove = Move (Stage H T) (Message H P I) R (Cause F G)

  -- the same comes, told with the other proof
  abbrev told : AMove → AMove
  told m = record { stand = m.stand; says = map (retold proof) m.says; rows = m.rows }

  told_then : (m n : AMove) → told (then m n) ≡ then (told m) (told n)
  told_then m n = ap (λ says. move_of n.stand says (m.rows ++ n.rows)) (map-append (retold proof) m.says n.says)

  -- ---- what is said

  opening_told : (role : Role) → opening {I = I} role (with_proof proof own) ≡ map (retold proof) (opening role own)
  opening_told Caller = refl
  opening_told Answerer = refl

  to_hello_told : (role : Role) → to_hello {I = I} role (with_proof proof own) ≡ map (retold proof) (to_hello role own)
  to_hello_told Caller = refl
  to_hello_told Answerer = refl

  to_proof_told : (role : Role) → to_proof {I = I} role (with_proof proof own) ≡ map (retold proof) (to_proof role own)
  to_proof_told Caller = refl
  to_proof_told Answerer = refl

  items_told : (items : List I) → ◌≡◌ {A = List (Message H P I)} (map Item items) (map (retold proof) (map Item items))
  items_told [] = refl
  items_told (item ∷ items) = ap (λ rest. Item item ∷ rest) (items_told items)

  -- ---- message by message

  hello_told : (n : ℕ) (hello : H) (refusal : Option F)
      → ◌≡◌ {A = AMove} (stepped n (hello_read (with_proof proof own) hello refusal)) (told (stepped n (hello_read own hello refusal)))
  hello_told n hello (Some cause) = refl
  hello_told n hello None = ap (λ says. move_of (Waits (Proving hello) n []) says []) (to_hello_told own.role)

  proof_told : (n : ℕ) (e : Machine T I I R G) (refusal : Option F)
      → ◌≡◌ {A = AMove} (stepped n (proof_read (with_proof proof own) e refusal)) (told (stepped n (proof_read own e refusal)))
  proof_told n e (Some cause) = refl
  proof_told n e None =
      ap (λ says. move_of (Waits (Talking e.first) n []) says [])
      (ap₂ ◌++◌ (to_proof_told own.role) (items_told e.opening) ∙ sym (map-append (retold proof) (to_proof own.role own) (map Item e.opening)))

  item_told : (n : ℕ) (step : Step T I R G) → ◌≡◌ {A = AMove} (stepped n (item_read step)) (told (stepped n (item_read step)))
  item_told n (Goes t items taken) = ap (λ says. move_of (Waits (Talking t) n []) says taken) (items_told items)
  item_told n (Ends items taken) = ap (λ says. move_of Over says taken) (items_told items)
  item_told n (Refuses cause) = refl

  -- ---- byte by byte

  opening_judged : (at : ℕ) (held : List ℕ) (seen : Seen H) → judged other Opening at held (seen_as Hello seen) ≡ told (judged one Opening at held (seen_as Hello seen))
  opening_judged at held (Whole hello) = hello_told (at + length held) hello (g.hello_refusal hello)
  opening_judged at held Part = refl
  opening_judged at held Wrong = refl

  proving_judged : (hello : H) (at : ℕ) (held : List ℕ) (seen : Seen P)
      → judged other (Proving hello) at held (seen_as Proof seen) ≡ told (judged one (Proving hello) at held (seen_as Proof seen))
  proving_judged hello at held (Whole theirs) = proof_told (at + length held) (exchange_with g k own offers hello) (other_refusal g own hello theirs)
  proving_judged hello at held Part = refl
  proving_judged hello at held Wrong = refl

  talking_judged : (t : T) (at : ℕ) (held : List ℕ) (seen : Seen I)
      → judged other (Talking t) at held (seen_as Item seen) ≡ told (judged one (Talking t) at held (seen_as Item seen))
  talking_judged t at held (Whole item) = item_told (at + length held) (item_heard k item (k.heard t item))
  talking_judged t at held Part = refl
  talking_judged t at held Wrong = refl

  move_told : (q : Stand (Stage H T) (Cause F G)) (byte : ℕ) → move other q byte ≡ told (move one q byte)
  move_told (Waits Opening at held) byte = opening_judged at (held ++ byte ∷ []) (g.sees_hello (held ++ byte ∷ []))
  move_told (Waits (Proving hello) at held) byte = proving_judged hello at (held ++ byte ∷ []) (g.sees_proof (held ++ byte ∷ []))
  move_told (Waits (Talking t) at held) byte = talking_judged t at (held ++ byte ∷ []) (k.sees t (held ++ byte ∷ []))
  move_told Over byte = refl
  move_told (Broken at) byte = refl
  move_told (Refused cause) byte = refl

  read_told : (q : Stand (Stage H T) (Cause F G)) (bytes : List ℕ) → read other q bytes ≡ told (read one q bytes)
  unfolding run
  read_told q [] = refl
  read_told q (byte ∷ bytes) =
      let m = move one q byte in
      ap (λ n. then n (read other n.stand bytes)) (move_told q byte)
      ∙ ap (then (told m)) (read_told m.stand bytes)
      ∙ sym (told_then m (read one m.stand bytes))

  -- ---- the session

  pub said_retold : (bytes : List ℕ) → said other bytes ≡ map (retold proof) (said one bytes)
  said_retold bytes =
      ap₂ ◌++◌ (opening_told own.role) (ap (λ (m : AMove). m.says) (read_told (start one) bytes))
      ∙ sym (map-append (retold proof) (opening own.role own) (read one (start one) bytes).says)

  pub same_got : (bytes : List ℕ) → got other bytes ≡ got one bytes
  same_got bytes = ap rows_of (read_told (start one) bytes)

  pub same_ending : (bytes : List ℕ) → ending other bytes ≡ ending one bytes
  same_ending bytes = ap (λ (m : AMove). ending_of m.stand) (read_told (start one) bytes)
