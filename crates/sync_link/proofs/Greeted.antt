-- What a session knows of the other side's hello, and what it has said, by how it stands.
use Rattle.std.proofs.Common.{◌≡◌, ◌⊎◌, inl, inr, ℕ, ◌+◌, List, [], ◌∷◌, ◌++◌, map, length, Option, None, Some, append_assoc, append-nil, sym, refl, ap, ◌∙◌, subst}
use Rattle.session_rules.specs.Machine.{Machine, Seen, Whole, Part, Wrong, Step, Goes, Ends, Refuses}
use Rattle.session_rules.specs.Reading.{Stand, Waits, Over, Broken, Refused, Move, judged, move, stepped, run, read, start, said}
use Rattle.session_rules.specs.Talk.{Role, Caller, Answerer, Talk, item_heard}
use Rattle.session_rules.specs.Greeting.{Greeting, Own, other_refusal, HasHello}
use Rattle.session_rules.specs.Session.{Message, Hello, Proof, Item, Stage, Opening, Proving, Talking, Cause, opening, to_hello, to_proof, exchange_with, hello_read, proof_read, item_read, seen_as, session, Offering}

module _ {H P A F R T I G : Type 0} (g : Greeting H P A F) (k : Talk R A T I G) (own : Own H P) (offers : Offering A R) where
  abbrev here : Machine (Stage H T) (Message H P I) (Message H P I) R (Cause F G)
  here = session g k own offers

  -- ---- the other side's hello

  -- the bytes of a hello are all held while it is due, and stand in front while a proof is
  abbrev Knows : List ℕ → Stand (Stage H T) (Cause F G) → Type 0
  Knows bytes (Waits Opening at held) = held ≡ bytes
  Knows bytes (Waits (Proving hello) at held) = HasHello g bytes hello
  Knows bytes (Waits (Talking t) at held) = Unit {0}
  Knows bytes Over = Unit {0}
  Knows bytes (Broken at) = Unit {0}
  Knows bytes (Refused cause) = Unit {0}

  pub hello_longer : (bytes more : List ℕ) (hello : H) → HasHello g bytes hello → HasHello g (bytes ++ more) hello
  hello_longer bytes more hello h = record {
    hello_bytes = h.hello_bytes;
    behind = h.behind ++ more;
    joined = ap (λ l. l ++ more) h.joined ∙ append_assoc h.hello_bytes h.behind more;
    is_hello = h.is_hello;
    passes = h.passes;
  }

  by_refusal : (bytes : List ℕ) (hello : H) (n : ℕ) → g.sees_hello bytes ≡ Whole hello → (o : Option F) → g.hello_refusal hello ≡ o → Knows bytes (stepped n (hello_read {T = T} {I = I} {R = R} {G = G} own hello o)).stand
  by_refusal bytes hello n is None e = record { hello_bytes = bytes; behind = []; joined = sym (append-nil bytes); is_hello = is; passes = e }
  by_refusal bytes hello n is (Some cause) e = tt

  opening_judged : (at : ℕ) (held : List ℕ) (seen : Seen H) → g.sees_hello held ≡ seen → Knows held (judged here Opening at held (seen_as Hello seen)).stand
  opening_judged at held (Whole hello) is = by_refusal held hello (at + length held) is (g.hello_refusal hello) refl
  opening_judged at held Part is = refl
  opening_judged at held Wrong is = tt

  proof_judged : (bytes : List ℕ) (hello : H) (n : ℕ) (o : Option F) → Knows bytes (stepped n (proof_read own (exchange_with g k own offers hello) o)).stand
  proof_judged bytes hello n None = tt
  proof_judged bytes hello n (Some cause) = tt

  proving_judged : (bytes : List ℕ) (hello : H) (at : ℕ) (held : List ℕ) (seen : Seen P) → HasHello g bytes hello → Knows bytes (judged here (Proving hello) at held (seen_as Proof seen)).stand
  proving_judged bytes hello at held (Whole proof) h = proof_judged bytes hello (at + length held) (other_refusal g own hello proof)
  proving_judged bytes hello at held Part h = h
  proving_judged bytes hello at held Wrong h = tt

  item_stepped : (bytes : List ℕ) (n : ℕ) (step : Step T I R G) → Knows bytes (stepped n (item_read {H = H} {P = P} {F = F} step)).stand
  item_stepped bytes n (Goes t items taken) = tt
  item_stepped bytes n (Ends items taken) = tt
  item_stepped bytes n (Refuses cause) = tt

  talking_judged : (bytes : List ℕ) (t : T) (at : ℕ) (held : List ℕ) (seen : Seen I) → Knows bytes (judged here (Talking t) at held (seen_as Item seen)).stand
  talking_judged bytes t at held (Whole item) = item_stepped bytes (at + length held) (item_heard k item (k.heard t item))
  talking_judged bytes t at held Part = tt
  talking_judged bytes t at held Wrong = tt

  known_move : (bytes : List ℕ) (q : Stand (Stage H T) (Cause F G)) (byte : ℕ) → Knows bytes q → Knows (bytes ++ byte ∷ []) (move here q byte).stand
  known_move bytes (Waits Opening at held) byte h =
      let more = held ++ byte ∷ [] in
      subst (λ l. Knows (l ++ byte ∷ []) (move here (Waits Opening at held) byte).stand) h (opening_judged at more (g.sees_hello more) refl)
  known_move bytes (Waits (Proving hello) at held) byte h =
      proving_judged (bytes ++ byte ∷ []) hello at (held ++ byte ∷ []) (g.sees_proof (held ++ byte ∷ [])) (hello_longer bytes (byte ∷ []) hello h)
  known_move bytes (Waits (Talking t) at held) byte h = talking_judged (bytes ++ byte ∷ []) t at (held ++ byte ∷ []) (k.sees t (held ++ byte ∷ []))
  known_move bytes Over byte h = tt
  known_move bytes (Broken at) byte h = tt
  known_move bytes (Refused cause) byte h = tt

  known_read : (bytes more : List ℕ) (q : Stand (Stage H T) (Cause F G)) → Knows bytes q → Knows (bytes ++ more) (read here q more).stand
  unfolding run
  known_read bytes [] q h = subst (λ l. Knows l q) (sym (append-nil bytes)) h
  known_read bytes (byte ∷ more) q h =
      subst (λ l. Knows l (read here (move here q byte).stand more).stand) (append_assoc bytes (byte ∷ []) more)
      (known_read (bytes ++ byte ∷ []) more (move here q byte).stand (known_move bytes q byte h))

  pub waits_hello : (bytes : List ℕ) (hello : H) (at : ℕ) (held : List ℕ) → (read here (start here) bytes).stand ≡ Waits (Proving hello) at held → HasHello g bytes hello
  waits_hello bytes hello at held e = subst (Knows bytes) e (known_read [] bytes (start here) refl)

  -- ---- what was said

  abbrev AMessage : Type 0
  AMessage = Message H P I

  -- the own hello at most
  abbrev pub Quiet : List AMessage → Type 0
  Quiet says = (says ≡ []) ⊎ (says ≡ Hello own.hello ∷ [])

  -- the own hello, and behind it the own proof
  abbrev pub Proved : List AMessage → Type 0
  Proved says = (later : List AMessage) × (says ≡ Hello own.hello ∷ Proof own.proof ∷ later)

  abbrev Told : List AMessage → Type 0
  Told says = Quiet says ⊎ Proved says

  abbrev Says : List AMessage → Stand (Stage H T) (Cause F G) → Type 0
  Says says (Waits Opening at held) = says ≡ opening own.role own
  Says says (Waits (Proving hello) at held) = says ≡ opening own.role own ++ to_hello own.role own
  Says says (Waits (Talking t) at held) = Proved says
  Says says Over = Told says
  Says says (Broken at) = Told says
  Says says (Refused cause) = Told says

  first_told : (role : Role) → Told (opening role own)
  first_told Caller = inl (inr refl)
  first_told Answerer = inl (inl refl)

  second_told : (role : Role) → Told (opening role own ++ to_hello role own)
  second_told Caller = inl (inr refl)
  second_told Answerer = inr ([], refl)

  third_proved : (role : Role) (items : List AMessage) → Proved ((opening role own ++ to_hello role own) ++ (to_proof role own ++ items))
  third_proved Caller items = (items, refl)
  third_proved Answerer items = (items, refl)

  proved_more : (says more : List AMessage) → Proved says → Proved (says ++ more)
  proved_more says more h = (h.0 ++ more, ap (λ l. l ++ more) h.1)

  told_of : (says : List AMessage) (q : Stand (Stage H T) (Cause F G)) → Says says q → Told says
  told_of says (Waits Opening at held) e = subst Told (sym e) (first_told own.role)
  told_of says (Waits (Proving hello) at held) e = subst Told (sym e) (second_told own.role)
  told_of says (Waits (Talking t) at held) h = inr h
  told_of says Over h = h
  told_of says (Broken at) h = h
  told_of says (Refused cause) h = h

  -- nothing more is said
  quietly : (says : List AMessage) → Told says → Told (says ++ [])
  quietly says h = subst Told (sym (append-nil says)) h

  -- ---- byte by byte

  abbrev AMove : Type 0
  AMove = Move (Stage H T) AMessage R (Cause F G)

  abbrev SaysOn : List AMessage → AMove → Type 0
  SaysOn says m = Says (says ++ m.says) m.stand

  hello_says : (says : List AMessage) (hello : H) (n : ℕ) (o : Option F) → says ≡ opening own.role own → SaysOn says (stepped n (hello_read own hello o))
  hello_says says hello n None e = ap (λ l. l ++ to_hello own.role own) e
  hello_says says hello n (Some cause) e = quietly says (subst Told (sym e) (first_told own.role))

  opening_says : (says : List AMessage) (at : ℕ) (held : List ℕ) (seen : Seen H) → says ≡ opening own.role own → SaysOn says (judged here Opening at held (seen_as Hello seen))
  opening_says says at held (Whole hello) e = hello_says says hello (at + length held) (g.hello_refusal hello) e
  opening_says says at held Part e = append-nil says ∙ e
  opening_says says at held Wrong e = quietly says (subst Told (sym e) (first_told own.role))

  proof_says : (says : List AMessage) (hello : H) (n : ℕ) (o : Option F) → says ≡ opening own.role own ++ to_hello own.role own → SaysOn says (stepped n (proof_read own (exchange_with g k own offers hello) o))
  proof_says says hello n None e =
      let items = map Item (exchange_with g k own offers hello).opening in
      subst (λ l. Proved (l ++ (to_proof own.role own ++ items))) (sym e) (third_proved own.role items)
  proof_says says hello n (Some cause) e = quietly says (subst Told (sym e) (second_told own.role))

  proving_says : (says : List AMessage) (hello : H) (at : ℕ) (held : List ℕ) (seen : Seen P) → says ≡ opening own.role own ++ to_hello own.role own → SaysOn says (judged here (Proving hello) at held (seen_as Proof seen))
  proving_says says hello at held (Whole proof) e = proof_says says hello (at + length held) (other_refusal g own hello proof) e
  proving_says says hello at held Part e = append-nil says ∙ e
  proving_says says hello at held Wrong e = quietly says (subst Told (sym e) (second_told own.role))

  item_says : (says : List AMessage) (n : ℕ) (step : Step T I R G) → Proved says → SaysOn says (stepped n (item_read step))
  item_says says n (Goes t items taken) h = proved_more says (map Item items) h
  item_says says n (Ends items taken) h = inr (proved_more says (map Item items) h)
  item_says says n (Refuses cause) h = quietly says (inr h)

  talking_says : (says : List AMessage) (t : T) (at : ℕ) (held : List ℕ) (seen : Seen I) → Proved says → SaysOn says (judged here (Talking t) at held (seen_as Item seen))
  talking_says says t at held (Whole item) h = item_says says (at + length held) (item_heard k item (k.heard t item)) h
  talking_says says t at held Part h = proved_more says [] h
  talking_says says t at held Wrong h = quietly says (inr h)

  says_move : (says : List AMessage) (q : Stand (Stage H T) (Cause F G)) (byte : ℕ) → Says says q → SaysOn says (move here q byte)
  says_move says (Waits Opening at held) byte h = opening_says says at (held ++ byte ∷ []) (g.sees_hello (held ++ byte ∷ [])) h
  says_move says (Waits (Proving hello) at held) byte h = proving_says says hello at (held ++ byte ∷ []) (g.sees_proof (held ++ byte ∷ [])) h
  says_move says (Waits (Talking t) at held) byte h = talking_says says t at (held ++ byte ∷ []) (k.sees t (held ++ byte ∷ [])) h
  says_move says Over byte h = quietly says h
  says_move says (Broken at) byte h = quietly says h
  says_move says (Refused cause) byte h = quietly says h

  says_read : (says : List AMessage) (q : Stand (Stage H T) (Cause F G)) (more : List ℕ) → Says says q → SaysOn says (read here q more)
  unfolding run
  says_read says q [] h = subst (λ l. Says l q) (sym (append-nil says)) h
  says_read says q (byte ∷ more) h =
      let m = move here q byte in
      let n = read here m.stand more in
      subst (λ l. Says l n.stand) (append_assoc says m.says n.says) (says_read (says ++ m.says) m.stand more (says_move says q byte h))

  pub told : (bytes : List ℕ) → Quiet (said here bytes) ⊎ Proved (said here bytes)
  told bytes =
      let m = read here (start here) bytes in
      told_of (opening own.role own ++ m.says) m.stand (says_read (opening own.role own) (start here) bytes refl)
