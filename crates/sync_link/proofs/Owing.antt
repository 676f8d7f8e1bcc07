-- When the own proof of a side is due, message by message and piece by piece.
use Rattle.std.proofs.Common.{◌≡◌, ◌⊎◌, inl, inr, ℕ, ◌+◌, List, [], ◌∷◌, ◌++◌, map, take, drop, Contains, Option, None, Some, refl, sym, ap, ◌∙◌, subst}
use Rattle.std.proofs.lemmas.List.{take-append-drop}
use Rattle.std.proofs.lemmas.List.Elements.{Contains-append_left, Contains-append_right, Contains-push}
use Rattle.scheme_core.specs.Rules.{Rules}
use Rattle.willow_entry.specs.Row.{RowValue}
use Rattle.willow_entry.proofs.Members.{Member, contains_from_member, member_from_contains}
use Rattle.session_end.specs.declared.refusal.HelloRefusal.{HelloRefusal}
use Rattle.sync_msg.specs.Items.{ItemValue}
use Rattle.sync_msg.specs.declared.refusal.CoreRefusal.{CoreRefusal}
use Rattle.sync_msg.specs.declared.role.Role.{Role}
use Rattle.sync_msg.specs.declared.role.Role.TheVariants.{Caller, Answerer}
use Rattle.sync_hello.specs.Checked.{hello_refusal}
use Rattle.sync_hello.specs.declared.hello.Hello.{Hello}
use Rattle.sync_core.specs.Place.{Place}
use Rattle.session_rules.specs.Machine.{Machine, Seen, Step}
use Rattle.session_rules.specs.Reading.{Stand, Waits, Move, then, stepped, move, read, start}
use Rattle.session_rules.specs.Session as session
use Rattle.session_rules.specs.Session.{Opening, Proving, Proof, to_hello, to_proof, hello_read, proof_read, exchange_with, retold, seen_as}
use Rattle.session_rules.proofs.Growing.{later, said-more}
use Rattle.session_rules.proofs.Retelling.{said_retold}
use Rattle.session_rules.proofs.Runs.{run_append}
use Rattle.row_intake.specs.Found.{IsFound}
use Rattle.row_intake.proofs.Moves.{read_found}
use Rattle.sync_link.specs.Greetings.{greeting, side_of}
use Rattle.sync_link.specs.Places.{offers_of, places}
use Rattle.sync_link.specs.Readers.{hello_seen, proof_seen}
use Rattle.sync_link.specs.Sessions.{Party, SessionStage, SessionMessage, SessionCause, own_part, session_of, said}
use Rattle.sync_link.specs.Standing.{Side, MayBe, ReadsPiece, party_of}
use Rattle.sync_link.specs.Signing.{SaysProof, OwesIn}
use Rattle.sync_link.specs.Asking.{AsksWhere}
use Rattle.sync_link.specs.Talking.{proof_cause}
use Rattle.sync_link.specs.Taking.{Holds, waiting_side}
use Rattle.sync_link.specs.TakingAll.{TakesFront}
use Rattle.sync_link.specs.Awaited.{stand_of}
use Rattle.sync_link.specs.declared.side.awaited.Awaited.{Awaited}
use Rattle.sync_link.specs.declared.side.awaited.Awaited.TheVariants as awaited
use Rattle.sync_link.specs.declared.side.participant.Participant.{Participant}
use Rattle.sync_link.proofs.Greeting.{refused_by}
use Rattle.sync_link.proofs.Moves.{found_as}

-- what is made of a member of a list is a member of what is made of the list
pub member_map : {A B : Type 0} (f : A → B) (xs : List A) (x : A) → Member xs x → Member (map f xs) (f x)
member_map f [] x m = absurd m
member_map f (y ∷ xs) x (inl e) = inl (ap f e)
member_map f (y ∷ xs) x (inr m) = inr (member_map f xs x m)

-- ---- a call of the signer

-- what is due is due of more
pub asks_so : {K : Type 0} (made made' : Option (List ℕ)) (old new : K) (P Q : Type 0) → (P → Q) → AsksWhere made made' old new P → AsksWhere made made' old new Q
asks_so made made' old new P Q so (inl same) = inl same
asks_so made made' old new P Q so (inr h) = inr (h.0, so h.1)

-- both are due of it
pub asks_both : {K : Type 0} (made made' : Option (List ℕ)) (old new : K) (P Q T : Type 0) → (P → Q → T) → AsksWhere made made' old new P → ((new ≡ old) × (made' ≡ made)) ⊎ Q → AsksWhere made made' old new T
asks_both made made' old new P Q T so (inl same) other = inl same
asks_both made made' old new P Q T so (inr h) (inl same) = inl same
asks_both made made' old new P Q T so (inr h) (inr q) = inr (h.0, so h.1 q)

-- one call behind another
pub asks_then : {K : Type 0} (made old new : Option (List ℕ)) (first now next : K) (P Q : Type 0) → (old ≡ None → Q → P) → AsksWhere made old first now P → AsksWhere old new now next Q → AsksWhere made new first next P
asks_then made old new first now next P Q so (inr h) later = inr h
asks_then made old new first now next P Q so (inl same) (inl then_same) = inl (then_same.0 ∙ same.0, then_same.1 ∙ same.1)
asks_then made old new first now next P Q so (inl same) (inr h) = inr (sym same.1 ∙ h.0, so h.0 h.1)

-- ---- messages

module _ (p : Party) where
  answers_proof : (role : Role) → role ≡ Answerer → Contains (to_hello {I = ItemValue} (side_of role) (own_part p)) (Proof p.signature)
  answers_proof Caller e = absurd cc
  answers_proof Answerer e = Contains-push (session.Hello p.hello ∷ []) (Proof p.signature)

  calls_proof : (role : Role) (items : List SessionMessage) → role ≡ Caller → Contains (to_proof {I = ItemValue} (side_of role) (own_part p) ++ items) (Proof p.signature)
  calls_proof Caller items e = Contains-append_left (Proof p.signature ∷ []) items (Proof p.signature) (Contains-push [] (Proof p.signature))
  calls_proof Answerer items e = absurd cc

module _ (p : Party) (rows : List RowValue) where
  abbrev here : Machine SessionStage SessionMessage SessionMessage RowValue SessionCause
  here = session_of p rows

  abbrev Says : Stand SessionStage SessionCause → List ℕ → Type 0
  Says q bytes = Contains (read here q bytes).says (Proof p.signature)

  -- more bytes take nothing back
  pub says_longer : (q : Stand SessionStage SessionCause) (bytes more : List ℕ) → Says q bytes → Says q (bytes ++ more)
  says_longer q bytes more c =
      subst (λ (m : Move SessionStage SessionMessage RowValue SessionCause). Contains m.says (Proof p.signature)) (sym (run_append (move here) q bytes more))
      (Contains-append_left (read here q bytes).says (read here (read here q bytes).stand more).says (Proof p.signature) c)

  -- nor does what came before
  pub says_later : (q : Stand SessionStage SessionCause) (bytes more : List ℕ) → Says (read here q bytes).stand more → Says q (bytes ++ more)
  says_later q bytes more c =
      subst (λ (m : Move SessionStage SessionMessage RowValue SessionCause). Contains m.says (Proof p.signature)) (sym (run_append (move here) q bytes more))
      (Contains-append_right (read here q bytes).says (read here (read here q bytes).stand more).says (Proof p.signature) c)

  -- a message that stands in front, to which the step is known
  found_says : {A : Type 0} (s : SessionStage) (f : A → SessionMessage) (sees : List ℕ → Seen A) → here.sees s ≡ (λ bytes. seen_as f (sees bytes)) → (at : ℕ) (bytes : List ℕ) (x : A) (n : ℕ) (step : Step SessionStage SessionMessage RowValue SessionCause)
      → IsFound sees bytes x n → here.step s (f x) ≡ step → Contains (stepped (at + n) step).says (Proof p.signature) → Says (Waits s at []) bytes
  found_says s f sees is at bytes x n step found e c =
      let whole = subst (λ look. IsFound look bytes (f x) n) (sym is) (found_as f sees bytes x n found) in
      let in_front : Says (Waits s at []) (take n bytes) =
      subst (λ (m : Move SessionStage SessionMessage RowValue SessionCause). Contains m.says (Proof p.signature)) (sym (read_found here s at bytes (f x) n whole ∙ ap (λ k. stepped (at + n) k) e)) c in
      subst (Says (Waits s at [])) (take-append-drop n bytes) (says_longer (Waits s at []) (take n bytes) (drop n bytes) in_front)

-- ---- a side in memory

module _ {R S : Type 0} (rules : Rules) (value : R → RowValue) (old : Participant R S) where
  abbrev party : List ℕ → Party
  party signature = record { rules = rules; namespace = old.namespace; role = old.role; hello = old.hello; interest = old.interest; signature = signature }

  -- to a hello that passes the answerer owes its proof
  pub owes_hello : (bytes : List ℕ) (other : Hello) (n : ℕ) → IsFound hello_seen bytes other n → old.role ≡ Answerer → hello_refusal rules old.namespace other ≡ None → (at : ℕ) → OwesIn (waiting_side rules value old awaited.Hello at []) bytes
  owes_hello bytes other n found answers none at signature =
      let p = party signature in
      found_says p (map value old.snapshot) Opening session.Hello hello_seen refl at bytes other n (hello_read {T = Place} {I = ItemValue} {R = RowValue} {G = CoreRefusal} (own_part p) other None) found
      (ap (λ (o : Option HelloRefusal). hello_read {T = Place} {I = ItemValue} {R = RowValue} {G = CoreRefusal} (own_part p) other o) none) (answers_proof p old.role answers)

  -- to a proof that is accepted the caller owes its own
  pub owes_proof : (other : Hello) (bytes proof : List ℕ) (n : ℕ) → IsFound proof_seen bytes proof n → old.role ≡ Caller → proof_cause rules old.role old.hello other proof ≡ None → (at : ℕ) → OwesIn (waiting_side rules value old (awaited.Proof other) at []) bytes
  owes_proof other bytes proof n found calls none at signature =
      let p = party signature in
      let exchange = exchange_with (greeting rules old.namespace) places (own_part p) (offers_of old.interest (map value old.snapshot)) other in
      found_says p (map value old.snapshot) (Proving other) session.Proof proof_seen refl at bytes proof n (proof_read {H = Hello} (own_part p) exchange None) found
      (ap (λ (o : Option HelloRefusal). proof_read {H = Hello} (own_part p) exchange o) (refused_by rules old.namespace old.role old.hello other signature proof ∙ none))
      (calls_proof p old.role (map session.Item exchange.opening) calls)

  -- behind bytes that are held, which are a part of what is due
  pub owes_held : (due : Awaited R) (at : ℕ) (held piece : List ℕ) → Holds rules value old due held → OwesIn (waiting_side rules value old due at []) (held ++ piece) → OwesIn (waiting_side rules value old due at held) piece
  owes_held due at held piece holds owes signature =
      let here = session_of (party signature) (map value old.snapshot) in
      subst (λ (m : Move SessionStage SessionMessage RowValue SessionCause). Contains m.says (Proof signature))
      (run_append (move here) (stand_of due at []) held piece ∙ ap (λ (m : Move SessionStage SessionMessage RowValue SessionCause). then m (read here m.stand piece)) (holds at signature).0)
      (owes signature)

-- one that is signed then was signed before, or says its proof to what it reads
pub says_if_signed : {K : Type 0} (side : Side) (made : Option (List ℕ)) (old new : K) (piece signature : List ℕ) → AsksWhere side.signature made old new (OwesIn side piece) → made ≡ Some signature → (side.signature ≡ Some signature) ⊎ SaysProof side piece signature
says_if_signed side made old new piece signature (inl same) e = inl (sym same.1 ∙ e)
says_if_signed side made old new piece signature (inr h) e = inr (h.1 signature)

-- behind a piece that a side read which is not signed yet
pub owes_behind : (a b : Side) (piece more out_a out_b : List ℕ) (rows_a rows_b : List RowValue) → ReadsPiece a b piece out_a out_b rows_a rows_b → b.signature ≡ None → OwesIn b more → OwesIn a (piece ++ more)
owes_behind a b piece more out_a out_b rows_a rows_b f none owes signature =
    let here = session_of (party_of a signature) a.rows in
    let may = subst (λ o. MayBe o signature) (sym none) tt in
    let from : Contains (read (session_of (party_of b signature) b.rows) b.stand more).says (Proof signature) = owes signature in
    let moved : Contains (read here b.stand more).says (Proof signature) = subst (λ (x : Side). Contains (read (session_of (party_of x signature) x.rows) b.stand more).says (Proof signature)) f.kept from in
    says_later (party_of a signature) a.rows a.stand piece more (subst (λ (q : Stand SessionStage SessionCause). Contains (read here q more).says (Proof signature)) (sym (f.reads signature may).stands) moved)

module _ {K R S : Type 0} (rules : Rules) (value : R → RowValue) (first old : Participant R S) (due_first due : Awaited R) (bytes : List ℕ) (taken : ℕ) (out_first out_old : List ℕ) (rows_first rows_old : List RowValue)
    (front : TakesFront rules value first old due_first due bytes taken out_first out_old rows_first rows_old) where
  -- behind messages that were taken, what is due to the bytes behind them is due to all
  pub asks_front : (new : Option (List ℕ)) (one now next : K) (rest : List ℕ) → rest ≡ drop taken bytes → AsksWhere first.signature old.signature one now ((at : ℕ) → OwesIn (waiting_side rules value first due_first at []) bytes)
      → AsksWhere old.signature new now next ((at : ℕ) → OwesIn (waiting_side rules value old due at []) rest) → AsksWhere first.signature new one next ((at : ℕ) → OwesIn (waiting_side rules value first due_first at []) bytes)
  asks_front new one now next rest left before later =
      asks_then first.signature old.signature new one now next ((at : ℕ) → OwesIn (waiting_side rules value first due_first at []) bytes) ((at : ℕ) → OwesIn (waiting_side rules value old due at []) rest)
      (λ none owes at.
      subst (OwesIn (waiting_side rules value first due_first at [])) (take-append-drop taken bytes)
      (owes_behind (waiting_side rules value first due_first at []) (waiting_side rules value old due (at + taken) []) (take taken bytes) (drop taken bytes) out_first out_old rows_first rows_old (front.reads_piece at) none
      (subst (OwesIn (waiting_side rules value old due (at + taken) [])) left (owes (at + taken)))))
      before later

-- ---- all that was read

module _ (p : Party) (rows : List RowValue) where
  pub owes_grows : (bytes more : List ℕ) → Contains (said p rows bytes) (Proof p.signature) → Contains (said p rows (bytes ++ more)) (Proof p.signature)
  owes_grows bytes more c =
      subst (λ l. Contains l (Proof p.signature)) (sym (said-more (session_of p rows) bytes more)) (Contains-append_left (said p rows bytes) (later (session_of p rows) bytes more).says (Proof p.signature) c)

  -- behind bytes behind which a side stands so
  pub owes_now : (bytes more : List ℕ) (q : Stand SessionStage SessionCause) → q ≡ (read (session_of p rows) (start (session_of p rows)) bytes).stand → Contains (read (session_of p rows) q more).says (Proof p.signature) → Contains (said p rows (bytes ++ more)) (Proof p.signature)
  owes_now bytes more q stands c =
      let here = session_of p rows in
      Contains-append_right here.opening (read here (start here) (bytes ++ more)).says (Proof p.signature) (says_later p rows (start here) bytes more (subst (λ (x : Stand SessionStage SessionCause). Contains (read here x more).says (Proof p.signature)) stands c))

  -- what is due with one signature is due with another
  pub owes_resigned : (signature bytes : List ℕ) → Contains (said p rows bytes) (Proof p.signature) → Contains (said (record p { signature = signature }) rows bytes) (Proof signature)
  owes_resigned signature bytes c =
      subst (λ l. Contains l (Proof signature)) (sym (said_retold (greeting p.rules p.namespace) places (own_part p) signature (offers_of p.interest rows) bytes))
      (contains_from_member (map (retold signature) (said p rows bytes)) (Proof signature) (member_map (retold signature) (said p rows bytes) (Proof p.signature) (member_from_contains (said p rows bytes) (Proof p.signature) c)))
