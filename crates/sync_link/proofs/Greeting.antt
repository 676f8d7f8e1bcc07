-- What comes of a hello and of a proof is what the session makes of them.
use Rattle.std.proofs.Common.{◌≡◌, ℕ, ◌+◌, ◌≤◌, false, cond, List, [], ◌∷◌, ◌++◌, map, take, flat_map, append_assoc, append-nil, Option, Some, None, refl, sym, ap, ap₂, ◌∙◌, subst, arith}
use Rattle.std.proofs.lemmas.List.Concat.{flat_map-append}
use Rattle.scheme_core.specs.Rules.{Rules}
use Rattle.willow_area.specs.Boxes.{Ranges}
use Rattle.willow_entry.specs.Row.{RowValue}
use Rattle.area_interest.specs.declared.interest.Interest.{Interest}
use Rattle.mc_cap.specs.Signature.{signature_spelling}
use Rattle.sync_msg.specs.Items.{ItemValue, item_spelling}
use Rattle.sync_msg.specs.declared.role.Role.{Role}
use Rattle.sync_msg.specs.declared.role.Role.TheVariants.{Caller, Answerer}
use Rattle.session_end.specs.declared.refusal.HelloRefusal.{HelloRefusal}
use Rattle.sync_hello.specs.Checked.{hello_refusal}
use Rattle.sync_hello.specs.HelloForm.{hello_spelling, IsHello}
use Rattle.sync_hello.specs.declared.hello.Hello.{Hello}
use Rattle.sync_hello.proofs.Meaning.{passes}
use Rattle.exchange_rules.specs.Items.{bye}
use Rattle.exchange_rules.specs.Items as rules_of
use Rattle.exchange_rules.specs.Exchange.{first_turn, first_asks}
use Rattle.block_store.specs.InBox.{is_in}
use Rattle.sync_core.specs.Flat.{AskValue, turn_items}
use Rattle.sync_core.specs.SyncRules.{sync_rules}
use Rattle.sync_core.specs.Place.{Saying, Place, first_place, rows_of_area}
use Rattle.sync_core.specs.Runs.{says_all}
use Rattle.sync_core.specs.Steps.{waiting}
use Rattle.sync_core.proofs.OneByOne.{says_nothing}
use Rattle.sync_core.proofs.TwoSides.{says_whole}
use Rattle.session_rules.specs.Messages.{ArePart}
use Rattle.session_rules.specs.Reading.{Stand, Waits, Over, Move, stepped}
use Rattle.session_rules.specs.Reading as reading
use Rattle.session_rules.specs.Session as session
use Rattle.session_rules.specs.Session.{Opening, Proving, Talking, InGreeting, to_hello, to_proof, hello_read, proof_read, exchange_with}
use Rattle.session_rules.specs.Greeting.{other_refusal}
use Rattle.session_rules.specs.Talk as talk
use Rattle.sync_link.specs.Readers.{hello_seen, proof_seen}
use Rattle.sync_link.specs.Greetings.{Agreement, side_of, role_of, greeting}
use Rattle.sync_link.specs.Places.{has_finished, offers_of, places}
use Rattle.sync_link.specs.Sessions.{Party, SessionStage, SessionMessage, SessionCause, own_part, agreement_with, box_with, rows_with, session_of, version_with}
use Rattle.sync_link.specs.Standing.{MayBe, ReadsPiece, within}
use Rattle.row_intake.specs.Found.{IsFound, GoWrong}
use Rattle.sync_link.specs.Awaited.{stand_in, stand_of}
use Rattle.sync_link.specs.Talking.{AreOffered, HearsHello, HearsProof, AcceptsProof, BeginsExchange, Keeps, SpeaksSome, UnsignedIf, Writes, box_between, first_with, proof_cause, said_to_hello, said_to_proof, side_with, version_between}
use Rattle.sync_link.specs.Taking.{AreDueIn, IsExchange, Fits, ComesHello, ComesProof, Holds, Steps, due_after, read_by, taken_after, taken_of, waiting_side}
use Rattle.sync_link.specs.declared.side.take.GreetingTaken.{GreetingTaken}
use Rattle.sync_link.specs.declared.side.take.GreetingTaken.TheVariants as came
use Rattle.sync_link.specs.declared.side.awaited.Cause.TheVariants as causes
use Rattle.sync_link.specs.declared.side.awaited.Awaited.{Awaited}
use Rattle.sync_link.specs.declared.side.awaited.Awaited.TheVariants as awaited
use Rattle.sync_link.specs.declared.side.awaited.Exchange.{Exchange}
use Rattle.sync_link.specs.declared.side.participant.Participant.{Participant}
use Rattle.row_intake.proofs.Moves.{some_taken}
use Rattle.sync_link.proofs.Moves.{broken_silent, part_reads, part_silent, wrong_reads, found_reads, reads_piece, piece_read_quiet, or_none, may_be, same_written}
use Rattle.sync_link.proofs.Settled.{filter_twice}
use Rattle.sync_link.proofs.Sound.{says_all_alike}
use Rattle.sync_link.proofs.Speaking.{spoken_as, version_spoken}

-- ---- the same, by which side it is

hello_said : (p : Party) → flat_map (session_of p []).spelling (to_hello (side_of p.role) (own_part p)) ≡ said_to_hello p.role p.hello p.signature
hello_said p = by_role p.role
  where
    by_role : (role : Role) → flat_map (session_of p []).spelling (to_hello (side_of role) (own_part p)) ≡ said_to_hello role p.hello p.signature
    by_role Caller = refl
    by_role Answerer = ap (λ l. hello_spelling p.hello ++ l) (append-nil (signature_spelling p.signature))

proof_said : (p : Party) → flat_map (session_of p []).spelling (to_proof (side_of p.role) (own_part p)) ≡ said_to_proof p.role p.signature
proof_said p = by_role p.role
  where
    by_role : (role : Role) → flat_map (session_of p []).spelling (to_proof (side_of role) (own_part p)) ≡ said_to_proof role p.signature
    by_role Caller = append-nil (signature_spelling p.signature)
    by_role Answerer = refl

pub refused_by : (rules : Rules) (namespace : List ℕ) (role : Role) (own other : Hello) (signature proof : List ℕ)
    → other_refusal (greeting rules namespace) (record { role = side_of role; hello = own; proof = signature }) other proof ≡ proof_cause rules role own other proof
refused_by rules namespace Caller own other signature proof = refl
refused_by rules namespace Answerer own other signature proof = refl

agreed_by : (rules : Rules) (namespace : List ℕ) (role : Role) (own other : Hello) (limits : Interest) (signature : List ℕ)
    → agreement_with (record { rules = rules; namespace = namespace; role = role; hello = own; interest = limits; signature = signature }) other ≡ record { version = version_between role own other; box = box_between role own other }
agreed_by rules namespace Caller own other limits signature = refl
agreed_by rules namespace Answerer own other limits signature = refl

-- items as messages
pub items_said : (p : Party) (rows : List RowValue) (items : List ItemValue) → flat_map (session_of p rows).spelling (map session.Item items) ≡ flat_map item_spelling items
items_said p rows [] = refl
items_said p rows (item ∷ items) = ap (λ l. item_spelling item ++ l) (items_said p rows items)

-- ---- how an exchange begins

-- over the rows in the box, or over all
first_alike : (version : ℕ) (role : Role) (box : Option Ranges) (rows : List RowValue) → first_place version role (rows_of_area box rows) box ≡ within (first_place version role rows box)
first_alike version Caller None rows = refl
first_alike version Caller (Some x) rows =
    ap (λ l. record (within (first_place version Caller rows (Some x))) {
      doing = Saying (turn_items version (record { items = rules_of.First ((sync_rules version).print l) ∷ []; ends_with_bye = false })) (rules_of.Print x ((sync_rules version).print l) ∷ []);
    }) (filter_twice (is_in x) rows)
first_alike version Answerer box rows = refl

role_again : (role : Role) → role_of (side_of role) ≡ role
role_again Caller = refl
role_again Answerer = refl

first_spoken : (version : ℕ) (role : Role) (box : Option Ranges) (rows : List RowValue) → talk.spoken places (first_place version (role_of (side_of role)) (rows_of_area box rows) box)
    ≡ ((says_all (first_place version role rows box)).0, within (says_all (first_place version role rows box)).1)
first_spoken version role box rows =
    ap (λ r. talk.spoken places (first_place version r (rows_of_area box rows) box)) (role_again role)
    ∙ ap (talk.spoken places) (first_alike version role box rows)
    ∙ spoken_as (within (first_place version role rows box))
    ∙ says_all_alike (first_place version role rows box)

abbrev pub party_with : Rules → List ℕ → Role → Hello → Interest → List ℕ → Party
party_with rules namespace role own limits signature = record { rules = rules; namespace = namespace; role = role; hello = own; interest = limits; signature = signature }

pub begun_spoken : (rules : Rules) (namespace : List ℕ) (role : Role) (own other : Hello) (limits : Interest) (rows shown : List RowValue) → AreOffered limits (box_between role own other) rows shown → (signature : List ℕ)
    → (let p = party_with rules namespace role own limits signature in talk.spoken places (first_place (version_with p other) (role_of (side_of role)) (rows_with p other rows) (box_with p other)))
    ≡ (let place = first_place (version_between role own other) role shown (box_between role own other) in ((says_all place).0, within (says_all place).1))
begun_spoken rules namespace role own other limits rows shown are signature =
    ap (λ (a : Agreement). talk.spoken places (first_place a.version (role_of (side_of role)) (offers_of limits rows a) a.box)) (agreed_by rules namespace role own other limits signature)
    ∙ ap (λ (l : List RowValue). talk.spoken places (first_place (version_between role own other) (role_of (side_of role)) l (box_between role own other))) (sym are.inside)
    ∙ first_spoken (version_between role own other) role (box_between role own other) shown

pub first_goes_on : (version : ℕ) (role : Role) (box : Option Ranges) (rows : List RowValue) → has_finished (says_all (first_place version role rows box)).1.doing ≡ false
first_goes_on version Caller None rows = ap (λ s. has_finished s.1.doing) (says_whole (first_place version Caller rows None) bye [] refl)
first_goes_on version Caller (Some x) rows =
    ap (λ s. has_finished s.1.doing) (says_whole (first_place version Caller rows (Some x)) (first_turn (sync_rules version) rows x) (first_asks (sync_rules version) rows x) refl)
first_goes_on version Answerer box rows = ap (λ s. has_finished s.1.doing) (says_nothing (first_place version Answerer rows box) (λ e. cc))

none_waiting : (asks : List AskValue) → AreDueIn 0 (waiting asks)
none_waiting [] = refl
none_waiting (ask ∷ asks) = refl

pub none_due : (version : ℕ) (role : Role) (box : Option Ranges) (rows : List RowValue) → AreDueIn 0 (says_all (first_place version role rows box)).1.doing
none_due version Caller None rows = subst (λ s. AreDueIn 0 s.1.doing) (sym (says_whole (first_place version Caller rows None) bye [] refl)) (none_waiting [])
none_due version Caller (Some x) rows =
    subst (λ s. AreDueIn 0 s.1.doing) (sym (says_whole (first_place version Caller rows (Some x)) (first_turn (sync_rules version) rows x) (first_asks (sync_rules version) rows x) refl))
    (none_waiting (first_asks (sync_rules version) rows x))
none_due version Answerer box rows = subst (λ s. AreDueIn 0 s.1.doing) (sym (says_nothing (first_place version Answerer rows box) (λ e. cc))) refl

-- ---- a hello

module _ {R S : Type 0} (rules : Rules) (value : R → RowValue) (old new : Participant R S) (keeps : Keeps old new) (at : ℕ) (bytes out_old out_new : List ℕ) (list : List RowValue) where
  abbrev party : List ℕ → Party
  party signature = record { rules = rules; namespace = old.namespace; role = old.role; hello = old.hello; interest = old.interest; signature = signature }

  abbrev own_rows : List RowValue
  own_rows = map value old.snapshot

  abbrev FeedsTo : Awaited R → ℕ → List ℕ → Stand SessionStage SessionCause → List ℕ → Type 0
  FeedsTo due now held from taken = ReadsPiece (side_with rules value old from) (waiting_side rules value new due now held) taken out_old out_new list list

  no_rows : list ≡ list ++ []
  no_rows = sym (append-nil list)

  hello_refused : (other : Hello) (n : ℕ) (cause : HelloRefusal) → IsFound hello_seen bytes other n → hello_refusal rules old.namespace other ≡ Some cause → new ≡ old → out_new ≡ out_old
      → FeedsTo (awaited.Nothing (causes.Hello cause)) (at + n) [] (Waits Opening at []) (take n bytes)
  hello_refused other n cause found is same silent =
      piece_read_quiet rules value old new (Waits Opening at []) (reading.Refused (InGreeting cause)) (take n bytes) out_old out_new list list same silent [] no_rows
      (λ signature.
      let step = ap (λ o. stepped (at + n) (hello_read (own_part (party signature)) other o)) is in
      found_reads (party signature) own_rows Opening session.Hello hello_seen refl at bytes other n (reading.Refused (InGreeting cause)) [] [] found (ap (λ m. m.stand) step) (ap (λ m. flat_map (session_of (party signature) own_rows).spelling m.says) step) (ap (λ m. m.rows) step))

  hello_passes : (other : Hello) (n : ℕ) → IsFound hello_seen bytes other n → hello_refusal rules old.namespace other ≡ None → old.signature ≡ None → Writes new.signature (said_to_hello old.role old.hello) out_old out_new
      → FeedsTo (awaited.Proof other) (at + n) [] (Waits Opening at []) (take n bytes)
  hello_passes other n found is unsigned writes =
      let spoken = said_to_hello old.role old.hello in
      let written = spoken (or_none new.signature) in
      reads_piece rules value old new (Waits Opening at []) (Waits (Proving other) (at + n) []) (take n bytes) out_old out_new list list keeps (λ s h. subst (λ o. MayBe o s) (sym unsigned) tt) written [] (writes (or_none new.signature) (may_be new.signature)) no_rows
      (λ signature h.
      let p = party signature in
      let step = ap (λ o. stepped (at + n) (hello_read (own_part p) other o)) is in
      found_reads p own_rows Opening session.Hello hello_seen refl at bytes other n (Waits (Proving other) (at + n) []) written [] found
      (ap (λ m. m.stand) step) (ap (λ m. flat_map (session_of p own_rows).spelling m.says) step ∙ hello_said p ∙ same_written new.signature spoken out_old out_new writes signature h) (ap (λ m. m.rows) step))

  hello_by : (other : Hello) (n : ℕ) (due : Awaited R) → IsFound hello_seen bytes other n → old.signature ≡ None → (o : Option HelloRefusal) → hello_refusal rules old.namespace other ≡ o → HearsHello old new other due out_old out_new o
      → FeedsTo due (at + n) [] (Waits Opening at []) (take n bytes)
  hello_by other n due found unsigned (Some cause) is h =
      subst (λ d. FeedsTo d (at + n) [] (Waits Opening at []) (take n bytes)) (sym h.0) (hello_refused other n cause found is h.1 h.2)
  hello_by other n due found unsigned None is h =
      subst (λ d. FeedsTo d (at + n) [] (Waits Opening at []) (take n bytes)) (sym h.0) (hello_passes other n found is unsigned h.1.0)

  pub hello_next : (other : Hello) (n : ℕ) (due : Awaited R) → IsFound hello_seen bytes other n → old.signature ≡ None → HearsHello old new other due out_old out_new (hello_refusal rules old.namespace other)
      → Steps (waiting_side rules value old awaited.Hello) (waiting_side rules value new due) at bytes (Some n) out_old out_new list list
  hello_next other n due found unsigned h = (some_taken hello_seen bytes other n found, (found.within, hello_by other n due found unsigned (hello_refusal rules old.namespace other) refl h))

  pub hello_more : ArePart hello_seen [] bytes → new ≡ old → out_new ≡ out_old → Steps (waiting_side rules value old awaited.Hello) (waiting_side rules value new awaited.Hello) at bytes None out_old out_new list list
  hello_more part same silent =
      piece_read_quiet rules value old new (Waits Opening at []) (Waits Opening at bytes) bytes out_old out_new list list same silent [] no_rows (λ s. part_reads (party s) own_rows Opening session.Hello hello_seen refl at bytes part)

  pub hello_bad : GoWrong hello_seen [] bytes → new ≡ old → out_new ≡ out_old → Steps (waiting_side rules value old awaited.Hello) (waiting_side rules value new (awaited.Nothing causes.Bad)) at bytes None out_old out_new list list
  hello_bad wrong same silent =
      piece_read_quiet rules value old new (Waits Opening at []) (reading.Broken at) bytes out_old out_new list list same silent [] no_rows (λ s. wrong_reads (party s) own_rows Opening session.Hello hello_seen refl at bytes wrong)

  -- ---- a proof

  module _ (other : Hello) where
    pub proof_more : ArePart proof_seen [] bytes → new ≡ old → out_new ≡ out_old → Steps (waiting_side rules value old (awaited.Proof other)) (waiting_side rules value new (awaited.Proof other)) at bytes None out_old out_new list list
    proof_more part same silent =
        piece_read_quiet rules value old new (Waits (Proving other) at []) (Waits (Proving other) at bytes) bytes out_old out_new list list same silent [] no_rows (λ s. part_reads (party s) own_rows (Proving other) session.Proof proof_seen refl at bytes part)

    pub proof_bad : GoWrong proof_seen [] bytes → new ≡ old → out_new ≡ out_old → Steps (waiting_side rules value old (awaited.Proof other)) (waiting_side rules value new (awaited.Nothing causes.Bad)) at bytes None out_old out_new list list
    proof_bad wrong same silent =
        piece_read_quiet rules value old new (Waits (Proving other) at []) (reading.Broken at) bytes out_old out_new list list same silent [] no_rows (λ s. wrong_reads (party s) own_rows (Proving other) session.Proof proof_seen refl at bytes wrong)

    abbrev step_of : Party → List ℕ → ℕ → Move SessionStage SessionMessage RowValue SessionCause
    step_of p proof now = stepped now ((session_of p own_rows).step (Proving other) (session.Proof proof))

    judged : (signature proof : List ℕ) (now : ℕ) (o : Option HelloRefusal) → proof_cause rules old.role old.hello other proof ≡ o
        → step_of (party signature) proof now ≡ stepped now (proof_read (own_part (party signature)) (exchange_with (greeting rules old.namespace) places (own_part (party signature)) (offers_of old.interest own_rows) other) o)
    judged signature proof now o is =
        ap (λ c. stepped now (proof_read (own_part (party signature)) (exchange_with (greeting rules old.namespace) places (own_part (party signature)) (offers_of old.interest own_rows) other) c)) (refused_by rules old.namespace old.role old.hello other signature proof ∙ is)

    proof_refused : (proof : List ℕ) (n : ℕ) (cause : HelloRefusal) → IsFound proof_seen bytes proof n → proof_cause rules old.role old.hello other proof ≡ Some cause → new ≡ old → out_new ≡ out_old
        → FeedsTo (awaited.Nothing (causes.Hello cause)) (at + n) [] (Waits (Proving other) at []) (take n bytes)
    proof_refused proof n cause found is same silent =
        piece_read_quiet rules value old new (Waits (Proving other) at []) (reading.Refused (InGreeting cause)) (take n bytes) out_old out_new list list same silent [] no_rows
        (λ signature.
        let step = judged signature proof (at + n) (Some cause) is in
        found_reads (party signature) own_rows (Proving other) session.Proof proof_seen refl at bytes proof n (reading.Refused (InGreeting cause)) [] [] found (ap (λ m. m.stand) step)
        (ap (λ m. flat_map (session_of (party signature) own_rows).spelling m.says) step) (ap (λ m. m.rows) step))

    -- the place at the beginning of the exchange
    abbrev first : List RowValue → Place
    first shown = first_with old other shown

    -- the same of the session
    abbrev begun : Party → Place
    begun p = first_place (version_with p other) (role_of (side_of old.role)) (rows_with p other own_rows) (box_with p other)

    spoken_first : (shown : List RowValue) → AreOffered old.interest (box_between old.role old.hello other) own_rows shown → (signature : List ℕ) → talk.spoken places (begun (party signature)) ≡ ((says_all (first shown)).0, within (says_all (first shown)).1)
    spoken_first shown are signature = begun_spoken rules old.namespace old.role old.hello other old.interest own_rows shown are signature

    accepted_to : (shown : List RowValue) (exchange : Exchange R) (now : ℕ) → exchange.core ≡ (says_all (first shown)).1 → Waits (Talking (within (says_all (first shown)).1)) now [] ≡ stand_of (awaited.Items exchange) now []
    accepted_to shown exchange now is =
        ap (λ b. cond b Over (Waits (Talking (within (says_all (first shown)).1)) now [])) (sym (first_goes_on (version_between old.role old.hello other) old.role (box_between old.role old.hello other) shown))
        ∙ ap (λ place. stand_in place now []) (sym is)

    proof_accepted : (proof : List ℕ) (n : ℕ) (due : Awaited R) → IsFound proof_seen bytes proof n → proof_cause rules old.role old.hello other proof ≡ None → AcceptsProof value old new other due out_old out_new
        → FeedsTo due (at + n) [] (Waits (Proving other) at []) (take n bytes)
    proof_accepted proof n due found is h =
        let spoken = said_to_proof old.role in
        let shown = h.over.rows in
        let begins = h.over.begins in
        let items = flat_map item_spelling (says_all (first shown)).0 in
        let written = spoken (or_none new.signature) ++ items in
        let to = stand_of (awaited.Items h.exchange) (at + n) [] in
        let wrote : out_new ≡ out_old ++ written =
        begins.said ∙ ap (λ l. l ++ items) (h.proved (or_none new.signature) (may_be new.signature)) ∙ append_assoc out_old (spoken (or_none new.signature)) items in
        subst (λ d. FeedsTo d (at + n) [] (Waits (Proving other) at []) (take n bytes)) (sym h.due_is)
        (reads_piece rules value old new (Waits (Proving other) at []) to (take n bytes) out_old out_new list list keeps h.once written [] wrote no_rows
        (λ signature may.
        let p = party signature in
        let step = judged signature proof (at + n) None is in
        let first_said = spoken_first shown h.over.offered signature in
        found_reads p own_rows (Proving other) session.Proof proof_seen refl at bytes proof n to written [] found
        (ap (λ m. m.stand) step ∙ ap (λ s. Waits (Talking s.1) (at + n) []) first_said ∙ accepted_to shown h.exchange (at + n) begins.core)
        (ap (λ m. flat_map (session_of p own_rows).spelling m.says) step
        ∙ flat_map-append (session_of p own_rows).spelling (to_proof (side_of old.role) (own_part p)) (map session.Item (talk.spoken places (begun p)).0)
        ∙ ap₂ (λ x y. x ++ y) (proof_said p ∙ same_written new.signature spoken out_old h.between h.proved signature may)
        (items_said p own_rows (talk.spoken places (begun p)).0 ∙ ap (λ s. flat_map item_spelling s.0) first_said))
        (ap (λ m. m.rows) step)))

    proof_by : (proof : List ℕ) (n : ℕ) (due : Awaited R) → IsFound proof_seen bytes proof n → (o : Option HelloRefusal) → proof_cause rules old.role old.hello other proof ≡ o → HearsProof value old new other due out_old out_new o
        → FeedsTo due (at + n) [] (Waits (Proving other) at []) (take n bytes)
    proof_by proof n due found (Some cause) is h =
        subst (λ d. FeedsTo d (at + n) [] (Waits (Proving other) at []) (take n bytes)) (sym h.0) (proof_refused proof n cause found is h.1 h.2)
    proof_by proof n due found None is h = proof_accepted proof n due found is h

    pub proof_next : (proof : List ℕ) (n : ℕ) (due : Awaited R) → IsFound proof_seen bytes proof n → HearsProof value old new other due out_old out_new (proof_cause rules old.role old.hello other proof)
        → Steps (waiting_side rules value old (awaited.Proof other)) (waiting_side rules value new due) at bytes (Some n) out_old out_new list list
    proof_next proof n due found h = (some_taken proof_seen bytes proof n found, (found.within, proof_by proof n due found (proof_cause rules old.role old.hello other proof) refl h))

-- ---- whatever came

module _ {R S : Type 0} (rules : Rules) (value : R → RowValue) (old new : Participant R S) (keeps : Keeps old new) (bytes out_old out_new : List ℕ) (list : List RowValue) where
  none_taken : (n : ℕ) → Some n ≡ None → ⊥
  none_taken n e = cc

  abbrev party_at : Participant R S → List ℕ → Party
  party_at participant signature = record { rules = rules; namespace = participant.namespace; role = participant.role; hello = participant.hello; interest = participant.interest; signature = signature }

  bad_holds : Holds rules value new (awaited.Nothing causes.Bad) bytes
  bad_holds at signature = broken_silent (party_at new signature) (map value new.snapshot) at bytes

  pub hello_steps : old.signature ≡ None → (came : GreetingTaken R) → ComesHello rules old new bytes out_old out_new came → (at : ℕ)
      → Steps (waiting_side rules value old awaited.Hello) (waiting_side rules value new (due_after awaited.Hello came)) at bytes (taken_after came) out_old out_new list list
  hello_steps unsigned came.More h at = hello_more rules value old new keeps at bytes out_old out_new list h.0 h.1.0 h.1.1
  hello_steps unsigned came.Bad h at = hello_bad rules value old new keeps at bytes out_old out_new list h.0 h.1.0 h.1.1
  hello_steps unsigned (came.Next due n) h at = hello_next rules value old new keeps at bytes out_old out_new list h.0 n due h.1.0 unsigned h.1.1.1

  heard_fits : (other : Hello) (due : Awaited R) → IsHello other → (o : Option HelloRefusal) → (o ≡ None → SpeaksSome other) → HearsHello old new other due out_old out_new o → Fits old.role new.signature due
  heard_fits other due fits (Some cause) speaks h = subst (λ d. Fits old.role new.signature d) (sym h.0) tt
  heard_fits other due fits None speaks h = subst (λ d. Fits old.role new.signature d) (sym h.0) (fits.short, (speaks refl, h.1.1))

  pub hello_fits : old.signature ≡ None → (came : GreetingTaken R) → ComesHello rules old new bytes out_old out_new came → Fits old.role new.signature (due_after awaited.Hello came)
  hello_fits unsigned came.More h = ap (λ t. t.signature) h.1.0 ∙ unsigned
  hello_fits unsigned came.Bad h = tt
  hello_fits unsigned (came.Next due n) h = heard_fits h.0 due h.1.1.0 (hello_refusal rules old.namespace h.0) (λ none. (passes rules old.namespace h.0 none).speaks) h.1.1.1

  heard_read : (other : Hello) (due : Awaited R) (n : ℕ) (o : Option HelloRefusal) → HearsHello old new other due out_old out_new o → read_by due ≤ n
  heard_read other due n (Some cause) h = subst (λ d. read_by d ≤ n) (sym h.0) (omega arith)
  heard_read other due n None h = subst (λ d. read_by d ≤ n) (sym h.0) (omega arith)

  pub hello_read_by : (came : GreetingTaken R) → ComesHello rules old new bytes out_old out_new came → read_by (due_after awaited.Hello came) ≤ 0 + taken_of (taken_after came)
  hello_read_by came.More h = omega arith
  hello_read_by came.Bad h = omega arith
  hello_read_by (came.Next due n) h = heard_read h.0 due (0 + n) (hello_refusal rules old.namespace h.0) h.1.1.1

  pub hello_holds : (came : GreetingTaken R) → ComesHello rules old new bytes out_old out_new came → taken_after came ≡ None → Holds rules value new (due_after awaited.Hello came) bytes
  hello_holds came.More h none at signature = part_silent (party_at new signature) (map value new.snapshot) Opening session.Hello hello_seen refl at bytes h.0
  hello_holds came.Bad h none at signature = bad_holds at signature
  hello_holds (came.Next due n) h none at signature = absurd (none_taken n none)

  module _ (other : Hello) where
    pub proof_steps : (came : GreetingTaken R) → ComesProof rules value old new other bytes out_old out_new came → (at : ℕ)
        → Steps (waiting_side rules value old (awaited.Proof other)) (waiting_side rules value new (due_after (awaited.Proof other) came)) at bytes (taken_after came) out_old out_new list list
    proof_steps came.More h at = proof_more rules value old new keeps at bytes out_old out_new list other h.0 h.1.0 h.1.1
    proof_steps came.Bad h at = proof_bad rules value old new keeps at bytes out_old out_new list other h.0 h.1.0 h.1.1
    proof_steps (came.Next due n) h at = proof_next rules value old new keeps at bytes out_old out_new list other h.0 n due h.1.0 h.1.1

    begun_fits : (shown : List RowValue) (exchange : Exchange R) (between : List ℕ) → BeginsExchange (first_with old other shown) exchange between out_new → IsExchange exchange
    begun_fits shown exchange between b = record {
      sound = b.sound;
      silent = b.silent;
      due = subst (λ r. AreDueIn r.due exchange.core.doing) (sym b.reader) (subst (λ p. AreDueIn 0 p.doing) (sym b.core) (none_due (version_between old.role old.hello other) old.role (box_between old.role old.hello other) shown));
      version = ap (λ r. r.version) b.reader ∙ sym (ap (λ p. p.version) b.core ∙ version_spoken (first_with old other shown));
    }

    proved_fits : (due : Awaited R) (o : Option HelloRefusal) → HearsProof value old new other due out_old out_new o → Fits old.role new.signature due
    proved_fits due (Some cause) h = subst (λ d. Fits old.role new.signature d) (sym h.0) tt
    proved_fits due None h = subst (λ d. Fits old.role new.signature d) (sym h.due_is) (begun_fits h.over.rows h.exchange h.between h.over.begins)

    pub proof_fits : Fits {R = R} old.role old.signature (awaited.Proof other) → (came : GreetingTaken R) → ComesProof rules value old new other bytes out_old out_new came → Fits old.role new.signature (due_after (awaited.Proof other) came)
    proof_fits fits came.More h = (fits.0, (fits.1.0, subst (λ s. UnsignedIf old.role s) (sym (ap (λ t. t.signature) h.1.0)) fits.1.1))
    proof_fits fits came.Bad h = tt
    proof_fits fits (came.Next due n) h = proved_fits due (proof_cause rules old.role old.hello other h.0) h.1.1

    proved_read : (due : Awaited R) (n : ℕ) (o : Option HelloRefusal) → HearsProof value old new other due out_old out_new o → read_by due ≤ n
    proved_read due n (Some cause) h = subst (λ d. read_by d ≤ n) (sym h.0) (omega arith)
    proved_read due n None h = subst (λ d. read_by d ≤ n) (sym h.due_is) (omega (arith, ap (λ r. r.taken) h.over.begins.reader))

    pub proof_read_by : (came : GreetingTaken R) → ComesProof rules value old new other bytes out_old out_new came → read_by (due_after (awaited.Proof other) came) ≤ 0 + taken_of (taken_after came)
    proof_read_by came.More h = omega arith
    proof_read_by came.Bad h = omega arith
    proof_read_by (came.Next due n) h = proved_read due (0 + n) (proof_cause rules old.role old.hello other h.0) h.1.1

    pub proof_holds : (came : GreetingTaken R) → ComesProof rules value old new other bytes out_old out_new came → taken_after came ≡ None → Holds rules value new (due_after (awaited.Proof other) came) bytes
    proof_holds came.More h none at signature = part_silent (party_at new signature) (map value new.snapshot) (Proving other) session.Proof proof_seen refl at bytes h.0
    proof_holds came.Bad h none at signature = bad_holds at signature
    proof_holds (came.Next due n) h none at signature = absurd (none_taken n none)
