-- What a side counts is what its session says and reads.
use Rattle.std.proofs.Common.{◌≡◌, inl, inr, ℕ, ◌+◌, Bool, true, false, cond, List, [], ◌∷◌, ◌++◌, map, take, Option, Some, None, Ok, option_to_list, refl, sym, ap, ap₂, ◌∙◌, subst, arith}
use Rattle.scheme_core.specs.Rules.{Rules}
use Rattle.willow_entry.specs.Row.{RowValue}
use Rattle.session_end.specs.declared.refusal.HelloRefusal.{HelloRefusal}
use Rattle.sync_msg.specs.declared.refusal.CoreRefusal.{CoreRefusal}
use Rattle.sync_msg.specs.Items.{ItemValue}
use Rattle.sync_msg.specs.declared.role.Role.{Role}
use Rattle.sync_msg.specs.declared.role.Role.TheVariants.{Caller, Answerer}
use Rattle.sync_hello.specs.Checked.{hello_refusal}
use Rattle.sync_hello.specs.declared.hello.Hello.{Hello}
use Rattle.sync_core.specs.Flat.{row_in}
use Rattle.sync_core.specs.Held.{to_count}
use Rattle.sync_core.specs.Place.{Place, stage_of}
use Rattle.sync_core.specs.declared.stage.Stage.TheVariants as stage
use Rattle.sync_core.specs.Runs.{says_all, hears, heard_from}
use Rattle.sync_core.specs.Steps.{count_one, heard}
use Rattle.sync_core.proofs.OneByOne.{HearsCounted, says_counted, hears_counted_items}
use Rattle.session_rules.specs.Machine.{Machine, Seen, Step}
use Rattle.session_rules.specs.Messages.{ArePart}
use Rattle.session_rules.specs.Reading.{Stand, Waits, Over, stepped, move}
use Rattle.session_rules.specs.Reading as reading
use Rattle.session_rules.specs.Session as session
use Rattle.session_rules.specs.Session.{Opening, Proving, Talking, to_hello, to_proof, hello_read, proof_read, item_read, exchange_with, seen_as}
use Rattle.session_rules.specs.Talk.{answered, item_heard}
use Rattle.session_rules.proofs.Growing.{read_part}
use Rattle.session_rules.proofs.Runs.{run_append}
use Rattle.sync_link.specs.Greetings.{side_of, greeting}
use Rattle.sync_link.specs.Places.{offers_of, has_finished, places, awaits_row}
use Rattle.sync_link.specs.Readers.{hello_seen, proof_seen, item_seen}
use Rattle.sync_link.specs.Sessions.{Party, SessionStage, SessionMessage, SessionCause, own_part, session_of}
use Rattle.sync_link.specs.Standing.{ReadsPiece, Reads, party_of, within}
use Rattle.row_intake.specs.Found.{IsFound}
use Rattle.row_intake.proofs.Moves.{read_found}
use Rattle.sync_link.specs.Found.{is_due}
use Rattle.sync_link.specs.Awaited.{stand_of}
use Rattle.sync_link.specs.Progress.{Progress, GoesWell, CountsOn, counted, noted, noting}
use Rattle.sync_link.specs.Held.{CountsStep, progress_with}
use Rattle.sync_link.specs.Talking.{HearsHello, HearsProof, AcceptsProof, first_with, proof_cause}
use Rattle.sync_link.specs.Taking.{IsExchange, TakesItem, ComesHello, ComesProof, ComesItem, due_after, due_behind, taken_after, taken_behind}
use Rattle.sync_link.specs.declared.side.take.GreetingTaken.{GreetingTaken}
use Rattle.sync_link.specs.declared.side.take.GreetingTaken.TheVariants as came
use Rattle.sync_link.specs.declared.side.take.ItemTaken.{ItemTaken}
use Rattle.sync_link.specs.declared.side.take.ItemTaken.TheVariants as items
use Rattle.sync_link.specs.declared.side.awaited.Cause.TheVariants as causes
use Rattle.sync_link.specs.declared.side.awaited.Awaited.{Awaited}
use Rattle.sync_link.specs.declared.side.awaited.Awaited.TheVariants as awaited
use Rattle.sync_link.specs.declared.side.awaited.Exchange.{Exchange}
use Rattle.sync_link.specs.declared.side.participant.Participant.{Participant}
use Rattle.sync_link.proofs.Agreeing.{agrees_append, talks_in}
use Rattle.sync_link.proofs.Exchanged.{awaits_due}
use Rattle.sync_link.proofs.Heard.{reading_on}
use Rattle.sync_link.proofs.Greeting.{begun_spoken, refused_by}
use Rattle.sync_link.proofs.Moves.{part_as, found_as}
use Rattle.sync_link.proofs.ReadOn.{counted-append, noting_stands, went_well}
use Rattle.sync_link.proofs.Signed.{nothing_read}
use Rattle.sync_link.proofs.Sound.{all_within, heard_alike, says_all_alike}
use Rattle.sync_link.proofs.Speaking.{spoken_as}

-- ---- messages of a kind

counted_items : (list : List ItemValue) → counted (map session.Item list) ≡ to_count list
counted_items [] = refl
counted_items (item ∷ list) = ap (λ n. count_one item + n) (counted_items list)

-- nothing more is counted
pub same_on : (k n : ℕ) → n ≡ 0 → k ≡ k + n
same_on k n e = omega (arith, e)

behind_none : (n k : ℕ) → n ≡ 0 → k ≡ n + k
behind_none n k e = omega (arith, e)

item_counted : (place next : Place) (item : ItemValue) → heard place item ≡ Ok next → HearsCounted place (count_one item) next
unfolding hears
item_counted place next item e =
    let h = hears_counted_items place next (item ∷ []) (ap (heard_from (λ p. hears p [])) e) in
    record { sent = h.sent; read = omega (arith, h.read) }

module _ (p : Party) (rows : List RowValue) where
  abbrev here : Machine SessionStage SessionMessage SessionMessage RowValue SessionCause
  here = session_of p rows

  module _ {A : Type 0} (s : SessionStage) (f : A → SessionMessage) (sees : List ℕ → Seen A) (is : here.sees s ≡ λ bytes. seen_as f (sees bytes)) where
    abbrev Tells : ℕ → List ℕ → ℕ → ℕ → Type 0
    Tells at bytes sent read = (counted (reading.read here (Waits s at []) bytes).says ≡ sent) × (counted (reading.read (noting here) (Waits s at []) bytes).rows ≡ read)

    pub part_tells : (at : ℕ) (bytes : List ℕ) → ArePart sees [] bytes → Tells at bytes 0 0
    part_tells at bytes h =
        let part = subst (λ look. ArePart look [] bytes) (sym is) (part_as f sees [] bytes h) in
        (ap (λ m. counted m.says) (read_part here s at [] bytes part), ap (λ m. counted m.rows) (read_part (noting here) s at [] bytes part))

    -- a message to which the step is known
    pub found_tells : (at : ℕ) (bytes : List ℕ) (x : A) (n : ℕ) (step : Step SessionStage SessionMessage RowValue SessionCause) → IsFound sees bytes x n → here.step s (f x) ≡ step
        → Tells at (take n bytes) (counted (stepped (at + n) step).says) (counted (stepped (at + n) (noted (f x) step)).rows)
    found_tells at bytes x n step found e =
        let whole = subst (λ look. IsFound look bytes (f x) n) (sym is) (found_as f sees bytes x n found) in (
          ap (λ m. counted m.says) (read_found here s at bytes (f x) n whole) ∙ ap (λ k. counted (stepped (at + n) k).says) e,
          ap (λ m. counted m.rows) (read_found (noting here) s at bytes (f x) n whole) ∙ ap (λ k. counted (stepped (at + n) (noted (f x) k)).rows) e,
        )

-- ---- a side in memory

module _ {R S : Type 0} (rules : Rules) (value : R → RowValue) (old new : Participant R S) (at : ℕ) (bytes : List ℕ) where
  abbrev party : List ℕ → Party
  party signature = record { rules = rules; namespace = old.namespace; role = old.role; hello = old.hello; interest = old.interest; signature = signature }

  abbrev own_rows : List RowValue
  own_rows = map value old.snapshot

  abbrev Then : Awaited R → Awaited R → Option ℕ → Type 0
  Then due next taken = CountsStep (progress_with rules value old due) (progress_with rules value new next) at bytes taken

  -- nothing is counted where something is refused
  bad_counts : (due : Awaited R) → Then due (awaited.Nothing causes.Bad) None
  bad_counts due well = absurd well

  hello_refused : (due next : Awaited R) (n : ℕ) (cause : HelloRefusal) → next ≡ awaited.Nothing (causes.Hello cause) → Then due next (Some n)
  hello_refused due next n cause is = subst (λ d. Then due d (Some n)) (sym is) (λ well. absurd well)

  -- ---- a hello

  to_hello_counts : (role : Role) (p : Party) → counted (to_hello (side_of role) (own_part p)) ≡ 0
  to_hello_counts Caller p = refl
  to_hello_counts Answerer p = refl

  to_proof_counts : (role : Role) (p : Party) → counted (to_proof (side_of role) (own_part p)) ≡ 0
  to_proof_counts Caller p = refl
  to_proof_counts Answerer p = refl

  hello_accepted : (other : Hello) (next : Awaited R) (n : ℕ) → IsFound hello_seen bytes other n → hello_refusal rules old.namespace other ≡ None → next ≡ awaited.Proof other → Then awaited.Hello next (Some n)
  hello_accepted other next n found none is =
      subst (λ d. Then awaited.Hello d (Some n)) (sym is)
      (λ well signature may.
      let p = party signature in
      let step = ap (λ o. hello_read (own_part p) other o) none in
      let t = found_tells p own_rows Opening session.Hello hello_seen refl at bytes other n (hello_read (own_part p) other None) found step in
      record { sent = same_on 0 _ (t.0 ∙ to_hello_counts old.role p); read = same_on 0 _ t.1; agreed = λ talks. absurd talks })

  hello_by : (other : Hello) (next : Awaited R) (n : ℕ) (out_old out_new : List ℕ) → IsFound hello_seen bytes other n → (o : Option HelloRefusal) → hello_refusal rules old.namespace other ≡ o → HearsHello old new other next out_old out_new o → Then awaited.Hello next (Some n)
  hello_by other next n out_old out_new found (Some cause) is h = hello_refused awaited.Hello next n cause h.0
  hello_by other next n out_old out_new found None is h = hello_accepted other next n found is h.0

  pub hello_counts : (out_old out_new : List ℕ) (came : GreetingTaken R) → ComesHello rules old new bytes out_old out_new came → Then awaited.Hello (due_after awaited.Hello came) (taken_after came)
  hello_counts out_old out_new came.More h = λ well signature may.
      let t = part_tells (party signature) own_rows Opening session.Hello hello_seen refl at bytes h.0 in
      record { sent = same_on 0 _ t.0; read = same_on 0 _ t.1; agreed = λ talks. absurd talks }
  hello_counts out_old out_new came.Bad h = bad_counts awaited.Hello
  hello_counts out_old out_new (came.Next next n) h = hello_by h.0 next n out_old out_new h.1.0 (hello_refusal rules old.namespace h.0) refl h.1.1.1

  -- ---- a proof

  module _ (other : Hello) where
    abbrev first : List RowValue → Place
    first shown = first_with old other shown

    proof_accepted : (proof : List ℕ) (next : Awaited R) (n : ℕ) (out_old out_new : List ℕ) → IsFound proof_seen bytes proof n → proof_cause rules old.role old.hello other proof ≡ None → AcceptsProof value old new other next out_old out_new → Then (awaited.Proof other) next (Some n)
    proof_accepted proof next n out_old out_new found none h =
        subst (λ d. Then (awaited.Proof other) d (Some n)) (sym h.due_is)
        (λ well signature may.
        let p = party signature in
        let exchange = exchange_with (greeting rules old.namespace) places (own_part p) (offers_of old.interest own_rows) other in
        let shown = h.over.rows in
        let over = h.over.begins in
        let begins = begun_spoken rules old.namespace old.role old.hello other old.interest own_rows shown h.over.offered signature in
        let step = ap (λ o. proof_read (own_part p) exchange o) (refused_by rules old.namespace old.role old.hello other signature proof ∙ none) in
        let t = found_tells p own_rows (Proving other) session.Proof proof_seen refl at bytes proof n (proof_read (own_part p) exchange None) found step in
        let c = says_counted (first shown) in
        record {
          sent =
              ap (λ place. place.sent) over.core
              ∙ c.sent
              ∙ ap (λ k. 0 + k)
              (sym (counted_items (says_all (first shown)).0)
              ∙ sym (ap (λ s. counted (map session.Item s.0)) begins)
              ∙ behind_none (counted (to_proof (side_of old.role) (own_part p))) (counted (map session.Item exchange.opening)) (to_proof_counts old.role p)
              ∙ sym (counted-append (to_proof (side_of old.role) (own_part p)) (map session.Item exchange.opening))
              ∙ sym t.0);
          read = ap (λ place. place.read) over.core ∙ c.read ∙ same_on 0 _ t.1;
          agreed = λ talks. inr (
            record { other = other; given = refl; front = []; behind = take n bytes; joined = refl; at = at; held = []; waits = nothing_read p own_rows (Waits (Proving other) at []) },
            h.over.area,
          );
        })

    proof_by : (proof : List ℕ) (next : Awaited R) (n : ℕ) (out_old out_new : List ℕ) → IsFound proof_seen bytes proof n → (o : Option HelloRefusal) → proof_cause rules old.role old.hello other proof ≡ o → HearsProof value old new other next out_old out_new o → Then (awaited.Proof other) next (Some n)
    proof_by proof next n out_old out_new found (Some cause) is h = hello_refused (awaited.Proof other) next n cause h.0
    proof_by proof next n out_old out_new found None is h = proof_accepted proof next n out_old out_new found is h

    pub proof_counts : (out_old out_new : List ℕ) (came : GreetingTaken R) → ComesProof rules value old new other bytes out_old out_new came → Then (awaited.Proof other) (due_after (awaited.Proof other) came) (taken_after came)
    proof_counts out_old out_new came.More h = λ well signature may.
        let t = part_tells (party signature) own_rows (Proving other) session.Proof proof_seen refl at bytes h.0 in
        record { sent = same_on 0 _ t.0; read = same_on 0 _ t.1; agreed = λ talks. absurd talks }
    proof_counts out_old out_new came.Bad h = bad_counts (awaited.Proof other)
    proof_counts out_old out_new (came.Next next n) h = proof_by h.0 next n out_old out_new h.1.0 (proof_cause rules old.role old.hello other h.0) refl h.1.1

  -- ---- an item

  module _ (ex : Exchange R) (is : IsExchange ex) (waits : stage_of ex.core.doing ≡ stage.Reading) where
    abbrev talks : SessionStage
    talks = Talking (within ex.core)

    abbrev sees : List ℕ → Seen ItemValue
    sees = item_seen ex.core.version (awaits_row ex.core.doing)

    same_sees : item_seen ex.reader.version (is_due ex.reader.due) ≡ sees
    same_sees = ap₂ item_seen is.version (awaits_due ex.reader.due ex.core.doing is.due)

    stands : stand_of (awaited.Items ex) at [] ≡ Waits talks at []
    stands = ap (λ b. cond b Over (Waits talks at [])) (reading_on ex.core.doing waits)

    abbrev From : ℕ → ℕ → List ℕ → List ℕ → Stand SessionStage SessionCause → Type 0
    From sent read signature read_bytes q =
        (counted (reading.read (session_of (party signature) own_rows) q read_bytes).says ≡ sent) × (counted (reading.read (noting (session_of (party signature) own_rows)) q read_bytes).rows ≡ read)

    item_more : (next : Exchange R) → ArePart (item_seen ex.reader.version (is_due ex.reader.due)) [] bytes → next ≡ ex → Then (awaited.Items ex) (awaited.Items next) None
    item_more next part same =
        subst (λ x. Then (awaited.Items ex) (awaited.Items x) None) (sym same)
        (λ well signature may.
        let t = part_tells (party signature) own_rows talks session.Item sees refl at bytes (subst (λ look. ArePart look [] bytes) same_sees part) in
        let u = subst (From 0 0 signature bytes) (sym stands) t in
        record { sent = same_on ex.core.sent _ u.0; read = same_on ex.core.read _ u.1; agreed = λ talks. inl (talks_in ex.core at [], refl) })

    answered_says : (now : ℕ) (b : Bool) (item : ItemValue) (list : List ItemValue) (last : Place) (rows : List RowValue)
        → (counted (stepped {R = RowValue} now (item_read {H = Hello} {P = List ℕ} {F = HelloRefusal} (answered {G = CoreRefusal} b (list, last) rows))).says ≡ to_count list)
        × (counted (stepped now (noted (session.Item item) (item_read {H = Hello} {P = List ℕ} {F = HelloRefusal} (answered {G = CoreRefusal} b (list, last) rows)))).rows ≡ count_one item)
    answered_says now true item list last rows = (counted_items list, omega arith)
    answered_says now false item list last rows = (counted_items list, omega arith)

    item_heard_counts : (next : Exchange R) (n : ℕ) (out_old out_new : List ℕ) (rows_old rows_new : List RowValue) → TakesItem ex next bytes n out_old out_new rows_old rows_new → Then (awaited.Items ex) (awaited.Items next) (Some n)
    item_heard_counts next n out_old out_new rows_old rows_new t well signature may =
        let item = t.item in
        let heard_to = t.hears.next in
        let list = (says_all heard_to).0 in
        let last = (says_all heard_to).1 in
        let rows = option_to_list (row_in item) in
        let heard_here : heard (within ex.core) item ≡ Ok (within heard_to) = heard_alike ex.core item is.sound ∙ ap all_within t.hears.heard_to in
        let spoken = spoken_as (within heard_to) ∙ says_all_alike heard_to in
        let step : (session_of (party signature) own_rows).step talks (session.Item item) ≡ item_read (answered (has_finished last.doing) (list, within last) rows) =
        ap (λ r. item_read (item_heard places item r)) heard_here ∙ ap (λ s. item_read (answered (has_finished s.1.doing) s rows)) spoken in
        let found = subst (λ look. IsFound look bytes item n) same_sees t.found in
        let f = found_tells (party signature) own_rows talks session.Item sees refl at bytes item n (item_read (answered (has_finished last.doing) (list, within last) rows)) found step in
        let a = answered_says (at + n) (has_finished last.doing) item list (within last) rows in
        let u = subst (From (to_count list) (count_one item) signature (take n bytes)) (sym stands) (f.0 ∙ a.0, f.1 ∙ a.1) in
        let said = says_counted heard_to in
        let came = item_counted ex.core heard_to item t.hears.heard_to in
        record {
          sent = ap (λ place. place.sent) t.hears.says.place ∙ said.sent ∙ ap (λ k. k + to_count list) came.sent ∙ sym (ap (λ k. ex.core.sent + k) u.0);
          read = ap (λ place. place.read) t.hears.says.place ∙ said.read ∙ came.read ∙ sym (ap (λ k. ex.core.read + k) u.1);
          agreed = λ talks. inl (talks_in ex.core at [], t.area);
        }

    item_refused : (next : Awaited R) (n : ℕ) (cause : CoreRefusal) → next ≡ awaited.Nothing (causes.Core cause) → Then (awaited.Items ex) next (Some n)
    item_refused next n cause is = subst (λ d. Then (awaited.Items ex) d (Some n)) (sym is) (λ well. absurd well)

    pub item_counts : (next : Exchange R) (out_old out_new : List ℕ) (rows_old rows_new : List RowValue) (came : ItemTaken) → ComesItem ex next bytes out_old out_new rows_old rows_new came → Then (awaited.Items ex) (due_behind (awaited.Items next) came) (taken_behind came)
    item_counts next out_old out_new rows_old rows_new items.More h = item_more next h.0 h.1.0
    item_counts next out_old out_new rows_old rows_new items.Bad h = bad_counts (awaited.Items ex)
    item_counts next out_old out_new rows_old rows_new (items.Taken n) h = item_heard_counts next n out_old out_new rows_old rows_new h
    item_counts next out_old out_new rows_old rows_new (items.Refused cause n) h = item_refused (awaited.Nothing (causes.Core cause)) n cause refl

-- ---- pieces behind pieces

pub counts_append : (a b c : Progress) (bytes more out_a out_b out_c : List ℕ) (rows_a rows_b rows_c : List RowValue)
    → ReadsPiece a.side b.side bytes out_a out_b rows_a rows_b → ReadsPiece b.side c.side more out_b out_c rows_b rows_c
    → CountsOn a b bytes → CountsOn b c more → CountsOn a c (bytes ++ more)
counts_append a b c bytes more out_a out_b out_c rows_a rows_b rows_c f g first second well signature may =
    let may_b = g.signed_once signature may in
    let p = party_of a.side signature in
    let rows = a.side.rows in
    let here = session_of p rows in
    let r = f.reads signature may_b in
    let s = subst (λ x. Reads (party_of x signature) x.rows b.side.stand more c.side.stand g.written g.taken) f.kept (g.reads signature may) in
    let well_b = went_well p rows b.side.stand more (subst GoesWell (sym s.stands) well) in
    let one = first well_b signature may_b in
    let two = subst (λ x. (c.sent ≡ b.sent + counted (reading.read (session_of (party_of x signature) x.rows) b.side.stand more).says) × (c.read ≡ b.read + counted (reading.read (noting (session_of (party_of x signature) x.rows)) b.side.stand more).rows)) f.kept
    (let t = second well signature may in (t.sent, t.read)) in
    let both = run_append (move here) a.side.stand bytes more in
    let there = ap (λ q. reading.read here q more) r.stands in
    let noted_both = run_append (move (noting here)) a.side.stand bytes more in
    let noted_there = ap (λ q. reading.read (noting here) q more) (noting_stands here a.side.stand bytes ∙ r.stands) in
    let says = (reading.read here a.side.stand bytes).says in
    let heard = (reading.read (noting here) a.side.stand bytes).rows in
    record {
      sent =
          two.0
          ∙ ap₂ (λ x y. x + y) one.sent (sym (ap (λ m. counted m.says) there))
          ∙ omega (arith, counted-append says (reading.read here (reading.read here a.side.stand bytes).stand more).says)
          ∙ sym (ap (λ m. a.sent + counted m.says) both);
      read =
          two.1
          ∙ ap₂ (λ x y. x + y) one.read (sym (ap (λ m. counted m.rows) noted_there))
          ∙ omega (arith, counted-append heard (reading.read (noting here) (reading.read (noting here) a.side.stand bytes).stand more).rows)
          ∙ sym (ap (λ m. a.read + counted m.rows) noted_both);
      agreed = agrees_append a b c bytes more out_a out_b rows_a rows_b signature f may_b one.agreed (second well signature may).agreed;
    }
