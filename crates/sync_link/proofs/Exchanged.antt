-- What comes of an item is what the session makes of it.
use Rattle.std.proofs.Common.{◌≡◌, ℕ, zero, suc, ◌+◌, ◌-◌, ◌≤◌, ◌<◌, Bool, true, false, cond, not, List, [], ◌∷◌, ◌++◌, map, take, flat_map, append-nil, Option, Some, None, Result, Ok, Err, option_to_list, refl, sym, ap, ap₂, ◌∙◌, subst, arith}
use Rattle.spelling.specs.Answers.{cause_if}
use Rattle.scheme_core.specs.Rules.{Rules}
use Rattle.willow_area.specs.Boxes.{Ranges}
use Rattle.willow_area.specs.Cuts.{can_cut, lower_part, upper_part}
use Rattle.willow_entry.specs.Row.{RowValue}
use Rattle.range_split.specs.Parts.{can_cut_at, parts_at}
use Rattle.exchange_rules.specs.AnyPeer.{part_asks}
use Rattle.exchange_rules.specs.Items.{Print, Sent}
use Rattle.sync_msg.specs.Items.{ItemValue, item_spelling, due_behind}
use Rattle.sync_msg.specs.declared.item.Item.TheVariants.{Bye}
use Rattle.sync_msg.specs.declared.refusal.CoreRefusal.{CoreRefusal}
use Rattle.sync_msg.specs.declared.refusal.CoreRefusal.TheVariants.{BadCut, ItemMismatch}
use Rattle.sync_core.specs.declared.stage.Stage.TheVariants as stage
use Rattle.sync_core.specs.Flat.{AskValue, row_in}
use Rattle.sync_core.specs.Place.{Doing, Saying, Replying, Beginning, Hearing, HearingRows, Parting, Finished, Refused, Place, answering, stage_of}
use Rattle.sync_core.specs.Steps.{count_one, hearing_rows, remembered, box_of, row_cause, waiting, going_on, next_said, said_at, said, heard}
use Rattle.sync_core.specs.Runs.{said_from, says, left_to_say, says_all}
use Rattle.session_rules.specs.Machine.{Seen}
use Rattle.session_rules.specs.Messages.{ArePart}
use Rattle.session_rules.specs.Reading.{Stand, Waits, Over, Move, stepped}
use Rattle.session_rules.specs.Reading as reading
use Rattle.session_rules.specs.Session as session
use Rattle.session_rules.specs.Session.{Talking, InTalk, item_read}
use Rattle.session_rules.specs.Talk.{answered, item_heard}
use Rattle.sync_link.specs.Readers.{item_seen}
use Rattle.sync_link.specs.Places.{awaits_row, has_finished, places}
use Rattle.sync_link.specs.Sessions.{Party, SessionStage, SessionMessage, SessionCause, session_of}
use Rattle.sync_link.specs.Standing.{Reads, within}
use Rattle.row_intake.specs.Found.{IsFound, GoWrong}
use Rattle.sync_link.specs.Found.{is_due}
use Rattle.sync_link.specs.Awaited.{stand_of}
use Rattle.sync_link.specs.Hearing.{RefusesItem}
use Rattle.sync_link.specs.Taking.{AreDueIn, IsExchange, Fits, TakesItem, ComesItem, Holds, IsSilent, Steps, read_by, taken_behind, taken_of, waiting_side}
use Rattle.sync_link.specs.Taking.{due_behind as after_item}
use Rattle.sync_link.specs.declared.side.take.ItemTaken.{ItemTaken}
use Rattle.sync_link.specs.declared.side.take.ItemTaken.TheVariants as items
use Rattle.sync_msg.specs.declared.role.Role.{Role}
use Rattle.sync_link.specs.declared.side.awaited.Cause.TheVariants as causes
use Rattle.sync_link.specs.declared.side.awaited.Awaited.TheVariants as awaited
use Rattle.sync_link.specs.declared.side.awaited.Exchange.{Exchange}
use Rattle.sync_link.specs.declared.side.participant.Participant.{Participant}
use Rattle.sync_core.proofs.Cases.{AreCases, by_cases, heard_as, same_some, same_ok, not_err, unless_ok}
use Rattle.sync_link.proofs.Heard.{reading_on, version_heard}
use Rattle.sync_link.proofs.Speaking.{spoken_as, version_spoken}
use Rattle.sync_link.proofs.Sound.{all_within, heard_alike, says_all_alike}
use Rattle.row_intake.proofs.Moves.{some_taken}
use Rattle.sync_link.proofs.Moves.{broken_silent, part_reads, part_silent, wrong_reads, found_reads, reads_piece, piece_read_quiet}
use Rattle.sync_link.proofs.Greeting.{items_said, party_with}

-- ---- how many rows are due

due_hearing : (ask : AskValue) (asks : List AskValue) (left : ℕ) (read : List RowValue) (opens : List AskValue) (due : ℕ) → due ≡ left → AreDueIn due (hearing_rows ask asks left read opens)
due_hearing (Print box print) asks zero read opens due e = e
due_hearing (Sent box sent) asks zero read opens due e = e
due_hearing (Print box print) asks (suc left) read opens due e = (e, omega (arith, e))
due_hearing (Sent box sent) asks (suc left) read opens due e = (e, omega (arith, e))

module _ (version : ℕ) (area : Option Ranges) (rows : List RowValue) (due : ℕ) where
  abbrev DueThen : Doing → ItemValue → Result Doing CoreRefusal → Type 0
  DueThen doing item r = (d : Doing) → r ≡ Ok d → AreDueIn due doing → AreDueIn (due_behind due item) d

  due_ok : (now : ℕ) (doing d : Doing) → AreDueIn now doing → ◌≡◌ {A = Result Doing CoreRefusal} (Ok doing) (Ok d) → AreDueIn now d
  due_ok now doing d h e = subst (AreDueIn now) (same_ok doing d e) h

  due_cases : AreCases version area rows DueThen
  due_cases = record {
    mismatch = λ doing item d e h. absurd (not_err d ItemMismatch e);
    first_bye = λ is d e h. due_ok due Replying d h e;
    first_print = λ box print is d e h. due_ok due (Hearing [] (Print box print ∷ [])) d h e;
    agree = λ box print asks opens d e h. due_ok due (Hearing asks opens) d h e;
    split = λ box print asks opens at lower upper is d e h.
        subst (AreDueIn due) (unless_ok (cause_if (not (can_cut box at)) BadCut) (Hearing asks (opens ++ Print (lower_part box at) lower ∷ Print (upper_part box at) upper ∷ [])) d e) h;
    parts = λ box print asks opens points prints is d e h. subst (AreDueIn due) (unless_ok (cause_if (not (can_cut_at box points)) BadCut) (Hearing asks (opens ++ part_asks (parts_at box points) prints)) d e) h;
    entries = λ box print asks opens count d e h. due_ok count (hearing_rows (Print box print) asks count [] opens) d (due_hearing (Print box print) asks count [] opens count refl) e;
    rest = λ box sent asks opens count d e h. due_ok count (hearing_rows (Sent box sent) asks count [] opens) d (due_hearing (Sent box sent) asks count [] opens count refl) e;
    row = λ ask asks left read opens row d e h.
        subst (AreDueIn (due - 1)) (unless_ok (row_cause (box_of ask) read row) (hearing_rows ask asks (left - 1) (remembered ask read row) opens) d e)
        (due_hearing ask asks (left - 1) (remembered ask read row) opens (due - 1) (ap (λ n. n - 1) h.0));
    last_bye = λ d e h. due_ok due Replying d h e;
    end_turn = λ ask asks d e h. due_ok due (answering version rows (ask ∷ asks)) d h e;
    farewell = λ d e h. due_ok due Finished d h e;
  }

due_heard : (place next : Place) (item : ItemValue) (due : ℕ) → heard place item ≡ Ok next → AreDueIn due place.doing → AreDueIn (due_behind due item) next.doing
due_heard place next item due e h =
    let to = heard_as place item next e in
    subst (λ p. AreDueIn (due_behind due item) p.doing) (sym to.then) (by_cases place.version place.area place.rows (DueThen place.version place.area place.rows due) (due_cases place.version place.area place.rows due) place.doing item to.doing to.comes h)

due_waiting : (due : ℕ) (asks : List AskValue) → due ≡ 0 → AreDueIn due (waiting asks)
due_waiting due [] h = h
due_waiting due (ask ∷ asks) h = h

due_going_on : (due : ℕ) (items : List ItemValue) (asks : List AskValue) → due ≡ 0 → AreDueIn due (going_on items asks)
due_going_on due [] asks h = due_waiting due asks h
due_going_on due (item ∷ items) asks h = h

due_step : (due : ℕ) (place : Place) (doing : Doing) (step : ItemValue × Place) → said_at place (next_said doing) ≡ Some step → AreDueIn due doing → AreDueIn due step.1.doing
due_step due place (Saying [] asks) step e h = absurd cc
due_step due place (Saying (x ∷ items) asks) step e h =
    let first : ItemValue × Place = (x, record place { sent = place.sent + count_one x; doing = going_on items asks }) in
    subst (λ s. AreDueIn due s.1.doing) (same_some first step e) (due_going_on due items asks h)
due_step due place Replying step e h =
    let first : ItemValue × Place = (Bye, record place { sent = place.sent + 0; doing = Finished }) in
    subst (λ s. AreDueIn due s.1.doing) (same_some first step e) h
due_step due place Beginning step e h = absurd cc
due_step due place (Hearing asks opens) step e h = absurd cc
due_step due place (HearingRows asks left read opens) step e h = absurd cc
due_step due place Parting step e h = absurd cc
due_step due place Finished step e h = absurd cc
due_step due place (Refused cause) step e h = absurd cc

due_said : (due : ℕ) (place : Place) (step : ItemValue × Place) → said place ≡ Some step → AreDueIn due place.doing → AreDueIn due step.1.doing
unfolding said
due_said due place step e h = due_step due place place.doing step e h

due_says : (n due : ℕ) (place : Place) → AreDueIn due place.doing → AreDueIn due (says n place).1.doing
unfolding says
due_says zero due place h = h
due_says (suc n) due place h = by_next (λ next k. due_says n due next k) (said place) refl
  where
    by_next : ((next : Place) → AreDueIn due next.doing → AreDueIn due (says n next).1.doing) → (o : Option (ItemValue × Place)) → said place ≡ o → AreDueIn due (said_from (says n) place o).1.doing
    by_next later None is = h
    by_next later (Some step) is = later step.1 (due_said due place step is h)

pub due_then : (place next last : Place) (item : ItemValue) (due : ℕ) → heard place item ≡ Ok next → last ≡ (says_all next).1 → AreDueIn due place.doing → AreDueIn (due_behind due item) last.doing
due_then place next last item due e is h =
    subst (λ p. AreDueIn (due_behind due item) p.doing) (sym is) (due_says (left_to_say next.doing) (due_behind due item) next (due_heard place next item due e h))

-- the version stays
version_then : (place next last : Place) (item : ItemValue) → heard place item ≡ Ok next → last ≡ (says_all next).1 → last.version ≡ place.version
version_then place next last item e is = ap (λ p. p.version) is ∙ version_spoken next ∙ version_heard place next item e

-- a row is awaited exactly where some are due
some_due : (due : ℕ) → 0 < due → is_due due ≡ true
some_due zero some = absurd (omega arith)
some_due (suc due) some = refl

pub awaits_due : (due : ℕ) (doing : Doing) → AreDueIn due doing → is_due due ≡ awaits_row doing
awaits_due due (Saying items asks) h = ap is_due h
awaits_due due Replying h = ap is_due h
awaits_due due Beginning h = ap is_due h
awaits_due due (Hearing asks opens) h = ap is_due h
awaits_due due (HearingRows asks left read opens) h = some_due due h.1
awaits_due due Parting h = ap is_due h
awaits_due due Finished h = ap is_due h
awaits_due due (Refused cause) h = ap is_due h

-- ---- an item

module _ {R S : Type 0} (rules : Rules) (value : R → RowValue) (participant : Participant R S) (old new : Exchange R) (at : ℕ) (is : IsExchange old) (waits : stage_of old.core.doing ≡ stage.Reading)
    (bytes out_old out_new : List ℕ) (rows_old rows_new : List RowValue) where
  abbrev party : List ℕ → Party
  party signature = record { rules = rules; namespace = participant.namespace; role = participant.role; hello = participant.hello; interest = participant.interest; signature = signature }

  abbrev own_rows : List RowValue
  own_rows = map value participant.snapshot

  abbrev from : Stand SessionStage SessionCause
  from = stand_of (awaited.Items old) at []

  abbrev talks : SessionStage
  talks = Talking (within old.core)

  abbrev sees : List ℕ → Seen ItemValue
  sees = item_seen old.core.version (awaits_row old.core.doing)

  stands : from ≡ Waits talks at []
  stands = ap (λ b. cond b Over (Waits talks at [])) (reading_on old.core.doing waits)

  same_sees : item_seen old.reader.version (is_due old.reader.due) ≡ sees
  same_sees = ap₂ item_seen is.version (awaits_due old.reader.due old.core.doing is.due)

  stands_on : (held : List ℕ) → stand_of (awaited.Items old) at held ≡ Waits talks at held
  stands_on held = ap (λ b. cond b Over (Waits talks at held)) (reading_on old.core.doing waits)

  reads_from : (signature read : List ℕ) (to : Stand SessionStage SessionCause) (written : List ℕ) (taken : List RowValue) → Reads (party signature) own_rows (Waits talks at []) read to written taken → Reads (party signature) own_rows from read to written taken
  reads_from signature read to written taken h = subst (λ q. Reads (party signature) own_rows q read to written taken) (sym stands) h

  pub item_part : ArePart (item_seen old.reader.version (is_due old.reader.due)) [] bytes → (signature : List ℕ) → Reads (party signature) own_rows from bytes (stand_of (awaited.Items old) at bytes) [] []
  item_part part signature =
      subst (λ q. Reads (party signature) own_rows from bytes q [] []) (sym (stands_on bytes))
      (reads_from signature bytes (Waits talks at bytes) [] [] (part_reads (party signature) own_rows talks session.Item sees refl at bytes (subst (λ look. ArePart look [] bytes) same_sees part)))

  pub item_silent : ArePart (item_seen old.reader.version (is_due old.reader.due)) [] bytes → (signature : List ℕ) → IsSilent (party signature) own_rows from bytes (stand_of (awaited.Items old) at bytes)
  item_silent part signature =
      subst (λ q. IsSilent (party signature) own_rows from bytes q) (sym (stands_on bytes))
      (subst (λ q. IsSilent (party signature) own_rows q bytes (Waits talks at bytes)) (sym stands) (part_silent (party signature) own_rows talks session.Item sees refl at bytes (subst (λ look. ArePart look [] bytes) same_sees part)))

  pub item_more : ArePart (item_seen old.reader.version (is_due old.reader.due)) [] bytes → new ≡ old → out_new ≡ out_old → rows_new ≡ rows_old
      → Steps (waiting_side rules value participant (awaited.Items old)) (waiting_side rules value participant (awaited.Items new)) at bytes None out_old out_new rows_old rows_new
  item_more part same silent none =
      piece_read_quiet rules value participant participant from (stand_of (awaited.Items new) at bytes) bytes out_old out_new rows_old rows_new refl silent [] (none ∙ sym (append-nil rows_old))
      (λ signature. subst (λ x. Reads (party signature) own_rows from bytes (stand_of (awaited.Items x) at bytes) [] []) (sym same) (item_part part signature))

  pub item_bad : GoWrong (item_seen old.reader.version (is_due old.reader.due)) [] bytes → out_new ≡ out_old → rows_new ≡ rows_old
      → Steps (waiting_side rules value participant (awaited.Items old)) (waiting_side rules value participant (awaited.Nothing causes.Bad)) at bytes None out_old out_new rows_old rows_new
  item_bad wrong silent none =
      piece_read_quiet rules value participant participant from (reading.Broken at) bytes out_old out_new rows_old rows_new refl silent [] (none ∙ sym (append-nil rows_old))
      (λ signature. reads_from signature bytes (reading.Broken at) [] [] (wrong_reads (party signature) own_rows talks session.Item sees refl at bytes (subst (λ look. GoWrong look [] bytes) same_sees wrong)))

  abbrev step_of : List ℕ → ItemValue → ℕ → Move SessionStage SessionMessage RowValue SessionCause
  step_of signature item now = stepped now ((session_of (party signature) own_rows).step talks (session.Item item))

  pub item_refused : (item : ItemValue) (n : ℕ) (cause : CoreRefusal) → IsFound (item_seen old.reader.version (is_due old.reader.due)) bytes item n → RefusesItem old.core item cause out_old out_new rows_old rows_new
      → Steps (waiting_side rules value participant (awaited.Items old)) (waiting_side rules value participant (awaited.Nothing (causes.Core cause))) at bytes (Some n) out_old out_new rows_old rows_new
  item_refused item n cause found h =
      let found_here = subst (λ look. IsFound look bytes item n) same_sees found in
      let refused : heard (within old.core) item ≡ Err cause = heard_alike old.core item is.sound ∙ ap all_within h.refused in (
        some_taken sees bytes item n found_here,
        (
          found_here.within,
          piece_read_quiet rules value participant participant from (reading.Refused (InTalk cause)) (take n bytes) out_old out_new rows_old rows_new refl h.silent [] (h.none ∙ sym (append-nil rows_old))
              (λ signature.
              let step : step_of signature item (at + n) ≡ reading.stay (reading.Refused (InTalk cause)) = ap (λ r. stepped (at + n) (item_read (item_heard places item r))) refused in
              reads_from signature (take n bytes) (reading.Refused (InTalk cause)) [] []
              (found_reads (party signature) own_rows talks session.Item sees refl at bytes item n (reading.Refused (InTalk cause)) [] [] found_here (ap (λ m. m.stand) step)
              (ap (λ m. flat_map (session_of (party signature) own_rows).spelling m.says) step) (ap (λ m. m.rows) step))),
        ),
      )

  -- ---- one that is heard

  abbrev on : ℕ → Bool → List ItemValue → Place → List RowValue → Move SessionStage SessionMessage RowValue SessionCause
  on now b items last rows = stepped now (item_read (answered {G = CoreRefusal} b (items, within last) rows))

  on_stand : (now : ℕ) (b : Bool) (items : List ItemValue) (last : Place) (rows : List RowValue) → (on now b items last rows).stand ≡ cond b Over (Waits (Talking (within last)) now [])
  on_stand now true items last rows = refl
  on_stand now false items last rows = refl

  on_says : (now : ℕ) (b : Bool) (items : List ItemValue) (last : Place) (rows : List RowValue) → (on now b items last rows).says ≡ map session.Item items
  on_says now true items last rows = refl
  on_says now false items last rows = refl

  on_rows : (now : ℕ) (b : Bool) (items : List ItemValue) (last : Place) (rows : List RowValue) → (on now b items last rows).rows ≡ rows
  on_rows now true items last rows = refl
  on_rows now false items last rows = refl

  pub item_taken : (n : ℕ) → TakesItem old new bytes n out_old out_new rows_old rows_new
      → Steps (waiting_side rules value participant (awaited.Items old)) (waiting_side rules value participant (awaited.Items new)) at bytes (Some n) out_old out_new rows_old rows_new
  item_taken n t =
      let item = t.item in
      let found = subst (λ look. IsFound look bytes item n) same_sees t.found in
      let next = t.hears.next in
      let items = (says_all next).0 in
      let last = (says_all next).1 in
      let rows = option_to_list (row_in item) in
      let now = at + n in
      let to = stand_of (awaited.Items new) now [] in
      let heard_here : heard (within old.core) item ≡ Ok (within next) = heard_alike old.core item is.sound ∙ ap all_within t.hears.heard_to in
      let spoken = spoken_as (within next) ∙ says_all_alike next in (
        some_taken sees bytes item n found,
        (
          found.within,
          reads_piece rules value participant participant from to (take n bytes) out_old out_new rows_old rows_new refl (λ s h. h) (flat_map item_spelling items) rows t.hears.says.bytes t.hears.takes
              (λ signature may.
              let p = party signature in
              let step : step_of signature item now ≡ on now (has_finished last.doing) items last rows =
              ap (λ r. stepped now (item_read (item_heard places item r))) heard_here
              ∙ ap (λ s. stepped now (item_read (answered (has_finished s.1.doing) s rows))) spoken in
              reads_from signature (take n bytes) to (flat_map item_spelling items) rows
              (found_reads p own_rows talks session.Item sees refl at bytes item n to (flat_map item_spelling items) rows found
              (ap (λ m. m.stand) step ∙ on_stand now (has_finished last.doing) items last rows ∙ ap (λ place. cond (has_finished place.doing) Over (Waits (Talking (within place)) now [])) (sym t.hears.says.place))
              (ap (λ m. flat_map (session_of p own_rows).spelling m.says) step ∙ ap (flat_map (session_of p own_rows).spelling) (on_says now (has_finished last.doing) items last rows) ∙ items_said p own_rows items)
              (ap (λ m. m.rows) step ∙ on_rows now (has_finished last.doing) items last rows))),
        ),
      )

  -- the exchange behind it
  pub taken_on : (n : ℕ) → TakesItem old new bytes n out_old out_new rows_old rows_new → IsExchange new
  taken_on n t = record {
    sound = t.hears.says.sound;
    silent = t.silent;
    due = subst (λ r. AreDueIn r.due new.core.doing) (sym t.reader) (due_then old.core t.hears.next new.core t.item old.reader.due t.hears.heard_to t.hears.says.place is.due);
    version = ap (λ r. r.version) t.reader ∙ is.version ∙ sym (version_then old.core t.hears.next new.core t.item t.hears.heard_to t.hears.says.place);
  }

-- ---- whatever came

module _ {R S : Type 0} (rules : Rules) (value : R → RowValue) (participant : Participant R S) (old new : Exchange R) (is : IsExchange old) (waits : stage_of old.core.doing ≡ stage.Reading) (bytes out_old out_new : List ℕ) (rows_old rows_new : List RowValue) where
  pub item_steps : (came : ItemTaken) → ComesItem old new bytes out_old out_new rows_old rows_new came → (at : ℕ)
      → Steps (waiting_side rules value participant (awaited.Items old)) (waiting_side rules value participant (after_item (awaited.Items new) came)) at bytes (taken_behind came) out_old out_new rows_old rows_new
  item_steps items.More h at = item_more rules value participant old new at is waits bytes out_old out_new rows_old rows_new h.0 h.1.0 h.1.1.0 h.1.1.1
  item_steps items.Bad h at = item_bad rules value participant old new at is waits bytes out_old out_new rows_old rows_new h.0 h.1.0 h.1.1
  item_steps (items.Taken taken) h at = item_taken rules value participant old new at is waits bytes out_old out_new rows_old rows_new taken h
  item_steps (items.Refused cause taken) h at = item_refused rules value participant old new at is waits bytes out_old out_new rows_old rows_new h.0 taken cause h.1.0 h.1.1

  pub item_fits : (role : Role) (came : ItemTaken) → ComesItem old new bytes out_old out_new rows_old rows_new came → Fits role participant.signature (after_item (awaited.Items new) came)
  item_fits role items.More h = subst (λ x. IsExchange x) (sym h.1.0) is
  item_fits role items.Bad h = tt
  item_fits role (items.Taken taken) h = taken_on rules value participant old new 0 is waits bytes out_old out_new rows_old rows_new taken h
  item_fits role (items.Refused cause taken) h = tt

  pub item_reads_on : (came : ItemTaken) → ComesItem old new bytes out_old out_new rows_old rows_new came → read_by (after_item (awaited.Items new) came) ≤ read_by (awaited.Items old) + taken_of (taken_behind came)
  item_reads_on items.More h = omega (arith, ap (λ x. x.reader.taken) h.1.0)
  item_reads_on items.Bad h = omega arith
  item_reads_on (items.Taken taken) h = omega (arith, ap (λ r. r.taken) h.reader)
  item_reads_on (items.Refused cause taken) h = omega arith

  none_taken : (n : ℕ) → Some n ≡ None → ⊥
  none_taken n e = cc

  pub item_holds : (came : ItemTaken) → ComesItem old new bytes out_old out_new rows_old rows_new came → taken_behind came ≡ None → Holds rules value participant (after_item (awaited.Items new) came) bytes
  item_holds items.More h none at signature =
      subst (λ x. IsSilent (party_with rules participant.namespace participant.role participant.hello participant.interest signature) (map value participant.snapshot) (stand_of (awaited.Items x) at []) bytes (stand_of (awaited.Items x) at bytes))
      (sym h.1.0) (item_silent rules value participant old new at is waits bytes out_old out_new rows_old rows_new h.0 signature)
  item_holds items.Bad h none at signature = broken_silent (party_with rules participant.namespace participant.role participant.hello participant.interest signature) (map value participant.snapshot) at bytes
  item_holds (items.Taken taken) h none at signature = absurd (none_taken taken none)
  item_holds (items.Refused cause taken) h none at signature = absurd (none_taken taken none)
