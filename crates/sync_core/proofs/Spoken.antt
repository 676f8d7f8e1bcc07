-- A side that has said an item.
use Rattle.std.proofs.Common.{◌≡◌, ℕ, ◌+◌, ◌≤◌, ◌<◌, false, cond, List, [], ◌∷◌, map, length, option_map, slice_get, Option, Some, None, refl, sym, ap, ap₂, ◌∙◌, subst, arith}
use Rattle.std.specs.List.{cons_option}
use Rattle.willow_entry.specs.Row.{RowValue}
use Rattle.sync_msg.specs.Items.{ItemValue, is_counted}
use Rattle.sync_msg.specs.declared.item.Item.TheVariants as items
use Rattle.sync_msg.specs.declared.item.Item.{Item}
use Rattle.sync_core.specs.declared.stage.Stage.TheVariants.{Writing}
use Rattle.sync_core.specs.declared.work.Phase.{Phase}
use Rattle.sync_core.specs.declared.work.Phase.TheVariants as phase
use Rattle.sync_core.specs.declared.work.Due.{Due}
use Rattle.sync_core.specs.declared.work.Work.{Work}
use Rattle.sync_core.specs.Flat.{AskValue}
use Rattle.sync_core.specs.Place.{Doing, Saying, Replying, Beginning, Hearing, HearingRows, Parting, Finished, Refused, Place, stage_of}
use Rattle.sync_core.specs.Steps.{count_one, waiting, going_on, next_said, said_at, said}
use Rattle.sync_core.proofs.Lists.{has_first}
use Rattle.sync_core.specs.Held.{AreNamed, CanSay, HasNext, IsReady, ask_value, doing_in, doing_of, hearing_of, item_at, items_at, owed_value, owing, to_count}

-- ---- what counts

counted_row : (o : Option RowValue) (item : ItemValue) → option_map items.Row o ≡ Some item → is_counted item ≡ false
counted_row None item e = absurd cc
counted_row (Some row) item e =
    let same : items.Row row ≡ item = cc in
    sym (ap is_counted same)

-- an item that is said counts exactly where its name does
pub counts_same : (rows : List RowValue) (o : Item ℕ) (item : ItemValue) → item_at rows o ≡ Some item → is_counted item ≡ is_counted o
counts_same rows (items.First print) item e = let same : items.First print ≡ item = cc in sym (ap is_counted same)
counts_same rows items.Agree item e = let same : items.Agree ≡ item = cc in sym (ap is_counted same)
counts_same rows (items.Split at lower upper) item e = let same : items.Split at lower upper ≡ item = cc in sym (ap is_counted same)
counts_same rows (items.Parts points prints) item e = let same : items.Parts points prints ≡ item = cc in sym (ap is_counted same)
counts_same rows (items.Entries count) item e = let same : items.Entries count ≡ item = cc in sym (ap is_counted same)
counts_same rows (items.Rest count) item e = let same : items.Rest count ≡ item = cc in sym (ap is_counted same)
counts_same rows (items.Row at) item e = counted_row (slice_get rows at) item e
counts_same rows items.EndTurn item e = let same : items.EndTurn ≡ item = cc in sym (ap is_counted same)
counts_same rows items.Bye item e = let same : items.Bye ≡ item = cc in sym (ap is_counted same)

-- ---- the step of a place

-- the first of what is said, and what is done then
abbrev first_of : Option (ItemValue × Doing) → Option ItemValue
first_of o = option_map (λ step. step.0) o

abbrev then_of : Option (ItemValue × Doing) → Option Doing
then_of o = option_map (λ step. step.1) o

pub said_item : (place : Place) (o : Option (ItemValue × Doing)) → option_map (λ step. step.0) (said_at place o) ≡ option_map (λ step. step.0) o
said_item place None = refl
said_item place (Some step) = refl

pub said_place : (place : Place) (o : Option (ItemValue × Doing)) (item : Item ℕ) (doing : Doing) (sent : ℕ)
    → item_at place.rows item ≡ option_map (λ step. step.0) o → option_map (λ step. step.1) o ≡ Some doing → sent ≡ place.sent + cond (is_counted item) 1 0
    → option_map (λ step. step.1) (said_at place o) ≡ Some (record place { sent = sent; doing = doing })
said_place place None item doing sent i d s = absurd cc
said_place place (Some step) item doing sent i d s =
    let then : step.1 ≡ doing = cc in
    let count : place.sent + count_one step.0 ≡ sent = ap (λ b. place.sent + cond b 1 0) (counts_same place.rows item step.0 i) ∙ sym s in
    ap₂ (λ n w. Some (record place { sent = n; doing = w })) count then

-- the item that a side says, and its place then
pub says_item : (place : Place) (item : Item ℕ) → item_at place.rows item ≡ option_map (λ step. step.0) (next_said place.doing) → item_at place.rows item ≡ option_map (λ step. step.0) (said place)
unfolding said
says_item place item e = e ∙ sym (said_item place (next_said place.doing))

pub says_place : (place : Place) (item : Item ℕ) (doing : Doing) (sent : ℕ)
    → item_at place.rows item ≡ option_map (λ step. step.0) (next_said place.doing) → option_map (λ step. step.1) (next_said place.doing) ≡ Some doing → sent ≡ place.sent + cond (is_counted item) 1 0
    → option_map (λ step. step.1) (said place) ≡ Some (record place { sent = sent; doing = doing })
unfolding said
says_place place item doing sent i d s = said_place place (next_said place.doing) item doing sent i d s

-- ---- what is owed

owing_waiting : (asks : List AskValue) → owing (waiting asks) ≡ 0
owing_waiting [] = refl
owing_waiting (ask ∷ asks) = refl

owing_going_on : (items : List ItemValue) (asks : List AskValue) → owing (going_on items asks) ≡ to_count items
owing_going_on [] asks = owing_waiting asks
owing_going_on (item ∷ items) asks = refl

-- what is said is no longer owed
pub said_owes : (doing then : Doing) (rows : List RowValue) (item : Item ℕ) → item_at rows item ≡ first_of (next_said doing) → then_of (next_said doing) ≡ Some then → cond (is_counted item) 1 0 + owing then ≤ owing doing
said_owes (Saying [] asks) then rows item i d = absurd cc
said_owes (Saying (x ∷ items) asks) then rows item i d =
    let next : going_on items asks ≡ then = cc in
    let count : count_one x ≡ cond (is_counted item) 1 0 = ap (λ b. cond b 1 0) (counts_same rows item x i) in
    omega (arith, count, owing_going_on items asks, ap owing next)
said_owes Replying then rows item i d =
    let next : Finished ≡ then = cc in
    let count : ◌≡◌ {A = ℕ} 0 (cond (is_counted item) 1 0) = ap (λ b. cond b 1 0) (counts_same rows item items.Bye i) in
    omega (arith, count, ap owing next)
said_owes Beginning then rows item i d = absurd cc
said_owes (Hearing asks opens) then rows item i d = absurd cc
said_owes (HearingRows asks left read opens) then rows item i d = absurd cc
said_owes Parting then rows item i d = absurd cc
said_owes Finished then rows item i d = absurd cc
said_owes (Refused cause) then rows item i d = absurd cc

-- ---- where a side can say an item

reads : (asks opens : List AskValue) (due : Option Due) → stage_of (hearing_of asks opens due) ≡ Writing → ⊥
reads asks opens None e = cc
reads asks opens (Some due) e = cc

-- a side that writes has an item to say
pub can_say : (rows : List RowValue) (work : Work) → IsReady rows work → stage_of (doing_of rows work) ≡ Writing → CanSay work.phase (length work.items.items)
can_say rows work ready writes = by_phase work.phase ready.next writes
  where
    by_phase : (p : Phase) → HasNext p (length work.items.items) → stage_of (doing_in rows p work) ≡ Writing → CanSay p (length work.items.items)
    by_phase phase.Saying next e = next
    by_phase phase.Replying next e = tt
    by_phase phase.Beginning next e = absurd cc
    by_phase phase.Hearing next e = reads (map (owed_value rows) work.ear.owed.items) (map ask_value work.ear.opens.items) work.ear.due e
    by_phase phase.Parting next e = absurd cc
    by_phase phase.Finished next e = absurd cc
    by_phase (phase.Refused cause) next e = absurd cc

-- ---- the work behind an item

next_by : (rows : List RowValue) (asks : List AskValue) (rest : List ItemValue) (o : Option ItemValue) (value : ItemValue) → o ≡ Some value → then_of (next_said (Saying (cons_option o rest) asks)) ≡ Some (going_on rest asks)
next_by rows asks rest None value e = absurd cc
next_by rows asks rest (Some x) value e = refl

-- what is done behind the first item of a turn
pub said_first : (rows : List RowValue) (work : Work) (item : Item ℕ) (rest : List (Item ℕ)) → work.phase ≡ phase.Saying → work.items.items ≡ item ∷ rest → AreNamed rows work.items.items
    → option_map (λ step. step.1) (next_said (doing_of rows work)) ≡ Some (going_on (items_at rows rest) (map (owed_value rows) work.ear.owed.items))
said_first rows work item rest is parts named =
    let asks = map (owed_value rows) work.ear.owed.items in
    let h = has_first (item_at rows) item rest (subst (λ l. AreNamed rows l) parts named) in
    ap (λ p. then_of (next_said (doing_in rows p work))) is
    ∙ ap (λ l. then_of (next_said (Saying (items_at rows l) asks))) parts
    ∙ next_by rows asks (items_at rows rest) (item_at rows item) h.value h.here

pub named_rest : (rows : List RowValue) (outs : List (Item ℕ)) (item : Item ℕ) (rest : List (Item ℕ)) → outs ≡ item ∷ rest → AreNamed rows outs → AreNamed rows rest
named_rest rows outs item rest parts named = (has_first (item_at rows) item rest (subst (λ l. AreNamed rows l) parts named)).rest

-- a turn of which more is to be said
pub ready_rest : (rows : List RowValue) (work : Work) → work.phase ≡ phase.Saying → 0 < length work.items.items → AreNamed rows work.items.items → IsReady rows work
ready_rest rows work is some named = record { named = named; next = subst (λ p. HasNext p (length work.items.items)) (sym is) some }
