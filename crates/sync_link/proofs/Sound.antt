-- What a side of an exchange keeps to, and that it goes by its rows in the area alone.
use Rattle.std.proofs.Common.{◌≡◌, ℕ, zero, suc, ◌+◌, ◌*◌, ◌-◌, ◌≤◌, Bool, true, false, cond, not, nat_le, List, [], ◌∷◌, ◌++◌, length, Option, Some, None, Result, Ok, Err, refl, sym, ap, ap₂, ◌∙◌, subst, arith}
use Rattle.std.specs.Prelude.{option_map}
use Rattle.std.specs.List.{AllByRecursion}
use Rattle.std.proofs.lemmas.List.Sums.{sum_by-cons}
use Rattle.spelling.specs.Answers.{cause_if}
use Rattle.willow_area.specs.Boxes.{Ranges}
use Rattle.willow_area.specs.Cuts.{can_cut, lower_part, upper_part}
use Rattle.willow_area.specs.declared.cut.CutAt.{CutAt}
use Rattle.willow_area.proofs.Cutting.{lower_part_has, upper_part_has}
use Rattle.willow_entry.specs.Row.{RowValue}
use Rattle.block_store.specs.InBox.{is_in, rows_in}
use Rattle.range_split.specs.Parts.{can_cut_at, parts_at}
use Rattle.exchange_rules.specs.Items as rules
use Rattle.exchange_rules.specs.Answer.{opened}
use Rattle.exchange_rules.specs.AnyPeer.{part_asks}
use Rattle.exchange_rules.specs.Premises.{boxes_with}
use Rattle.exchange_rules.proofs.Members.{all-append}
use Rattle.exchange_rules.proofs.Worlds.{IsInside, opened_inside, opened_alike, turn_alike}
use Rattle.sync_msg.specs.Items.{ItemValue, HasSpelling}
use Rattle.sync_msg.specs.declared.item.Item.TheVariants.{First, Agree, Split, Parts, Entries, Rest, Row, EndTurn, Bye}
use Rattle.sync_msg.specs.declared.role.Role.{Role}
use Rattle.sync_msg.specs.declared.role.Role.TheVariants.{Caller, Answerer}
use Rattle.sync_msg.specs.declared.refusal.CoreRefusal.{CoreRefusal}
use Rattle.sync_msg.specs.declared.refusal.CoreRefusal.TheVariants.{BadCut, ItemMismatch, EntryOutside, RowsOutOfOrder, TooManyItems}
use Rattle.sync_core.specs.declared.stage.TheConstants.{SNAPSHOT_MAX}
use Rattle.sync_core.specs.SyncRules.{sync_rules}
use Rattle.sync_core.specs.Flat.{AskValue, TurnValue}
use Rattle.sync_core.specs.Place.{Doing, Saying, Replying, Beginning, Hearing, HearingRows, Parting, Finished, Refused, Place, rows_of_area, most_items, saying, answering, first_doing, first_place}
use Rattle.sync_core.specs.Steps.{count_one, hearing_rows, remembered, box_of, row_cause, unless, waiting, going_on, next_said, said_at, said, end_heard, next_heard, items_with, heard_within, heard}
use Rattle.sync_core.specs.Runs.{said_from, says, left_to_say, says_all}
use Rattle.sync_core.proofs.Lawful.{disjoint}
use Rattle.sync_core.proofs.SpelledTurns.{spelled_turn}
use Rattle.sync_link.specs.Sound.{IsIn, AreIn, AsksIn, IsUnrefused, AreSound, IsSound}
use Rattle.sync_link.specs.Standing.{within}
use Rattle.sync_core.proofs.Cases.{AreCases, by_cases, heard_to, heard_as, same_some, same_ok, not_err, unless_ok}
use Rattle.sync_link.proofs.Settled.{filter_twice}

-- ---- asks within the area

-- the box of one has no row but those of another
in_as : (area : Option Ranges) (ask other : AskValue) → ((r : RowValue) → is_in (box_of other) r ≡ true → is_in (box_of ask) r ≡ true) → IsIn area ask → IsIn area other
in_as None ask other same h = absurd h
in_as (Some x) ask other same h = λ r e. h r (same r e)

as_inside : (version : ℕ) (x : Ranges) (asks : List AskValue) → AreIn (Some x) asks → AllByRecursion (IsInside (sync_rules version) x) asks
as_inside version x [] h = tt
as_inside version x (rules.Print box print ∷ asks) h = (h.0, as_inside version x asks h.1)
as_inside version x (rules.Sent box sent ∷ asks) h = (h.0, as_inside version x asks h.1)

inside_as : (version : ℕ) (x : Ranges) (asks : List AskValue) → AllByRecursion (IsInside (sync_rules version) x) asks → AreIn (Some x) asks
inside_as version x [] h = tt
inside_as version x (rules.Print box print ∷ asks) h = (h.0, inside_as version x asks h.1)
inside_as version x (rules.Sent box sent ∷ asks) h = (h.0, inside_as version x asks h.1)

abbrev AreSpelled : List ItemValue → Type 0
AreSpelled items = AllByRecursion HasSpelling items

-- ---- at the beginning

spelled_first : (version : ℕ) (role : Role) (area : Option Ranges) (rows : List RowValue) → IsUnrefused (first_doing version role area rows)
spelled_first version Caller None rows = (tt, tt)
spelled_first version Caller (Some x) rows = (tt, (tt, tt))
spelled_first version Answerer area rows = tt

in_first : (version : ℕ) (role : Role) (area : Option Ranges) (rows : List RowValue) → AsksIn area (first_doing version role area rows)
in_first version Caller None rows = tt
in_first version Caller (Some x) rows = ((λ r e. e), tt)
in_first version Answerer area rows = tt

pub sound_first : (version : ℕ) (role : Role) (area : Option Ranges) (rows : List RowValue) → AreSound rows → IsSound (first_place version role rows area)
sound_first version role area rows sound = record { rows = sound; goes_on = spelled_first version role area rows; asks = in_first version role area rows }

-- ---- what is said

in_waiting : (area : Option Ranges) (asks : List AskValue) → AreIn area asks → AsksIn area (waiting asks)
in_waiting area [] h = tt
in_waiting area (ask ∷ asks) h = (h, tt)

in_going_on : (area : Option Ranges) (items : List ItemValue) (asks : List AskValue) → AreIn area asks → AsksIn area (going_on items asks)
in_going_on area [] asks h = in_waiting area asks h
in_going_on area (item ∷ items) asks h = h

spelled_waiting : (asks : List AskValue) → IsUnrefused (waiting asks)
spelled_waiting [] = tt
spelled_waiting (ask ∷ asks) = tt

spelled_going_on : (items : List ItemValue) (asks : List AskValue) → AreSpelled items → IsUnrefused (going_on items asks)
spelled_going_on [] asks h = spelled_waiting asks
spelled_going_on (item ∷ items) asks h = h

-- a step that a sound side says
abbrev StepsSound : Place → ItemValue × Place → Type 0
StepsSound place step = IsSound step.1 × HasSpelling step.0

sound_at : (place : Place) (doing : Doing) → AreSound place.rows → IsUnrefused doing → AsksIn place.area doing → (step : ItemValue × Place) → said_at place (next_said doing) ≡ Some step → StepsSound place step
sound_at place (Saying [] asks) rows spelled inside step e = absurd cc
sound_at place (Saying (x ∷ items) asks) rows spelled inside step e =
    let first : ItemValue × Place = (x, record place { sent = place.sent + count_one x; doing = going_on items asks }) in
    subst (StepsSound place) (same_some first step e)
    (record { rows = rows; goes_on = spelled_going_on items asks spelled.1; asks = in_going_on place.area items asks inside }, spelled.0)
sound_at place Replying rows spelled inside step e =
    let first : ItemValue × Place = (Bye, record place { sent = place.sent + 0; doing = Finished }) in
    subst (StepsSound place) (same_some first step e) (record { rows = rows; goes_on = tt; asks = tt }, tt)
sound_at place Beginning rows spelled inside step e = absurd cc
sound_at place (Hearing asks opens) rows spelled inside step e = absurd cc
sound_at place (HearingRows asks left read opens) rows spelled inside step e = absurd cc
sound_at place Parting rows spelled inside step e = absurd cc
sound_at place Finished rows spelled inside step e = absurd cc
sound_at place (Refused cause) rows spelled inside step e = absurd spelled

pub sound_said : (place next : Place) (item : ItemValue) → IsSound place → said place ≡ Some (item, next) → IsSound next × HasSpelling item
unfolding said
sound_said place next item sound e = sound_at place place.doing sound.rows sound.goes_on sound.asks (item, next) e

-- ---- what is heard

-- a row is in no more of some boxes than in one: each of them has no row but those of that one
in_one : (b c : Bool) (n : ℕ) → cond b 1 0 + n ≤ cond c 1 0 → b ≡ true → c ≡ true
in_one b true n h e = refl
in_one true false n h e = absurd (omega arith)
in_one false false n h e = absurd cc

module _ (version : ℕ) (area : Option Ranges) (rows : List RowValue) (sound : AreSound rows) where
  in_hearing : (ask : AskValue) (asks : List AskValue) (left : ℕ) (read : List RowValue) (opens : List AskValue) → IsIn area ask → AreIn area asks → AreIn area opens → AsksIn area (hearing_rows ask asks left read opens)
  in_hearing (rules.Print box print) asks zero read opens h mine others =
      (mine, all-append (IsIn area) opens (rules.Sent box read ∷ []) others (in_as area (rules.Print box print) (rules.Sent box read) (λ r e. e) h, tt))
  in_hearing (rules.Sent box sent) asks zero read opens h mine others = (mine, others)
  in_hearing (rules.Print box print) asks (suc left) read opens h mine others = ((h, mine), others)
  in_hearing (rules.Sent box sent) asks (suc left) read opens h mine others = ((h, mine), others)

  in_parts : (box : Ranges) (print lower upper : List ℕ) (at : CutAt) (opens : List AskValue) → can_cut box at ≡ true → IsIn area (rules.Print box print) → AreIn area opens
      → AreIn area (opens ++ rules.Print (lower_part box at) lower ∷ rules.Print (upper_part box at) upper ∷ [])
  in_parts box print lower upper at opens can h others =
      let low = λ (r : RowValue) (e : is_in (lower_part box at) r ≡ true). ((lower_part_has box at can r.entry.subspace r.entry.path r.entry.timestamp).0 e).0 in
      let up = λ (r : RowValue) (e : is_in (upper_part box at) r ≡ true). ((upper_part_has box at can r.entry.subspace r.entry.path r.entry.timestamp).0 e).0 in
      all-append (IsIn area) opens (rules.Print (lower_part box at) lower ∷ rules.Print (upper_part box at) upper ∷ []) others
      (in_as area (rules.Print box print) (rules.Print (lower_part box at) lower) low h, (in_as area (rules.Print box print) (rules.Print (upper_part box at) upper) up h, tt))

  -- the parts of a box, each with its fingerprint
  in_each : (box : Ranges) (print : List ℕ) (parts : List Ranges) (prints : List (List ℕ)) → ((r : RowValue) → boxes_with (sync_rules version) r parts ≤ cond (is_in box r) 1 0)
      → IsIn area (rules.Print box print) → AreIn area (part_asks parts prints)
  in_each box print [] prints few h = tt
  in_each box print (part ∷ parts) [] few h = tt
  in_each box print (part ∷ parts) (first ∷ prints) few h =
      let n = λ (r : RowValue). sum_by-cons (λ z. cond (is_in z r) 1 0) part parts in (
        in_as area (rules.Print box print) (rules.Print part first) (λ r e. in_one (is_in part r) (is_in box r) (boxes_with (sync_rules version) r parts) (omega (arith, few r, n r)) e) h,
        in_each box print parts prints (λ r. omega (arith, few r, n r)) h,
      )

  -- where a cut in parts is inside its box
  in_parted : (box : Ranges) (print : List ℕ) (points : List CutAt) (prints : List (List ℕ)) (asks opens : List AskValue) (d : Doing)
      → unless (cause_if (not (can_cut_at box points)) BadCut) (Hearing asks (opens ++ part_asks (parts_at box points) prints)) ≡ Ok d
      → IsIn area (rules.Print box print) → AreIn area asks → AreIn area opens → AsksIn area d × IsUnrefused d
  in_parted box print points prints asks opens d e h mine others =
      let same = unless_ok (cause_if (not (can_cut_at box points)) BadCut) (Hearing asks (opens ++ part_asks (parts_at box points) prints)) d e in (
        subst (AsksIn area) same (mine, all-append (IsIn area) opens (part_asks (parts_at box points) prints) others (in_each box print (parts_at box points) prints (disjoint version box points) h)),
        subst IsUnrefused same tt,
      )

  -- where a cut is inside its box
  in_cut : (box : Ranges) (print lower upper : List ℕ) (at : CutAt) (asks opens : List AskValue) (d : Doing) (b : Bool) → can_cut box at ≡ b
      → unless (cause_if (not b) BadCut) (Hearing asks (opens ++ rules.Print (lower_part box at) lower ∷ rules.Print (upper_part box at) upper ∷ [])) ≡ Ok d
      → IsIn area (rules.Print box print) → AreIn area asks → AreIn area opens → AsksIn area d
  in_cut box print lower upper at asks opens d true can e h mine others =
      subst (AsksIn area) (same_ok (Hearing asks (opens ++ rules.Print (lower_part box at) lower ∷ rules.Print (upper_part box at) upper ∷ [])) d e) (mine, in_parts box print lower upper at opens can h others)
  in_cut box print lower upper at asks opens d false can e h mine others = absurd (not_err d BadCut e)

  in_opened : (o : Option Ranges) (asks : List AskValue) → AreIn o asks → AreIn o (opened (sync_rules version) rows asks)
  in_opened None [] h = tt
  in_opened None (ask ∷ asks) h = absurd h.0
  in_opened (Some x) asks h = inside_as version x (opened (sync_rules version) rows asks) (opened_inside (sync_rules version) (disjoint version) x rows asks (as_inside version x asks h))

  -- what a sound side does then
  abbrev SoundThen : Doing → ItemValue → Result Doing CoreRefusal → Type 0
  SoundThen doing item r = (d : Doing) → r ≡ Ok d → AsksIn area doing → AsksIn area d × IsUnrefused d

  both : Doing → Type 0
  both d = AsksIn area d × IsUnrefused d

  spelled_hearing : (ask : AskValue) (asks : List AskValue) (left : ℕ) (read : List RowValue) (opens : List AskValue) → IsUnrefused (hearing_rows ask asks left read opens)
  spelled_hearing (rules.Print box print) asks zero read opens = tt
  spelled_hearing (rules.Sent box sent) asks zero read opens = tt
  spelled_hearing (rules.Print box print) asks (suc left) read opens = tt
  spelled_hearing (rules.Sent box sent) asks (suc left) read opens = tt

  spelled_cut : (box : Ranges) (lower upper : List ℕ) (at : CutAt) (asks opens : List AskValue) (d : Doing)
      → unless (cause_if (not (can_cut box at)) BadCut) (Hearing asks (opens ++ rules.Print (lower_part box at) lower ∷ rules.Print (upper_part box at) upper ∷ [])) ≡ Ok d → IsUnrefused d
  spelled_cut box lower upper at asks opens d e =
      subst IsUnrefused (unless_ok (cause_if (not (can_cut box at)) BadCut) (Hearing asks (opens ++ rules.Print (lower_part box at) lower ∷ rules.Print (upper_part box at) upper ∷ [])) d e) tt

  first_in : (box : Ranges) (print : List ℕ) (o : Option Ranges) → o ≡ Some box → IsIn o (rules.Print box print)
  first_in box print None e = absurd cc
  first_in box print (Some x) e = subst (λ y. IsIn (Some y) (rules.Print box print)) (sym (same_some x box e)) (λ r i. i)

  then_ok : (doing d : Doing) → AsksIn area doing → IsUnrefused doing → ◌≡◌ {A = Result Doing CoreRefusal} (Ok doing) (Ok d) → AsksIn area d × IsUnrefused d
  then_ok doing d h spelled e = let same = same_ok doing d e in (subst (AsksIn area) same h, subst IsUnrefused same spelled)

  sound_cases : AreCases version area rows SoundThen
  sound_cases = record {
    mismatch = λ doing item d e h. absurd (not_err d ItemMismatch e);
    first_bye = λ is d e h. then_ok Replying d tt tt e;
    first_print = λ box print is d e h. then_ok (Hearing [] (rules.Print box print ∷ [])) d (tt, (first_in box print area is, tt)) tt e;
    agree = λ box print asks opens d e h. then_ok (Hearing asks opens) d (h.0.1, h.1) tt e;
    split = λ box print asks opens at lower upper is d e h. (in_cut box print lower upper at asks opens d (can_cut box at) refl e h.0.0 h.0.1 h.1, spelled_cut box lower upper at asks opens d e);
    parts = λ box print asks opens points prints is d e h. in_parted box print points prints asks opens d e h.0.0 h.0.1 h.1;
    entries = λ box print asks opens count d e h.
        then_ok (hearing_rows (rules.Print box print) asks count [] opens) d (in_hearing (rules.Print box print) asks count [] opens h.0.0 h.0.1 h.1) (spelled_hearing (rules.Print box print) asks count [] opens) e;
    rest = λ box sent asks opens count d e h.
        then_ok (hearing_rows (rules.Sent box sent) asks count [] opens) d (in_hearing (rules.Sent box sent) asks count [] opens h.0.0 h.0.1 h.1) (spelled_hearing (rules.Sent box sent) asks count [] opens) e;
    row = λ ask asks left read opens row d e h.
        let next = hearing_rows ask asks (left - 1) (remembered ask read row) opens in
        let same = unless_ok (row_cause (box_of ask) read row) next d e in
        (subst (AsksIn area) same (in_hearing ask asks (left - 1) (remembered ask read row) opens h.0.0 h.0.1 h.1), subst IsUnrefused same (spelled_hearing ask asks (left - 1) (remembered ask read row) opens));
    last_bye = λ d e h. then_ok Replying d tt tt e;
    end_turn = λ ask asks d e h. then_ok (answering version rows (ask ∷ asks)) d (in_opened area (ask ∷ asks) h.1) (spelled_turn version rows sound.rise sound.few sound.framed (ask ∷ asks)) e;
    farewell = λ d e h. then_ok Finished d tt tt e;
  }

pub sound_heard : (place next : Place) (item : ItemValue) → IsSound place → heard place item ≡ Ok next → IsSound next
sound_heard place next item sound e =
    let to = heard_as place item next e in
    let then = by_cases place.version place.area place.rows (SoundThen place.version place.area place.rows sound.rows) (sound_cases place.version place.area place.rows sound.rows) place.doing item to.doing to.comes sound.asks in
    let made : IsSound (heard_to place item to.doing) = record { rows = sound.rows; goes_on = then.1; asks = then.0 } in
    subst IsSound (sym to.then) made

-- ---- the rows in the area

rows_again : (area : Option Ranges) (rows : List RowValue) → rows_of_area area (rows_of_area area rows) ≡ rows_of_area area rows
rows_again None rows = refl
rows_again (Some x) rows = filter_twice (is_in x) rows

most_again : (area : Option Ranges) (rows : List RowValue) → most_items area (rows_of_area area rows) ≡ most_items area rows
most_again area rows = ap (λ l. 3 * (length l + SNAPSHOT_MAX)) (rows_again area rows)

answering_again : (version : ℕ) (area : Option Ranges) (rows : List RowValue) (ask : AskValue) (asks : List AskValue) → AreIn area (ask ∷ asks) → answering version (rows_of_area area rows) (ask ∷ asks) ≡ answering version rows (ask ∷ asks)
answering_again version None rows ask asks h = absurd h.0
answering_again version (Some x) rows ask asks h =
    let same = filter_twice (is_in x) rows in
    ap₂ (λ (t : TurnValue) opens. saying version t opens)
    (turn_alike (sync_rules version) (disjoint version) x (rows_in x rows) rows same (ask ∷ asks) (as_inside version x (ask ∷ asks) h))
    (opened_alike (sync_rules version) (disjoint version) x (rows_in x rows) rows same (ask ∷ asks) (as_inside version x (ask ∷ asks) h))

end_again : (version : ℕ) (area : Option Ranges) (rows : List RowValue) (opens : List AskValue) (item : ItemValue) → AreIn area opens → end_heard version (rows_of_area area rows) opens item ≡ end_heard version rows opens item
end_again version area rows [] (First print) h = refl
end_again version area rows [] Agree h = refl
end_again version area rows [] (Split at lower upper) h = refl
end_again version area rows [] (Parts points prints) h = refl
end_again version area rows [] (Entries count) h = refl
end_again version area rows [] (Rest count) h = refl
end_again version area rows [] (Row row) h = refl
end_again version area rows [] EndTurn h = refl
end_again version area rows [] Bye h = refl
end_again version area rows (ask ∷ asks) (First print) h = refl
end_again version area rows (ask ∷ asks) Agree h = refl
end_again version area rows (ask ∷ asks) (Split at lower upper) h = refl
end_again version area rows (ask ∷ asks) (Parts points prints) h = refl
end_again version area rows (ask ∷ asks) (Entries count) h = refl
end_again version area rows (ask ∷ asks) (Rest count) h = refl
end_again version area rows (ask ∷ asks) (Row row) h = refl
end_again version area rows (ask ∷ asks) EndTurn h = ap Ok (answering_again version area rows ask asks h)
end_again version area rows (ask ∷ asks) Bye h = refl

next_again : (version : ℕ) (area : Option Ranges) (rows : List RowValue) (doing : Doing) (item : ItemValue) → AsksIn area doing → next_heard version area (rows_of_area area rows) doing item ≡ next_heard version area rows doing item
next_again version area rows (Saying items asks) item h = refl
next_again version area rows Replying item h = refl
next_again version area rows Beginning item h = refl
next_again version area rows (Hearing [] opens) item h = end_again version area rows opens item h.1
next_again version area rows (Hearing (ask ∷ asks) opens) item h = refl
next_again version area rows (HearingRows asks left read opens) item h = refl
next_again version area rows Parting item h = refl
next_again version area rows Finished item h = refl
next_again version area rows (Refused cause) item h = refl

-- what becomes of one that has just the rows of the area
abbrev pub all_within : Result Place CoreRefusal → Result Place CoreRefusal
all_within (Ok place) = Ok (within place)
all_within (Err cause) = Err cause

module _ (place : Place) (item : ItemValue) where
  either_ok : (b : Bool) (next : Place) (cause : CoreRefusal) → cond b (Ok (within next)) (Err cause) ≡ all_within (cond b (Ok next) (Err cause))
  either_ok true next cause = refl
  either_ok false next cause = refl

  either_err : (b : Bool) (one other : CoreRefusal) → cond b (Err one) (Err other) ≡ all_within (cond b (Err one) (Err other))
  either_err true one other = refl
  either_err false one other = refl

  abbrev few_enough : ℕ → Bool
  few_enough most = nat_le (items_with place item) most

  outcome_within : (r : Result Doing CoreRefusal) → heard_within (within place) item r ≡ all_within (heard_within place item r)
  outcome_within (Ok doing) =
      ap (λ most. cond (few_enough most) (Ok (within (heard_to place item doing))) (Err (TooManyItems (items_with place item)))) (most_again place.area place.rows)
      ∙ either_ok (few_enough (most_items place.area place.rows)) (heard_to place item doing) (TooManyItems (items_with place item))
  outcome_within (Err ItemMismatch) = refl
  outcome_within (Err BadCut) =
      ap (λ most. cond (few_enough most) (Err BadCut) (Err (TooManyItems (items_with place item)))) (most_again place.area place.rows) ∙ either_err (few_enough (most_items place.area place.rows)) BadCut (TooManyItems (items_with place item))
  outcome_within (Err EntryOutside) =
      ap (λ most. cond (few_enough most) (Err EntryOutside) (Err (TooManyItems (items_with place item)))) (most_again place.area place.rows)
      ∙ either_err (few_enough (most_items place.area place.rows)) EntryOutside (TooManyItems (items_with place item))
  outcome_within (Err RowsOutOfOrder) =
      ap (λ most. cond (few_enough most) (Err RowsOutOfOrder) (Err (TooManyItems (items_with place item)))) (most_again place.area place.rows)
      ∙ either_err (few_enough (most_items place.area place.rows)) RowsOutOfOrder (TooManyItems (items_with place item))
  outcome_within (Err (TooManyItems n)) =
      ap (λ most. cond (few_enough most) (Err (TooManyItems n)) (Err (TooManyItems (items_with place item)))) (most_again place.area place.rows)
      ∙ either_err (few_enough (most_items place.area place.rows)) (TooManyItems n) (TooManyItems (items_with place item))

  -- a side that has just the rows of the area hears as one that has others too
  pub heard_alike : IsSound place → heard (within place) item ≡ all_within (heard place item)
  unfolding heard
  heard_alike sound = ap (heard_within (within place) item) (next_again place.version place.area place.rows place.doing item sound.asks) ∙ outcome_within (next_heard place.version place.area place.rows place.doing item)

-- ---- what is said

abbrev step_within : ItemValue × Place → ItemValue × Place
step_within step = (step.0, within step.1)

said_alike : (place : Place) → said (within place) ≡ option_map step_within (said place)
unfolding said
said_alike place = by_next (next_said place.doing)
  where
    by_next : (o : Option (ItemValue × Doing)) → said_at (within place) o ≡ option_map step_within (said_at place o)
    by_next None = refl
    by_next (Some step) = refl

says_alike : (n : ℕ) (place : Place) → says n (within place) ≡ ((says n place).0, within (says n place).1)
unfolding says
says_alike zero place = refl
says_alike (suc n) place = ap (said_from (says n) (within place)) (said_alike place) ∙ by_next (says_alike n) (said place)
  where
    by_next : ((next : Place) → says n (within next) ≡ ((says n next).0, within (says n next).1)) → (o : Option (ItemValue × Place))
        → said_from (says n) (within place) (option_map step_within o) ≡ ((said_from (says n) place o).0, within (said_from (says n) place o).1)
    by_next later None = refl
    by_next later (Some step) = ap (λ run. (step.0 ∷ run.0, run.1)) (later step.1)

-- and says the same
pub says_all_alike : (place : Place) → says_all (within place) ≡ ((says_all place).0, within (says_all place).1)
says_all_alike place = says_alike (left_to_say place.doing) place
