-- What two sides say and hear, taken apart item by item and turn by turn.
use Rattle.std.proofs.Common.{◌≡◌, ℕ, zero, suc, ◌+◌, Bool, true, false, cond, List, [], ◌∷◌, ◌++◌, length, flat_map, nat_le, Option, Some, None, Result, Ok, Err, refl, sym, ap, ◌∙◌, subst, arith}
use Rattle.std.specs.Prelude.{IsOk, IsOkAnd, is_ok}
use Rattle.std.proofs.lemmas.Option.{same_Some}
use Rattle.willow_entry.specs.Row.{RowValue}
use Rattle.sync_msg.specs.Items.{ItemValue}
use Rattle.sync_msg.specs.declared.item.Item.TheVariants.{EndTurn, Bye}
use Rattle.sync_msg.specs.declared.refusal.CoreRefusal.{CoreRefusal}
use Rattle.sync_msg.specs.declared.refusal.CoreRefusal.TheVariants.{BadCut, ItemMismatch, EntryOutside, RowsOutOfOrder, TooManyItems}
use Rattle.sync_core.specs.declared.stage.Stage.{Stage}
use Rattle.sync_core.specs.declared.stage.Stage.TheVariants as stage
use Rattle.sync_core.specs.Flat.{AskValue, TurnValue, items_of, turn_items}
use Rattle.sync_core.specs.Place.{Doing, Saying, Replying, Beginning, Hearing, HearingRows, Parting, Finished, Refused, Place, most_items, stage_of}
use Rattle.sync_core.specs.Steps.{count_one, going_on, next_said, said_at, said, next_heard, items_with, heard_within, heard}
use Rattle.sync_core.specs.Held.{to_count}
use Rattle.sync_core.specs.Runs.{with_item, said_from, says, left_to_say, says_all, heard_from, hears, SayTurns}

-- ---- what is said

-- what is said begins with an item, and goes on with what is said behind it
pub record SaysFirst (place next : Place) (item : ItemValue) : Type 0 where
  pub all : says_all place ≡ with_item item (says_all next)
  pub fewer : left_to_say place.doing ≡ left_to_say next.doing + 1
  pub rows : next.rows ≡ place.rows
  pub version : next.version ≡ place.version

left-going_on : (items : List ItemValue) (asks : List AskValue) → left_to_say (going_on items asks) ≡ length items
left-going_on [] [] = refl
left-going_on [] (ask ∷ asks) = refl
left-going_on (item ∷ items) asks = refl

pub says_first : (place next : Place) (item : ItemValue) → said place ≡ Some (item, next) → SaysFirst place next item
unfolding says said
says_first place next item e = by_doing place.doing refl e
  where
    -- a step to where so many items are left
    step : (n : ℕ) (first : ItemValue) (then : Place) → left_to_say place.doing ≡ suc n → said place ≡ Some (first, then) → left_to_say then.doing ≡ n → then.rows ≡ place.rows → then.version ≡ place.version → SaysFirst place then first
    step n first then left is more same spoken =
        record {
          all = ap (λ k. says k place) left ∙ ap (said_from (says n) place) is ∙ ap (λ k. with_item first (says k then)) (sym more);
          fewer = omega (arith, left, more);
          rows = same;
          version = spoken;
        }

    of_pair : (one other : ItemValue × Place) → one ≡ other → SaysFirst place one.1 one.0 → SaysFirst place other.1 other.0
    of_pair one other e h = subst (λ (p : ItemValue × Place). SaysFirst place p.1 p.0) e h

    by_doing : (d : Doing) → place.doing ≡ d → said_at place (next_said d) ≡ Some (item, next) → SaysFirst place next item
    by_doing (Saying [] asks) is h = absurd cc
    by_doing (Saying (first ∷ items) asks) is h =
        let then : Place = record place { sent = place.sent + count_one first; doing = going_on items asks } in
        of_pair (first, then) (item, next) (same_Some (first, then) (item, next) h)
        (step (length items) first then (ap left_to_say is) (ap (λ d. said_at place (next_said d)) is) (left-going_on items asks) refl refl)
    by_doing Replying is h =
        let then : Place = record place { sent = place.sent + count_one {R = RowValue} Bye; doing = Finished } in
        of_pair (Bye, then) (item, next) (same_Some (Bye, then) (item, next) h)
        (step 0 Bye then (ap left_to_say is) (ap (λ d. said_at place (next_said d)) is) refl refl refl)
    by_doing Beginning is h = absurd cc
    by_doing (Hearing asks opens) is h = absurd cc
    by_doing (HearingRows asks left read opens) is h = absurd cc
    by_doing Parting is h = absurd cc
    by_doing Finished is h = absurd cc
    by_doing (Refused cause) is h = absurd cc

-- a side that is not to write says nothing
pub says_nothing : (place : Place) → (stage_of place.doing ≡ stage.Writing → ⊥) → says_all place ≡ ([], place)
unfolding says
says_nothing place silent = by_doing place.doing silent
  where
    by_doing : (d : Doing) → (stage_of d ≡ stage.Writing → ⊥) → says (left_to_say d) place ≡ ([], place)
    by_doing (Saying items asks) h = absurd (h refl)
    by_doing Replying h = absurd (h refl)
    by_doing Beginning h = refl
    by_doing (Hearing asks opens) h = refl
    by_doing (HearingRows asks left read opens) h = refl
    by_doing Parting h = refl
    by_doing Finished h = refl
    by_doing (Refused cause) h = refl

-- the counted items that are said are sent
pub record SaysCounted (place : Place) (run : List ItemValue × Place) : Type 0 where
  pub sent : run.1.sent ≡ place.sent + to_count run.0
  pub read : run.1.read ≡ place.read

says_so_many : (most : ℕ) (place : Place) → SaysCounted place (says most place)
unfolding says said
says_so_many zero place = record { sent = omega arith; read = refl }
says_so_many (suc most) place = by_next (next_said place.doing) (says_so_many most)
  where
    by_next : (o : Option (ItemValue × Doing)) → ((then : Place) → SaysCounted then (says most then)) → SaysCounted place (said_from (says most) place (said_at place o))
    by_next None rest = record { sent = omega arith; read = refl }
    by_next (Some step) rest =
        let then : Place = record place { sent = place.sent + count_one step.0; doing = step.1 } in
        let h = rest then in
        record { sent = omega (arith, h.sent); read = h.read }

pub says_counted : (place : Place) → SaysCounted place (says_all place)
says_counted place = says_so_many (left_to_say place.doing) place

-- ---- what is heard

-- the first item is heard, and what follows is heard behind it
pub record TakesFirst (place : Place) (item : ItemValue) (items : List ItemValue) : Type 0 where
  pub next : Place
  pub first : heard place item ≡ Ok next
  pub rest : hears place (item ∷ items) ≡ hears next items

pub hears_first_item : (place : Place) (item : ItemValue) (items : List ItemValue) → IsOk (hears place (item ∷ items)) → TakesFirst place item items
unfolding hears
hears_first_item place item items ok = by_first (heard place item) refl ok
  where
    by_first : (o : Result Place CoreRefusal) → heard place item ≡ o → IsOk (heard_from (λ p. hears p items) o) → TakesFirst place item items
    by_first (Ok next) is h = record { next = next; first = is; rest = ap (heard_from (λ p. hears p items)) is }
    by_first (Err cause) is h = absurd cc

-- a side that hears an item is to read
pub reads_to_hear : (place : Place) (item : ItemValue) → IsOk (heard place item) → stage_of place.doing ≡ stage.Reading
unfolding heard
reads_to_hear place item ok = by_doing place.doing ok
  where
    by_doing : (d : Doing) → IsOk (heard_within place item (next_heard place.version place.area place.rows d item)) → stage_of d ≡ stage.Reading
    by_doing (Saying items asks) h = absurd cc
    by_doing Replying h = absurd cc
    by_doing Beginning h = refl
    by_doing (Hearing asks opens) h = refl
    by_doing (HearingRows asks left read opens) h = refl
    by_doing Parting h = refl
    by_doing Finished h = absurd cc
    by_doing (Refused cause) h = absurd cc

-- the counted items that are heard are read
pub record HearsCounted (place : Place) (n : ℕ) (next : Place) : Type 0 where
  pub sent : next.sent ≡ place.sent
  pub read : next.read ≡ place.read + n

one_counted : (place next : Place) (item : ItemValue) → heard place item ≡ Ok next → HearsCounted place (count_one item) next
unfolding heard
one_counted place next item e = by_next (next_heard place.version place.area place.rows place.doing item) e
  where
    refused_if : (b : Bool) (one other : CoreRefusal) → ◌≡◌ {A = Result Place CoreRefusal} (cond b (Err one) (Err other)) (Ok next) → ⊥
    refused_if true one other h = cc
    refused_if false one other h = cc

    taken_if : (b : Bool) (doing : Doing) → ◌≡◌ {A = Result Place CoreRefusal} (cond b (Ok (record place { read = place.read + count_one item; doing = doing })) (Err (TooManyItems (items_with place item)))) (Ok next) → HearsCounted place (count_one item) next
    taken_if true doing h =
        let is : record place { read = place.read + count_one item; doing = doing } ≡ next = cc in
        record { sent = sym (ap (λ p. p.sent) is); read = sym (ap (λ p. p.read) is) }
    taken_if false doing h = absurd cc

    by_next : (o : Result Doing CoreRefusal) → heard_within place item o ≡ Ok next → HearsCounted place (count_one item) next
    by_next (Ok doing) h = taken_if (nat_le (items_with place item) (most_items place.area place.rows)) doing h
    by_next (Err ItemMismatch) h = absurd cc
    by_next (Err BadCut) h = absurd (refused_if (nat_le (items_with place item) (most_items place.area place.rows)) BadCut (TooManyItems (items_with place item)) h)
    by_next (Err EntryOutside) h = absurd (refused_if (nat_le (items_with place item) (most_items place.area place.rows)) EntryOutside (TooManyItems (items_with place item)) h)
    by_next (Err RowsOutOfOrder) h = absurd (refused_if (nat_le (items_with place item) (most_items place.area place.rows)) RowsOutOfOrder (TooManyItems (items_with place item)) h)
    by_next (Err (TooManyItems n)) h = absurd (refused_if (nat_le (items_with place item) (most_items place.area place.rows)) (TooManyItems n) (TooManyItems (items_with place item)) h)

pub hears_counted_items : (place next : Place) (items : List ItemValue) → hears place items ≡ Ok next → HearsCounted place (to_count items) next
unfolding hears
hears_counted_items place next [] e =
    let is : place ≡ next = cc in
    record { sent = sym (ap (λ p. p.sent) is); read = omega (arith, ap (λ p. p.read) is) }
hears_counted_items place next (item ∷ items) e = by_first (heard place item) refl e (λ then. hears_counted_items then next items)
  where
    by_first : (o : Result Place CoreRefusal) → heard place item ≡ o → heard_from (λ p. hears p items) o ≡ Ok next → ((then : Place) → hears then items ≡ Ok next → HearsCounted then (to_count items) next)
        → HearsCounted place (to_count (item ∷ items)) next
    by_first (Err cause) is h later = absurd cc
    by_first (Ok then) is h later =
        let first = one_counted place then item is in
        let rest = later then h in
        record { sent = rest.sent ∙ first.sent; read = omega (arith, first.read, rest.read) }

-- ---- turns

-- a turn has an item at least, its end
record HasItem (items : List ItemValue) : Type 0 where
  first : ItemValue
  rest : List ItemValue
  all : items ≡ first ∷ rest

some_item : (items : List ItemValue) (end : ItemValue) → HasItem (items ++ end ∷ [])
some_item [] end = record { first = end; rest = []; all = refl }
some_item (item ∷ items) end = record { first = item; rest = items ++ end ∷ []; all = refl }

turn_item : (version : ℕ) (t : TurnValue) → HasItem (turn_items version t)
turn_item version t = some_item (flat_map (items_of version) t.items) (cond t.ends_with_bye Bye EndTurn)

-- two sides of which one says a turn and the other hears it
pub record SaysTurn (t : TurnValue) (ts : List TurnValue) (writer reader : Place) : Type 0 where
  pub says : (says_all writer).0 ≡ turn_items writer.version t
  pub next : Place
  pub hears : hears reader (turn_items writer.version t) ≡ Ok next
  pub rest : SayTurns ts next (says_all writer).1
  pub writes : stage_of writer.doing ≡ stage.Writing
  pub reads : stage_of reader.doing ≡ stage.Reading

pub says_turn_first : (t : TurnValue) (ts : List TurnValue) (writer reader : Place) → SayTurns (t ∷ ts) writer reader → SaysTurn t ts writer reader
unfolding SayTurns
says_turn_first t ts writer reader h = by_heard (hears reader (turn_items writer.version t)) refl h.1
  where
    one : HasItem (turn_items writer.version t)
    one = turn_item writer.version t

    ok_from : (o : Result Place CoreRefusal) (next : Place) → o ≡ Ok next → IsOk o
    ok_from o next e = ap is_ok e

    writing : stage_of writer.doing ≡ stage.Writing
    writing = by_stage (stage_of writer.doing) refl
      where
        none : (stage_of writer.doing ≡ stage.Writing → ⊥) → ⊥
        none silent =
            let empty : (says_all writer).0 ≡ [] = ap (λ r. r.0) (says_nothing writer silent) in
            let some : [] ≡ one.first ∷ one.rest = sym empty ∙ h.0 ∙ one.all in
            cc

        by_stage : (s : Stage) → stage_of writer.doing ≡ s → stage_of writer.doing ≡ stage.Writing
        by_stage stage.Writing is = is
        by_stage stage.Reading is = absurd (none (λ w. let no : stage.Reading ≡ stage.Writing = sym is ∙ w in cc))
        by_stage stage.Done is = absurd (none (λ w. let no : stage.Done ≡ stage.Writing = sym is ∙ w in cc))
        by_stage stage.Refused is = absurd (none (λ w. let no : stage.Refused ≡ stage.Writing = sym is ∙ w in cc))

    by_heard : (o : Result Place CoreRefusal) → hears reader (turn_items writer.version t) ≡ o → IsOkAnd o (λ next. SayTurns ts next (says_all writer).1) → SaysTurn t ts writer reader
    by_heard (Err cause) is rest = absurd rest
    by_heard (Ok next) is rest =
        let heard_one = hears_first_item reader one.first one.rest (ok_from (hears reader (one.first ∷ one.rest)) next (ap (hears reader) (sym one.all) ∙ is)) in
        record {
          says = h.0;
          next = next;
          hears = is;
          rest = rest;
          writes = writing;
          reads = reads_to_hear reader one.first (ok_from (heard reader one.first) heard_one.next heard_one.first);
        }
