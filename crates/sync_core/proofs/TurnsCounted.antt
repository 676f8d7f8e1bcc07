-- A side that hears items, with their number.
use Rattle.std.proofs.Common.{◌≡◌, ℕ, ◌+◌, ◌≤◌, Bool, true, false, cond, List, [], ◌∷◌, nat_le, Option, Some, None, Result, Ok, Err, refl, sym, ap, ap₂, ◌∙◌, subst, arith}
use Rattle.std.specs.Prelude.{IsErr}
use Rattle.std.proofs.lemmas.Bool.{le-leb}
use Rattle.exchange_rules.specs.AnyPeer as peer
use Rattle.exchange_rules.specs.Items as rules
use Rattle.willow_area.specs.Boxes.{Ranges}
use Rattle.sync_msg.specs.Items.{ItemValue}
use Rattle.sync_msg.specs.declared.item.Item.TheVariants.{Bye}
use Rattle.sync_msg.specs.declared.refusal.CoreRefusal.{CoreRefusal}
use Rattle.sync_msg.specs.declared.refusal.CoreRefusal.TheVariants.{BadCut, ItemMismatch, EntryOutside, RowsOutOfOrder, TooManyItems}
use Rattle.sync_core.specs.SyncRules.{sync_rules}
use Rattle.sync_core.specs.Flat.{AskValue, TurnValue, turn_items, IsToldTurn}
use Rattle.sync_core.specs.Place.{Doing, Replying, Beginning, Hearing, Parting, Finished, Place, most_items}
use Rattle.sync_core.specs.Steps.{count_one, first_heard, next_heard, items_with, heard_within, heard}
use Rattle.sync_core.specs.Held.{to_count}
use Rattle.sync_core.specs.Runs.{heard_from, hears, HasRoom, replying, place_behind}
use Rattle.sync_core.proofs.HeardTurns.{next_all, DoesOpen, does_turn, does_first}

-- the place of a side that has read so many more counted items
abbrev read_more : Place → ℕ → Doing → Place
read_more place n doing = record place { read = place.read + n; doing = doing }

-- an item that may come
may_come : (place : Place) (item : ItemValue) (doing : Doing) → items_with place item ≤ most_items place.area place.rows → heard_within place item (Ok doing) ≡ Ok (read_more place (count_one item) doing)
may_come place item doing few =
    ap (λ b. cond b (Ok (read_more place (count_one item) doing)) (Err (TooManyItems (items_with place item)))) (le-leb (items_with place item) (most_items place.area place.rows) few)

-- where no more are counted than may be, a side does what it does but for their number
hears_counted : (place : Place) (items : List ItemValue) (doing : Doing) → next_all place.version place.area place.rows place.doing items ≡ Ok doing → place.sent + place.read + to_count items ≤ most_items place.area place.rows
    → hears place items ≡ Ok (read_more place (to_count items) doing)
unfolding hears next_all heard
hears_counted place [] doing e few =
    let same : place.doing ≡ doing = cc in
    let none : place.read ≡ place.read + 0 = omega arith in
    ap₂ (λ n d. Ok (record place { read = n; doing = d })) none same
hears_counted place (item ∷ items) doing e few = by_first (next_heard place.version place.area place.rows place.doing item) e (λ then. hears_counted then items doing)
  where
    by_first : (o : Result Doing CoreRefusal) → heard_from (λ d. next_all place.version place.area place.rows d items) o ≡ Ok doing
        → ((then : Place) → next_all then.version then.area then.rows then.doing items ≡ Ok doing → then.sent + then.read + to_count items ≤ most_items then.area then.rows → hears then items ≡ Ok (read_more then (to_count items) doing))
        → heard_from (λ p. hears p items) (heard_within place item o) ≡ Ok (read_more place (to_count (item ∷ items)) doing)
    by_first (Err cause) h later = absurd cc
    by_first (Ok next) h later =
        let sum : place.read + count_one item + to_count items ≡ place.read + to_count (item ∷ items) = omega arith in
        ap (heard_from (λ p. hears p items)) (may_come place item next (omega arith))
        ∙ later (read_more place (count_one item) next) h (omega arith)
        ∙ ap (λ n. Ok (record place { read = n; doing = doing })) sum

-- ---- what is refused

either_err : (b : Bool) (one other : CoreRefusal) → IsErr {T = Place} (cond b (Err one) (Err other))
either_err true one other = refl
either_err false one other = refl

refused_by : (place : Place) (item : ItemValue) (cause : CoreRefusal) → IsErr (heard_within place item (Err cause))
refused_by place item ItemMismatch = refl
refused_by place item BadCut = either_err (nat_le (items_with place item) (most_items place.area place.rows)) BadCut (TooManyItems (items_with place item))
refused_by place item EntryOutside = either_err (nat_le (items_with place item) (most_items place.area place.rows)) EntryOutside (TooManyItems (items_with place item))
refused_by place item RowsOutOfOrder = either_err (nat_le (items_with place item) (most_items place.area place.rows)) RowsOutOfOrder (TooManyItems (items_with place item))
refused_by place item (TooManyItems n) = either_err (nat_le (items_with place item) (most_items place.area place.rows)) (TooManyItems n) (TooManyItems (items_with place item))

err_behind : (behind : Place → Result Place CoreRefusal) (r : Result Place CoreRefusal) → IsErr r → IsErr (heard_from behind r)
err_behind behind (Ok place) e = absurd cc
err_behind behind (Err cause) e = refl

-- where an item is refused whatever their number, an item is refused
hears_refused : (place : Place) (items : List ItemValue) → IsErr (next_all place.version place.area place.rows place.doing items) → IsErr (hears place items)
unfolding hears next_all heard
hears_refused place [] e = absurd cc
hears_refused place (item ∷ items) e = by_first (next_heard place.version place.area place.rows place.doing item) e (λ then. hears_refused then items)
  where
    counted : (b : Bool) (then : Place) → IsErr (hears then items) → IsErr (heard_from (λ p. hears p items) (cond b (Ok then) (Err (TooManyItems (items_with place item)))))
    counted true then h = h
    counted false then h = refl

    by_first : (o : Result Doing CoreRefusal) → IsErr (heard_from (λ d. next_all place.version place.area place.rows d items) o) → ((then : Place) → IsErr (next_all then.version then.area then.rows then.doing items) → IsErr (hears then items))
        → IsErr (heard_from (λ p. hears p items) (heard_within place item o))
    by_first (Err cause) h later = err_behind (λ p. hears p items) (heard_within place item (Err cause)) (refused_by place item cause)
    by_first (Ok next) h later =
        let then = read_more place (count_one item) next in
        counted (nat_le (items_with place item) (most_items place.area place.rows)) then (later then h)

-- ---- turns

-- what a side does that hears a turn is what the turn opens
module _ (place : Place) (t : TurnValue) (o : Option (List AskValue)) (does : DoesOpen place.version place.area place.rows (replying place.version place.rows) o (next_all place.version place.area place.rows place.doing (turn_items place.version t))) where
  answers_opened : (opens : List AskValue) → o ≡ Some opens → HasRoom place t → hears place (turn_items place.version t) ≡ Ok (place_behind place t opens)
  answers_opened opens is room =
      hears_counted place (turn_items place.version t) (replying place.version place.rows opens)
      (subst (λ x. DoesOpen place.version place.area place.rows (replying place.version place.rows) x (next_all place.version place.area place.rows place.doing (turn_items place.version t))) is does) room

  refuses_turn : o ≡ None → IsErr (hears place (turn_items place.version t))
  refuses_turn is =
      hears_refused place (turn_items place.version t) (subst (λ x. DoesOpen place.version place.area place.rows (replying place.version place.rows) x (next_all place.version place.area place.rows place.doing (turn_items place.version t))) is does)

module _ (place : Place) (t : TurnValue) (told : IsToldTurn place.version t) where
  -- a side that hears the answers to some asks
  module _ (asks : List AskValue) (is : place.doing ≡ Hearing asks []) where
    does_hearing : DoesOpen place.version place.area place.rows (replying place.version place.rows) (peer.heard (sync_rules place.version) asks t) (next_all place.version place.area place.rows place.doing (turn_items place.version t))
    does_hearing =
        subst (λ d. DoesOpen place.version place.area place.rows (replying place.version place.rows) (peer.heard (sync_rules place.version) asks t) (next_all place.version place.area place.rows d (turn_items place.version t))) (sym is) (does_turn place.version place.area place.rows asks t told)

    pub hears_turn : (opens : List AskValue) → peer.heard (sync_rules place.version) asks t ≡ Some opens → HasRoom place t → hears place (turn_items place.version t) ≡ Ok (place_behind place t opens)
    hears_turn = answers_opened place t (peer.heard (sync_rules place.version) asks t) does_hearing

    pub refused_turn : peer.heard (sync_rules place.version) asks t ≡ None → IsErr (hears place (turn_items place.version t))
    refused_turn = refuses_turn place t (peer.heard (sync_rules place.version) asks t) does_hearing

  -- one that has read nothing yet, and has an area
  module _ (box : Ranges) (is : place.doing ≡ Beginning) (of : place.area ≡ Some box) where
    does_beginning : DoesOpen place.version place.area place.rows (replying place.version place.rows) (peer.first_opens box t.items t.ends_with_bye) (next_all place.version place.area place.rows place.doing (turn_items place.version t))
    does_beginning =
        let P : Option Ranges → Doing → Type 0 = λ a d. DoesOpen place.version a place.rows (replying place.version place.rows) (peer.first_opens box t.items t.ends_with_bye) (next_all place.version a place.rows d (turn_items place.version t)) in
        subst (λ d. P place.area d) (sym is) (subst (λ a. P a Beginning) (sym of) (does_first place.version box place.rows t told))

    pub hears_first : (opens : List AskValue) → peer.first_opens box t.items t.ends_with_bye ≡ Some opens → HasRoom place t → hears place (turn_items place.version t) ≡ Ok (place_behind place t opens)
    hears_first = answers_opened place t (peer.first_opens box t.items t.ends_with_bye) does_beginning

    pub refused_first : peer.first_opens box t.items t.ends_with_bye ≡ None → IsErr (hears place (turn_items place.version t))
    refused_first = refuses_turn place t (peer.first_opens box t.items t.ends_with_bye) does_beginning

-- a farewell alone, where the side does something in which it may come
module _ (place : Place) (room : HasRoom place rules.bye) where
  hears_bye : (doing next : Doing) → place.doing ≡ doing → next_heard place.version place.area place.rows doing Bye ≡ Ok next → hears place (turn_items place.version rules.bye) ≡ Ok (read_more place 0 next)
  unfolding next_all
  hears_bye doing next is e =
      hears_counted place (turn_items place.version rules.bye) next (ap (λ d. heard_from (λ x. Ok x) (next_heard place.version place.area place.rows d Bye)) is ∙ ap (heard_from (λ x. Ok x)) e) room

  pub hears_first_bye : place.doing ≡ Beginning → place.area ≡ None → hears place (turn_items place.version rules.bye) ≡ Ok (place_behind place rules.bye [])
  hears_first_bye is none = hears_bye Beginning Replying is (ap (λ o. first_heard o Bye) none)

  pub hears_last_bye : place.doing ≡ Parting → hears place (turn_items place.version rules.bye) ≡ Ok (record place { doing = Finished })
  hears_last_bye is =
      let none : place.read + 0 ≡ place.read = omega arith in
      hears_bye Parting Finished is refl ∙ ap (λ r. Ok (record place { read = r; doing = Finished })) none
