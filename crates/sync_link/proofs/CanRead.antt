-- Each side of an exchange can read the items of the other's turns.
use Rattle.std.proofs.Common.{◌≡◌, ℕ, Bool, true, false, cond, List, [], ◌∷◌, ◌++◌, flat_map, Option, Some, None, Ok, refl, sym, ap, ◌∙◌, subst}
use Rattle.std.specs.List.{AllByRecursion}
use Rattle.willow_area.specs.Boxes.{Ranges}
use Rattle.willow_entry.specs.Row.{RowValue}
use Rattle.exchange_rules.specs.Items.{bye, caller_turns, answerer_turns}
use Rattle.exchange_rules.specs.Exchange.{exchange, first_turn, first_asks}
use Rattle.exchange_rules.proofs.Potentials.{caller_turns-cons}
use Rattle.sync_msg.specs.Items.{ItemValue, item_spelling}
use Rattle.sync_msg.specs.declared.role.Role.TheVariants as roles
use Rattle.sync_msg.specs.declared.refusal.CoreRefusal.{CoreRefusal}
use Rattle.sync_core.specs.SyncRules.{IsVersion, sync_rules}
use Rattle.sync_core.specs.Flat.{TurnValue, turn_items}
use Rattle.sync_core.specs.Place.{Place, first_place}
use Rattle.sync_core.specs.Runs.{says_all, SayTurns}
use Rattle.sync_core.specs.Runs.{hears as hears_of}
use Rattle.sync_core.proofs.OneByOne.{says_nothing, says_turn_first}
use Rattle.sync_core.proofs.TwoSides.{says_whole, say_exchange}
use Rattle.session_rules.specs.Machine.{Machine}
use Rattle.session_rules.specs.Reading.{Stand, Waits, Over, run, stepped}
use Rattle.session_rules.specs.Messages.{taken, CanReadAll}
use Rattle.session_rules.specs.Talk as talk
use Rattle.session_rules.specs.Talk.{answered}
use Rattle.session_rules.specs.Turns.{CanReadTurns}
use Rattle.sync_link.specs.Greetings.{Agreement}
use Rattle.sync_link.specs.Places.{has_finished, places}
use Rattle.sync_link.proofs.Speaking.{spoken_as, version_spoken}
use Rattle.sync_link.proofs.Heard.{IsReadable, rows_told, side, reads_all, heard_version}
use Rattle.sync_link.proofs.TakingTurns.{by_items, hears_some, some_items}
use Rattle.sync_link.proofs.ReadingTurns.{AreSent, AreReadableTurns, readable_exchange}

abbrev Side : Type 0
Side = Machine Place ItemValue ItemValue RowValue CoreRefusal

-- ---- items one after the other

can_append : (a : Side) (q : Stand Place CoreRefusal) (items more : List ItemValue) → CanReadAll a item_spelling q items → CanReadAll a item_spelling (run (taken a item_spelling) q items).stand more → CanReadAll a item_spelling q (items ++ more)
unfolding run
can_append a q [] more can later = later
can_append a q (item ∷ items) more can later = (can.0, can_append a (taken a item_spelling q item).stand items more can.1 later)

over_reads : (a : Side) (items : List ItemValue) → CanReadAll a item_spelling Over items
over_reads a [] = tt
over_reads a (item ∷ items) = (tt, over_reads a items)

-- ---- turns

abbrev flat : ℕ → List TurnValue → List ItemValue
flat version ts = flat_map (turn_items version) ts

-- how a side stands at a place behind what it said
abbrev stands_at : ℕ → Place → Stand Place CoreRefusal
stands_at at place = cond (has_finished place.doing) Over (Waits place at [])

stand_is : (at : ℕ) (b : Bool) (spoken : List ItemValue × Place) (rows : List RowValue) → (stepped at (answered {G = CoreRefusal} b spoken rows)).stand ≡ cond b Over (Waits spoken.1 at [])
stand_is at true spoken rows = refl
stand_is at false spoken rows = refl

-- what a side begins with, as which it takes turns
record Begun : Type 0 where
  role : talk.Role
  rows : List RowValue
  agreed : Agreement

abbrev side_with : Begun → Side
side_with b = side b.role b.rows b.agreed

-- Of two sides of a version that say some turns to each other the one that hears the first reads every other from there on, and the
-- one that says it the rest.
record Reads (version : ℕ) (ts : List TurnValue) (says hears : Begun) (writer reader : Place) : Type 0 where
  hearing : (at : ℕ) → CanReadAll (side_with hears) item_spelling (Waits reader at []) (flat version (caller_turns ts))
  saying : (at : ℕ) → CanReadAll (side_with says) item_spelling (stands_at at (says_all writer).1) (flat version (answerer_turns ts))

module _ (version : ℕ) where
  over_or_on : (says : Begun) (writer : Place) (items : List ItemValue) (at : ℕ) (b : Bool) → ((at : ℕ) → CanReadAll (side_with says) item_spelling (Waits (says_all writer).1 at []) items)
      → CanReadAll (side_with says) item_spelling (cond b Over (Waits (says_all writer).1 at [])) items
  over_or_on says writer items at true later = over_reads (side_with says) items
  over_or_on says writer items at false later = later at

  read_turns : (ts : List TurnValue) (says hears : Begun) (writer reader : Place) → writer.version ≡ version → reader.version ≡ version → SayTurns ts writer reader → AreReadableTurns version ts → Reads version ts says hears writer reader
  read_turns [] says hears writer reader mine other say fit = record { hearing = λ at. tt; saying = λ at. tt }
  read_turns (t ∷ ts) says hears writer reader mine other say fit =
      let first = says_turn_first t ts writer reader say in
      let items = turn_items version t in
      let heard_all : hears_of reader items ≡ Ok first.next = subst (λ v. hears_of reader (turn_items v t) ≡ Ok first.next) mine first.hears in
      let then = read_turns ts hears says first.next (says_all writer).1 (heard_version reader first.next items heard_all ∙ other) (version_spoken writer ∙ mine) first.rest fit.1 in
      let readable : AllByRecursion (IsReadable reader.version) items = subst (λ v. AllByRecursion (IsReadable v) items) (sym other) fit.0 in
      record {
        hearing = λ at.
            let told = hears_some hears.role hears.rows hears.agreed reader first.next at items (some_items hears.role hears.rows hears.agreed version t) heard_all in
            let ends = ap (λ m. m.stand) told.1 ∙ stand_is told.0 (has_finished (says_all first.next).1.doing) (says_all first.next) (rows_told items) in
            subst (λ l. CanReadAll (side_with hears) item_spelling (Waits reader at []) (flat version l)) (sym (caller_turns-cons t ts))
            (can_append (side_with hears) (Waits reader at []) items (flat version (answerer_turns ts))
            (reads_all hears.role hears.rows hears.agreed reader first.next at items heard_all readable)
            (subst (λ q. CanReadAll (side_with hears) item_spelling q (flat version (answerer_turns ts))) (sym ends) (then.saying told.0)));
        saying = λ at. over_or_on says writer (flat version (caller_turns ts)) at (has_finished (says_all writer).1.doing) then.hearing;
      }

-- ---- the exchange

module _ (version : ℕ) (is : IsVersion version) (rows others : List RowValue) (own : AreSent rows) (theirs : AreSent others) where
  goes_on_from : (box : Option Ranges) → has_finished (says_all (first_place version roles.Caller rows box)).1.doing ≡ false
  goes_on_from None = ap (λ s. has_finished s.1.doing) (says_whole (first_place version roles.Caller rows None) bye [] refl)
  goes_on_from (Some x) = ap (λ s. has_finished s.1.doing) (says_whole (first_place version roles.Caller rows (Some x)) (first_turn (sync_rules version) rows x) (first_asks (sync_rules version) rows x) refl)

  abbrev agreement : Option Ranges → Agreement
  agreement box = record { version = version; box = box }

  pub can_read_turns : (box : Option Ranges)
      → CanReadTurns (by_items version) (side talk.Caller rows (agreement box)) (side talk.Answerer others (agreement box)) (exchange (sync_rules version) rows others box)
  can_read_turns box =
      let ts = exchange (sync_rules version) rows others box in
      let caller = first_place version roles.Caller rows box in
      let answerer = first_place version roles.Answerer others box in
      let reads = read_turns version ts (record { role = talk.Caller; rows = rows; agreed = agreement box }) (record { role = talk.Answerer; rows = others; agreed = agreement box }) caller answerer refl refl
      (say_exchange version rows others own.rise theirs.rise own.few theirs.few box) (readable_exchange version is rows others own theirs box) in
      let begins : stands_at 0 (says_all caller).1 ≡ Waits (talk.spoken places caller).1 0 [] =
      ap (λ b. cond b Over (Waits (says_all caller).1 0 [])) (goes_on_from box) ∙ ap (λ s. Waits s.1 0 []) (sym (spoken_as caller)) in
      let awaits : Waits answerer 0 [] ≡ Waits (talk.spoken places answerer).1 0 [] = ap (λ s. Waits s.1 0 []) (sym (spoken_as answerer ∙ says_nothing answerer (λ e. cc))) in
      record {
        caller_can = subst (λ q. CanReadAll (side talk.Caller rows (agreement box)) item_spelling q (flat version (answerer_turns ts))) begins (reads.saying 0);
        answerer_can = subst (λ q. CanReadAll (side talk.Answerer others (agreement box)) item_spelling q (flat version (caller_turns ts))) awaits (reads.hearing 0);
      }
