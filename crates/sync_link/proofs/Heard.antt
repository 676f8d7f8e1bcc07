-- What comes of items that a side of a session hears, one after the other.
use Rattle.std.proofs.Common.{◌≡◌, ℕ, ◌+◌, Bool, true, false, List, [], ◌∷◌, ◌++◌, length, filter_map, append-nil, Option, Some, None, Result, Ok, Err, option_to_list, refl, sym, ap, ◌∙◌, subst}
use Rattle.std.specs.Prelude.{IsOk}
use Rattle.std.specs.List.{AllByRecursion, cons_option}
use Rattle.willow_area.specs.Boxes.{Ranges}
use Rattle.willow_entry.specs.Frame.{HasFrame}
use Rattle.willow_entry.specs.Row.{RowValue}
use Rattle.cap_codec.specs.Rows.{IsRawRow}
use Rattle.sync_msg.specs.Items.{ItemValue, IsHead, item_spelling}
use Rattle.sync_msg.specs.declared.item.Item.TheVariants.{First, Agree, Split, Parts, Entries, Rest, Row, EndTurn, Bye}
use Rattle.sync_msg.specs.declared.refusal.CoreRefusal.{CoreRefusal}
use Rattle.sync_msg.specs.declared.refusal.CoreRefusal.TheVariants.{ItemMismatch}
use Rattle.sync_core.specs.declared.stage.Stage.TheVariants as stage
use Rattle.sync_core.specs.Flat.{row_in}
use Rattle.sync_core.specs.Place.{Doing, Saying, Replying, Beginning, Hearing, HearingRows, Parting, Finished, Refused, Place, stage_of}
use Rattle.sync_core.specs.Steps.{heard}
use Rattle.sync_core.specs.Runs.{heard_from, hears, says_all}
use Rattle.sync_core.proofs.OneByOne.{says_nothing, hears_first_item, reads_to_hear}
use Rattle.session_rules.specs.Machine.{Machine}
use Rattle.session_rules.specs.Reading.{Stand, Waits, Move, stay, then, stepped, run}
use Rattle.session_rules.specs.Messages.{IsReadAs, taken, CanReadAll}
use Rattle.session_rules.specs.Talk as talk
use Rattle.session_rules.specs.Talk.{Role, answered, item_heard}
use Rattle.sync_link.specs.Greetings.{Agreement}
use Rattle.sync_link.specs.Readers.{item_seen}
use Rattle.sync_link.specs.Places.{awaits_row, has_finished, places}
use Rattle.sync_link.proofs.Spellings.{head_as, row_as}
use Rattle.sync_core.proofs.Cases.{AreCases, by_cases, heard_as, not_err, same_ok}
use Rattle.sync_link.proofs.Speaking.{spoken_as}

-- ---- which items a side reads

abbrev pub is_row : ItemValue → Bool
is_row (First print) = false
is_row Agree = false
is_row (Split at lower upper) = false
is_row (Parts points prints) = false
is_row (Entries count) = false
is_row (Rest count) = false
is_row (Row row) = true
is_row EndTurn = false
is_row Bye = false

-- an item that the readers of a version read
abbrev pub IsReadable : ℕ → ItemValue → Type 0
IsReadable version (First print) = IsHead version (First print)
IsReadable version Agree = Unit {0}
IsReadable version (Split at lower upper) = IsHead version (Split at lower upper)
IsReadable version (Parts points prints) = IsHead version (Parts points prints)
IsReadable version (Entries count) = IsHead version (Entries count)
IsReadable version (Rest count) = IsHead version (Rest count)
IsReadable version (Row row) = IsRawRow row × HasFrame row
IsReadable version EndTurn = Unit {0}
IsReadable version Bye = Unit {0}

read_item : (version : ℕ) (item : ItemValue) → IsReadable version item → IsReadAs (item_seen version (is_row item)) (item_spelling item) item
read_item version (First print) f = head_as version (First print) f
read_item version Agree f = head_as version Agree f
read_item version (Split at lower upper) f = head_as version (Split at lower upper) f
read_item version (Parts points prints) f = head_as version (Parts points prints) f
read_item version (Entries count) f = head_as version (Entries count) f
read_item version (Rest count) f = head_as version (Rest count) f
read_item version (Row row) f = row_as row f.0 f.1
read_item version EndTurn f = head_as version EndTurn f
read_item version Bye f = head_as version Bye f

-- a side that hears an item awaits a row exactly where the item is one
abbrev AwaitsIt : Doing → ItemValue → Result Doing CoreRefusal → Type 0
AwaitsIt doing item r = (d : Doing) → r ≡ Ok d → awaits_row doing ≡ is_row item

awaits_cases : (version : ℕ) (area : Option Ranges) (rows : List RowValue) → AreCases version area rows AwaitsIt
awaits_cases version area rows = record {
  mismatch = λ doing item d e. absurd (not_err d ItemMismatch e);
  first_bye = λ is d e. refl;
  first_print = λ box print is d e. refl;
  agree = λ box print asks opens d e. refl;
  split = λ box print asks opens at lower upper is d e. refl;
  parts = λ box print asks opens points prints is d e. refl;
  entries = λ box print asks opens count d e. refl;
  rest = λ box sent asks opens count d e. refl;
  row = λ ask asks left read opens row d e. refl;
  last_bye = λ d e. refl;
  end_turn = λ ask asks d e. refl;
  farewell = λ d e. refl;
}

pub awaits_it : (place next : Place) (item : ItemValue) → heard place item ≡ Ok next → awaits_row place.doing ≡ is_row item
awaits_it place next item e =
    let to = heard_as place item next e in
    by_cases place.version place.area place.rows AwaitsIt (awaits_cases place.version place.area place.rows) place.doing item to.doing to.comes

-- it stays in its version
pub version_heard : (place next : Place) (item : ItemValue) → heard place item ≡ Ok next → next.version ≡ place.version
version_heard place next item e = ap (λ p. p.version) (heard_as place item next e).then

-- so it reads the bytes of one that it hears
pub reads_it : (place next : Place) (item : ItemValue) → heard place item ≡ Ok next → IsReadable place.version item → IsReadAs (item_seen place.version (awaits_row place.doing)) (item_spelling item) item
reads_it place next item e f = subst (λ b. IsReadAs (item_seen place.version b) (item_spelling item) item) (sym (awaits_it place next item e)) (read_item place.version item f)

-- a side that has heard some items is of the version that it was of
pub heard_version : (place last : Place) (items : List ItemValue) → hears place items ≡ Ok last → last.version ≡ place.version
unfolding hears
heard_version place last [] e = sym (ap (λ p. p.version) (same_ok place last e))
heard_version place last (item ∷ items) e =
    let first = hears_first_item place item items (subst IsOk (sym e) refl) in
    heard_version first.next last items (sym first.rest ∙ e) ∙ version_heard place first.next item first.first

-- ---- a side that still reads

pub reading_on : (doing : Doing) → stage_of doing ≡ stage.Reading → has_finished doing ≡ false
reading_on (Saying items asks) e = refl
reading_on Replying e = refl
reading_on Beginning e = refl
reading_on (Hearing asks opens) e = refl
reading_on (HearingRows asks left read opens) e = refl
reading_on Parting e = refl
reading_on Finished e = absurd cc
reading_on (Refused cause) e = refl

not_writing : (doing : Doing) → stage_of doing ≡ stage.Reading → stage_of doing ≡ stage.Writing → ⊥
not_writing doing e f = cc

-- the rows among some items
abbrev pub rows_told : List ItemValue → List RowValue
rows_told items = filter_map row_in items

first_told : (o : Option RowValue) (rows : List RowValue) → option_to_list o ++ rows ≡ cons_option o rows
first_told None rows = refl
first_told (Some row) rows = refl

-- ---- what comes of items

-- the move of one that has heard a last item, whose place it has then, and the rows that came
abbrev pub answers_to : ℕ → Place → List RowValue → Move Place ItemValue RowValue CoreRefusal
answers_to at place rows = stepped at (answered (has_finished (says_all place).1.doing) (says_all place) rows)

module _ (role : Role) (begun : List RowValue) (agreed : Agreement) where
  abbrev pub side : Machine Place ItemValue ItemValue RowValue CoreRefusal
  side = talk.talk places role begun agreed

  abbrev hear : Stand Place CoreRefusal → List ItemValue → Move Place ItemValue RowValue CoreRefusal
  hear q items = run (taken side item_spelling) q items

  one_heard : (place next : Place) (at : ℕ) (item : ItemValue) → heard place item ≡ Ok next
      → taken side item_spelling (Waits place at []) item ≡ answers_to (at + length (item_spelling item)) next (option_to_list (row_in item))
  one_heard place next at item e =
      let end = at + length (item_spelling item) in
      ap (λ r. stepped end (item_heard places item r)) e
      ∙ ap (λ s. stepped end (answered (has_finished s.1.doing) s (option_to_list (row_in item)))) (spoken_as next)

  -- an item behind which another is heard: nothing is said
  pub on_heard : (place next : Place) (at : ℕ) (item : ItemValue) → heard place item ≡ Ok next → stage_of next.doing ≡ stage.Reading
      → taken side item_spelling (Waits place at []) item ≡ record { stand = Waits next (at + length (item_spelling item)) []; says = []; rows = option_to_list (row_in item) }
  on_heard place next at item e reads =
      let end = at + length (item_spelling item) in
      let rows = option_to_list (row_in item) in
      one_heard place next at item e
      ∙ ap (λ s. stepped end (answered (has_finished s.1.doing) s rows)) (says_nothing next (not_writing next.doing reads))
      ∙ ap (λ b. stepped end (answered b ([], next) rows)) (reading_on next.doing reads)

  alone : (m : Move Place ItemValue RowValue CoreRefusal) → then m (stay m.stand) ≡ m
  alone m =
      ap (λ says. record { stand = m.stand; says = says; rows = m.rows ++ [] }) (append-nil m.says)
      ∙ ap (λ rows. record { stand = m.stand; says = m.says; rows = rows }) (append-nil m.rows)

  told_behind : (at : ℕ) (b : Bool) (spoken : List ItemValue × Place) (o : Option RowValue) (rows : List RowValue) (q : Stand Place CoreRefusal)
      → then (record { stand = q; says = []; rows = option_to_list o }) (stepped at (answered b spoken rows)) ≡ stepped at (answered b spoken (cons_option o rows))
  told_behind at true spoken o rows q = ap (λ l. stepped at (answered true spoken l)) (first_told o rows)
  told_behind at false spoken o rows q = ap (λ l. stepped at (answered false spoken l)) (first_told o rows)

  only_one : (place last : Place) (item : ItemValue) (r : Result Place CoreRefusal) → heard place item ≡ r → heard_from (λ next. Ok next) r ≡ Ok last → heard place item ≡ Ok last
  only_one place last item (Ok next) is e = is ∙ e
  only_one place last item (Err cause) is e = absurd (not_err last cause e)

  -- what comes of some items that are all heard: nothing is said before the last of them
  pub hears_all : (place last : Place) (at : ℕ) (item : ItemValue) (items : List ItemValue) → hears place (item ∷ items) ≡ Ok last
      → (end : ℕ) × (hear (Waits place at []) (item ∷ items) ≡ answers_to end last (rows_told (item ∷ items)))
  unfolding run hears
  hears_all place last at item [] e =
      let end = at + length (item_spelling item) in
      let m = taken side item_spelling (Waits place at []) item in (
        end,
        alone m ∙ one_heard place last at item (only_one place last item (heard place item) refl e)
            ∙ ap (λ l. answers_to end last l) (sym (append-nil (option_to_list (row_in item))) ∙ first_told (row_in item) []),
      )
  hears_all place last at item (other ∷ items) e =
      let first = hears_first_item place item (other ∷ items) (subst IsOk (sym e) refl) in
      let next = first.next in
      let rest : hears next (other ∷ items) ≡ Ok last = sym first.rest ∙ e in
      let second = hears_first_item next other items (subst IsOk (sym rest) refl) in
      let reads = reads_to_hear next other (subst IsOk (sym second.first) refl) in
      let on = on_heard place next at item first.first reads in
      let later = hears_all next last (at + length (item_spelling item)) other items rest in (
        later.0,
        ap (λ m. then m (hear m.stand (other ∷ items))) on
            ∙ ap (then (record { stand = Waits next (at + length (item_spelling item)) []; says = []; rows = option_to_list (row_in item) })) later.1
            ∙ told_behind later.0 (has_finished (says_all last).1.doing) (says_all last) (row_in item) (rows_told (other ∷ items)) (Waits next (at + length (item_spelling item)) []),
      )

  -- and each of them is read
  pub reads_all : (place last : Place) (at : ℕ) (items : List ItemValue) → hears place items ≡ Ok last → AllByRecursion (IsReadable place.version) items → CanReadAll side item_spelling (Waits place at []) items
  unfolding hears
  reads_all place last at [] e f = tt
  reads_all place last at (item ∷ []) e f = (reads_it place last item (only_one place last item (heard place item) refl e) f.0, tt)
  reads_all place last at (item ∷ other ∷ items) e f =
      let first = hears_first_item place item (other ∷ items) (subst IsOk (sym e) refl) in
      let next = first.next in
      let rest : hears next (other ∷ items) ≡ Ok last = sym first.rest ∙ e in
      let second = hears_first_item next other items (subst IsOk (sym rest) refl) in
      let reads = reads_to_hear next other (subst IsOk (sym second.first) refl) in
      let on = on_heard place next at item first.first reads in (
        reads_it place next item first.first f.0,
        subst (λ m. CanReadAll side item_spelling m.stand (other ∷ items)) (sym on) (reads_all next last (at + length (item_spelling item)) (other ∷ items) rest (subst (λ v. AllByRecursion (IsReadable v) (other ∷ items)) (sym (version_heard place next item first.first)) f.1)),
      )
