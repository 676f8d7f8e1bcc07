-- What a side does that hears a turn, item by item, but for the number of items.
use Rattle.std.proofs.Common.{◌≡◌, ℕ, suc, ◌+◌, ◌-◌, Bool, true, false, not, ◌&&◌, cond, List, [], ◌∷◌, ◌++◌, map, length, flat_map, nat_eq, is_lt, Option, Some, None, Result, Ok, Err, refl, sym, ap, ◌∙◌, subst, arith}
use Rattle.std.specs.Prelude.{IsErr, is_some, unwrap_or}
use Rattle.std.specs.List.{AllByRecursion, list_all}
use Rattle.std.proofs.lemmas.Bool.{and_right, eq-eqb}
use Rattle.std.proofs.lemmas.List.{append-nil, append_assoc}
use Rattle.spelling.specs.Answers.{cause_if}
use Rattle.willow_area.specs.Boxes.{Ranges}
use Rattle.willow_area.specs.Cuts.{can_cut, lower_part, upper_part}
use Rattle.willow_area.specs.declared.cut.CutAt.{CutAt}
use Rattle.willow_entry.specs.Row.{RowValue, inner_place_cmp}
use Rattle.block_store.specs.InBox.{is_in}
use Rattle.range_split.specs.Parts.{can_cut_at, cut_all, parts_at}
use Rattle.range_split.proofs.CutTest.{can_cut_test, parts_number}
use Rattle.exchange_rules.specs.Items as rules
use Rattle.exchange_rules.specs.AnyPeer.{fits_parts, part_asks, opens_at, joined, opened_by, ended_by, heard, first_opens}
use Rattle.sync_msg.specs.CutPoints.{are_of_one}
use Rattle.sync_msg.specs.Items.{ItemValue}
use Rattle.sync_msg.specs.declared.item.Item.TheVariants.{Split, Parts, Row, EndTurn, Bye}
use Rattle.sync_msg.specs.declared.refusal.CoreRefusal.{CoreRefusal}
use Rattle.sync_msg.specs.declared.refusal.CoreRefusal.TheVariants.{BadCut, EntryOutside, ItemMismatch, RowsOutOfOrder}
use Rattle.sync_core.specs.SyncRules.{is_rising, is_list_for, sync_rules}
use Rattle.sync_core.specs.Flat.{AskValue, TurnValue, cut_items, items_of, parts_items, split_items, turn_items, IsCutOf, IsOneCut, IsPartsCut, IsTold, IsToldTurn}
use Rattle.sync_core.specs.Place.{Doing, Beginning, Hearing, HearingRows}
use Rattle.sync_core.specs.Steps.{cut_heard, parts_heard, hearing_rows, remembered, box_of, is_above_last, unless, next_heard}
use Rattle.sync_core.specs.Runs.{heard_from, replying}

-- the fingerprints of a cut fit its parts exactly where the box can be cut at the points
parts_fit : (box : Ranges) (cuts : List CutAt) (prints : List (List ℕ)) → are_of_one cuts ≡ true → length prints ≡ length cuts + 1 → fits_parts (parts_at box cuts) prints ≡ can_cut_at box cuts
parts_fit box cuts prints one number = by_parts (cut_all box cuts) refl ∙ can_cut_test box cuts one
  where
    fits : (parts : List Ranges) → length parts ≡ suc (length cuts) → fits_parts parts prints ≡ true
    fits [] e = absurd (omega (arith, e))
    fits (part ∷ parts) e = eq-eqb (length (part ∷ parts)) (length prints) (omega (arith, e, number))

    by_parts : (o : Option (List Ranges)) → cut_all box cuts ≡ o → fits_parts (unwrap_or o []) prints ≡ is_some o
    by_parts None is = refl
    by_parts (Some parts) is = fits parts (parts_number box cuts parts is)

module _ (version : ℕ) (area : Option Ranges) (rows : List RowValue) where
  -- what a side does that has heard some items, one after the other; or why the first of them is refused that is
  unfoldable pub next_all : Doing → List ItemValue → Result Doing CoreRefusal
  next_all doing [] = Ok doing
  next_all doing (item ∷ items) = heard_from (λ d. next_all d items) (next_heard version area rows doing item)

  next_all-append : (doing : Doing) (xs ys : List ItemValue) → next_all doing (xs ++ ys) ≡ heard_from (λ d. next_all d ys) (next_all doing xs)
  unfolding next_all
  next_all-append doing [] ys = refl
  next_all-append doing (x ∷ xs) ys = by_first (next_heard version area rows doing x) (λ d. next_all-append d xs ys)
    where
      by_first : (o : Result Doing CoreRefusal) → ((d : Doing) → next_all d (xs ++ ys) ≡ heard_from (λ e. next_all e ys) (next_all d xs))
          → heard_from (λ d. next_all d (xs ++ ys)) o ≡ heard_from (λ d. next_all d ys) (heard_from (λ d. next_all d xs) o)
      by_first (Ok d) later = later d
      by_first (Err cause) later = refl

  -- ---- the rows of a list

  -- the same is done where a test passes, else something is refused
  abbrev pub DoesIf : Bool → Doing → Result Doing CoreRefusal → Type 0
  DoesIf true doing r = r ≡ Ok doing
  DoesIf false doing r = IsErr r

  -- the rows rise behind those that were read
  abbrev rises_behind : List RowValue → List RowValue → Bool
  rises_behind read [] = true
  rises_behind read (row ∷ more) = is_above_last read row && is_rising (row ∷ more)

  above_remembered : (read : List RowValue) (row next : RowValue) → is_above_last (read ++ row ∷ []) next ≡ is_lt (inner_place_cmp row next)
  above_remembered [] row next = refl
  above_remembered (r ∷ []) row next = refl
  above_remembered (r ∷ s ∷ read) row next = above_remembered (s ∷ read) row next

  last_remembered : (ask : AskValue) (read : List RowValue) (row next : RowValue) → is_above_last (remembered ask read row) next ≡ is_lt (inner_place_cmp row next)
  last_remembered (rules.Print box print) read row next = above_remembered read row next
  last_remembered (rules.Sent box sent) read row next = refl

  rises_on : (ask : AskValue) (read : List RowValue) (row : RowValue) (more : List RowValue) → rises_behind (remembered ask read row) more ≡ is_rising (row ∷ more)
  rises_on ask read row [] = refl
  rises_on ask read row (next ∷ more) = ap (λ b. b && is_rising (next ∷ more)) (last_remembered ask read row next)

  -- what is remembered of some rows
  abbrev all_remembered : AskValue → List RowValue → List RowValue → List RowValue
  all_remembered ask read [] = read
  all_remembered ask read (row ∷ more) = all_remembered ask (remembered ask read row) more

  remembers_all : (box : Ranges) (print : List ℕ) (read more : List RowValue) → all_remembered (rules.Print box print) read more ≡ read ++ more
  remembers_all box print read [] = sym (append-nil read)
  remembers_all box print read (row ∷ more) = remembers_all box print (read ++ row ∷ []) more ∙ append_assoc read (row ∷ []) more

  more_due : (ask : AskValue) (asks : List AskValue) (left : ℕ) (read : List RowValue) (opens : List AskValue) → hearing_rows ask asks (suc left) read opens ≡ HearingRows (ask ∷ asks) (suc left) read opens
  more_due (rules.Print box print) asks left read opens = refl
  more_due (rules.Sent box sent) asks left read opens = refl

  does_rows : (ask : AskValue) (asks : List AskValue) (read : List RowValue) (opens : List AskValue) (more : List RowValue)
      → DoesIf (list_all (is_in (box_of ask)) more && rises_behind read more) (hearing_rows ask asks 0 (all_remembered ask read more) opens) (next_all (hearing_rows ask asks (length more) read opens) (map (λ r. Row r) more))
  unfolding next_all
  does_rows ask asks read opens [] = refl
  does_rows ask asks read opens (row ∷ more) =
      let left : suc (length more) - 1 ≡ length more = omega arith in
      let rest = subst Rest (sym left) (subst Rises (rises_on ask read row more) (does_rows ask asks kept opens more)) in
      subst Goal (sym (more_due ask asks (length more) read opens)) (by_tests (is_in (box_of ask) row) (is_above_last read row) rest)
    where
      kept : List RowValue
      kept = remembered ask read row

      Rises : Bool → Type 0
      Rises b = DoesIf (list_all (is_in (box_of ask)) more && b) (hearing_rows ask asks 0 (all_remembered ask kept more) opens) (next_all (hearing_rows ask asks (length more) kept opens) (map (λ r. Row r) more))

      Rest : ℕ → Type 0
      Rest k = DoesIf (list_all (is_in (box_of ask)) more && is_rising (row ∷ more)) (hearing_rows ask asks 0 (all_remembered ask kept more) opens) (next_all (hearing_rows ask asks k kept opens) (map (λ r. Row r) more))

      Goal : Doing → Type 0
      Goal d =
          DoesIf ((is_in (box_of ask) row && list_all (is_in (box_of ask)) more) && (is_above_last read row && is_rising (row ∷ more)))
          (hearing_rows ask asks 0 (all_remembered ask kept more) opens) (next_all d (Row row ∷ map (λ r. Row r) more))

      by_tests : (inside above : Bool) → Rest (suc (length more) - 1)
          → DoesIf ((inside && list_all (is_in (box_of ask)) more) && (above && is_rising (row ∷ more))) (hearing_rows ask asks 0 (all_remembered ask kept more) opens)
          (heard_from (λ d. next_all d (map (λ r. Row r) more)) (unless (cond (not inside) (Some EntryOutside) (cause_if (not above) RowsOutOfOrder)) (hearing_rows ask asks (suc (length more) - 1) kept opens)))
      by_tests true true rest = rest
      by_tests true false rest =
          subst (λ b. DoesIf b (hearing_rows ask asks 0 (all_remembered ask kept more) opens) (Err RowsOutOfOrder)) (sym (and_right (list_all (is_in (box_of ask)) more) false refl)) refl
      by_tests false above rest = refl

  -- ---- an item of the rules

  -- this is done by what opens, or where nothing does something is refused
  abbrev pub DoesOpen : (List AskValue → Doing) → Option (List AskValue) → Result Doing CoreRefusal → Type 0
  DoesOpen behind None r = IsErr r
  DoesOpen behind (Some more) r = r ≡ Ok (behind more)

  -- what rows open where they are a list for the box
  opens_list : (asks opens more : List AskValue) (legal : Bool) (doing : Doing) (r : Result Doing CoreRefusal) → doing ≡ Hearing asks (opens ++ more) → DoesIf legal doing r → DoesOpen (λ l. Hearing asks (opens ++ l)) (cond legal (Some more) None) r
  opens_list asks opens more true doing r is h = h ∙ ap Ok is
  opens_list asks opens more false doing r is h = h

  rises_first : (more : List RowValue) → rises_behind [] more ≡ is_rising more
  rises_first [] = refl
  rises_first (row ∷ more) = refl

  -- the rows behind a head
  does_list : (ask : AskValue) (asks opens : List AskValue) (more : List RowValue) → DoesIf (is_list_for (box_of ask) more) (hearing_rows ask asks 0 (all_remembered ask [] more) opens) (next_all (hearing_rows ask asks (length more) [] opens) (map (λ r. Row r) more))
  does_list ask asks opens more =
      let P : Bool → Type 0 = λ b. DoesIf (list_all (is_in (box_of ask)) more && b) (hearing_rows ask asks 0 (all_remembered ask [] more) opens) (next_all (hearing_rows ask asks (length more) [] opens) (map (λ r. Row r) more)) in
      subst P (rises_first more) (does_rows ask asks [] opens more)

  -- the parts of a box at a cut at one point, by whether it lies inside
  abbrev two_parts : Ranges → CutAt → Bool → List Ranges
  two_parts box at inside = unwrap_or (cond inside (Some (lower_part box at ∷ upper_part box at ∷ [])) None) []

  does_cut_in_two : (box : Ranges) (asks opens : List AskValue) (cuts : List CutAt) (prints : List (List ℕ)) (print : List ℕ) → nat_eq version 1 ≡ true → IsOneCut cuts prints
      → DoesOpen (λ more. Hearing asks (opens ++ more)) (opens_at (sync_rules version) (rules.Print box print) (rules.Split cuts prints)) (next_all (Hearing (rules.Print box print ∷ asks) opens) (split_items cuts prints))
  unfolding opens_at next_all
  does_cut_in_two box asks opens [] prints print is told = absurd told
  does_cut_in_two box asks opens (at ∷ []) [] print is told = absurd told
  does_cut_in_two box asks opens (at ∷ []) (lower ∷ []) print is told = absurd told
  does_cut_in_two box asks opens (at ∷ []) (lower ∷ upper ∷ []) print is told =
      subst Opens (ap (λ b. heard_from (λ d. Ok d) (cond b (cut_heard box asks opens at lower upper) (Err ItemMismatch))) (sym is)) (by_test (can_cut box at))
    where
      parts : List AskValue
      parts = rules.Print (lower_part box at) lower ∷ rules.Print (upper_part box at) upper ∷ []

      Opens : Result Doing CoreRefusal → Type 0
      Opens r = DoesOpen (λ more. Hearing asks (opens ++ more)) (opens_at (sync_rules version) (rules.Print box print) (rules.Split (at ∷ []) (lower ∷ upper ∷ []))) r

      by_test : (inside : Bool) → DoesOpen (λ more. Hearing asks (opens ++ more))
          (cond (fits_parts (two_parts box at inside) (lower ∷ upper ∷ [])) (Some (part_asks (two_parts box at inside) (lower ∷ upper ∷ []))) None)
          (heard_from (λ d. Ok d) (unless (cause_if (not inside) BadCut) (Hearing asks (opens ++ parts))))
      by_test true = refl
      by_test false = refl
  does_cut_in_two box asks opens (at ∷ []) (lower ∷ upper ∷ other ∷ prints) print is told = absurd told
  does_cut_in_two box asks opens (at ∷ other ∷ cuts) prints print is told = absurd told

  does_cut_in_parts : (box : Ranges) (asks opens : List AskValue) (cuts : List CutAt) (prints : List (List ℕ)) (print : List ℕ) → nat_eq version 1 ≡ false → IsPartsCut cuts prints
      → DoesOpen (λ more. Hearing asks (opens ++ more)) (opens_at (sync_rules version) (rules.Print box print) (rules.Split cuts prints)) (next_all (Hearing (rules.Print box print ∷ asks) opens) (parts_items cuts prints))
  unfolding opens_at next_all
  does_cut_in_parts box asks opens cuts [] print is told = absurd (omega (arith, told.1.1.1))
  does_cut_in_parts box asks opens cuts (first ∷ others) print is told =
      subst Opens (ap (λ b. heard_from (λ d. Ok d) (cond b (Err ItemMismatch) (parts_heard box asks opens cuts prints))) (sym is))
      (subst Fits (sym (parts_fit box cuts prints told.0 told.1.1.1)) (by_test (can_cut_at box cuts)))
    where
      prints : List (List ℕ)
      prints = first ∷ others

      parts : List AskValue
      parts = part_asks (parts_at box cuts) prints

      Opens : Result Doing CoreRefusal → Type 0
      Opens r = DoesOpen (λ more. Hearing asks (opens ++ more)) (opens_at (sync_rules version) (rules.Print box print) (rules.Split cuts (first ∷ others))) r

      Fits : Bool → Type 0
      Fits b = DoesOpen (λ more. Hearing asks (opens ++ more)) (cond b (Some parts) None) (heard_from (λ d. Ok d) (parts_heard box asks opens cuts prints))

      by_test : (inside : Bool) → DoesOpen (λ more. Hearing asks (opens ++ more)) (cond inside (Some parts) None) (heard_from (λ d. Ok d) (unless (cause_if (not inside) BadCut) (Hearing asks (opens ++ parts))))
      by_test true = refl
      by_test false = refl

  does_cut : (box : Ranges) (print : List ℕ) (asks opens : List AskValue) (cuts : List CutAt) (prints : List (List ℕ)) → IsCutOf (nat_eq version 1) cuts prints
      → DoesOpen (λ more. Hearing asks (opens ++ more)) (opens_at (sync_rules version) (rules.Print box print) (rules.Split cuts prints)) (next_all (Hearing (rules.Print box print ∷ asks) opens) (cut_items version cuts prints))
  does_cut box print asks opens cuts prints = by_version (nat_eq version 1) refl
    where
      by_version : (b : Bool) → nat_eq version 1 ≡ b → IsCutOf b cuts prints
          → DoesOpen (λ more. Hearing asks (opens ++ more)) (opens_at (sync_rules version) (rules.Print box print) (rules.Split cuts prints)) (next_all (Hearing (rules.Print box print ∷ asks) opens) (cond b (split_items cuts prints) (parts_items cuts prints)))
      by_version true is told = does_cut_in_two box asks opens cuts prints print is told
      by_version false is told = does_cut_in_parts box asks opens cuts prints print is told

  -- ---- a cut that may not come

  err_from : (behind : Doing → Result Doing CoreRefusal) (r : Result Doing CoreRefusal) → IsErr r → IsErr (heard_from behind r)
  err_from behind (Ok d) e = absurd cc
  err_from behind (Err cause) e = refl

  -- no cut may come here
  record RefusesCuts (doing : Doing) : Type 0 where
    in_two : (at : CutAt) (lower upper : List ℕ) → IsErr (next_heard version area rows doing (Split at lower upper))
    in_parts : (points : List CutAt) (prints : List (List ℕ)) → IsErr (next_heard version area rows doing (Parts points prints))

  refused_in_two : (doing : Doing) → RefusesCuts doing → (cuts : List CutAt) (prints : List (List ℕ)) (more : List ItemValue) → IsOneCut cuts prints → IsErr (next_all doing (split_items cuts prints ++ more))
  unfolding next_all
  refused_in_two doing refuses [] prints more told = absurd told
  refused_in_two doing refuses (at ∷ []) [] more told = absurd told
  refused_in_two doing refuses (at ∷ []) (lower ∷ []) more told = absurd told
  refused_in_two doing refuses (at ∷ []) (lower ∷ upper ∷ []) more told = err_from (λ d. next_all d more) (next_heard version area rows doing (Split at lower upper)) (refuses.in_two at lower upper)
  refused_in_two doing refuses (at ∷ []) (lower ∷ upper ∷ other ∷ prints) more told = absurd told
  refused_in_two doing refuses (at ∷ other ∷ cuts) prints more told = absurd told

  refused_in_parts : (doing : Doing) → RefusesCuts doing → (cuts : List CutAt) (prints : List (List ℕ)) (more : List ItemValue) → IsPartsCut cuts prints → IsErr (next_all doing (parts_items cuts prints ++ more))
  unfolding next_all
  refused_in_parts doing refuses cuts [] more told = absurd (omega (arith, told.1.1.1))
  refused_in_parts doing refuses cuts (print ∷ prints) more told = err_from (λ d. next_all d more) (next_heard version area rows doing (Parts cuts (print ∷ prints))) (refuses.in_parts cuts (print ∷ prints))

  refused_cut : (doing : Doing) → RefusesCuts doing → (cuts : List CutAt) (prints : List (List ℕ)) (more : List ItemValue) → IsCutOf (nat_eq version 1) cuts prints → IsErr (next_all doing (cut_items version cuts prints ++ more))
  refused_cut doing refuses cuts prints more = by_version (nat_eq version 1)
    where
      by_version : (b : Bool) → IsCutOf b cuts prints → IsErr (next_all doing (cond b (split_items cuts prints) (parts_items cuts prints) ++ more))
      by_version true told = refused_in_two doing refuses cuts prints more told
      by_version false told = refused_in_parts doing refuses cuts prints more told

  -- ---- any item

  does_item : (ask : AskValue) (asks opens : List AskValue) (item : rules.Item RowValue (List CutAt)) → IsTold version item
      → DoesOpen (λ more. Hearing asks (opens ++ more)) (opens_at (sync_rules version) ask item) (next_all (Hearing (ask ∷ asks) opens) (items_of version item))
  unfolding opens_at next_all
  does_item (rules.Print box print) asks opens (rules.First other) told = refl
  does_item (rules.Print box print) asks opens rules.Agree told = ap (λ l. Ok (Hearing asks l)) (sym (append-nil opens))
  does_item (rules.Print box print) asks opens (rules.Split cuts prints) told = does_cut box print asks opens cuts prints told
  does_item (rules.Print box print) asks opens (rules.Entries more) told =
      let ask : AskValue = rules.Print box print in
      let kept : Hearing asks (opens ++ rules.Sent box (all_remembered ask [] more) ∷ []) ≡ Hearing asks (opens ++ rules.Sent box more ∷ []) = ap (λ l. Hearing asks (opens ++ rules.Sent box l ∷ [])) (remembers_all box print [] more) in
      opens_list asks opens (rules.Sent box more ∷ []) (is_list_for box more) (hearing_rows ask asks 0 (all_remembered ask [] more) opens) (next_all (hearing_rows ask asks (length more) [] opens) (map (λ r. Row r) more)) kept (does_list ask asks opens more)
  does_item (rules.Print box print) asks opens (rules.Rest more) told = refl
  does_item (rules.Sent box sent) asks opens (rules.First other) told = refl
  does_item (rules.Sent box sent) asks opens rules.Agree told = refl
  does_item (rules.Sent box sent) asks opens (rules.Split cuts prints) told =
      let doing : Doing = Hearing (rules.Sent box sent ∷ asks) opens in
      subst (λ l. IsErr (next_all doing l)) (append-nil (cut_items version cuts prints)) (refused_cut doing (record { in_two = λ at lower upper. refl; in_parts = λ points prints. refl }) cuts prints [] told)
  does_item (rules.Sent box sent) asks opens (rules.Entries more) told = refl
  does_item (rules.Sent box sent) asks opens (rules.Rest more) told =
      let ask : AskValue = rules.Sent box sent in
      opens_list asks opens [] (is_list_for box more) (hearing_rows ask asks 0 (all_remembered ask [] more) opens) (next_all (hearing_rows ask asks (length more) [] opens) (map (λ r. Row r) more))
      (ap (Hearing asks) (sym (append-nil opens))) (does_list ask asks opens more)

  -- ---- a turn

  -- the item that ends a turn
  abbrev end_of : Bool → ItemValue
  end_of ends_with_bye = cond ends_with_bye Bye EndTurn

  does_end : (opens : List AskValue) (b : Bool) → DoesOpen (replying version rows) (ended_by b (Some opens)) (next_all (Hearing [] opens) (end_of b ∷ []))
  unfolding next_all
  does_end [] true = refl
  does_end [] false = refl
  does_end (ask ∷ asks) true = refl
  does_end (ask ∷ asks) false = refl

  -- no answer comes where no ask is open
  no_answer : (opens : List AskValue) (item : rules.Item RowValue (List CutAt)) (more : List ItemValue) → IsTold version item → IsErr (next_all (Hearing [] opens) (items_of version item ++ more))
  unfolding next_all
  no_answer [] (rules.First print) more told = refl
  no_answer (ask ∷ asks) (rules.First print) more told = refl
  no_answer [] rules.Agree more told = refl
  no_answer (ask ∷ asks) rules.Agree more told = refl
  no_answer [] (rules.Split cuts prints) more told = refused_cut (Hearing [] []) (record { in_two = λ at lower upper. refl; in_parts = λ points prints. refl }) cuts prints more told
  no_answer (ask ∷ asks) (rules.Split cuts prints) more told = refused_cut (Hearing [] (ask ∷ asks)) (record { in_two = λ at lower upper. refl; in_parts = λ points prints. refl }) cuts prints more told
  no_answer [] (rules.Entries sent) more told = refl
  no_answer (ask ∷ asks) (rules.Entries sent) more told = refl
  no_answer [] (rules.Rest sent) more told = refl
  no_answer (ask ∷ asks) (rules.Rest sent) more told = refl

  -- no turn ends where an ask is open
  no_end : (ask : AskValue) (asks opens : List AskValue) (b : Bool) → IsErr (next_all (Hearing (ask ∷ asks) opens) (end_of b ∷ []))
  unfolding next_all
  no_end (rules.Print box print) asks opens true = refl
  no_end (rules.Print box print) asks opens false = refl
  no_end (rules.Sent box sent) asks opens true = refl
  no_end (rules.Sent box sent) asks opens false = refl

  joined_behind : (opens more : List AskValue) (others : Option (List AskValue)) → joined (Some (opens ++ more)) others ≡ joined (Some opens) (joined (Some more) others)
  joined_behind opens more None = refl
  joined_behind opens more (Some others) = ap Some (append_assoc opens more others)

  -- what is done behind an item
  behind_item : (asks opens : List AskValue) (o others : Option (List AskValue)) (b : Bool) (r : Result Doing CoreRefusal) (rest : List ItemValue) → DoesOpen (λ more. Hearing asks (opens ++ more)) o r
      → ((more : List AskValue) → DoesOpen (replying version rows) (ended_by b (joined (Some (opens ++ more)) others)) (next_all (Hearing asks (opens ++ more)) rest))
      → DoesOpen (replying version rows) (ended_by b (joined (Some opens) (joined o others))) (heard_from (λ d. next_all d rest) r)
  behind_item asks opens None others b r rest h later = err_from (λ d. next_all d rest) r h
  behind_item asks opens (Some more) others b r rest h later =
      let P : Option (List AskValue) → Type 0 = λ o. DoesOpen (replying version rows) (ended_by b o) (next_all (Hearing asks (opens ++ more)) rest) in
      subst (λ x. DoesOpen (replying version rows) (ended_by b (joined (Some opens) (joined (Some more) others))) (heard_from (λ d. next_all d rest) x)) (sym h)
      (subst P (joined_behind opens more others) (later more))

  does_items : (asks opens : List AskValue) (items : List (rules.Item RowValue (List CutAt))) (b : Bool) → AllByRecursion (IsTold version) items
      → DoesOpen (replying version rows) (ended_by b (joined (Some opens) (opened_by (sync_rules version) asks items))) (next_all (Hearing asks opens) (flat_map (items_of version) items ++ end_of b ∷ []))
  does_items [] opens [] b told = subst (λ l. DoesOpen (replying version rows) (ended_by b (Some l)) (next_all (Hearing [] opens) (end_of b ∷ []))) (sym (append-nil opens)) (does_end opens b)
  does_items [] opens (item ∷ items) b told =
      let rest = flat_map (items_of version) items ++ end_of b ∷ [] in
      subst (λ l. IsErr (next_all (Hearing [] opens) l)) (sym (append_assoc (items_of version item) (flat_map (items_of version) items) (end_of b ∷ []))) (no_answer opens item rest told.0)
  does_items (ask ∷ asks) opens [] b told = no_end ask asks opens b
  does_items (ask ∷ asks) opens (item ∷ items) b told =
      let rest = flat_map (items_of version) items ++ end_of b ∷ [] in
      let others = opened_by (sync_rules version) asks items in
      let heard_first = next_all (Hearing (ask ∷ asks) opens) (items_of version item) in
      let one_by_one = ap (next_all (Hearing (ask ∷ asks) opens)) (append_assoc (items_of version item) (flat_map (items_of version) items) (end_of b ∷ [])) ∙ next_all-append (Hearing (ask ∷ asks) opens) (items_of version item) rest in
      subst (λ x. DoesOpen (replying version rows) (ended_by b (joined (Some opens) (joined (opens_at (sync_rules version) ask item) others))) x) (sym one_by_one)
      (behind_item asks opens (opens_at (sync_rules version) ask item) others b heard_first rest (does_item ask asks opens item told.0) (λ more. does_items asks (opens ++ more) items b told.1))

  alone : (o : Option (List AskValue)) → joined (Some []) o ≡ o
  alone None = refl
  alone (Some opens) = refl

  -- a side that hears a turn answers what it opens; where the turn is refused an item of it is
  pub does_turn : (asks : List AskValue) (t : TurnValue) → IsToldTurn version t → DoesOpen (replying version rows) (heard (sync_rules version) asks t) (next_all (Hearing asks []) (turn_items version t))
  unfolding heard
  does_turn asks t told =
      subst (λ o. DoesOpen (replying version rows) (ended_by t.ends_with_bye o) (next_all (Hearing asks []) (turn_items version t))) (alone (opened_by (sync_rules version) asks t.items)) (does_items asks [] t.items t.ends_with_bye told)

-- ---- the first turn that is read

module _ (version : ℕ) (box : Ranges) (rows : List RowValue) where
  first_items : (items : List (rules.Item RowValue (List CutAt))) (b : Bool) → AllByRecursion (IsTold version) items
      → DoesOpen version (Some box) rows (replying version rows) (first_opens box items b) (next_all version (Some box) rows Beginning (flat_map (items_of version) items ++ end_of version (Some box) rows b ∷ []))
  unfolding next_all
  first_items [] true told = refl
  first_items [] false told = refl
  first_items (rules.First print ∷ []) true told = refl
  first_items (rules.First print ∷ []) false told = refl
  first_items (rules.First print ∷ item ∷ items) b told =
      let opens : List AskValue = rules.Print box print ∷ [] in
      let rest = flat_map (items_of version) items ++ end_of version (Some box) rows b ∷ [] in
      subst (λ l. IsErr (next_all version (Some box) rows (Hearing [] opens) l)) (sym (append_assoc (items_of version item) (flat_map (items_of version) items) (end_of version (Some box) rows b ∷ []))) (no_answer version (Some box) rows opens item rest told.1.0)
  first_items (rules.Agree ∷ items) b told = refl
  first_items (rules.Split cuts prints ∷ items) b told =
      let rest = flat_map (items_of version) items ++ end_of version (Some box) rows b ∷ [] in
      subst (λ l. IsErr (next_all version (Some box) rows Beginning l)) (sym (append_assoc (cut_items version cuts prints) (flat_map (items_of version) items) (end_of version (Some box) rows b ∷ [])))
      (refused_cut version (Some box) rows Beginning (record { in_two = λ at lower upper. refl; in_parts = λ points prints. refl }) cuts prints rest told.0)
  first_items (rules.Entries sent ∷ items) b told = refl
  first_items (rules.Rest sent ∷ items) b told = refl

  pub does_first : (t : TurnValue) → IsToldTurn version t → DoesOpen version (Some box) rows (replying version rows) (first_opens box t.items t.ends_with_bye) (next_all version (Some box) rows Beginning (turn_items version t))
  does_first t told = first_items t.items t.ends_with_bye told
