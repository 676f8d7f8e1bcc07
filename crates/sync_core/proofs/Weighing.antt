-- The rows that a side may still tell, by its place: what it says takes as much from them, and what it hears adds nothing.
use Rattle.std.proofs.Common.{◌≡◌, ℕ, zero, suc, ◌+◌, ◌-◌, ◌≤◌, Bool, true, false, cond, not, List, [], ◌∷◌, ◌++◌, filter_map, sum_by, count_by, Contains, Option, Some, None, option_to_list, Result, Ok, Err, refl, sym, ap, subst, arith}
use Rattle.std.specs.List.{cons_option, IsDistinct}
use Rattle.std.proofs.lemmas.List.Elements.{filter_map-append}
use Rattle.std.proofs.lemmas.List.Sums.{sum_by-cons, sum_by-append}
use Rattle.spelling.specs.Answers.{cause_if}
use Rattle.willow_area.specs.Boxes.{Ranges}
use Rattle.willow_area.specs.Cuts.{can_cut, lower_part, upper_part}
use Rattle.willow_area.specs.declared.cut.CutAt.{CutAt}
use Rattle.willow_entry.specs.Row.{RowValue, same_row}
use Rattle.block_store.specs.InBox.{is_in, rows_in}
use Rattle.range_split.specs.Parts.{can_cut_at, parts_at}
use Rattle.range_split.proofs.Dividing.{split_counts}
use Rattle.exchange_rules.specs.Items as rules
use Rattle.exchange_rules.specs.Items.{rows_of_item, rows_of_turn}
use Rattle.exchange_rules.specs.Answer.{opened, turn}
use Rattle.exchange_rules.specs.AnyPeer.{part_asks}
use Rattle.exchange_rules.proofs.Sums.{parts_within, sum_by-flat_map}
use Rattle.exchange_rules.proofs.Once.{held_rows, distinct_rows}
use Rattle.exchange_rules.proofs.Potentials.{turn_within}
use Rattle.exchange_rules.proofs.Sending.{told, own_weight, other_weight, own_within}
use Rattle.sync_msg.specs.Items.{ItemValue}
use Rattle.sync_msg.specs.declared.item.Item.TheVariants.{Bye}
use Rattle.sync_msg.specs.declared.role.Role.{Role}
use Rattle.sync_msg.specs.declared.role.Role.TheVariants.{Caller, Answerer}
use Rattle.sync_msg.specs.declared.refusal.CoreRefusal.{CoreRefusal}
use Rattle.sync_msg.specs.declared.refusal.CoreRefusal.TheVariants.{BadCut, ItemMismatch}
use Rattle.sync_core.specs.SyncRules.{sync_rules}
use Rattle.sync_core.specs.Flat.{AskValue, TurnValue, turn_items, row_in}
use Rattle.sync_core.specs.Place.{Doing, Saying, Replying, Beginning, Hearing, HearingRows, Parting, Finished, Refused, Place, rows_of_area, answering, first_doing, first_place}
use Rattle.sync_core.specs.Steps.{count_one, hearing_rows, remembered, box_of, row_cause, unless, waiting, going_on, next_said, said_at, said, heard}
use Rattle.sync_core.specs.Runs.{said_from, says, left_to_say, says_all}
use Rattle.sync_core.proofs.Lawful.{deciding, disjoint}
use Rattle.sync_core.proofs.TurnItems.{rows_in_turn}
use Rattle.sync_core.specs.Talks.{said_behind, talks, rows_said}
use Rattle.sync_core.proofs.Cases.{AreCases, by_cases, heard_as, same_ok, same_some, not_err, unless_ok}

module _ (q : RowValue → Bool) where
  -- how many of the rows that items tell pass
  abbrev pub passing : List ItemValue → ℕ
  passing items = count_by q (filter_map row_in items)

  passing_append : (items more : List ItemValue) → passing (items ++ more) ≡ passing items + passing more
  passing_append items more = rw (filter_map-append row_in items more) (sum_by-append (λ r. cond (q r) 1 0) (filter_map row_in items) (filter_map row_in more))

  passing_first : (item : ItemValue) (items : List ItemValue) → passing (item ∷ items) ≡ count_by q (option_to_list (row_in item)) + passing items
  passing_first item items = by_row (row_in item)
    where
      by_row : (o : Option RowValue) → count_by q (cons_option o (filter_map row_in items)) ≡ count_by q (option_to_list o) + passing items
      by_row None = omega arith
      by_row (Some row) = omega (arith, sum_by-cons (λ r. cond (q r) 1 0) row (filter_map row_in items), sum_by-cons (λ r. cond (q r) 1 0) row [])

  -- ---- the weight of a place

  module _ (version : ℕ) (rows : List RowValue) where
    -- of an ask to this side, and of one to the other
    abbrev own : AskValue → ℕ
    own ask = own_weight (sync_rules version) q rows ask

    abbrev other : AskValue → ℕ
    other ask = other_weight (sync_rules version) q rows ask

    abbrev pub weight_of : Option Ranges → Doing → ℕ
    weight_of area (Saying items asks) = passing items + sum_by other asks
    weight_of area Replying = 0
    weight_of area Beginning = count_by q (rows_of_area area rows)
    weight_of area (Hearing asks opens) = sum_by other asks + sum_by own opens
    weight_of area (HearingRows asks left read opens) = sum_by other asks + sum_by own opens
    weight_of area Parting = 0
    weight_of area Finished = 0
    weight_of area (Refused cause) = 0

    weight_waiting : (area : Option Ranges) (asks : List AskValue) → weight_of area (waiting asks) ≤ sum_by other asks
    weight_waiting area [] = omega arith
    weight_waiting area (ask ∷ asks) = omega arith

    weight_going_on : (area : Option Ranges) (items : List ItemValue) (asks : List AskValue) → weight_of area (going_on items asks) ≤ passing items + sum_by other asks
    weight_going_on area [] asks = omega (arith, weight_waiting area asks)
    weight_going_on area (item ∷ items) asks = omega arith

    weight_hearing : (area : Option Ranges) (ask : AskValue) (asks : List AskValue) (left : ℕ) (read : List RowValue) (opens : List AskValue)
        → weight_of area (hearing_rows ask asks left read opens) ≤ sum_by other (ask ∷ asks) + sum_by own opens
    weight_hearing area (rules.Print box print) asks zero read opens =
        omega (arith, sum_by-append own opens (rules.Sent box read ∷ []), sum_by-cons own (rules.Sent box read) [], sum_by-cons other (rules.Print box print) asks)
    weight_hearing area (rules.Sent box sent) asks zero read opens = omega (arith, sum_by-cons other (rules.Sent box sent) asks)
    weight_hearing area (rules.Print box print) asks (suc left) read opens = omega arith
    weight_hearing area (rules.Sent box sent) asks (suc left) read opens = omega arith

    -- ---- a cut

    parts_weight : (parts : List Ranges) (prints : List (List ℕ)) → sum_by own (part_asks parts prints) ≤ sum_by (λ y. count_by q (rows_in y rows)) parts
    parts_weight [] prints = omega arith
    parts_weight (y ∷ parts) [] = omega arith
    parts_weight (y ∷ parts) (print ∷ prints) =
        omega (arith, sum_by-cons own (rules.Print y print) (part_asks parts prints), sum_by-cons (λ z. count_by q (rows_in z rows)) y parts, parts_weight parts prints)

    parts_opened : (box : Ranges) (points : List CutAt) (prints : List (List ℕ)) → sum_by own (part_asks (parts_at box points) prints) ≤ count_by q (rows_in box rows)
    parts_opened box points prints =
        omega (arith, parts_weight (parts_at box points) prints, parts_within is_in box (parts_at box points) (disjoint version box points) q rows)

    two_opened : (box : Ranges) (at : CutAt) (lower upper : List ℕ) → can_cut box at ≡ true
        → sum_by own (rules.Print (lower_part box at) lower ∷ rules.Print (upper_part box at) upper ∷ []) ≤ count_by q (rows_in box rows)
    two_opened box at lower upper can =
        let two : List Ranges = lower_part box at ∷ upper_part box at ∷ [] in
        omega (
          arith,
          sum_by-cons own (rules.Print (lower_part box at) lower) (rules.Print (upper_part box at) upper ∷ []),
          sum_by-cons own (rules.Print (upper_part box at) upper) [],
          sum_by-cons (λ z. count_by q (rows_in z rows)) (lower_part box at) (upper_part box at ∷ []),
          sum_by-cons (λ z. count_by q (rows_in z rows)) (upper_part box at) [],
          parts_within is_in box two (λ r. one r) q rows,
        )
      where
        one : (r : RowValue) → count_by (λ y. is_in y r) (lower_part box at ∷ upper_part box at ∷ []) ≤ cond (is_in box r) 1 0
        one r =
            omega (arith, split_counts box at r can, sum_by-cons (λ y. cond (is_in y r) 1 0) (lower_part box at) (upper_part box at ∷ []), sum_by-cons (λ y. cond (is_in y r) 1 0) (upper_part box at) [])

    -- ---- an own turn

    turn_weight : (asks : List AskValue) → passing (turn_items version (turn (sync_rules version) rows asks)) + sum_by other (opened (sync_rules version) rows asks) ≤ sum_by own asks
    turn_weight asks =
        let t : TurnValue = turn (sync_rules version) rows asks in
        let of_items : count_by q (rows_of_turn t) ≡ sum_by (told q) t.items = sum_by-flat_map (λ r. cond (q r) 1 0) rows_of_item t.items in
        omega (
          arith,
          ap (λ l. count_by q l) (rows_in_turn version t),
          of_items,
          turn_within (sync_rules version) rows (told q) own other (own_within (sync_rules version) (disjoint version) q rows) asks,
        )

    -- ---- what is heard

    abbrev WeighsThen : Option Ranges → Doing → ItemValue → Result Doing CoreRefusal → Type 0
    WeighsThen area doing item r = (d : Doing) → r ≡ Ok d → weight_of area d ≤ weight_of area doing

    weighs_ok : (area : Option Ranges) (from doing d : Doing) → weight_of area doing ≤ weight_of area from → ◌≡◌ {A = Result Doing CoreRefusal} (Ok doing) (Ok d) → weight_of area d ≤ weight_of area from
    weighs_ok area from doing d h e = subst (λ x. weight_of area x ≤ weight_of area from) (same_ok doing d e) h

    split_case : (area : Option Ranges) (box : Ranges) (print : List ℕ) (asks opens : List AskValue) (at : CutAt) (lower upper : List ℕ) (b : Bool) → can_cut box at ≡ b → (d : Doing)
        → unless (cause_if (not b) BadCut) (Hearing asks (opens ++ rules.Print (lower_part box at) lower ∷ rules.Print (upper_part box at) upper ∷ [])) ≡ Ok d
        → weight_of area d ≤ weight_of area (Hearing (rules.Print box print ∷ asks) opens)
    split_case area box print asks opens at lower upper true can d e =
        let two : List AskValue = rules.Print (lower_part box at) lower ∷ rules.Print (upper_part box at) upper ∷ [] in
        weighs_ok area (Hearing (rules.Print box print ∷ asks) opens) (Hearing asks (opens ++ two)) d
        (omega (arith, sum_by-append own opens two, two_opened box at lower upper can, sum_by-cons other (rules.Print box print) asks)) e
    split_case area box print asks opens at lower upper false can d e = absurd (not_err d BadCut e)

    weighs_cases : (area : Option Ranges) → AreCases version area rows (WeighsThen area)
    weighs_cases area = record {
      mismatch = λ doing item d e. absurd (not_err d ItemMismatch e);
      first_bye = λ is d e. weighs_ok area Beginning Replying d (omega arith) e;
      first_print = λ box print is d e. weighs_ok area Beginning (Hearing [] (rules.Print box print ∷ [])) d
          (omega (arith, sum_by-cons own (rules.Print box print) [], ap (λ a. count_by q (rows_of_area a rows)) is)) e;
      agree = λ box print asks opens d e. weighs_ok area (Hearing (rules.Print box print ∷ asks) opens) (Hearing asks opens) d (omega (arith, sum_by-cons other (rules.Print box print) asks)) e;
      split = λ box print asks opens at lower upper is d e. split_case area box print asks opens at lower upper (can_cut box at) refl d e;
      parts = λ box print asks opens points prints is d e.
          let parts = part_asks (parts_at box points) prints in
          subst (λ x. weight_of area x ≤ weight_of area (Hearing (rules.Print box print ∷ asks) opens)) (unless_ok (cause_if (not (can_cut_at box points)) BadCut) (Hearing asks (opens ++ parts)) d e)
          (omega (arith, sum_by-append own opens parts, parts_opened box points prints, sum_by-cons other (rules.Print box print) asks));
      entries = λ box print asks opens count d e.
          weighs_ok area (Hearing (rules.Print box print ∷ asks) opens) (hearing_rows (rules.Print box print) asks count [] opens) d (weight_hearing area (rules.Print box print) asks count [] opens) e;
      rest = λ box sent asks opens count d e.
          weighs_ok area (Hearing (rules.Sent box sent ∷ asks) opens) (hearing_rows (rules.Sent box sent) asks count [] opens) d (weight_hearing area (rules.Sent box sent) asks count [] opens) e;
      row = λ ask asks left read opens row d e.
          subst (λ x. weight_of area x ≤ weight_of area (HearingRows (ask ∷ asks) left read opens))
          (unless_ok (row_cause (box_of ask) read row) (hearing_rows ask asks (left - 1) (remembered ask read row) opens) d e) (weight_hearing area ask asks (left - 1) (remembered ask read row) opens);
      last_bye = λ d e. weighs_ok area (Hearing [] []) Replying d (omega arith) e;
      end_turn = λ ask asks d e. weighs_ok area (Hearing [] (ask ∷ asks)) (answering version rows (ask ∷ asks)) d (omega (arith, turn_weight (ask ∷ asks))) e;
      farewell = λ d e. weighs_ok area Parting Finished d (omega arith) e;
    }

    -- ---- at the beginning

    weight_first : (role : Role) (area : Option Ranges) → weight_of area (first_doing version role area rows) ≤ count_by q (rows_of_area area rows)
    weight_first Caller None = omega arith
    weight_first Caller (Some box) =
        let print = (sync_rules version).print (rows_in box rows) in
        omega (arith, sum_by-cons other (rules.Print box print) [])
    weight_first Answerer area = omega arith

  -- ---- places

  abbrev pub weight : Place → ℕ
  weight place = weight_of place.version place.rows place.area place.doing

  -- what is said takes as much as it tells
  pub said_weight : (place next : Place) (item : ItemValue) → said place ≡ Some (item, next) → count_by q (option_to_list (row_in item)) + weight next ≤ weight place
  unfolding said
  said_weight place next item e = by_doing place.doing e
    where
      -- a step of this pair
      step : (d : Doing) (first : ItemValue) (then : Place) → count_by q (option_to_list (row_in first)) + weight then ≤ weight_of place.version place.rows place.area d
          → ◌≡◌ {A = Option (ItemValue × Place)} (Some (first, then)) (Some (item, next)) → count_by q (option_to_list (row_in item)) + weight next ≤ weight_of place.version place.rows place.area d
      step d first then h is =
          let both : ◌≡◌ {A = ItemValue × Place} (first, then) (item, next) = same_some (first, then) (item, next) is in
          subst (λ (p : ItemValue × Place). count_by q (option_to_list (row_in p.0)) + weight p.1 ≤ weight_of place.version place.rows place.area d) both h

      by_doing : (d : Doing) → said_at place (next_said d) ≡ Some (item, next) → count_by q (option_to_list (row_in item)) + weight next ≤ weight_of place.version place.rows place.area d
      by_doing (Saying [] asks) h = absurd cc
      by_doing (Saying (first ∷ items) asks) h =
          step (Saying (first ∷ items) asks) first (record place { sent = place.sent + count_one first; doing = going_on items asks })
          (omega (arith, passing_first first items, weight_going_on place.version place.rows place.area items asks)) h
      by_doing Replying h = step Replying Bye (record place { sent = place.sent + count_one {R = RowValue} Bye; doing = Finished }) (omega arith) h
      by_doing Beginning h = absurd cc
      by_doing (Hearing asks opens) h = absurd cc
      by_doing (HearingRows asks left read opens) h = absurd cc
      by_doing Parting h = absurd cc
      by_doing Finished h = absurd cc
      by_doing (Refused cause) h = absurd cc

  -- what is heard adds nothing
  pub heard_weight : (place next : Place) (item : ItemValue) → heard place item ≡ Ok next → weight next ≤ weight place
  heard_weight place next item e =
      let to = heard_as place item next e in
      subst (λ p. weight p ≤ weight place) (sym to.then)
      (by_cases place.version place.area place.rows (WeighsThen place.version place.rows place.area) (weighs_cases place.version place.rows place.area) place.doing item to.doing to.comes)

  -- a side weighs no more at the beginning than the rows of the area
  pub first_weight : (version : ℕ) (role : Role) (rows : List RowValue) (area : Option Ranges) → weight (first_place version role rows area) ≤ count_by q (rows_of_area area rows)
  first_weight version role rows area = weight_first version rows role area

  -- ---- many steps

  says_weight : (most : ℕ) (place : Place) → passing (says most place).0 + weight (says most place).1 ≤ weight place
  unfolding says
  says_weight zero place = omega arith
  says_weight (suc most) place = by_next (said place) refl (says_weight most)
    where
      by_next : (o : Option (ItemValue × Place)) → said place ≡ o → ((then : Place) → passing (says most then).0 + weight (says most then).1 ≤ weight then)
          → passing (said_from (says most) place o).0 + weight (said_from (says most) place o).1 ≤ weight place
      by_next None is rest = omega arith
      by_next (Some next) is rest = omega (arith, said_weight place next.1 next.0 is, rest next.1, passing_first next.0 (says most next.1).0)

  pub talks_weight : (items : List ItemValue) (place : Place) → passing (talks place items) ≤ weight place
  unfolding talks
  talks_weight [] place = omega (arith, says_weight (left_to_say place.doing) place)
  talks_weight (item ∷ items) place =
      let spoken = says_all place in
      omega (
        arith,
        says_weight (left_to_say place.doing) place,
        passing_append spoken.0 (said_behind (λ next. talks next items) (heard spoken.1 item)),
        by_heard (heard spoken.1 item) refl (talks_weight items),
      )
    where
      by_heard : (o : Result Place CoreRefusal) → heard (says_all place).1 item ≡ o → ((next : Place) → passing (talks next items) ≤ weight next)
          → passing (said_behind (λ next. talks next items) o) ≤ weight (says_all place).1
      by_heard (Ok next) is rest = omega (arith, heard_weight (says_all place).1 next item is, rest next)
      by_heard (Err cause) is rest = omega arith

-- ---- from the beginning on

module _ (version : ℕ) (role : Role) (rows : List RowValue) (read : List ItemValue) where
  pub told_within : (x : Ranges) (q : RowValue → Bool) → count_by q (rows_said (first_place version role rows (Some x)) read) ≤ count_by q (rows_in x rows)
  told_within x q = omega (arith, talks_weight q read (first_place version role rows (Some x)), first_weight q version role rows (Some x))

  pub told_held : (x : Ranges) (r : RowValue) → Contains (rows_said (first_place version role rows (Some x)) read) r → Contains (rows_in x rows) r
  told_held x = held_rows (sync_rules version) (deciding version) rows x (rows_said (first_place version role rows (Some x)) read) (told_within x)

  pub told_once : (x : Ranges) → IsDistinct same_row rows → IsDistinct same_row (rows_said (first_place version role rows (Some x)) read)
  told_once x = distinct_rows (sync_rules version) (deciding version) rows x (rows_said (first_place version role rows (Some x)) read) (told_within x)

  pub none_told : rows_said (first_place version role rows None) read ≡ []
  none_told =
      none_of (rows_said (first_place version role rows None) read)
      (omega (arith, talks_weight (λ r. true) read (first_place version role rows None), first_weight (λ r. true) version role rows None))
    where
      none_of : (told : List RowValue) → count_by (λ r. true) told ≤ 0 → told ≡ []
      none_of [] h = refl
      none_of (r ∷ told) h = absurd (omega (arith, h, sum_by-cons (λ (s : RowValue). 1) r told))
