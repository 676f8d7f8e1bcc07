-- The turns of a side whose rows rise: items tell them, and each of these has a spelling.
use Rattle.std.proofs.Common.{◌≡◌, ℕ, ◌≤◌, Bool, true, false, cond, List, [], ◌∷◌, ◌++◌, map, filter, flat_map, length, Option, Some, None, refl, sym, ap, ◌∙◌, ◌+◌, subst, arith}
use Rattle.std.specs.Prelude.{nat_eq, not, option_map, unwrap_or}
use Rattle.std.specs.List.{AllByRecursion, list_all, list_any}
use Rattle.std.proofs.lemmas.Bool.{and_from, eq-eqb}
use Rattle.std.proofs.lemmas.List.{length-map}
use Rattle.std.proofs.lemmas.Option.{same_Some}
use Rattle.std.specs.List.Sorted.{IsStrictlySortedBy}
use Rattle.std.proofs.lemmas.List.Sums.{length-filter, count_by-le-length}
use Rattle.willow_area.specs.Boxes.{Ranges}
use Rattle.willow_area.specs.Cuts.{lower_part, upper_part}
use Rattle.willow_area.specs.declared.cut.CutAt.{CutAt}
use Rattle.willow_area.specs.declared.cut.CutAt.TheVariants.{Subspace, Path, Time}
use Rattle.willow_entry.specs.Row.{RowValue, same_row, inner_place_cmp}
use Rattle.willow_entry.specs.Frame.{HasFrame}
use Rattle.block_store.specs.Fingerprint.{fingerprint_of}
use Rattle.block_store.specs.InBox.{is_in, rows_in}
use Rattle.range_split.specs.Points.{DimensionPoints, by_subspace, by_path, by_time, cuts_at}
use Rattle.range_split.specs.Choice.{choice}
use Rattle.range_split.specs.Quarters.{even_choice}
use Rattle.range_split.specs.Parts.{parts_at}
use Rattle.range_split.proofs.Choosing.{choice_none}
use Rattle.range_split.proofs.CutTest.{parts_number}
use Rattle.range_split.proofs.Quartering.{even_none}
use Rattle.exchange_rules.specs.Items as rules
use Rattle.exchange_rules.specs.Answer.{lacking, reply, turn}
use Rattle.exchange_rules.proofs.Replies.{reply_cases}
use Rattle.sync_msg.specs.CutPoints.{are_of_one, dimension}
use Rattle.sync_msg.specs.Items.{ItemValue, HasPoint, HasSpelling, HavePrints}
use Rattle.sync_msg.specs.declared.item.Item.TheVariants.{Row, EndTurn, Bye}
use Rattle.sync_msg.specs.declared.item.TheConstants.{MAX_ENTRIES}
use Rattle.sync_core.specs.SyncRules.{choice_in, sync_rules}
use Rattle.sync_core.specs.Flat.{AskValue, TurnValue, cut_items, items_of, parts_items, split_items, turn_items, IsCutOf, IsOneCut, IsPartsCut, IsTold, IsToldTurn}
use Rattle.sync_core.specs.declared.stage.TheConstants.{SNAPSHOT_MAX}
use Rattle.sync_core.proofs.Lawful.{one_cut, cuts_inside, even_cuts_divide}

-- the fingerprint of the rows of a box
abbrev print_in : List RowValue → Ranges → List ℕ
print_in rows area = fingerprint_of (rows_in area rows)

-- what holds of one cut with two fingerprints holds of a chosen cut of version 1
cut_is : (rows : List RowValue) → IsStrictlySortedBy inner_place_cmp rows → (area : Ranges) (ats : List CutAt) (P : List CutAt → List (List ℕ) → Type 0)
    → option_map cuts_at (choice (rows_in area rows)) ≡ Some ats
    → ((at : CutAt) → HasPoint at → (lower upper : List ℕ) → P (at ∷ []) (lower ∷ upper ∷ []))
    → P ats (map (print_in rows) (parts_at area ats))
cut_is rows rise area ats P e one =
    let c = cuts_inside rows rise area ats e in
    let f = print_in rows in
    let at : P (c.point ∷ []) (map f (parts_at area (c.point ∷ []))) = subst (λ parts. P (c.point ∷ []) (map f parts)) (sym (one_cut area c.point c.leaves.inside)) (one c.point c.told (f (lower_part area c.point)) (f (upper_part area c.point))) in
    subst (λ l. P l (map f (parts_at area l))) (sym c.alone) at

-- points of one dimension
same_all : (d : ℕ) (ats : List CutAt) → AllByRecursion (λ at. dimension at ≡ d) ats → list_all (λ at. nat_eq (dimension at) d) ats ≡ true
same_all d [] all = refl
same_all d (at ∷ ats) all = and_from (nat_eq (dimension at) d) (list_all (λ other. nat_eq (dimension other) d) ats) (eq-eqb (dimension at) d all.0) (same_all d ats all.1)

of_one : (d : ℕ) (ats : List CutAt) → AllByRecursion (λ at. dimension at ≡ d) ats → are_of_one ats ≡ true
of_one d [] all = refl
of_one d (at ∷ ats) all = subst (λ k. list_all (λ other. nat_eq (dimension other) k) ats ≡ true) (sym all.0) (same_all d ats all.1)

each_mapped : {A : Type 0} (d : ℕ) (cut : A → CutAt) (values : List A) → ((x : A) → dimension (cut x) ≡ d) → AllByRecursion (λ at. dimension at ≡ d) (map cut values)
each_mapped d cut [] same = tt
each_mapped d cut (x ∷ xs) same = (same x, each_mapped d cut xs same)

cuts_of_one : (points : DimensionPoints) → are_of_one (cuts_at points) ≡ true
cuts_of_one (by_subspace keys) = of_one 0 (map (λ key. Subspace key) keys) (each_mapped 0 (λ key. Subspace key) keys (λ key. refl))
cuts_of_one (by_path paths) = of_one 1 (map (λ path. Path path) paths) (each_mapped 1 (λ path. Path path) paths (λ path. refl))
cuts_of_one (by_time times) = of_one 2 (map (λ time. Time time) times) (each_mapped 2 (λ time. Time time) times (λ time. refl))

chosen_of_one : (o : Option DimensionPoints) (ats : List CutAt) → option_map cuts_at o ≡ Some ats → are_of_one ats ≡ true
chosen_of_one None ats e = absurd cc
chosen_of_one (Some points) ats e = subst (λ l. are_of_one l ≡ true) (same_Some (cuts_at points) ats e) (cuts_of_one points)

-- a chosen cut of version 2 comes with a fingerprint for each part
parts_told : (rows : List RowValue) → IsStrictlySortedBy inner_place_cmp rows → (area : Ranges) (ats : List CutAt) → option_map cuts_at (even_choice (rows_in area rows)) ≡ Some ats → IsPartsCut ats (map (print_in rows) (parts_at area ats))
parts_told rows rise area ats e =
    let d = even_cuts_divide rows rise area ats e in
    let number = parts_number area ats d.parts d.cut in
    let prints : length (map (print_in rows) (parts_at area ats)) ≡ length ats + 1 =
    ap (λ o. length (map (print_in rows) (unwrap_or o []))) d.cut ∙ omega (arith, length-map d.parts (print_in rows), number) in
    (chosen_of_one (even_choice (rows_in area rows)) ats e, (omega (arith, d.several, number), (omega (arith, d.few, number), prints)))

-- the chosen cut of a version is one that items of it tell
cut_told : (version : ℕ) (rows : List RowValue) → IsStrictlySortedBy inner_place_cmp rows → (area : Ranges) (ats : List CutAt)
    → option_map cuts_at (choice_in version (rows_in area rows)) ≡ Some ats → IsCutOf (nat_eq version 1) ats (map (print_in rows) (parts_at area ats))
cut_told version rows rise area ats e = by_version (nat_eq version 1) e
  where
    by_version : (b : Bool) → option_map cuts_at (cond b (choice (rows_in area rows)) (even_choice (rows_in area rows))) ≡ Some ats → IsCutOf b ats (map (print_in rows) (parts_at area ats))
    by_version true h = cut_is rows rise area ats IsOneCut h (λ at told lower upper. tt)
    by_version false h = parts_told rows rise area ats h

module _ (version : ℕ) (rows : List RowValue) (rise : IsStrictlySortedBy inner_place_cmp rows) where
  told_reply : (ask : AskValue) → IsTold version (reply (sync_rules version) rows ask).item
  unfolding reply
  told_reply (rules.Print area print) =
      reply_cases (sync_rules version) rows area print (λ r. IsTold version r.item) (λ same. tt) (λ few. tt) (λ ats is. cut_told version rows rise area ats is)
  told_reply (rules.Sent area sent) = tt

  pub told_turn : (asks : List AskValue) → IsToldTurn version (turn (sync_rules version) rows asks)
  told_turn [] = tt
  told_turn (ask ∷ asks) = (told_reply ask, told_turn asks)

-- ---- spellings

-- all of some items have a spelling
abbrev pub AreSpelled : List ItemValue → Type 0
AreSpelled items = AllByRecursion HasSpelling items

spelled-append : (xs ys : List ItemValue) → AreSpelled xs → AreSpelled ys → AreSpelled (xs ++ ys)
spelled-append [] ys h k = k
spelled-append (x ∷ xs) ys h k = (h.0, spelled-append xs ys h.1 k)

spelled_end : (b : Bool) → AreSpelled (cond b Bye EndTurn ∷ [])
spelled_end true = (tt, tt)
spelled_end false = (tt, tt)

framed_kept : (keep : RowValue → Bool) (rows : List RowValue) → AllByRecursion HasFrame rows → AllByRecursion HasFrame (filter keep rows)
framed_kept keep [] h = tt
framed_kept keep (row ∷ rows) h = by_test (keep row) (framed_kept keep rows h.1)
  where
    by_test : (b : Bool) → AllByRecursion HasFrame (filter keep rows) → AllByRecursion HasFrame (cond b (row ∷ filter keep rows) (filter keep rows))
    by_test true rest = (h.0, rest)
    by_test false rest = rest

spelled_rows : (rows : List RowValue) → AllByRecursion HasFrame rows → AreSpelled (map (λ r. Row r) rows)
spelled_rows [] h = tt
spelled_rows (row ∷ rows) h = (h.0, spelled_rows rows h.1)

-- no cut is chosen only of few rows
pub none_chosen : (o : Option DimensionPoints) → option_map cuts_at o ≡ None → o ≡ None
none_chosen None e = refl
none_chosen (Some points) e = absurd cc

pub few_chosen : (version : ℕ) (rows : List RowValue) → option_map cuts_at (choice_in version rows) ≡ None → length rows ≤ MAX_ENTRIES
few_chosen version rows e = by_version (nat_eq version 1) (none_chosen (choice_in version rows) e)
  where
    by_version : (b : Bool) → cond b (choice rows) (even_choice rows) ≡ None → length rows ≤ MAX_ENTRIES
    by_version true none = (choice_none rows).0 none
    by_version false none = (even_none rows).0 none

-- a chosen cut has a spelling
parts_spelled : (cuts : List CutAt) (prints : List (List ℕ)) → HavePrints cuts prints → AreSpelled (parts_items cuts prints)
parts_spelled cuts [] have = tt
parts_spelled cuts (print ∷ prints) have = (have, tt)

cut_spelled : (version : ℕ) (rows : List RowValue) → IsStrictlySortedBy inner_place_cmp rows → (area : Ranges) (ats : List CutAt)
    → option_map cuts_at (choice_in version (rows_in area rows)) ≡ Some ats → AreSpelled (cut_items version ats (map (print_in rows) (parts_at area ats)))
cut_spelled version rows rise area ats e = by_version (nat_eq version 1) e
  where
    by_version : (b : Bool) → option_map cuts_at (cond b (choice (rows_in area rows)) (even_choice (rows_in area rows))) ≡ Some ats
        → AreSpelled (cond b (split_items ats (map (print_in rows) (parts_at area ats))) (parts_items ats (map (print_in rows) (parts_at area ats))))
    by_version true h = cut_is rows rise area ats (λ cuts prints. AreSpelled (split_items cuts prints)) h (λ at told lower upper. (told, tt))
    by_version false h = parts_spelled ats (map (print_in rows) (parts_at area ats)) (parts_told rows rise area ats h).1

pub filter_few : (keep : RowValue → Bool) (rows : List RowValue) → length (filter keep rows) ≤ length rows
filter_few keep rows = omega (arith, length-filter keep rows, count_by-le-length keep rows)

module _ (version : ℕ) (rows : List RowValue) (rise : IsStrictlySortedBy inner_place_cmp rows) (few : length rows ≤ SNAPSHOT_MAX) (framed : AllByRecursion HasFrame rows) where
  spelled_reply : (ask : AskValue) → AreSpelled (items_of version (reply (sync_rules version) rows ask).item)
  unfolding reply
  spelled_reply (rules.Print area print) =
      reply_cases (sync_rules version) rows area print (λ r. AreSpelled (items_of version r.item)) (λ same. (tt, tt))
      (λ none. (few_chosen version (rows_in area rows) none, spelled_rows (rows_in area rows) (framed_kept (is_in area) rows framed)))
      (λ ats is. cut_spelled version rows rise area ats is)
  spelled_reply (rules.Sent area sent) =
      let left = lacking (sync_rules version) rows area sent in
      let kept = λ (r : RowValue). not (list_any (same_row r) sent) in
      let framed_left = framed_kept kept (rows_in area rows) (framed_kept (is_in area) rows framed) in
      (omega (arith, few, filter_few (is_in area) rows, filter_few kept (rows_in area rows)), spelled_rows left framed_left)

  spelled_answers : (asks : List AskValue) → AreSpelled (flat_map (items_of version) (turn (sync_rules version) rows asks).items)
  spelled_answers [] = tt
  spelled_answers (ask ∷ asks) =
      spelled-append (items_of version (reply (sync_rules version) rows ask).item) (flat_map (items_of version) (turn (sync_rules version) rows asks).items) (spelled_reply ask) (spelled_answers asks)

  pub spelled_turn : (asks : List AskValue) → AreSpelled (turn_items version (turn (sync_rules version) rows asks))
  spelled_turn asks =
      let t : TurnValue = turn (sync_rules version) rows asks in
      spelled-append (flat_map (items_of version) t.items) (cond t.ends_with_bye Bye EndTurn ∷ []) (spelled_answers asks) (spelled_end t.ends_with_bye)
