-- The items of the turns of an exchange are read as what they are.
use Rattle.std.proofs.Common.{◌≡◌, ℕ, zero, suc, ◌*◌, ◌/◌, ◌^◌, ◌<◌, ◌≤◌, Bool, true, false, cond, not, nat_eq, nat_le, nat_lt, List, [], ◌∷◌, filter, map, flat_map, length, get_or, take, Option, Some, None, refl, sym, subst, arith}
use Rattle.std.specs.Prelude.{option_map}
use Rattle.std.specs.Option.{option_map_or}
use Rattle.std.specs.Ordering.{is_gt, nat_cmp}
use Rattle.std.specs.declared.cmp.Ordering.{Ordering}
use Rattle.std.specs.List.Sorted.{IsStrictlySortedBy}
use Rattle.std.proofs.lemmas.Bool.{true≢false}
use Rattle.std.proofs.lemmas.Option.{same_Some}
use Rattle.std.specs.List.{AllByRecursion, list_any}
use Rattle.std.proofs.lemmas.List.Elements.{All-contains, All-from_recursion}
use Rattle.spelling.specs.Spelling.{AreSoManyBytes}
use Rattle.spelling.proofs.Lists.{All-append}
use Rattle.willow_path.specs.Key.{IsKey}
use Rattle.willow_path.specs.Path.{IsPath, path_cmp}
use Rattle.willow_area.specs.Boxes.{Ranges}
use Rattle.willow_area.specs.declared.cut.CutAt.{CutAt}
use Rattle.willow_entry.specs.Entry.{bytes_cmp}
use Rattle.willow_entry.specs.Frame.{HasFrame}
use Rattle.willow_entry.specs.Row.{RowValue, inner_place_cmp, same_row}
use Rattle.cap_codec.specs.Rows.{IsRawRow}
use Rattle.block_store.specs.InBox.{is_in, rows_in}
use Rattle.range_split.specs.Points.{DimensionPoints, by_subspace, by_path, by_time, cuts_at}
use Rattle.range_split.specs.Quarters.{put, sorted, distinct_above, quarters, or_others, cuts_of, cuts_among, paths_of, timestamps_of, have_subspaces, subspace_points, path_points, time_points, base_points, load, even_points, even_choice}
use Rattle.range_split.specs.Choice.{subspaces_of, points_of, choice}
use Rattle.range_split.specs.declared.choice.TheConstants.{ENTRIES_MAX}
use Rattle.range_split.specs.Least.{least_above}
use Rattle.range_split.proofs.Choosing.{are_many}
use Rattle.range_split.proofs.LeastKeys.{least_above_is}
use Rattle.exchange_rules.specs.Items as rules
use Rattle.exchange_rules.specs.Answer.{lacking, reply, turn, opened}
use Rattle.exchange_rules.specs.Exchange.{turns, enough, exchange, first_asks}
use Rattle.exchange_rules.proofs.Replies.{reply_cases}
use Rattle.sync_msg.specs.CutPoints.{IsPointOf, first_dimension}
use Rattle.sync_msg.specs.Items.{ItemValue, IsCut, HavePrints}
use Rattle.sync_msg.specs.declared.item.Item.TheVariants.{Row, EndTurn, Bye}
use Rattle.sync_core.specs.declared.stage.TheConstants.{SNAPSHOT_MAX}
use Rattle.sync_core.specs.SyncRules.{IsVersion, choice_in, sync_rules}
use Rattle.sync_core.specs.Flat.{AskValue, TurnValue, split_items, parts_items, items_of, turn_items, IsCutOf, IsTold}
use Rattle.sync_core.proofs.SpelledTurns.{few_chosen, filter_few, told_turn}
use Rattle.sync_link.proofs.Digests.{fingerprint_fits}
use Rattle.sync_link.proofs.Heard.{IsReadable}

pub all_kept : {X : Type 0} (P : X → Type 0) (keep : X → Bool) (xs : List X) → AllByRecursion P xs → AllByRecursion P (filter keep xs)
all_kept P keep [] h = tt
all_kept P keep (x ∷ xs) h = by_test (keep x) (all_kept P keep xs h.1)
  where
    by_test : (b : Bool) → AllByRecursion P (filter keep xs) → AllByRecursion P (cond b (x ∷ filter keep xs) (filter keep xs))
    by_test true rest = (h.0, rest)
    by_test false rest = rest

-- ---- the items of a turn

-- a row that can be sent and read
abbrev pub IsSendable : RowValue → Type 0
IsSendable row = IsRawRow row × HasFrame row

abbrev pub AreReadable : ℕ → List ItemValue → Type 0
AreReadable version items = AllByRecursion (IsReadable version) items

readable_rows : (version : ℕ) (rows : List RowValue) → AllByRecursion IsSendable rows → AreReadable version (map (λ r. Row r) rows)
readable_rows version [] fit = tt
readable_rows version (row ∷ rows) fit = (fit.0, readable_rows version rows fit.1)

readable_end : (version : ℕ) (b : Bool) → AreReadable version (cond b Bye EndTurn ∷ [])
readable_end version true = (tt, tt)
readable_end version false = (tt, tt)

readable_split : (version : ℕ) → nat_eq version 1 ≡ true → (cuts : List CutAt) (prints : List (List ℕ)) → AllByRecursion IsCut cuts → AllByRecursion (AreSoManyBytes 32) prints → AreReadable version (split_items cuts prints)
readable_split version one [] prints fit are = tt
readable_split version one (at ∷ []) [] fit are = tt
readable_split version one (at ∷ []) (lower ∷ []) fit are = tt
readable_split version one (at ∷ []) (lower ∷ upper ∷ []) fit are = ((one, (fit.0, (are.0, are.1.0))), tt)
readable_split version one (at ∷ []) (lower ∷ upper ∷ more ∷ prints) fit are = tt
readable_split version one (at ∷ other ∷ cuts) prints fit are = tt

-- what is not version 1 is 2
is_two : (version : ℕ) → IsVersion version → nat_eq version 1 ≡ false → nat_eq version 2 ≡ true
is_two zero is other = absurd (omega (arith, is.0))
is_two (suc zero) is other = absurd (true≢false other)
is_two (suc (suc zero)) is other = refl
is_two (suc (suc (suc n))) is other = absurd (omega (arith, is.1))

readable_parts : (version : ℕ) → nat_eq version 2 ≡ true → (cuts : List CutAt) (prints : List (List ℕ)) → HavePrints cuts prints → AllByRecursion (IsPointOf (first_dimension cuts)) cuts → AllByRecursion (AreSoManyBytes 32) prints
    → AreReadable version (parts_items cuts prints)
readable_parts version two cuts [] have fit are = tt
readable_parts version two cuts (print ∷ prints) have fit are = ((two, ((have.0, (have.1.0, fit)), (have.1.1, are))), tt)

prints_fit : (version : ℕ) (rows : List RowValue) (parts : List Ranges) → AllByRecursion (AreSoManyBytes 32) (map (λ y. (sync_rules version).print (rows_in y rows)) parts)
prints_fit version rows [] = tt
prints_fit version rows (part ∷ parts) = (fingerprint_fits (rows_in part rows), prints_fit version rows parts)

-- ---- the points of a cut are those of rows

one_of : {X : Type 0} (P : X → Type 0) (xs : List X) (k : ℕ) (d : X) → AllByRecursion P xs → P d → P (get_or xs k d)
one_of P [] k d all h = h
one_of P (x ∷ xs) zero d all h = all.0
one_of P (x ∷ xs) (suc k) d all h = one_of P xs k d all.1 h

keys_fit : (rows : List RowValue) → AllByRecursion IsSendable rows → AllByRecursion IsKey (subspaces_of rows)
keys_fit [] fit = tt
keys_fit (row ∷ rows) fit = (fit.0.0.entry_fits.subspace, keys_fit rows fit.1)

least_fits : (first middle : RowValue) (rows : List RowValue) → AllByRecursion IsSendable rows → IsSendable middle → (o : Option (List ℕ)) → least_above first.entry.subspace (subspaces_of rows) ≡ o
    → AllByRecursion IsCut (cuts_at (option_map_or (λ key. by_subspace (key ∷ [])) o (by_path (middle.entry.path ∷ []))))
least_fits first middle rows fit mine None is = (mine.0.entry_fits.path, tt)
least_fits first middle rows fit mine (Some key) is =
    (All-contains IsKey (subspaces_of rows) key (All-from_recursion IsKey (subspaces_of rows) (keys_fit rows fit)) (least_above_is first.entry.subspace key (subspaces_of rows) is).member, tt)

points_fit : (first middle : RowValue) (rows : List RowValue) → AllByRecursion IsSendable rows → IsSendable middle → AllByRecursion IsCut (cuts_at (points_of first middle rows))
points_fit first middle rows fit mine = by_test (is_gt (bytes_cmp middle.entry.subspace first.entry.subspace))
  where
    by_test : (b : Bool) → AllByRecursion IsCut (cuts_at (cond b (by_subspace (middle.entry.subspace ∷ [])) (option_map_or (λ key. by_subspace (key ∷ [])) (least_above first.entry.subspace (subspaces_of rows)) (by_path (middle.entry.path ∷ [])))))
    by_test true = (mine.0.entry_fits.subspace, tt)
    by_test false = least_fits first middle rows fit mine (least_above first.entry.subspace (subspaces_of rows)) refl

cuts_fit : (rows : List RowValue) (ats : List CutAt) → AllByRecursion IsSendable rows → (o : Option DimensionPoints) → choice rows ≡ o → option_map cuts_at o ≡ Some ats → AllByRecursion IsCut ats
cuts_fit rows ats fit None is e = absurd cc
cuts_fit rows ats fit (Some points) is e =
    let m = are_many rows points is in
    let same : cuts_at points ≡ ats = cc in
    let all : AllByRecursion IsSendable (m.first ∷ m.rest) = subst (λ l. AllByRecursion IsSendable l) m.all fit in
    let P : DimensionPoints → Type 0 = λ p. AllByRecursion IsCut (cuts_at p) in
    subst (λ l. AllByRecursion IsCut l) same
    (subst P m.parted (points_fit m.first (get_or rows (length rows / 2) m.first) rows fit (one_of IsSendable rows (length rows / 2) m.first fit all.0)))

-- ---- the same of a cut in parts

module _ {A : Type 0} (cmp : A → A → Ordering) (P : A → Type 0) where
  all_put : (x : A) (ys : List A) → P x → AllByRecursion P ys → AllByRecursion P (put cmp x ys)
  unfolding put
  all_put x [] h all = (h, tt)
  all_put x (y ∷ ys) h all = by_test (is_gt (cmp x y)) (all_put x ys h all.1)
    where
      by_test : (b : Bool) → AllByRecursion P (put cmp x ys) → AllByRecursion P (cond b (y ∷ put cmp x ys) (x ∷ y ∷ ys))
      by_test true rest = (all.0, rest)
      by_test false rest = (h, all)

  all_sorted : (xs : List A) → AllByRecursion P xs → AllByRecursion P (sorted cmp xs)
  unfolding sorted
  all_sorted [] all = tt
  all_sorted (x ∷ xs) all = all_put x (sorted cmp xs) all.0 (all_sorted xs all.1)

  all_distinct : (low : A) (xs : List A) → AllByRecursion P xs → AllByRecursion P (distinct_above cmp low xs)
  unfolding distinct_above
  all_distinct low [] all = tt
  all_distinct low (x ∷ xs) all = by_test (is_gt (cmp x low)) (all_distinct x xs all.1) (all_distinct low xs all.1)
    where
      by_test : (b : Bool) → AllByRecursion P (distinct_above cmp x xs) → AllByRecursion P (distinct_above cmp low xs) → AllByRecursion P (cond b (x ∷ distinct_above cmp x xs) (distinct_above cmp low xs))
      by_test true taken passed = (all.0, taken)
      by_test false taken passed = passed

  all_first : (xs : List A) → AllByRecursion P xs → AllByRecursion P (take 1 xs)
  all_first [] all = tt
  all_first (x ∷ xs) all = (all.0, tt)

  all_or : (xs others : List A) → AllByRecursion P xs → AllByRecursion P others → AllByRecursion P (or_others xs others)
  all_or [] others all h = h
  all_or (x ∷ xs) others all h = all

  all_cuts : (values : List A) → AllByRecursion P values → AllByRecursion P (cuts_of cmp values)
  unfolding cuts_of
  all_cuts [] all = tt
  all_cuts (low ∷ values) all =
      let whole : List A = low ∷ values in
      let n = length whole in
      all_or (distinct_above cmp low (quarters low whole)) (take 1 (distinct_above cmp low whole))
      (all_distinct low (quarters low whole) (one_of P whole ((1 * n) / 4) low all all.0, (one_of P whole ((2 * n) / 4) low all all.0, (one_of P whole ((3 * n) / 4) low all all.0, tt))))
      (all_first (distinct_above cmp low whole) (all_distinct low whole all))

  all_among : (values : List A) → AllByRecursion P values → AllByRecursion P (cuts_among cmp values)
  all_among values all = all_cuts (sorted cmp values) (all_sorted values all)

paths_fit : (rows : List RowValue) → AllByRecursion IsSendable rows → AllByRecursion IsPath (paths_of rows)
paths_fit [] fit = tt
paths_fit (row ∷ rows) fit = (fit.0.0.entry_fits.path, paths_fit rows fit.1)

times_fit : (rows : List RowValue) → AllByRecursion IsSendable rows → AllByRecursion (λ (time : ℕ). time < 2 ^ 64) (timestamps_of rows)
times_fit [] fit = tt
times_fit (row ∷ rows) fit = (fit.0.0.entry_fits.timestamp, times_fit rows fit.1)

-- the points of a cut of version 1, or of version 2, are in the grammar
abbrev FitIn : Bool → List CutAt → Type 0
FitIn true ats = AllByRecursion IsCut ats
FitIn false ats = AllByRecursion (IsPointOf (first_dimension ats)) ats

keys_points : (keys : List (List ℕ)) → AllByRecursion IsKey keys → AllByRecursion (IsPointOf 0) (cuts_at (by_subspace keys))
keys_points [] all = tt
keys_points (key ∷ keys) all = ((refl, all.0), keys_points keys all.1)

paths_points : (paths : List (List (List ℕ))) → AllByRecursion IsPath paths → AllByRecursion (IsPointOf 1) (cuts_at (by_path paths))
paths_points [] all = tt
paths_points (path ∷ paths) all = ((refl, all.0), paths_points paths all.1)

times_points : (times : List ℕ) → AllByRecursion (λ (time : ℕ). time < 2 ^ 64) times → AllByRecursion (IsPointOf 2) (cuts_at (by_time times))
times_points [] all = tt
times_points (time ∷ times) all = ((refl, all.0), times_points times all.1)

-- points of one dimension are of that of the first
of_first : (d : ℕ) (ats : List CutAt) → AllByRecursion (IsPointOf d) ats → FitIn false ats
of_first d [] all = tt
of_first d (at ∷ ats) all = subst (λ k. AllByRecursion (IsPointOf k) (at ∷ ats)) (sym all.0.0) all

module _ (rows : List RowValue) (fit : AllByRecursion IsSendable rows) where
  subspaces_cut : FitIn false (cuts_at (subspace_points rows))
  subspaces_cut = let keys = cuts_among bytes_cmp (subspaces_of rows) in of_first 0 (cuts_at (by_subspace keys)) (keys_points keys (all_among bytes_cmp IsKey (subspaces_of rows) (keys_fit rows fit)))

  paths_cut : FitIn false (cuts_at (path_points rows))
  paths_cut = let paths = cuts_among path_cmp (paths_of rows) in of_first 1 (cuts_at (by_path paths)) (paths_points paths (all_among path_cmp IsPath (paths_of rows) (paths_fit rows fit)))

  times_cut : FitIn false (cuts_at (time_points rows))
  times_cut = let times = cuts_among nat_cmp (timestamps_of rows) in of_first 2 (cuts_at (by_time times)) (times_points times (all_among nat_cmp (λ (time : ℕ). time < 2 ^ 64) (timestamps_of rows) (times_fit rows fit)))

  base_cut : FitIn false (cuts_at (base_points rows))
  base_cut = by_test (have_subspaces rows)
    where
      by_test : (b : Bool) → FitIn false (cuts_at (cond b (subspace_points rows) (path_points rows)))
      by_test true = subspaces_cut
      by_test false = paths_cut

  even_cut : FitIn false (cuts_at (even_points rows))
  unfolding even_points
  even_cut = by_test (nat_lt (2 * load (time_points rows) rows) (load (base_points rows) rows))
    where
      by_test : (b : Bool) → FitIn false (cuts_at (cond b (time_points rows) (base_points rows)))
      by_test true = times_cut
      by_test false = base_cut

  even_fit : (ats : List CutAt) → option_map cuts_at (even_choice rows) ≡ Some ats → FitIn false ats
  unfolding even_choice
  even_fit ats e = by_test (nat_le (length rows) ENTRIES_MAX) e
    where
      by_test : (b : Bool) → option_map cuts_at (cond b None (Some (even_points rows))) ≡ Some ats → FitIn false ats
      by_test true e = absurd cc
      by_test false e = subst (FitIn false) (same_Some (cuts_at (even_points rows)) ats e) even_cut

  chosen_fit : (version : ℕ) (ats : List CutAt) → option_map cuts_at (choice_in version rows) ≡ Some ats → FitIn (nat_eq version 1) ats
  chosen_fit version ats e = by_version (nat_eq version 1) e
    where
      by_version : (b : Bool) → option_map cuts_at (cond b (choice rows) (even_choice rows)) ≡ Some ats → FitIn b ats
      by_version true e = cuts_fit rows ats fit (choice rows) refl e
      by_version false e = even_fit ats e

-- ---- a turn

module _ (version : ℕ) (is : IsVersion version) (rows : List RowValue) (rise : IsStrictlySortedBy inner_place_cmp rows) (few : length rows ≤ SNAPSHOT_MAX) (fit : AllByRecursion IsSendable rows) where
  in_box : (area : Ranges) → AllByRecursion IsSendable (rows_in area rows)
  in_box area = all_kept IsSendable (is_in area) rows fit

  -- a cut that was chosen, as its version tells it
  readable_cut : (b : Bool) → nat_eq version 1 ≡ b → (cuts : List CutAt) (prints : List (List ℕ)) → IsCutOf b cuts prints → FitIn b cuts → AllByRecursion (AreSoManyBytes 32) prints
      → AreReadable version (cond b (split_items cuts prints) (parts_items cuts prints))
  readable_cut true one cuts prints told fits are = readable_split version one cuts prints fits are
  readable_cut false other cuts prints told fits are = readable_parts version (is_two version is other) cuts prints told.1 fits are

  readable_told : (ask : AskValue) → IsTold version (reply (sync_rules version) rows ask).item → AreReadable version (items_of version (reply (sync_rules version) rows ask).item)
  unfolding reply
  readable_told (rules.Print area print) =
      reply_cases (sync_rules version) rows area print (λ r. IsTold version r.item → AreReadable version (items_of version r.item)) (λ same told. (tt, tt))
      (λ none told. (few_chosen version (rows_in area rows) none, readable_rows version (rows_in area rows) (in_box area)))
      (λ ats chosen told.
      let prints = map (λ y. (sync_rules version).print (rows_in y rows)) ((sync_rules version).parts area ats) in
      readable_cut (nat_eq version 1) refl ats prints told (chosen_fit (rows_in area rows) (in_box area) version ats chosen) (prints_fit version rows ((sync_rules version).parts area ats)))
  readable_told (rules.Sent area sent) = λ told.
      let kept = λ (r : RowValue). not (list_any (same_row r) sent) in
      (omega (arith, few, filter_few (is_in area) rows, filter_few kept (rows_in area rows)), readable_rows version (lacking (sync_rules version) rows area sent) (all_kept IsSendable kept (rows_in area rows) (in_box area)))

  readable_reply : (ask : AskValue) → AreReadable version (items_of version (reply (sync_rules version) rows ask).item)
  readable_reply ask = readable_told ask (told_turn version rows rise (ask ∷ [])).0

  readable_answers : (asks : List AskValue) → AreReadable version (flat_map (items_of version) (turn (sync_rules version) rows asks).items)
  readable_answers [] = tt
  readable_answers (ask ∷ asks) =
      All-append (IsReadable version) (items_of version (reply (sync_rules version) rows ask).item) (flat_map (items_of version) (turn (sync_rules version) rows asks).items) (readable_reply ask) (readable_answers asks)

  pub readable_turn : (asks : List AskValue) → AreReadable version (turn_items version (turn (sync_rules version) rows asks))
  readable_turn asks =
      let t : TurnValue = turn (sync_rules version) rows asks in
      All-append (IsReadable version) (flat_map (items_of version) t.items) (cond t.ends_with_bye Bye EndTurn ∷ []) (readable_answers asks) (readable_end version t.ends_with_bye)

-- ---- all turns

abbrev pub AreReadableTurns : ℕ → List TurnValue → Type 0
AreReadableTurns version ts = AllByRecursion (λ t. AreReadable version (turn_items version t)) ts

-- rows of a side whose turns are read
pub record AreSent (rows : List RowValue) : Type 0 where
  pub rise : IsStrictlySortedBy inner_place_cmp rows
  pub few : length rows ≤ SNAPSHOT_MAX
  pub fit : AllByRecursion IsSendable rows

module _ (version : ℕ) (is : IsVersion version) where
  readable_later : (n : ℕ) (l m : List RowValue) → AreSent l → AreSent m → (asks : List AskValue) → AreReadableTurns version (turns (sync_rules version) n l m asks)
  unfolding turns
  readable_later zero l m own other asks = tt
  readable_later (suc n) l m own other [] = (readable_turn version is l own.rise own.few own.fit [], tt)
  readable_later (suc n) l m own other (ask ∷ asks) =
      (readable_turn version is l own.rise own.few own.fit (ask ∷ asks), readable_later n m l other own (opened (sync_rules version) l (ask ∷ asks)))

  pub readable_exchange : (a b : List RowValue) → AreSent a → AreSent b → (box : Option Ranges) → AreReadableTurns version (exchange (sync_rules version) a b box)
  readable_exchange a b own other None = ((tt, tt), ((tt, tt), tt))
  readable_exchange a b own other (Some x) =
      ((fingerprint_fits (rows_in x a), (tt, tt)), readable_later (enough (sync_rules version) a b x) b a other own (first_asks (sync_rules version) a x))
