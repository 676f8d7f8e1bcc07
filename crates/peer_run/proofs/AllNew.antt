-- Rows in order are all new: none is covered by those before it.
use Rattle.std.proofs.Common.{◌≡◌, ◌||◌, Bool, true, false, cond, ℕ, All, List, [], ◌∷◌, ◌++◌, refl, sym, ap, ◌∙◌, ◌⊎◌, inl, inr, Option, Some, None, Less, append-nil, subst}
use Rattle.std.specs.declared.string.String.{String}
use Rattle.std.specs.declared.alloc.Global.{Global}
use Rattle.std.specs.List.{list_any, AllByRecursion, Contains}
use Rattle.std.specs.List.Sorted.{IsStrictlySortedBy}
use Rattle.std.proofs.lemmas.Bool.{false_from_ne_true}
use Rattle.std.proofs.lemmas.List.Elements.{All-nil}
use Rattle.std.proofs.lemmas.List.Folds.{list_any-append}
use Rattle.willow_entry.specs.Pruning.{new_after}
use Rattle.willow_entry.specs.Row.{RowValue, is_covering, inner_place_cmp, new, Dominates}
use Rattle.willow_entry.proofs.Members.{Member, contains_from_member}
use Rattle.willow_entry.proofs.Ranks.{inner_place_total}
use Rattle.willow_entry.proofs.Rising.{all_from_members, not_below_itself}
use Rattle.willow_entry.proofs.RowLaws.{covering_means}
use Rattle.cap_codec.specs.Rows.{IsRaw, RawValue}
use Rattle.peer_image.specs.ImageReading.{raw_rows}
use Rattle.peer_image.specs.Order.{IsInOrder, order_refusal}
use Rattle.peer_image.proofs.InOrder.{order_decides, order_of_live}
use Rattle.peer_rows.specs.Logged.{authorised_rows}
use Rattle.peer_rows.proofs.AuthorisedRows.{authorised_live, of_namespace}
use Rattle.willow_outside.specs.Facts.{BayFacts}
use Rattle.peer_run.specs.LogFiles.{FileState}
use Rattle.sync_link.specs.Kept.{log_rows}
use Rattle.peer_run.specs.LogGiven.{AreFiled, opening_rows}
use Rattle.peer_run.specs.Opening.{IsOpened}
use Rattle.peer_run.specs.declared.opening.Opening.{Opening}
use Rattle.peer_run.proofs.SideBegun.{FiledBy}

-- an item covers none behind it
abbrev CoversNone : {X : Type 0} → (X → X → Bool) → List X → Type 0
CoversNone covers [] = Unit {0}
CoversNone covers (x ∷ xs) = AllByRecursion (λ z. covers x z ≡ false) xs × CoversNone covers xs

neither : (a b : Bool) → a ≡ false → b ≡ false → (a || b) ≡ false
neither true b one other = one
neither false b one other = other

module _ {X : Type 0} (covers : X → X → Bool) where
  -- nothing of the earlier items covers it
  abbrev IsOpen : List X → X → Type 0
  IsOpen earlier x = list_any (λ y. covers y x) earlier ≡ false

  open_on : (earlier : List X) (x : X) (xs : List X) → AllByRecursion (IsOpen earlier) xs → AllByRecursion (λ z. covers x z ≡ false) xs → AllByRecursion (IsOpen (earlier ++ x ∷ [])) xs
  open_on earlier x [] before here = tt
  open_on earlier x (z ∷ zs) before here =
      (list_any-append (λ y. covers y z) earlier (x ∷ []) ∙ neither (list_any (λ y. covers y z) earlier) (covers x z || false) before.0 (neither (covers x z) false here.0 refl), open_on earlier x zs before.1 here.1)

  all_new : (earlier xs : List X) → AllByRecursion (IsOpen earlier) xs → CoversNone covers xs → new_after covers earlier xs ≡ xs
  unfolding new_after
  all_new earlier [] before none = refl
  all_new earlier (x ∷ xs) before none =
      ap (λ (b : Bool). cond b (new_after covers (earlier ++ x ∷ []) xs) (x ∷ new_after covers (earlier ++ x ∷ []) xs)) before.0
      ∙ ap (λ (l : List X). x ∷ l) (all_new (earlier ++ x ∷ []) xs (open_on earlier x xs before.1 none.0) none.1)

  open_first : (xs : List X) → AllByRecursion (IsOpen []) xs
  open_first [] = tt
  open_first (x ∷ xs) = (refl, open_first xs)

-- a row above another is not covered by it, where it is not dominated
uncovered : (r s : RowValue) → inner_place_cmp r s ≡ Less → (Dominates r s → ⊥) → is_covering r s ≡ false
uncovered r s below none = false_from_ne_true (is_covering r s) (λ yes. no_way ((covering_means r s).0 yes)) where
  no_way : (r ≡ s) ⊎ Dominates r s → ⊥
  no_way (inl same) = not_below_itself inner_place_cmp inner_place_total s (sym (ap (λ (t : RowValue). inner_place_cmp t s) same) ∙ below)
  no_way (inr dominates) = none dominates

module _ (all : List RowValue) (none : (r s : RowValue) → Contains all r → Contains all s → Dominates r s → ⊥) where
  covers_no_later : (r : RowValue) (rows : List RowValue) → Contains all r → AllByRecursion (Member all) rows → AllByRecursion (λ s. inner_place_cmp r s ≡ Less) rows → AllByRecursion (λ s. is_covering r s ≡ false) rows
  covers_no_later r [] here held below = tt
  covers_no_later r (s ∷ rows) here held below = (uncovered r s below.0 (none r s here (contains_from_member all s held.0)), covers_no_later r rows here held.1 below.1)

  covers_none : (rows : List RowValue) → AllByRecursion (Member all) rows → IsStrictlySortedBy inner_place_cmp rows → CoversNone is_covering rows
  unfolding IsStrictlySortedBy
  covers_none [] held up = tt
  covers_none (r ∷ rows) held up = (covers_no_later r rows (contains_from_member all r held.0) held.1 up.0, covers_none rows held.1 up.1)

in_order_new : (rows : List RowValue) → IsInOrder rows → new rows ≡ rows
in_order_new rows order =
    all_new is_covering [] rows (open_first is_covering rows) (covers_none rows order.undominated rows (all_from_members inner_place_cmp (Member rows) rows (λ r m. m)) order.rising)

-- of rows in order the authorised ones are all new
pub authorised_new : (n : List ℕ) (rows : List RawValue) → order_refusal (raw_rows rows) ≡ None → new (authorised_rows n rows) ≡ authorised_rows n rows
authorised_new n rows order =
    let live_is = authorised_live n rows order in
    let none = (order_of_live n (authorised_rows n rows) (of_namespace n rows)).1 live_is in
    in_order_new (authorised_rows n rows) ((order_decides (authorised_rows n rows)).0 none)

-- so the opening log of a side is that of its rows, by whether it has a log file
pub filed_is : (log : Option (String Global)) (file : Option FileState) (n : List ℕ) (bay bay' : BayFacts) (filed : List RawValue) → FiledBy log file n bay bay' filed → AreFiled log n bay filed
filed_is None None n bay bay' filed by = by.0
filed_is None (Some f) n bay bay' filed by = absurd by
filed_is (Some name) None n bay bay' filed by = absurd by
filed_is (Some name) (Some f) n bay bay' filed by = by.held

-- those of the file are read out
pub filed_raw : (log : Option (String Global)) (file : Option FileState) (n : List ℕ) (bay bay' : BayFacts) (filed : List RawValue) → FiledBy log file n bay bay' filed → All IsRaw filed
filed_raw None None n bay bay' filed by = subst (λ (rows : List RawValue). All IsRaw rows) (sym by.0) (All-nil IsRaw)
filed_raw None (Some f) n bay bay' filed by = absurd by
filed_raw (Some name) None n bay bay' filed by = absurd by
filed_raw (Some name) (Some f) n bay bay' filed by = by.read_out

pub opening_is : (log : Option (String Global)) (file : Option FileState) (n : List ℕ) (rows : List RawValue) (bay bay' : BayFacts) (filed : List RawValue) (x : Opening) → order_refusal (raw_rows rows) ≡ None → FiledBy log file n bay bay' filed
    → IsOpened n (rows ++ filed) x → log_rows x.state.log ≡ opening_rows log n rows filed
opening_is None None n rows bay bay' filed x order by is = is.held ∙ ap (λ (all : List RawValue). new (authorised_rows n all)) (ap (λ (more : List RawValue). rows ++ more) by.0 ∙ append-nil rows) ∙ authorised_new n rows order
opening_is None (Some f) n rows bay bay' filed x order by is = absurd by
opening_is (Some name) None n rows bay bay' filed x order by is = absurd by
opening_is (Some name) (Some f) n rows bay bay' filed x order by is = is.held
