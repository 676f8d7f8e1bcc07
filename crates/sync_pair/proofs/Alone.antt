-- What each side of a meeting says by itself: a function of its rows in the area and of what it reads.
use Rattle.std.proofs.Common.{◌≡◌, ℕ, Bool, true, List, [], ◌∷◌, cond, Option, Some, None, refl, sym, ap, ◌∙◌}
use Rattle.std.specs.List.{AllByRecursion, filter}
use Rattle.std.proofs.lemmas.List.Elements.{filter_passes, recursion_from_All}
use Rattle.willow_area.specs.Boxes.{Ranges}
use Rattle.willow_entry.specs.Row.{RowValue}
use Rattle.block_store.specs.InBox.{is_in, rows_in}
use Rattle.range_split.proofs.Rising.{live_rows_rise}
use Rattle.exchange_rules.specs.AnyPeer.{caller, answerer}
use Rattle.exchange_rules.specs.Premises.{CanSend}
use Rattle.exchange_rules.proofs.Meeting.{sides_go_on}
use Rattle.exchange_rules.proofs.Worlds.{caller_alike, answerer_alike, alike_without_a_box}
use Rattle.sync_core.specs.Flat.{TurnValue}
use Rattle.sync_core.specs.Place.{rows_of_area}
use Rattle.sync_core.specs.SyncRules.{sync_rules}
use Rattle.sync_core.proofs.Lawful.{disjoint, can_send}
use Rattle.sync_pair.specs.Alone.{SayAlone, left_turns, right_turns}
use Rattle.sync_pair.specs.Stores.{AreStores, IsStoreOf}
use Rattle.sync_pair.proofs.Stores.{store_cuts}

-- a test that all pass keeps them all
kept_all : {X : Type 0} (test : X → Bool) (xs : List X) → AllByRecursion (λ x. test x ≡ true) xs → filter test xs ≡ xs
kept_all test [] all = refl
kept_all test (x ∷ xs) all = ap (λ b. cond b (x ∷ filter test xs) (filter test xs)) all.0 ∙ ap (λ l. x ∷ l) (kept_all test xs all.1)

-- the rows in a box have just these rows in it
inside_again : (x : Ranges) (rows : List RowValue) → rows_in x rows ≡ rows_in x (rows_in x rows)
inside_again x rows = sym (kept_all (is_in x) (rows_in x rows) (recursion_from_All (λ r. is_in x r ≡ true) (rows_in x rows) (filter_passes (is_in x) rows)))

-- so a side says the same that has no others
caller_inside : (version : ℕ) (area : Option Ranges) (rows : List RowValue) (read : List TurnValue) → caller (sync_rules version) rows area read ≡ caller (sync_rules version) (rows_of_area area rows) area read
caller_inside version None rows read = refl
caller_inside version (Some x) rows read = caller_alike (sync_rules version) (disjoint version) x rows (rows_in x rows) (inside_again x rows) read

answerer_inside : (version : ℕ) (area : Option Ranges) (rows : List RowValue) (read : List TurnValue) → answerer (sync_rules version) rows area read ≡ answerer (sync_rules version) (rows_of_area area rows) area read
answerer_inside version None rows read = (alike_without_a_box (sync_rules version) rows [] read).1
answerer_inside version (Some x) rows read = answerer_alike (sync_rules version) (disjoint version) x rows (rows_in x rows) (inside_again x rows) read

store_sends : (version : ℕ) (n : List ℕ) (rows : List RowValue) → IsStoreOf n rows → CanSend (sync_rules version) rows
store_sends version n rows store = can_send version rows (live_rows_rise rows store.live (n, store.own))

pub say_alone : (version : ℕ) (n : List ℕ) (a b : List RowValue) (area : Option Ranges) → AreStores n a b → SayAlone version a b area
say_alone version n a b area are =
    let both = sides_go_on (sync_rules version) (disjoint version) a b (store_cuts n a are.left version) (store_cuts n b are.right version) (store_sends version n a are.left) (store_sends version n b are.right) area in
    record { of_left = sym both.0 ∙ caller_inside version area a (right_turns version a b area); of_right = sym both.1 ∙ answerer_inside version area b (left_turns version a b area) }
