-- The answers to asks, by their cases, and the items that tell them.
use Rattle.std.proofs.Common.{◌≡◌, ℕ, zero, suc, ◌<◌, ◌≤◌, Bool, true, false, not, cond, List, [], ◌∷◌, ◌++◌, map, length, slice_get, option_map, Some, None, refl, sym, ap, ap₂, ◌∙◌, arith}
use Rattle.std.specs.Prelude.{unwrap_or, IsSomeAnd}
use Rattle.std.proofs.lemmas.List.{append_assoc, map-append, length-map}
use Rattle.std.proofs.lemmas.List.Sums.{length-filter, count_by-le-length}
use Rattle.spelling.specs.Answers.{cause_if}
use Rattle.willow_area.specs.Boxes.{Ranges}
use Rattle.willow_area.specs.Cuts.{can_cut, lower_part, upper_part}
use Rattle.willow_area.specs.declared.cut.CutAt.{CutAt}
use Rattle.willow_entry.specs.Entry.{same_bytes}
use Rattle.willow_entry.specs.Row.{RowValue}
use Rattle.block_store.specs.Fingerprint.{fingerprint_of}
use Rattle.block_store.specs.InBox.{is_in, rows_in}
use Rattle.range_split.specs.Points.{cuts_at}
use Rattle.exchange_rules.specs.Items as rules
use Rattle.exchange_rules.specs.Answer.{reply, differing, lacking}
use Rattle.sync_msg.specs.Items.{ItemValue}
use Rattle.sync_msg.specs.declared.item.Item.TheVariants as items
use Rattle.sync_msg.specs.declared.item.Item.{Item}
use Rattle.sync_core.specs.SyncRules.{choice_in, sync_rules}
use Rattle.sync_core.specs.Held.{item_at}
use Rattle.sync_core.specs.Answers.{ReplyValue}
use Rattle.sync_core.proofs.Naming.{named_rows}

-- ---- the cases of an answer

abbrev pub agreeing : ReplyValue
agreeing = record { item = rules.Agree; opens = [] }

pub reply_same : (version : ℕ) (rows : List RowValue) (area : Ranges) (print : List ℕ) → same_bytes print (fingerprint_of (rows_in area rows)) ≡ true → reply (sync_rules version) rows (rules.Print area print) ≡ agreeing
unfolding reply
reply_same version rows area print e = ap (λ b. cond b agreeing (differing (sync_rules version) rows area (option_map cuts_at (choice_in version (rows_in area rows))))) e

pub reply_differs : (version : ℕ) (rows : List RowValue) (area : Ranges) (print : List ℕ) → same_bytes print (fingerprint_of (rows_in area rows)) ≡ false → reply (sync_rules version) rows (rules.Print area print) ≡ differing (sync_rules version) rows area (option_map cuts_at (choice_in version (rows_in area rows)))
unfolding reply
reply_differs version rows area print e = ap (λ b. cond b agreeing (differing (sync_rules version) rows area (option_map cuts_at (choice_in version (rows_in area rows))))) e

pub reply_sent : (version : ℕ) (rows : List RowValue) (area : Ranges) (sent : List RowValue) → reply (sync_rules version) rows (rules.Sent area sent) ≡ record { item = rules.Rest (lacking (sync_rules version) rows area sent); opens = [] }
unfolding reply
reply_sent version rows area sent = refl

-- the fingerprint of the rows of a box
abbrev print_in : List RowValue → Ranges → List ℕ
print_in rows area = fingerprint_of (rows_in area rows)

-- a cut with its parts
abbrev split_reply : List RowValue → CutAt → List Ranges → ReplyValue
split_reply rows at parts = record { item = rules.Split (at ∷ []) (map (print_in rows) parts); opens = map (λ y. rules.Print y (print_in rows y)) parts }

pub differing_inside : (rows : List RowValue) (area : Ranges) (at : CutAt) → can_cut area at ≡ true
    → differing (sync_rules 1) rows area (Some (at ∷ [])) ≡ record { item = rules.Split (at ∷ []) (fingerprint_of (rows_in (lower_part area at) rows) ∷ fingerprint_of (rows_in (upper_part area at) rows) ∷ []); opens = rules.Print (lower_part area at) (fingerprint_of (rows_in (lower_part area at) rows)) ∷ rules.Print (upper_part area at) (fingerprint_of (rows_in (upper_part area at) rows)) ∷ [] }
differing_inside rows area at can = ap (λ b. split_reply rows at (unwrap_or (cond b (Some (lower_part area at ∷ upper_part area at ∷ [])) None) [])) can

pub differing_outside : (rows : List RowValue) (area : Ranges) (at : CutAt) → can_cut area at ≡ false → differing (sync_rules 1) rows area (Some (at ∷ [])) ≡ record { item = rules.Split (at ∷ []) []; opens = [] }
differing_outside rows area at cannot = ap (λ b. split_reply rows at (unwrap_or (cond b (Some (lower_part area at ∷ upper_part area at ∷ [])) None) [])) cannot

-- a test that gives no cause passed, and one that gives a cause failed
pub no_cause : {E : Type 0} (b : Bool) (e : E) → cause_if (not b) e ≡ None → b ≡ true
no_cause true e h = refl
no_cause false e h = absurd cc

pub some_cause : {E : Type 0} (b : Bool) (e f : E) → cause_if (not b) e ≡ Some f → b ≡ false
some_cause true e f h = absurd cc
some_cause false e f h = refl

-- ---- the rows of an answer

pub found_length : (rows : List RowValue) (positions : List ℕ) (found : List RowValue) → map (slice_get rows) positions ≡ map (λ r. Some r) found → length positions ≡ length found
found_length rows positions found e =
    let two : length (map (slice_get rows) positions) ≡ length (map (λ (r : RowValue). Some r) found) = ap length e in
    sym (length-map positions (slice_get rows)) ∙ two ∙ length-map found (λ (r : RowValue). Some r)

pub rows_in-le : (area : Ranges) (rows : List RowValue) → length (rows_in area rows) ≤ length rows
rows_in-le area rows = omega (arith, length-filter (is_in area) rows, count_by-le-length (is_in area) rows)

-- a head with its rows behind other items
pub adds_rows : (rows : List RowValue) (old new : List (Item ℕ)) (head : Item ℕ) (value : ItemValue) (positions : List ℕ) (found : List RowValue)
    → new ≡ (old ++ head ∷ []) ++ map (λ at. items.Row at) positions → item_at rows head ≡ Some value → map (slice_get rows) positions ≡ map (λ r. Some r) found
    → map (item_at rows) new ≡ map (item_at rows) old ++ map (λ (i : ItemValue). Some i) (value ∷ map (λ r. items.Row r) found)
adds_rows rows old new head value positions found made here there =
    let behind = map (λ at. items.Row at) positions in
    ap (map (item_at rows)) (made ∙ append_assoc old (head ∷ []) behind)
    ∙ map-append (item_at rows) old (head ∷ behind)
    ∙ ap₂ (λ o l. map (item_at rows) old ++ o ∷ l) here (named_rows rows positions found there)

-- an item alone behind other items
pub adds_one : (rows : List RowValue) (old new : List (Item ℕ)) (item : Item ℕ) (value : ItemValue) → new ≡ old ++ item ∷ [] → item_at rows item ≡ Some value → map (item_at rows) new ≡ map (item_at rows) old ++ map (λ (i : ItemValue). Some i) (value ∷ [])
adds_one rows old new item value made here =
    ap (map (item_at rows)) made ∙ map-append (item_at rows) old (item ∷ []) ∙ ap (λ o. map (item_at rows) old ++ o ∷ []) here

-- an item that is there is within the list
pub there_within : {X : Type 0} (xs : List X) (k : ℕ) (P : X → Type 0) → IsSomeAnd (slice_get xs k) P → k < length xs
there_within [] k P h = absurd h
there_within (x ∷ xs) zero P h = omega arith
there_within (x ∷ xs) (suc k) P h = omega (arith, there_within xs k P h)
