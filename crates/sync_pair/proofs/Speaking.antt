-- A side speaks one version from its first item to its last.
use Rattle.std.proofs.Common.{◌≡◌, ℕ, zero, suc, ◌+◌, Bool, true, false, cond, List, [], ◌∷◌, nat_le, Option, Some, None, Result, Ok, Err, refl, sym, ap, ◌∙◌}
use Rattle.sync_msg.specs.Items.{ItemValue}
use Rattle.sync_msg.specs.declared.refusal.CoreRefusal.{CoreRefusal}
use Rattle.sync_msg.specs.declared.refusal.CoreRefusal.TheVariants.{BadCut, ItemMismatch, EntryOutside, RowsOutOfOrder, TooManyItems}
use Rattle.sync_core.specs.Place.{Doing, Place, most_items}
use Rattle.sync_core.specs.Steps.{count_one, next_said, said_at, said, next_heard, items_with, heard_within, heard}
use Rattle.sync_core.specs.Runs.{said_from, says, left_to_say, says_all, heard_from, hears}

says_many : (most : ℕ) (place : Place) → (says most place).1.version ≡ place.version
unfolding says said
says_many zero place = refl
says_many (suc most) place = by_next (next_said place.doing) (says_many most)
  where
    by_next : (o : Option (ItemValue × Doing)) → ((then : Place) → (says most then).1.version ≡ then.version) → (said_from (says most) place (said_at place o)).1.version ≡ place.version
    by_next None rest = refl
    by_next (Some step) rest = rest (record place { sent = place.sent + count_one step.0; doing = step.1 })

-- that of a side which has said all that it had to
pub says_in_version : (place : Place) → (says_all place).1.version ≡ place.version
says_in_version place = says_many (left_to_say place.doing) place

one_in_version : (place next : Place) (item : ItemValue) → heard place item ≡ Ok next → next.version ≡ place.version
unfolding heard
one_in_version place next item e = by_next (next_heard place.version place.area place.rows place.doing item) e
  where
    refused_if : (b : Bool) (one other : CoreRefusal) → ◌≡◌ {A = Result Place CoreRefusal} (cond b (Err one) (Err other)) (Ok next) → ⊥
    refused_if true one other h = cc
    refused_if false one other h = cc

    taken_if : (b : Bool) (doing : Doing) → ◌≡◌ {A = Result Place CoreRefusal} (cond b (Ok (record place { read = place.read + count_one item; doing = doing })) (Err (TooManyItems (items_with place item)))) (Ok next) → next.version ≡ place.version
    taken_if true doing h =
        let is : record place { read = place.read + count_one item; doing = doing } ≡ next = cc in
        sym (ap (λ p. p.version) is)
    taken_if false doing h = absurd cc

    by_next : (o : Result Doing CoreRefusal) → heard_within place item o ≡ Ok next → next.version ≡ place.version
    by_next (Ok doing) h = taken_if (nat_le (items_with place item) (most_items place.area place.rows)) doing h
    by_next (Err ItemMismatch) h = absurd cc
    by_next (Err BadCut) h = absurd (refused_if (nat_le (items_with place item) (most_items place.area place.rows)) BadCut (TooManyItems (items_with place item)) h)
    by_next (Err EntryOutside) h = absurd (refused_if (nat_le (items_with place item) (most_items place.area place.rows)) EntryOutside (TooManyItems (items_with place item)) h)
    by_next (Err RowsOutOfOrder) h = absurd (refused_if (nat_le (items_with place item) (most_items place.area place.rows)) RowsOutOfOrder (TooManyItems (items_with place item)) h)
    by_next (Err (TooManyItems n)) h = absurd (refused_if (nat_le (items_with place item) (most_items place.area place.rows)) (TooManyItems n) (TooManyItems (items_with place item)) h)

-- and that of a side which has heard some items
pub hears_in_version : (place next : Place) (items : List ItemValue) → hears place items ≡ Ok next → next.version ≡ place.version
unfolding hears
hears_in_version place next [] e =
    let is : place ≡ next = cc in
    sym (ap (λ p. p.version) is)
hears_in_version place next (item ∷ items) e = by_first (heard place item) refl e (λ then. hears_in_version then next items)
  where
    by_first : (o : Result Place CoreRefusal) → heard place item ≡ o → heard_from (λ p. hears p items) o ≡ Ok next → ((then : Place) → hears then items ≡ Ok next → next.version ≡ then.version) → next.version ≡ place.version
    by_first (Err cause) is h later = absurd cc
    by_first (Ok then) is h later = later then h ∙ one_in_version place then item is
