-- What is said, by the rows that are named.
use Rattle.std.proofs.Common.{◌≡◌, ℕ, ◌<◌, List, [], ◌∷◌, map, length, option_map, slice_get, Some, refl, sym, ap, ap₂, ◌∙◌, arith}
use Rattle.std.proofs.lemmas.List.{length-map}
use Rattle.willow_entry.specs.Row.{RowValue}
use Rattle.sync_msg.specs.Items.{ItemValue}
use Rattle.sync_msg.specs.declared.item.Item.TheVariants as items
use Rattle.sync_msg.specs.declared.item.Item.{Item}
use Rattle.sync_core.specs.Flat.{AskValue}
use Rattle.sync_core.specs.Place.{Saying}
use Rattle.sync_core.specs.Steps.{going_on}
use Rattle.sync_core.specs.Held.{AreNamed, Tell, item_at, items_at}
use Rattle.sync_core.proofs.Lists.{told_items}

-- what tells some items names rows that are there
pub named : (rows : List RowValue) (outs : List (Item ℕ)) (said : List ItemValue) → Tell rows outs said → AreNamed rows outs
named rows outs said t = t ∙ ap (λ l. map Some l) (sym (told_items (item_at rows) outs said t))

-- a named row is there
pub named_rows : (rows : List RowValue) (positions : List ℕ) (found : List RowValue) → map (slice_get rows) positions ≡ map Some found → map (item_at rows) (map (λ at. items.Row at) positions) ≡ map Some (map (λ r. items.Row r) found)
named_rows rows [] [] e = refl
named_rows rows [] (r ∷ found) e = absurd cc
named_rows rows (at ∷ positions) [] e = absurd cc
named_rows rows (at ∷ positions) (r ∷ found) e =
    let here : slice_get rows at ≡ Some r = cc in
    let rest : map (slice_get rows) positions ≡ map Some found = cc in
    ap₂ (λ o l. o ∷ l) (ap (option_map items.Row) here) (named_rows rows positions found rest)

-- where more is named, more is said
pub going_on_more : (rows : List RowValue) (outs : List (Item ℕ)) (asks : List AskValue) → AreNamed rows outs → 0 < length outs → going_on (items_at rows outs) asks ≡ Saying (items_at rows outs) asks
going_on_more rows outs asks all some = by_items (items_at rows outs) all
  where
    by_items : (said : List ItemValue) → map (item_at rows) outs ≡ map Some said → going_on said asks ≡ Saying said asks
    by_items [] e = absurd (omega (arith, length-map outs (item_at rows), ap length e))
    by_items (item ∷ said) e = refl
