use Rattle.std.proofs.Common.{◌≡◌, ◌++◌, [], ◌∷◌, map, Some, length, ℕ, ap, ◌∙◌}
use Rattle.std.proofs.lemmas.List.{map-append}
use Rattle.willow_area.specs.Boxes.{Ranges}
use Rattle.block_store.specs.InBox.{rows_in}
use Rattle.sync_msg.specs.declared.item.Item.TheVariants as items
use Rattle.sync_core.specs.Held.{owed_value}
use Rattle.sync_core.specs.declared.ask.Owed.TheVariants as owed
use Rattle.sync_core.proofs.Telling.{adds_rows, found_length}
use Rattle.sync_core.proofs.Walking.{rows_found}
use Rattle.sync_core.proofs.answer.entries.Goals as goal

pub returns : goal.returns
returns c = λ version rows found.
    let area = c.args.area.now in
    let positions = c.args.found.now in
    let held = rows_in area rows in
    let there = rows_found area rows positions found in
    let number = found_length rows positions held there in
    let said : c.push_rows.new.items.items ≡ (c.args.turn.now.items.items ++ items.Entries (length positions) ∷ []) ++ map (λ (at : ℕ). items.Row at) positions = c.in_ok-push_rows.ensures ∙ ap (λ l. l ++ map (λ (at : ℕ). items.Row at) positions) c.in_ok-push.ensures.items in
    let opened : c.push-2.new.self.items ≡ c.args.turn.now.opens.items ++ owed.Rest area ∷ [] = c.in_ok-push-2.ensures.items ∙ ap (λ (a : Ranges). c.args.turn.now.opens.items ++ owed.Rest a ∷ []) c.in_ok-copy.ensures in
    record {
      items = adds_rows rows c.args.turn.now.items.items c.push_rows.new.items.items (items.Entries (length positions)) (items.Entries (length held)) positions held said (ap (λ n. Some (items.Entries n)) number) there;
      opens = ap (map (owed_value rows)) opened ∙ map-append (owed_value rows) c.args.turn.now.opens.items (owed.Rest area ∷ []);
    }
