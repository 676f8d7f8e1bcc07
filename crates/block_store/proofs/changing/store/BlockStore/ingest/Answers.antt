use Rattle.std.proofs.Common.{◌≡◌, ◌++◌, ◌∷◌, [], map, length, sym, ap, ◌∙◌, subst, arith}
use Rattle.willow_entry.specs.Row.{AreLive, live}
use Rattle.willow_entry.specs.Placed.{IsPlaced}
use Rattle.block_store.specs.Blocks.{block_rows, block_values}
use Rattle.block_store.specs.Counting.{rows_after}
use Rattle.block_store.specs.Front.{HaveComponents}
use Rattle.willow_entry.proofs.Between.{live-again}
use Rattle.block_store.proofs.Fewest.{fewest_more}
use Rattle.block_store.proofs.Pieces.{values_seen}
use Rattle.block_store.proofs.changing.store.BlockStore.ingest.Goals as goal

pub offer-requires-clause-is_live : goal.offer-requires-clause-is_live
offer-requires-clause-is_live g c = subst (λ l. AreLive l) (values_seen g.R.Row.value c.self.inside.pieces.items) c.self.invariant.0

pub offer-requires-clause-fewest : goal.offer-requires-clause-fewest
offer-requires-clause-fewest g c = subst (λ l. HaveComponents l c.self.inside.fewest) (values_seen g.R.Row.value c.self.inside.pieces.items) c.self.invariant.4

pub invariant_of-self-2 : goal.invariant_of-self-2
invariant_of-self-2 g c =
    let value = g.R.Row.value in
    let alive = live-again (block_values value c.offer.new.pieces.items) (block_values value c.self.inside.pieces.items ++ value c.args.row ∷ []) c.in_ok-placed.ensures.rows in
    let fewest = fewest_more (block_values value c.self.inside.pieces.items) (map value (block_rows c.offer.new.pieces.items)) (value c.args.row) c.self.inside.fewest c.min-self-inside.result (subst (λ l. HaveComponents l c.self.inside.fewest) (values_seen value c.self.inside.pieces.items) c.self.invariant.4)
    (values_seen value c.offer.new.pieces.items ∙ c.in_ok-placed.ensures.rows) (omega arith) (omega (arith, ap (λ e. length e.path) c.entry.ensures.entry)) in
    let count : c.rows_after-self-inside.result ≡ length (block_rows c.offer.new.pieces.items) = c.rows_after-self-inside.ensures ∙ ap (λ n. rows_after n c.in_ok-placed.placed) c.self.invariant.1 ∙ sym c.in_ok-placed.ensures.count in
    (subst (λ l. AreLive l) (sym (values_seen value c.offer.new.pieces.items)) alive, count, omega (arith, count, c.rows_after-self-inside.type_inv), c.offer.ensures.packed c.self.invariant.3, fewest)

pub returns-clause-rows : goal.returns-clause-rows
returns-clause-rows g c =
    let value = g.R.Row.value in
    values_seen value c.offer.new.pieces.items ∙ c.in_ok-placed.ensures.rows
    ∙ ap (λ l. live (l ++ value c.args.row ∷ [])) (sym (values_seen value c.self.inside.pieces.items) ∙ ap (map value) c.self.view_is)

pub returns-clause-placed : goal.returns-clause-placed
returns-clause-placed g c =
    let value = g.R.Row.value in
    subst (λ l. IsPlaced l (value c.args.row) c.in_ok-placed.placed) (sym (values_seen value c.self.inside.pieces.items) ∙ ap (map value) c.self.view_is) c.in_ok-placed.ensures.placed

pub returns-clause-live : goal.returns-clause-live
returns-clause-live g c = (invariant_of-self-2 g c).0
