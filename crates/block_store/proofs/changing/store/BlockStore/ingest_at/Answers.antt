use Rattle.std.proofs.Common.{◌≡◌, ◌+◌, ◌-◌, ◌++◌, ◌∷◌, [], map, length, count_by, sym, ap, ◌∙◌, subst, arith}
use Rattle.willow_entry.specs.Row.{AreLive, HasCovering, is_dominating, live}
use Rattle.block_store.specs.Blocks.{block_rows, block_values}
use Rattle.block_store.specs.Front.{HaveComponents}
use Rattle.willow_entry.proofs.Between.{live-again}
use Rattle.block_store.proofs.Fewest.{fewest_more}
use Rattle.block_store.proofs.Pieces.{values_seen}
use Rattle.block_store.proofs.changing.store.BlockStore.ingest_at.Goals as goal

pub store_at-requires-clause-is_live : goal.store_at-requires-clause-is_live
store_at-requires-clause-is_live g c = subst (λ l. AreLive l) (values_seen g.R.Row.value c.self.inside.pieces.items) c.self.invariant.0

pub store_at-requires-clause-uncovered : goal.store_at-requires-clause-uncovered
store_at-requires-clause-uncovered g c =
    let value = g.R.Row.value in
    subst (λ l. HasCovering l (value c.args.row.value) → ⊥) (sym (sym (values_seen value c.self.inside.pieces.items) ∙ ap (map value) c.self.view_is)) c.requires.uncovered

pub invariant_of-self-2 : goal.invariant_of-self-2
invariant_of-self-2 g c =
    let value = g.R.Row.value in
    let alive = live-again (block_values value c.store_at.new.pieces.items) (block_values value c.self.inside.pieces.items ++ value c.args.row.value ∷ []) c.in_ok-pruned.ensures.rows in
    let fewest = fewest_more (block_values value c.self.inside.pieces.items) (map value (block_rows c.store_at.new.pieces.items)) (value c.args.row.value) c.self.inside.fewest c.min-self-inside.result (subst (λ l. HaveComponents l c.self.inside.fewest) (values_seen value c.self.inside.pieces.items) c.self.invariant.4)
    (values_seen value c.store_at.new.pieces.items ∙ c.in_ok-pruned.ensures.rows) (omega arith) (omega (arith, ap (λ e. length e.path) c.entry.ensures.entry, ap (λ r. length (value r).entry.path) c.deref.ensures)) in
    let count : c.rows_after-self-inside.result ≡ length (block_rows c.store_at.new.pieces.items) = c.rows_after-self-inside.ensures ∙ ap (λ n. n + 1 - c.in_ok-pruned.pruned) c.self.invariant.1 ∙ sym c.in_ok-pruned.ensures.count in
    (subst (λ l. AreLive l) (sym (values_seen value c.store_at.new.pieces.items)) alive, count, omega (arith, count, c.rows_after-self-inside.type_inv), c.store_at.ensures.packed c.self.invariant.3, fewest)

pub returns-clause-rows : goal.returns-clause-rows
returns-clause-rows g c =
    let value = g.R.Row.value in
    values_seen value c.store_at.new.pieces.items ∙ c.in_ok-pruned.ensures.rows
    ∙ ap (λ l. live (l ++ value c.args.row.value ∷ [])) (sym (values_seen value c.self.inside.pieces.items) ∙ ap (map value) c.self.view_is)

pub returns-clause-pruned : goal.returns-clause-pruned
returns-clause-pruned g c =
    let value = g.R.Row.value in
    c.in_ok-pruned.ensures.pruned ∙ ap (count_by (is_dominating (value c.args.row.value))) (sym (values_seen value c.self.inside.pieces.items) ∙ ap (map value) c.self.view_is)

pub returns-clause-live : goal.returns-clause-live
returns-clause-live g c = (invariant_of-self-2 g c).0
