use Rattle.std.proofs.Common.{map, position, sym, ap, ◌∙◌, subst}
use Rattle.willow_entry.specs.Row.{RowValue, AreLive, is_covering}
use Rattle.willow_entry.proofs.Covering.{covering_found, covering_none}
use Rattle.block_store.specs.Blocks.{block_values}
use Rattle.block_store.specs.Front.{HaveComponents}
use Rattle.block_store.proofs.Pieces.{values_seen}
use Rattle.block_store.proofs.changing.store.BlockStore.covered_by.Goals as goal

pub cover-requires-clause-is_live : goal.cover-requires-clause-is_live
cover-requires-clause-is_live g c =
    let value = g.R.Row.value in
    subst (λ l. AreLive (block_values value l)) (sym c.deref.ensures.value) (subst (λ l. AreLive l) (values_seen value c.self.inside.pieces.items) c.self.invariant.0)

pub cover-requires-clause-fewest : goal.cover-requires-clause-fewest
cover-requires-clause-fewest g c =
    let value = g.R.Row.value in
    subst (λ l. HaveComponents (block_values value l) c.self.inside.fewest) (sym c.deref.ensures.value) (subst (λ l. HaveComponents l c.self.inside.fewest) (values_seen value c.self.inside.pieces.items) c.self.invariant.4)

pub returns-clause-first : goal.returns-clause-first
returns-clause-first g c =
    let value = g.R.Row.value in
    let test = λ (s : RowValue). is_covering s (value c.args.row.now) in
    c.cover.ensures.first ∙ ap (λ l. position test (block_values value l)) c.deref.ensures.value
    ∙ ap (position test) (sym (values_seen value c.self.inside.pieces.items) ∙ ap (map value) c.self.view_is)

pub returns-clause-found : goal.returns-clause-found
returns-clause-found g c = covering_found _ _ c.cover.result (returns-clause-first g c)

pub returns-clause-none : goal.returns-clause-none
returns-clause-none g c = covering_none _ _ c.cover.result (returns-clause-first g c)
