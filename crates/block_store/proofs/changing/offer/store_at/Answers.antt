use Rattle.std.proofs.Common.{sym, subst}
use Rattle.willow_entry.specs.Row.{IsRising}
use Rattle.willow_entry.proofs.Between.{rising_live}
use Rattle.block_store.specs.Blocks.{block_values}
use Rattle.block_store.proofs.changing.offer.store_at.Goals as goal

pub own_place_at-at-requires : goal.own_place_at-at-requires
own_place_at-at-requires g c = subst (λ l. IsRising (block_values g.R.Row.value l)) (sym c.deref.ensures.value) (rising_live (block_values g.R.Row.value c.args.pieces.now.items) c.requires.is_live)
