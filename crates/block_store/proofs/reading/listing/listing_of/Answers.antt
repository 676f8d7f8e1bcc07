use Rattle.std.proofs.Common.{map, length, sym, ap, ◌∙◌, subst, arith}
use Rattle.willow_entry.specs.Row.{AreLive}
use Rattle.block_store.specs.Starts.{AreStarts}
use Rattle.block_store.specs.Summaries.{summaries_of}
use Rattle.block_store.proofs.Pieces.{values_seen}
use Rattle.block_store.proofs.reading.listing.listing_of.Goals as goal

pub invariant_of-result : goal.invariant_of-result
invariant_of-result g c =
    let value = g.R.Row.value in
    let copy = c.in_ok-pieces.pieces.items in
    let values = sym (values_seen value c.args.pieces.now) ∙ ap (map value) (sym c.in_ok-pieces.ensures) ∙ values_seen value copy in
    record {
      live = subst AreLive values c.requires.live;
      few = omega (arith, ap length c.in_ok-pieces.ensures, c.requires.few);
      placed = subst (AreStarts c.in_ok-starts.starts.items) c.deref.ensures.value c.in_ok-starts.ensures;
      summed = c.in_ok-summaries.ensures ∙ ap (summaries_of value) c.deref-2.ensures.value;
    }
