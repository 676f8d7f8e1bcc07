use Rattle.std.proofs.Common.{map, sym, ap, ◌∙◌, subst}
use Rattle.block_store.specs.InBox.{rows_in}
use Rattle.lane_sum.specs.Totals.{finish_of, total_by}
use Rattle.block_store.specs.BoxKinds.{IsOfOneNamespace}
use Rattle.block_store.specs.Fingerprint.{row_bytes}
use Rattle.block_store.proofs.Pieces.{values_seen}
use Rattle.block_store.proofs.reading.snapshot.Snapshot.fingerprint.Goals as goal

pub returns-clause-fingerprint : goal.returns-clause-fingerprint
returns-clause-fingerprint g c =
    let seen = ap (map g.R.Row.value) (sym c.self.view_is) ∙ values_seen g.R.Row.value c.self.inside.listing.pieces.items in
    c.finish.ensures ∙ ap finish_of (c.total_in.ensures.total ∙ ap (λ l. total_by row_bytes (rows_in c.args.area.now l)) (sym seen))

pub returns-clause-few : goal.returns-clause-few
returns-clause-few g c run one =
    let seen = ap (map g.R.Row.value) (sym c.self.view_is) ∙ values_seen g.R.Row.value c.self.inside.listing.pieces.items in
    c.total_in.ensures.few run (subst IsOfOneNamespace seen one)
