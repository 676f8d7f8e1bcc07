use Rattle.std.proofs.Common.{rules, ◌≡◌, subst}
use Rattle.cap_codec.specs.Rows.{FitsFrame}
use Rattle.sync_follow.proofs.FedRows.{has_frame}
use Rattle.sync_follow.proofs.feeding.put_row.Goals as goal

pub encode_row_frame-requires : goal.encode_row_frame-requires
encode_row_frame-requires g c =
    let same : c.deref.result.now.row ≡ c.deref-2.result.now.row = search rules in
    has_frame c.deref-2.result.now.row (subst FitsFrame same c.row-frame.ensures.fits)
