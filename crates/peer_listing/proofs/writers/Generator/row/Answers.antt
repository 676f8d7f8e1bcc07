use Rattle.std.proofs.Common.{◌∙◌}
use Rattle.peer_listing.proofs.Ranges.{row_is}
use Rattle.peer_listing.proofs.writers.Generator.row.Goals as goal

pub returns : goal.returns
returns c =
    row_is c.args.i c.in_ok-new.field-0 c.in_ok-copy.field-0 c.short.result (c.in_ok-new.ensures.entry ∙ c.requires.entry) c.in_ok-new.ensures.token (c.in_ok-copy.ensures ∙ c.capability.ensures)
    (c.short.ensures ∙ c.in_ok-from_slice.ensures.items ∙ c.requires.signature)
