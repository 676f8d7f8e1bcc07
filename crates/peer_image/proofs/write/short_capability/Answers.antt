use Rattle.std.proofs.Common.{◌≤◌, List, ℕ, length, sym, subst}
use Rattle.willow_entry.specs.declared.frame.TheConstants.{MAX_FRAME}
use Rattle.peer_image.proofs.TwoRows.{capability_short}
use Rattle.peer_image.proofs.write.short_capability.Goals as goal

pub returns-clause-short : goal.returns-clause-short
returns-clause-short g c =
    let short = capability_short (g.R.Row.value c.args.row.now) c.requires c.capability_bytes.ensures.token in
    subst (λ (l : List ℕ). length l ≤ MAX_FRAME) (sym c.capability_bytes.ensures.capability) short
