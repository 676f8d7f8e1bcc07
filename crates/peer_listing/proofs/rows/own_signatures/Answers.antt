use Rattle.std.proofs.Common.{◌≡◌, ℕ, List, map, ap, subst, ◌∙◌}
use Rattle.std.specs.Prelude.{IfOk}
use Rattle.sha_lanes.specs.Message.{bytes_of}
use Rattle.peer_listing.proofs.Signatures.{own_digests}
use Rattle.peer_listing.proofs.rows.own_signatures.Goals as goal

pub returns : goal.returns
returns c =
    subst (λ (l : List (List ℕ)). IfOk c.digests.result (λ made. made.items ≡ l))
    (own_digests c.deref-2.result.now c.args.entries.now (ap (map bytes_of) c.deref-2.ensures.value ∙ c.in_ok-messages.ensures.bytes))
    c.digests.ensures
