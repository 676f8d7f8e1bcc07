use Rattle.std.proofs.Common.{map, ap, ◌∙◌}
use Rattle.sha_lanes.specs.declared.message.Message.{Message}
use Rattle.sha_lanes.specs.Message.{bytes_of}
use Rattle.peer_listing.specs.Signing.{own_signature, signed_bytes}
use Rattle.peer_listing.proofs.Signatures.{own_digests}
use Rattle.peer_listing.proofs.writers.Generator.put_frames.Goals as goal

pub put_each-requires-clause-messages : goal.put_each-requires-clause-messages
put_each-requires-clause-messages c =
    ap (map (λ (m : Message). m.rest.now)) c.deref-5.ensures.value
    ∙ c.in_ok-messages.ensures.whole
    ∙ ap (map signed_bytes) (c.deref-2.ensures.value ∙ c.in_ok-entries.ensures)

pub put_each-requires-clause-signatures : goal.put_each-requires-clause-signatures
put_each-requires-clause-signatures c =
    c.deref-6.ensures.value
    ∙ c.in_ok-signatures.ensures
    ∙ own_digests c.deref-4.result.now c.deref-2.result.now (ap (map bytes_of) c.deref-4.ensures.value ∙ c.in_ok-messages.ensures.bytes)
    ∙ ap (map own_signature) (c.deref-2.ensures.value ∙ c.in_ok-entries.ensures)
