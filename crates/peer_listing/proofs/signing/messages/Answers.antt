use Rattle.std.proofs.Common.{◌≡◌, ◌<◌, length, arith}
use Rattle.sha_lanes.specs.declared.message.Message.{Message}
use Rattle.sha_lanes.specs.Message.{bytes_of}
use Rattle.peer_listing.specs.Signing.{signed_bytes}
use Rattle.peer_listing.proofs.Signatures.{signed_long, signed_within, front_is, back_is, one_more}
use Rattle.peer_listing.proofs.signing.messages.Goals as goal

pub entries-preserved : goal.entries-preserved
entries-preserved c =
    let entries = c.args.entries.now in
    let i = c.entries.entry-index in
    let e = c.entry-item.result in
    let left = c.entries.left.now in
    let below : i < length entries = omega arith in
    let mid : c.min.result ≡ length (signed_bytes e) = omega (arith, signed_long e c.to_bytes-key.ensures.key.whole, signed_within entries i e left below c.entry-item.is c.entries.invariant.left) in
    let front : c.split_at.result.0.now ≡ signed_bytes e = front_is entries i e left below c.entry-item.is c.entries.invariant.left c.min.result c.split_at.result.0.now mid c.split_at.ensures.front in
    record {
      left = back_is entries i e left below c.entry-item.is c.entries.invariant.left c.min.result c.split_at.result.1.now mid c.split_at.ensures.back;
      bytes = one_more bytes_of entries i e c.entries.messages.items c.push.new.self.items _ below c.entry-item.is c.entries.invariant.bytes c.in_ok-push.ensures.items front;
      whole = one_more (λ (m : Message). m.rest.now) entries i e c.entries.messages.items c.push.new.self.items _ below c.entry-item.is c.entries.invariant.whole c.in_ok-push.ensures.items front;
    }
