use Rattle.std.proofs.Common.{◌≡◌, drop, map, take}
use Rattle.std.specs.List.{flat_map}
use Rattle.sha_lanes.specs.Message.{bytes_of}
use Rattle.peer_listing.specs.Signing.{signed_bytes}
use Rattle.peer_listing.proofs.signing.messages.Given as goal

abbrev pub invariant-entries : goal.invariant-entries
invariant-entries l = record {
  left : l.left ≡ flat_map signed_bytes (drop l.entry-index l.entries);
  bytes : map bytes_of l.messages.items ≡ map signed_bytes (take l.entry-index l.entries);
  whole : map (λ m. m.rest.now) l.messages.items ≡ map signed_bytes (take l.entry-index l.entries);
}
