use Rattle.std.proofs.Common.{◌≡◌, take}
use Rattle.std.specs.List.{flat_map}
use Rattle.peer_listing.specs.Signing.{signed_bytes}
use Rattle.peer_listing.proofs.signing.signed_bytes.Given as goal

abbrev pub invariant-entries : goal.invariant-entries
invariant-entries l = l.bytes.items ≡ flat_map signed_bytes (take l.entry-index l.entries)
