use Rattle.std.proofs.Common.{arith, flat_map, take}
use Rattle.peer_listing.specs.Listing.{part_text}
use Rattle.peer_listing.proofs.Kept.{kept_on}
use Rattle.peer_listing.proofs.listing.put_parts.Goals as goal

pub returns-in_err-put_part-clause-kept : goal.returns-in_err-put_part-clause-kept
returns-in_err-put_part-clause-kept c =
    kept_on c.args.out.now.items (flat_map part_text (take c.loop-i.i c.args.path.now)) c.loop-i.out.items c.put_part.new.out.items c.args.out.now.len c.loop-i.out.len (omega (arith, c.args.out.now.ok)) c.loop-i.invariant c.in_err-put_part.ensures.kept
