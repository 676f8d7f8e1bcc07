use Rattle.std.proofs.Common.{sym}
use Rattle.spelling.proofs.Lists.{are_bytes}
use Rattle.cap_codec.proofs.CapReads.{capability_long}
use Rattle.cap_codec.proofs.token.read_measured.Goals as goal

pub returns-clause-measured : goal.returns-clause-measured
returns-clause-measured c =
    capability_long c.args.bytes.now c.args.input.now c.in_ok-capability.capability c.read_capability.new.input c.taken_of-capability_len.result
    (are_bytes c.args.bytes.now c.type_inv.bytes) (sym c.requires) c.in_ok-capability.ensures.gives c.taken_of-capability_len.ensures
