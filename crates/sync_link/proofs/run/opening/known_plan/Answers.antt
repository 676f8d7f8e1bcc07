use Rattle.std.proofs.Common.{arith}
use Rattle.sync_link.specs.Plans.{own_hello}
use Rattle.sync_link.proofs.HelloLengths.{is_hello}
use Rattle.sync_link.proofs.run.opening.known_plan.Goals as goal

pub returns : goal.returns
returns g c rules namespace none = is_hello rules namespace (own_hello c.args.plan.now c.args.nonce) (omega (arith, c.known_version.ensures)) c.known_nonce.ensures c.known.ensures c.known-2.ensures none
