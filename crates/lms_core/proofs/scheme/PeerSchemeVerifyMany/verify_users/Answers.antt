use Rattle.lms_core.proofs.OpenKeys.{peer_rules-open}
use Rattle.lms_core.proofs.scheme.PeerSchemeVerifyMany.verify_users.Goals as goal

pub verify_together-requires : goal.verify_together-requires
verify_together-requires c = peer_rules-open
