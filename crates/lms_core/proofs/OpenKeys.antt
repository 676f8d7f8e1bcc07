-- Open keys among keys of both kinds.
use Rattle.std.proofs.Common.{refl}
use Rattle.std.proofs.lemmas.Bool.{eq-eqb}
use Rattle.std.specs.Prelude.{slice_index}
use Rattle.scheme_core.specs.Open.{AcceptsOpenKeys}
use Rattle.lms_core.specs.Use.{peer_accepts, peer_rules}

-- of an open key is accepted what is its open signature
pub peer_rules-open : AcceptsOpenKeys peer_rules
unfolding peer_accepts
peer_rules-open key message signature kind = rw (eq-eqb (slice_index key 0) 0 kind) refl
