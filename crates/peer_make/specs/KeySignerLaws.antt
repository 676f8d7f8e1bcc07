-- What holds of the signatures of a signer that a word names.
use Rattle.std.proofs.Common.{◌≡◌, ◌≤◌, ℕ, true, List, length}
use Rattle.scheme_core.specs.OpenLaws.{open_accepts-short}
use Rattle.scheme_core.specs.declared.signer.TheConstants.{MAX_SIGNATURE}
use Rattle.lms_core.specs.UseLaws.{use_gives-short}
use Rattle.peer_make.specs.declared.key_signer.KeySigner.{KeySigner}
use Rattle.peer_make.specs.declared.key_signer.KeySigner.TheVariants.{Open, Once}
use Rattle.peer_make.specs.KeySigners.{gives_of}

-- they have at most so many bytes
pub gives_short : (s : KeySigner) (message signature : List ℕ) → gives_of s message signature ≡ true → length signature ≤ MAX_SIGNATURE
gives_short (Open key) message signature given = open_accepts-short key message signature given
gives_short (Once signer) message signature given = use_gives-short signer message signature given
