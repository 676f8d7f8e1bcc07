-- Claims of open keys, whose signatures are digests.
use Rattle.std.specs.Prelude.{ℕ, ◌==◌, ◌&&◌, Bool, List, ◌++◌, length, slice_index}
use Rattle.scheme_core.specs.Open.{open_signature}
use Rattle.scheme_core.specs.declared.claim.Claim.{Claim}
use Rattle.scheme_core.specs.Claims.{message_of}

-- whether a digest tells if a claim is accepted: the key is open, and the signature has the 32 bytes of a digest
abbrev pub needs_digest : Claim → Bool
needs_digest c = slice_index c.key 0 == 0 && length c.signature.now == 32

-- the bytes in front of a claim's rest, of those that an open key's signature is the digest of
abbrev pub front_of : Claim → List ℕ
front_of c = c.key ++ c.front.now

-- the bytes that an open key's signature is the digest of
abbrev pub signed_bytes : Claim → List ℕ
signed_bytes c = c.key ++ message_of c

-- the one signature of a claim's message under an open key
abbrev pub open_signature_of : Claim → List ℕ
open_signature_of c = open_signature c.key (message_of c)
