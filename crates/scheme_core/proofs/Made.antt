-- Digests of claims' messages.
use Rattle.std.proofs.Common.{◌≡◌, ℕ, List, [], ◌∷◌, ◌++◌, length, map, take, refl, sym, ap, ◌∙◌}
use Rattle.std.proofs.lemmas.List.{length-map, take_at}
use Rattle.sha2.specs.Sha256.{sha256}
use Rattle.sha_lanes.specs.declared.message.Message.{Message}
use Rattle.sha_lanes.specs.Message.{bytes_of, digest_of}
use Rattle.scheme_core.specs.declared.claim.Claim.{Claim}
use Rattle.scheme_core.specs.OpenClaims.{open_signature_of, signed_bytes}

map-after : {X : Type 0} (f : X → List ℕ) (xs : List X) → map sha256 (map f xs) ≡ map (λ x. sha256 (f x)) xs
map-after f [] = refl
map-after f (x ∷ xs) = ap (λ (ys : List (List ℕ)). sha256 (f x) ∷ ys) (map-after f xs)

-- digests of what open keys sign are the open signatures
pub digests-open : (messages : List Message) (claims : List Claim) → map bytes_of messages ≡ map signed_bytes claims
    → map digest_of messages ≡ map open_signature_of claims
digests-open messages claims same = sym (map-after bytes_of messages) ∙ ap (map sha256) same ∙ map-after signed_bytes claims

-- the digests in a Vec that has as many places
pub digests-in_vec : (n : ℕ) (made behind : List (List ℕ)) (messages : List Message) (claims : List Claim) → length messages ≡ n
    → made ≡ map digest_of messages → map bytes_of messages ≡ map signed_bytes claims → take n (made ++ behind) ≡ map open_signature_of claims
digests-in_vec n made behind messages claims long same signed =
    let whole : length made ≡ n = ap length same ∙ length-map messages digest_of ∙ long in
    take_at made behind n whole ∙ same ∙ digests-open messages claims signed
