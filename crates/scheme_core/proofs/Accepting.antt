-- What is accepted of open keys, and the answers so far.
use Rattle.std.proofs.Common.{◌≡◌, ℕ, ◌+◌, ◌<◌, ◌==◌, Bool, true, false, cond, List, [], ◌∷◌, ◌++◌, drop, filter, length, get_or, map, slice_index, take, bytes_eq, refl, sym, ap, ◌∙◌, arith}
use Rattle.std.proofs.lemmas.Bool.{and_parts, eq-eqb, eqb-true}
use Rattle.std.proofs.lemmas.List.{at_drop_more, drop-drop, get_or-drop, map-append, take_more}
use Rattle.std.proofs.lemmas.Slice.Eq.{bytes_eq-Decides}
use Rattle.sha2.proofs.Facts256.{length-sha256}
use Rattle.scheme_core.specs.Rules.{Rules}
use Rattle.scheme_core.specs.Open.{AcceptsOpenKeys, open_accepts, open_signature}
use Rattle.scheme_core.specs.declared.claim.Claim.{Claim}
use Rattle.scheme_core.specs.Claims.{accepts_claim, message_of}
use Rattle.scheme_core.specs.OpenClaims.{needs_digest, open_signature_of}

-- what is accepted of a key of kind 0
open_accepts-kind : (key message signature : List ℕ) → slice_index key 0 ≡ 0
    → open_accepts key message signature ≡ bytes_eq signature (open_signature key message)
unfolding open_accepts
open_accepts-kind key message signature kind = rw (eq-eqb (slice_index key 0) 0 kind) refl

-- the kind of the key of a claim that needs a digest
needs_digest-kind : (c : Claim) → needs_digest c ≡ true → slice_index c.key 0 ≡ 0
needs_digest-kind c needs = eqb-true (slice_index c.key 0) 0 (and_parts (slice_index c.key 0 == 0) (length c.signature.now == 32) needs).0

-- a digest tells whether a claim that needs one is accepted
pub accepts_claim-needed : (rules : Rules) (c : Claim) → AcceptsOpenKeys rules → needs_digest c ≡ true
    → accepts_claim rules c ≡ bytes_eq c.signature.now (open_signature_of c)
accepts_claim-needed rules c open_keys needs =
    let kind = needs_digest-kind c needs in
    open_keys c.key (message_of c) c.signature.now kind ∙ open_accepts-kind c.key (message_of c) c.signature.now kind

-- a signature that is not as long as a digest is none
bytes_eq-long : (c : Claim) (b : Bool) → needs_digest c ≡ false → slice_index c.key 0 ≡ 0 → bytes_eq c.signature.now (open_signature_of c) ≡ b → b ≡ false
bytes_eq-long c false other kind is = refl
bytes_eq-long c true other kind is =
    let same : c.signature.now ≡ open_signature_of c = (bytes_eq-Decides c.signature.now (open_signature_of c)).0 is in
    let long : length c.signature.now ≡ 32 = ap length same ∙ length-sha256 (c.key ++ message_of c) in
    let needs : needs_digest c ≡ true = rw (eq-eqb (slice_index c.key 0) 0 kind, eq-eqb (length c.signature.now) 32 long) refl in
    sym needs ∙ other

-- no claim of an open key is accepted that needs no digest
pub accepts_claim-other : (rules : Rules) (c : Claim) → AcceptsOpenKeys rules → needs_digest c ≡ false → slice_index c.key 0 ≡ 0
    → false ≡ accepts_claim rules c
accepts_claim-other rules c open_keys other kind =
    sym (open_keys c.key (message_of c) c.signature.now kind ∙ open_accepts-kind c.key (message_of c) c.signature.now kind
    ∙ bytes_eq-long c _ other kind refl)

-- what is left of the claims that need a digest behind one that does
needed-first : (c : Claim) (more : List Claim) → needs_digest c ≡ true → filter needs_digest (c ∷ more) ≡ c ∷ filter needs_digest more
needed-first c more needs = ap (λ (b : Bool). cond b (c ∷ filter needs_digest more) (filter needs_digest more)) needs

-- what is left of them behind one that does not
needed-other : (c : Claim) (more : List Claim) → needs_digest c ≡ false → filter needs_digest (c ∷ more) ≡ filter needs_digest more
needed-other c more other = ap (λ (b : Bool). cond b (c ∷ filter needs_digest more) (filter needs_digest more)) other

-- The digests that are left belong to the claims that are left and need one.
abbrev pub AreLeft : List (List ℕ) → List Claim → Type 0
AreLeft made claims = made ≡ map open_signature_of (filter needs_digest claims)

-- the first of the digests that are left is that of the first claim, if it needs one
pub left-first : (made : List (List ℕ)) (next : ℕ) (c : Claim) (more : List Claim) (d : List ℕ) → needs_digest c ≡ true
    → AreLeft (drop next made) (c ∷ more) → get_or made next d ≡ open_signature_of c
left-first made next c more d needs left =
    let first : drop next made ≡ open_signature_of c ∷ map open_signature_of (filter needs_digest more) = left ∙ ap (map open_signature_of) (needed-first c more needs) in
    let place : next + 0 ≡ next = omega arith in
    sym (get_or-drop next made 0 d ∙ ap (λ (k : ℕ). get_or made k d) place) ∙ ap (λ (ys : List (List ℕ)). get_or ys 0 d) first

-- the others are left for the claims behind it
pub left-behind : (made : List (List ℕ)) (next : ℕ) (c : Claim) (more : List Claim) → needs_digest c ≡ true
    → AreLeft (drop next made) (c ∷ more) → AreLeft (drop (next + 1) made) more
left-behind made next c more needs left =
    let first : drop next made ≡ open_signature_of c ∷ map open_signature_of (filter needs_digest more) = left ∙ ap (map open_signature_of) (needed-first c more needs) in
    sym (drop-drop 1 next made) ∙ ap (drop 1) first

-- all are left behind a claim that needs none
pub left-all : (made : List (List ℕ)) (c : Claim) (more : List Claim) → needs_digest c ≡ false → AreLeft made (c ∷ more) → AreLeft made more
left-all made c more other left = left ∙ ap (map open_signature_of) (needed-other c more other)

-- the digests that are left where a loop over the claims stands
pub left-here : (made : List (List ℕ)) (claims : List Claim) (i : ℕ) (c : Claim) → i < length claims → c ≡ get_or claims i c
    → AreLeft made (drop i claims) → AreLeft made (c ∷ drop (i + 1) claims)
left-here made claims i c within here left =
    let rest : List Claim → List (List ℕ) = λ xs. map open_signature_of (filter needs_digest xs) in
    left ∙ at_drop_more rest claims i c within ∙ ap (λ (x : Claim). rest (x ∷ drop (i + 1) claims)) (sym here)

-- one more answer
pub answered-more : (f : Claim → Bool) (claims : List Claim) (i : ℕ) (c : Claim) (answers : List Bool) (answer : Bool) → i < length claims → c ≡ get_or claims i c
    → answers ≡ map f (take i claims) → answer ≡ f c → answers ++ answer ∷ [] ≡ map f (take (i + 1) claims)
answered-more f claims i c answers answer within here answered told =
    let more : map f (take (i + 1) claims) ≡ map f (take i claims) ++ f (get_or claims i c) ∷ [] = ap (map f) (take_more claims i c within) ∙ map-append f (take i claims) (get_or claims i c ∷ []) in
    let last : answer ≡ f (get_or claims i c) = told ∙ ap f here in
    ap (λ (xs : List Bool). xs ++ answer ∷ []) answered ∙ ap (λ (b : Bool). map f (take i claims) ++ b ∷ []) last ∙ sym more

-- the answer of a claim that needs a digest, by the next of those that are left
pub answer-needed : (rules : Rules) (made : List (List ℕ)) (next : ℕ) (c : Claim) (more : List Claim) (digest : List ℕ) (answer : Bool) → AcceptsOpenKeys rules
    → needs_digest c ≡ true → AreLeft (drop next made) (c ∷ more) → digest ≡ get_or made next [] → answer ≡ bytes_eq c.signature.now digest
    → answer ≡ accepts_claim rules c
answer-needed rules made next c more digest answer open_keys needs left read told =
    told ∙ ap (bytes_eq c.signature.now) (read ∙ left-first made next c more [] needs left) ∙ sym (accepts_claim-needed rules c open_keys needs)
