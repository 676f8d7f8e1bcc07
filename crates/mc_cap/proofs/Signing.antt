-- What is signed of a capability, one delegation after the other.
use Rattle.std.proofs.Common.{◌≡◌, ℕ, ◌+◌, ◌<◌, ◌≤◌, List, [], ◌∷◌, ◌++◌, length, map, take, drop, get_or, refl, sym, ap, ◌∙◌, append_assoc, arith}
use Rattle.std.proofs.lemmas.List.{append-nil, drop_all, map-append, nil_from_length, take_at, take-append-drop}
use Rattle.willow_area.specs.AreaSpelling.{area_spelling}
use Rattle.mc_cap.specs.Signature.{signature_spelling}
use Rattle.mc_cap.specs.Forms.{delegation_spelling}
use Rattle.mc_cap.specs.Grant.{cut, receiver_of}
use Rattle.mc_cap.specs.Signed.{Signing, signing_of, initial_signings, handing_signing, handing_signings, signings}
use Rattle.mc_cap.specs.declared.chain.Delegation.{Delegation}
use Rattle.mc_cap.specs.declared.capability.Capability.{Capability}
use Rattle.mc_cap.specs.declared.signed.SignedMessage.{SignedMessage}
use Rattle.mc_cap.proofs.Handing.{handover_of, rest_is, text_of}

signings-cons : (c : Capability) (k : ℕ) (d : Delegation) (more : List Delegation) → handing_signings c k (d ∷ more) ≡ handing_signing c k d ∷ handing_signings c (k + 1) more
unfolding handing_signings
signings-cons c k d more = refl

signings-nil : (c : Capability) (k : ℕ) → handing_signings c k [] ≡ []
unfolding handing_signings
signings-nil c k = refl

-- a text that a delegation was appended to in two parts
pub handed : (x : Delegation) (old signed new : List ℕ) → signed ≡ old ++ (area_spelling x.area ++ x.user) → new ≡ signed ++ signature_spelling x.signature → new ≡ old ++ delegation_spelling x
handed x old signed new es en =
    en ∙ ap (λ (l : List ℕ). l ++ signature_spelling x.signature) es
    ∙ append_assoc old (area_spelling x.area ++ x.user) (signature_spelling x.signature)
    ∙ ap (λ (l : List ℕ). old ++ l) (append_assoc (area_spelling x.area) x.user (signature_spelling x.signature))

-- what a delegation's signature signs, by the receiver and the text before it
pub signing_is : (c : Capability) (k : ℕ) (x : Delegation) (receiver text : List ℕ) → k ≤ length c.chain → receiver ≡ receiver_of (cut c k) → text ≡ text_of c k
    → record { key = receiver; message = text ++ (area_spelling x.area ++ x.user); signature = x.signature } ≡ handing_signing c k x
signing_is c k x receiver text le er et =
    ap (λ (r : List ℕ). record { key = r; message = text ++ (area_spelling x.area ++ x.user); signature = x.signature }) er
    ∙ ap (λ (m : List ℕ). record { key = receiver_of (cut c k); message = m; signature = x.signature })
    (ap (λ (t : List ℕ). t ++ (area_spelling x.area ++ x.user)) et ∙ sym (handover_of c k x.area x.user le))

-- one more of those that are told, and one less of those that are left
pub told_on : (before rest : List Signing) (old new : List SignedMessage) (s : SignedMessage) (first : Signing) → new ≡ old ++ s ∷ [] → signing_of s ≡ first
    → map signing_of old ++ first ∷ rest ≡ before → map signing_of new ++ rest ≡ before
told_on before rest old new s first grown is so_far =
    ap (λ (l : List SignedMessage). map signing_of l ++ rest) grown
    ∙ ap (λ (l : List Signing). l ++ rest) (map-append signing_of old (s ∷ []))
    ∙ append_assoc (map signing_of old) (signing_of s ∷ []) rest
    ∙ ap (λ (f : Signing). map signing_of old ++ f ∷ rest) is
    ∙ so_far

module _ (c : Capability) (items : List Delegation) (k : ℕ) (x : Delegation) (all : items ≡ c.chain) (lt : k < length items) (is : x ≡ get_or items k x) where
  -- one delegation further
  pub signed_on : (old new : List SignedMessage) (s : SignedMessage) (receiver text : List ℕ) (total : List Signing) → new ≡ old ++ s ∷ []
      → signing_of s ≡ record { key = receiver; message = text ++ (area_spelling x.area ++ x.user); signature = x.signature }
      → receiver ≡ receiver_of (cut c k) → text ≡ text_of c k
      → map signing_of old ++ handing_signings c k (drop k c.chain) ≡ total → map signing_of new ++ handing_signings c (k + 1) (drop (k + 1) c.chain) ≡ total
  signed_on old new s receiver text total grown own er et so_far =
      let le : k ≤ length c.chain = omega (arith, lt, ap length all) in
      let left : handing_signings c k (drop k c.chain) ≡ handing_signing c k x ∷ handing_signings c (k + 1) (drop (k + 1) c.chain) =
      ap (handing_signings c k) (rest_is c items k x all lt is) ∙ signings-cons c k x (drop (k + 1) c.chain) in
      told_on total (handing_signings c (k + 1) (drop (k + 1) c.chain)) old new s (handing_signing c k x) grown (own ∙ signing_is c k x receiver text le er et)
      (ap (λ (l : List Signing). map signing_of old ++ l) (sym left) ∙ so_far)

-- nothing is left behind the last delegation
pub all_signed : (c : Capability) (items : List Delegation) (k : ℕ) (told total : List Signing) → items ≡ c.chain → length items ≤ k
    → told ++ handing_signings c k (drop k c.chain) ≡ total → told ≡ total
all_signed c items k told total all le so_far =
    let past : length c.chain ≤ k = omega (arith, le, ap length all) in
    let none : handing_signings c k (drop k c.chain) ≡ [] = ap (handing_signings c k) (drop_all k c.chain past) ∙ signings-nil c k in
    sym (append-nil told) ∙ ap (λ (l : List Signing). told ++ l) (sym none) ∙ so_far

-- the initial signature's, and then those of the delegations
pub both_told : (c : Capability) (before begun told : List SignedMessage) → map signing_of begun ≡ map signing_of before ++ initial_signings c c.initial
    → map signing_of told ≡ map signing_of begun ++ handing_signings c 0 c.chain → map signing_of told ≡ map signing_of before ++ signings c
both_told c before begun told is more =
    more ∙ ap (λ (l : List Signing). l ++ handing_signings c 0 c.chain) is ∙ append_assoc (map signing_of before) (initial_signings c c.initial) (handing_signings c 0 c.chain)

-- without delegations there are no others
pub first_told : (c : Capability) (items : List Delegation) (begun : List SignedMessage) → items ≡ c.chain → length items ≡ 0 → map signing_of begun ≡ map signing_of begun ++ handing_signings c 0 c.chain
first_told c items begun all none =
    let empty : handing_signings c 0 c.chain ≡ [] = ap (handing_signings c 0) (sym all ∙ nil_from_length items none) ∙ signings-nil c 0 in
    sym (append-nil (map signing_of begun)) ∙ ap (λ (l : List Signing). map signing_of begun ++ l) (sym empty)

-- what stood first stays first where more is appended
pub kept_on : (old mid new more : List SignedMessage) (n : ℕ) → n ≡ length old → take n mid ≡ old → new ≡ mid ++ more → take n new ≡ old
kept_on old mid new more n is kept grown =
    let parts : mid ≡ old ++ drop n mid = sym (take-append-drop n mid) ∙ ap (λ (l : List SignedMessage). l ++ drop n mid) kept in
    let whole : new ≡ old ++ (drop n mid ++ more) = grown ∙ ap (λ (l : List SignedMessage). l ++ more) parts ∙ append_assoc old (drop n mid) more in
    ap (λ (l : List SignedMessage). take n l) whole ∙ take_at old (drop n mid ++ more) n (sym is)
