-- A made signature behind its public key is accepted for the tree's user key.
use Rattle.std.proofs.Common.{◌≡◌, ℕ, ◌+◌, ◌<◌, ◌≤◌, bytes_eq, Bool, true, false, List, [], ◌∷◌, ◌++◌, length, take, drop, refl, sym, ap, ◌∙◌, arith, length-append}
use Rattle.std.proofs.lemmas.Bool.{eq-eqb, le-leb, and_from}
use Rattle.std.proofs.lemmas.List.{take_at, take_all, drop_at}
use Rattle.std.proofs.lemmas.Slice.Eq.{bytes_eq-Decides}
use Rattle.sha2.specs.Sha256.{sha256}
use Rattle.sha2.proofs.Facts256.{length-sha256}
use Rattle.scheme_core.specs.declared.signer.TheConstants.{MAX_SIGNATURE}
use Rattle.lms_core.specs.declared.height.Height.{Height}
use Rattle.lms_core.specs.Bytes.{u32_str, field}
use Rattle.lms_core.specs.Accepts.{levels, leaves, lms_accepts, one_time_type, type_of}
use Rattle.lms_core.specs.Signer.{public_key, signature_of, root_value}
use Rattle.lms_core.specs.Use.{Use, user_key_of, lms_key_accepts, peer_accepts, use_gives, use_signature}
use Rattle.lms_core.proofs.Digests.{length_u32_str, u32_at_by}
use Rattle.lms_core.proofs.Completeness.{made_is_accepted, length_root_value, signature_parts, length_path_of}
use Rattle.lms_core.proofs.Heights.{leaves_below, levels_below}
use Rattle.lms_core.proofs.Parts.{len_two}

-- a key's verdict by its steps: the front and the rest of a signature
pub key_accepts_by : (key message s p r : List ℕ) (b : Bool) → 56 ≤ length s → p ≡ take 56 s → r ≡ drop 56 s → bytes_eq (sha256 p) (field 1 32 key) ≡ true → b ≡ lms_accepts p message r → b ≡ lms_key_accepts key message s
unfolding lms_key_accepts
key_accepts_by key message s p r b h hp hr hk hb =
    let t = le-leb 56 (length s) h in
    let k : bytes_eq (sha256 (take 56 s)) (field 1 32 key) ≡ true = rw (← hp) hk in
    rw (t, k, ← hp, ← hr) hb

pub key_refuses_by : (key message s p : List ℕ) (b : Bool) → 56 ≤ length s → p ≡ take 56 s → b ≡ bytes_eq (sha256 p) (field 1 32 key) → b ≡ false → b ≡ lms_key_accepts key message s
unfolding lms_key_accepts
key_refuses_by key message s p b h hp hk hb =
    let t = le-leb 56 (length s) h in
    let k : bytes_eq (sha256 (take 56 s)) (field 1 32 key) ≡ false = rw (← hp) (sym hk ∙ hb) in
    rw (t, k) hb

pub user_key_by : (height : Height) (id seed public digest bytes key : List ℕ) → public ≡ public_key height id seed → digest ≡ sha256 public → bytes ≡ (1 ∷ []) ++ digest → key ≡ bytes → key ≡ user_key_of height id seed
unfolding user_key_of
user_key_by height id seed public digest bytes key hp hd hb hk = hk ∙ hb ∙ rw (hd, hp) refl

pub length_public_key : (height : Height) (id seed : List ℕ) → length id ≡ 16 → length (public_key height id seed) ≡ 56
unfolding public_key
length_public_key height id seed h =
    let a = u32_str (type_of height) in
    let b = u32_str one_time_type in
    len_two ((a ++ b) ++ id) (root_value height id seed) 24 32 56 (len_two (a ++ b) id 8 16 24 (len_two a b 4 4 8 (length_u32_str (type_of height)) (length_u32_str one_time_type) refl) h refl) (length_root_value height id seed) refl

accepts_lms_kind : (height : Height) (id seed message s : List ℕ) → lms_key_accepts (user_key_of height id seed) message s ≡ peer_accepts (user_key_of height id seed) message s
unfolding peer_accepts user_key_of
accepts_lms_kind height id seed message s = refl

own_digest : (height : Height) (id seed : List ℕ) → bytes_eq (sha256 (public_key height id seed)) (field 1 32 (user_key_of height id seed)) ≡ true
unfolding user_key_of
own_digest height id seed = (bytes_eq-Decides (sha256 (public_key height id seed)) (take 32 (sha256 (public_key height id seed)))).1 (sym (take_all 32 (sha256 (public_key height id seed)) (omega (arith, length-sha256 (public_key height id seed)))))

pub made_is_given : (s : Use) (message : List ℕ) → length s.identifier ≡ 16 → s.index < leaves s.height → use_gives s message (use_signature s message) ≡ true
unfolding use_gives
made_is_given s message h i =
    let pub_key = public_key s.height s.identifier s.seed in
    let made = signature_of s.height s.identifier s.seed s.index message in
    let n = length_public_key s.height s.identifier s.seed h in
    let t = take_at pub_key made 56 n in
    let d = drop_at pub_key made 56 n in
    let long : 56 ≤ length (pub_key ++ made) = omega (arith, length-append pub_key made) in
    let a = key_accepts_by (user_key_of s.height s.identifier s.seed) message (pub_key ++ made) pub_key made true long (sym t) (sym d) (own_digest s.height s.identifier s.seed) (sym (made_is_accepted s.height s.identifier s.seed s.index message h i)) in
    let p = signature_parts s.height s.identifier s.seed s.index message in
    let b = leaves_below s.height in
    let f : field 56 4 (pub_key ++ made) ≡ u32_str s.index = ap (λ l. take 4 l) d ∙ p.first in
    let q = u32_at_by 56 s.index (pub_key ++ made) (omega arith) f in
    and_from _ _ (sym (accepts_lms_kind s.height s.identifier s.seed message (pub_key ++ made)) ∙ sym a) (eq-eqb _ _ q)

pub made_is_short : (s : Use) (message : List ℕ) → length s.identifier ≡ 16 → length (use_signature s message) ≤ MAX_SIGNATURE
made_is_short s message h =
    let pub_key = public_key s.height s.identifier s.seed in
    let made = signature_of s.height s.identifier s.seed s.index message in
    let p = signature_parts s.height s.identifier s.seed s.index message in
    omega (arith, length-append pub_key made, length_public_key s.height s.identifier s.seed h, p.len, length_path_of s.height s.identifier s.seed 0 (leaves s.height + s.index) (levels s.height), levels_below s.height)

-- what a signer may give is the same before and after it signs
pub gives_same : (s : Use) (n : ℕ) → use_gives (record s { left = n }) ≡ use_gives s
unfolding use_gives
gives_same s n = refl
