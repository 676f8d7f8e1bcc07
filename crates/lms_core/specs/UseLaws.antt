-- How long a signature is that is accepted for an LMS key, for the laws of what makes them.
use Rattle.std.proofs.Common.{◌≡◌, ◌==◌, ◌&&◌, ◌+◌, ◌≤◌, ℕ, Bool, true, false, nat_le, bytes_eq, List, length, take, drop, Option, Some, None, if◌then◌else◌, sym, ap, subst, ◌∙◌, inl, inr, lit≤, length-drop, le_trans}
use Rattle.std.proofs.Math.Nat.{add-sub_of_le, add-le-add, le_refl}
use Rattle.std.proofs.lemmas.Bool.{and_parts, cases_Bool, eqb-true, leb-true, false≢true}
use Rattle.sha2.specs.Sha256.{sha256}
use Rattle.scheme_core.specs.declared.signer.TheConstants.{MAX_SIGNATURE}
use Rattle.lms_core.specs.Bytes.{field}
use Rattle.lms_core.specs.declared.height.Height.{Height}
use Rattle.lms_core.specs.declared.height.Height.TheVariants.{H5, H10}
use Rattle.lms_core.specs.Accepts.{is_sound, sound_height, signature_length, lms_accepts}
use Rattle.lms_core.specs.Use.{Use, user_key_of, lms_key_accepts, peer_accepts, use_gives}

longest : (height : Height) → signature_length height ≤ 1452
longest H5 = lit≤ tt
longest H10 = lit≤ tt

sound-short : (height : Height) (public signature : List ℕ) → is_sound height public signature ≡ true → length signature ≤ 1452
unfolding is_sound
sound-short height public signature sound =
    let long : (length signature == signature_length height) ≡ true = (and_parts _ _ (and_parts _ _ (and_parts _ _ (and_parts _ _ sound).0).0).0).1 in
    subst (λ (n : ℕ). n ≤ 1452) (sym (eqb-true _ _ long)) (longest height)

by_height : (found : Option Height) (public signature : List ℕ) (root : Height → Bool)
    → (elim (elim found as (λ _. Option Height) [ Some height ↦ if is_sound height public signature then Some height else None | None ↦ None ]) as (λ _. Bool) [ Some height ↦ root height | None ↦ false ]) ≡ true
    → length signature ≤ 1452
by_height None public signature root accepted = absurd (false≢true accepted)
by_height (Some height) public signature root accepted =
    elim (cases_Bool (is_sound height public signature)) [
      | inl sound ↦ sound-short height public signature sound
      | inr unsound ↦
          let refused = subst (λ (sound : Bool). (elim (if sound then Some height else None) as (λ _. Bool) [ Some height ↦ root height | None ↦ false ]) ≡ true) unsound accepted in
          absurd (false≢true refused)
    ]

lms_accepts-short : (public message signature : List ℕ) → lms_accepts public message signature ≡ true → length signature ≤ 1452
unfolding lms_accepts sound_height
lms_accepts-short public message signature accepted = by_height _ public signature _ accepted

lms_key_accepts-short : (key message signature : List ℕ) → lms_key_accepts key message signature ≡ true → length signature ≤ MAX_SIGNATURE
unfolding lms_key_accepts
lms_key_accepts-short key message signature accepted =
    let public = take 56 signature in
    let made = drop 56 signature in
    let parts = and_parts (nat_le 56 (length signature) && bytes_eq (sha256 public) (field 1 32 key)) (lms_accepts public message made) accepted in
    let long = leb-true 56 (length signature) (and_parts _ (bytes_eq (sha256 public) (field 1 32 key)) parts.0).0 in
    let all : 56 + length made ≡ length signature = ap (λ (n : ℕ). 56 + n) (length-drop 56 signature) ∙ add-sub_of_le long in
    subst (λ (n : ℕ). n ≤ MAX_SIGNATURE) all (le_trans (add-le-add (le_refl 56) (lms_accepts-short public message made parts.1)) (lit≤ tt))

-- an LMS signature behind its public key has 1,348 or 1,508 bytes, which is within what a signature may have
pub use_gives-short : (s : Use) (message signature : List ℕ) → use_gives s message signature ≡ true → length signature ≤ MAX_SIGNATURE
unfolding use_gives peer_accepts user_key_of
use_gives-short s message signature given = lms_key_accepts-short _ message signature (and_parts _ _ given).0
