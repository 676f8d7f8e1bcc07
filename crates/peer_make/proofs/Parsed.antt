-- Bytes behind a capability are told as no capability.
use Rattle.std.proofs.Common.{◌≡◌, ◌≢◌, ℕ, ◌≤◌, List, [], ◌++◌, length, take, drop, sym, ap, ◌∙◌, arith}
use Rattle.std.proofs.lemmas.List.{take-append-drop, length-drop, take_all, append-nil}
use Rattle.spelling.proofs.Joining.{one_spelling}
use Rattle.mc_cap.specs.Forms.{IsCapability, capability_spelling}
use Rattle.mc_cap.specs.declared.capability.Capability.{Capability}
use Rattle.cap_codec.proofs.CapReads.{capability-reads}
use Rattle.peer_make.specs.Reading.{IsNoCapability, IsSpelled}

-- all bytes are the capability that they begin with
pub all_taken : (bytes : List ℕ) (n : ℕ) (c : Capability) → n ≡ length bytes → IsCapability c → take n bytes ≡ capability_spelling c → IsSpelled bytes c
all_taken bytes n c e fits taken = record { fits = fits; spelled = sym (take_all n bytes (omega arith)) ∙ taken }

-- bytes that begin with a capability and go on are none
pub goes_on : (bytes : List ℕ) (n : ℕ) (c : Capability) → n ≢ length bytes → n ≤ length bytes → IsCapability c → take n bytes ≡ capability_spelling c → IsNoCapability bytes
goes_on bytes n c e within fits taken = λ other is.
    let one : (capability_spelling other ++ [] ≡ capability_spelling c ++ drop n bytes) = append-nil (capability_spelling other) ∙ sym is.spelled ∙ sym (take-append-drop n bytes) ∙ ap (λ x. x ++ drop n bytes) taken in
    let rest = (one_spelling capability-reads other c [] (drop n bytes) is.fits fits one).1 in
    omega (arith, length-drop n bytes, ap length rest)

-- bytes that do not begin with a capability are none
pub begins_none : (bytes : List ℕ) → ((x : Capability) (rest : List ℕ) → IsCapability x → bytes ≡ capability_spelling x ++ rest → ⊥) → IsNoCapability bytes
begins_none bytes none = λ c is. none c [] is.fits (is.spelled ∙ sym (append-nil (capability_spelling c)))
