-- The capability that all of some bytes spell.
use Rattle.std.proofs.Common.{◌≡◌, ℕ, ◌≤◌, List, [], ◌++◌, length, take, drop, sym, ap, ◌∙◌, arith}
use Rattle.std.proofs.lemmas.List.{append-nil, take-append-drop, length-drop}
use Rattle.spelling.proofs.Joining.{one_spelling}
use Rattle.mc_cap.specs.Forms.{capability_spelling, IsCapability}
use Rattle.mc_cap.specs.declared.capability.Capability.{Capability}
use Rattle.cap_codec.proofs.CapReads.{capability-reads}
use Rattle.sync_hello.specs.HelloReading.{IsNoCapability}

-- bytes of which the front alone spells a capability spell none
pub goes_on : (text : List ℕ) (c : Capability) (taken : ℕ) → IsCapability c → taken ≤ length text → take taken text ≡ capability_spelling c → (taken ≡ length text → ⊥) → IsNoCapability text
goes_on text c taken fits within spelled short other other_fits whole =
    let parts : capability_spelling c ++ drop taken text ≡ capability_spelling other ++ [] =
    ap (λ (l : List ℕ). l ++ drop taken text) (sym spelled) ∙ take-append-drop taken text ∙ whole ∙ sym (append-nil (capability_spelling other)) in
    let left = (one_spelling capability-reads c other (drop taken text) [] fits other_fits parts).1 in
    short (omega (arith, within, ap length left, length-drop taken text))
