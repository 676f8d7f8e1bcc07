-- Contents that are told.
use Rattle.std.proofs.Common.{◌≡◌, ℕ, ◌+◌, List, [], ◌∷◌, Option, Some, None, refl, ap}
use Rattle.std.specs.Option.{option_map}
use Rattle.willow_outside.specs.Disks.{written, IsWithin}
use Rattle.log_keeper.proofs.Gates.{gate_last}

pub some-some : {A : Type 0} (x y : A) → Some x ≡ Some y → x ≡ y
some-some x y e = cc e

-- a piece behind a gate, and then the gate
pub told_gate_last : (contents : Option (List ℕ)) (at : ℕ) (piece : List ℕ) (gate : ℕ) → IsWithin contents (at + 1) → option_map (written at (gate ∷ [])) (option_map (written (at + 1) piece) contents) ≡ option_map (written at (gate ∷ piece)) contents
told_gate_last None at piece gate within = refl
told_gate_last (Some bytes) at piece gate within = ap (λ (l : List ℕ). Some l) (gate_last at gate piece bytes within)
