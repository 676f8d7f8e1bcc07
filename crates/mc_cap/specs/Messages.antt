-- What is signed. The first byte tells messages of one kind from those of another.
use Rattle.std.specs.Prelude.{ℕ, List, ◌∷◌, ◌++◌}
use Rattle.willow_area.specs.declared.area.Area.{Area}
use Rattle.willow_area.specs.AreaSpelling.{area_spelling}
use Rattle.mc_cap.specs.Forms.{mode_byte, capability_spelling}
use Rattle.mc_cap.specs.declared.capability.Capability.{Capability}
use Rattle.mc_cap.specs.declared.capability.Mode.{Mode}

-- the letter I, the mode, the first user: signed by the namespace
abbrev pub initial_message : Mode → List ℕ → List ℕ
initial_message mode user = 73 ∷ (mode_byte mode ∷ user)

-- the letter H, the capability so far, the area and the user of the next delegation: signed by the receiver so far
unfoldable pub handover : Capability → Area → List ℕ → List ℕ
handover c area user = 72 ∷ (capability_spelling c ++ (area_spelling area ++ user))
