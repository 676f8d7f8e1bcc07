use Rattle.std.proofs.Common.{◌≡◌, ◌++◌, ◌∷◌, length, take}
use Rattle.std.specs.List.{flat_map}
use Rattle.mc_cap.specs.Forms.{delegation_spelling}
use Rattle.mc_cap.proofs.messages.spell_chain.Given as goal

abbrev pub invariant-loop-delegation : goal.invariant-loop-delegation
invariant-loop-delegation l = l.text.items ≡ l.fn.text.items ++ length l.chain ∷ flat_map delegation_spelling (take l.delegation-index l.chain)
