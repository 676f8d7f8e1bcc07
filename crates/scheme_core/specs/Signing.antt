-- How a signer's count of faults moves over one call.
use Rattle.std.specs.Prelude.{◌≡◌, ℕ, Result, Ok, Err}
use Rattle.spelling.specs.declared.ending.End.{End}
use Rattle.spelling.specs.declared.ending.End.TheVariants as ends
use Rattle.willow_outside.specs.Counts.{HasRisen}
use Rattle.scheme_core.specs.declared.signer.SignRefusal.{SignRefusal}
use Rattle.scheme_core.specs.declared.signer.SignRefusal.TheVariants.{Spent, Failed}

-- it rises where the call failed, and stays else: want of memory hides no fault
abbrev pub CountsSigning : {A : Type 0} → ℕ → ℕ → Result A (End SignRefusal) → Type 0
CountsSigning before now (Ok signature) = now ≡ before
CountsSigning before now (Err (ends.Refused Failed)) = HasRisen before now
CountsSigning before now (Err (ends.Refused Spent)) = now ≡ before
CountsSigning before now (Err ends.NoMemory) = now ≡ before
