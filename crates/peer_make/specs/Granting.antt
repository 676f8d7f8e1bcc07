-- What `grant` does: a capability without delegations.
use Rattle.std.specs.Prelude.{◌≡◌, ℕ, ◌<◌, ◌≤◌, List, [], length, Option, Some, None, Result, Ok, Err}
use Rattle.willow_outside.specs.Facts.{ShelfFacts}
use Rattle.lms_core.specs.Use.{peer_rules}
use Rattle.mc_cap.specs.Forms.{IsCapability, capability_spelling}
use Rattle.mc_cap.specs.Messages.{initial_message}
use Rattle.mc_cap.specs.Valid.{chain_refusal}
use Rattle.mc_cap.specs.declared.capability.Capability.{Capability}
use Rattle.mc_cap.specs.declared.capability.Mode.{Mode}
use Rattle.mc_cap.specs.declared.check.TheConstants.{MAX_DELEGATIONS}
use Rattle.mc_cap.specs.declared.refusal.RowRefusal.TheVariants.{Chain}
use Rattle.peer_words.specs.declared.command.SignerWord.{SignerWord}
use Rattle.peer_stage.specs.Steps.{Step, Then, Inside, OnShelf, OnOutput}
use Rattle.peer_stage.specs.Stages.{Writes}
use Rattle.peer_stage.specs.declared.outcome.Done.{Done}
use Rattle.peer_stage.specs.declared.outcome.Done.TheVariants as done
use Rattle.peer_stage.specs.declared.outcome.Stop.{Stop}
use Rattle.peer_stage.specs.declared.outcome.Stop.TheVariants as stop
use Rattle.peer_make.specs.Signing.{Signed, StopsSigning}

-- the capability without delegations of a mode, a namespace, a user and, where it is owned, an initial signature
abbrev pub first_capability : Mode → List ℕ → List ℕ → Option (List ℕ) → Capability
first_capability mode namespace user initial =
    record { mode = mode; namespace = namespace; user = user; initial = initial; chain = [] }

-- without a signer there is no initial signature, and with one it is the signer's of this message
abbrev pub Begins : Option SignerWord → ShelfFacts → ShelfFacts → List ℕ → Option (List ℕ) → Type 0
Begins None old new message None = new ≡ old
Begins None old new message (Some signature) = ⊥
Begins (Some key) old new message None = ⊥
Begins (Some key) old new message (Some signature) = Signed key old new message signature

-- why there is no initial signature though there is a signer, and what that left
abbrev pub StopsBeginning : Option SignerWord → ShelfFacts → ShelfFacts → Stop → Type 0
StopsBeginning None old new e = ⊥
StopsBeginning (Some key) old new e = StopsSigning key old new e

-- how a capability is begun
abbrev pub BeginsBy : Option SignerWord → List ℕ → ShelfFacts → ShelfFacts → Result (Option (List ℕ)) Stop → Type 0
BeginsBy key message old new (Ok initial) = Begins key old new message initial
BeginsBy key message old new (Err e) = StopsBeginning key old new e

-- How a capability that is made is checked, which is within its grammar. Without delegations no memory is asked for, nor
-- where they are too many.
abbrev pub Checks : Capability → Result (Unit {0}) Stop → Type 0
Checks c (Ok valid) = IsCapability c × (chain_refusal peer_rules c ≡ None)
Checks c (Err (stop.Refused (Chain r))) = chain_refusal peer_rules c ≡ Some r
Checks c (Err stop.NoMemory) = (length c.chain ≤ MAX_DELEGATIONS) × (0 < length c.chain)
Checks c (Err e) = ⊥

-- It checks a capability, and writes its spelling.
abbrev pub Tells : Capability → Step Done
Tells c =
    Then (Inside (Checks c)) (λ valid.
    OnOutput (Writes (capability_spelling c) done.Made))

-- It signs the initial message, where there is a signer, and checks and writes the capability.
abbrev pub Grants : List ℕ → Mode → List ℕ → Option SignerWord → Step Done
Grants namespace mode user key =
    Then (OnShelf (BeginsBy key (initial_message mode user))) (λ initial.
    Tells (first_capability mode namespace user initial))
