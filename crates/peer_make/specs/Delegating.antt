-- What `delegate` does: a capability with one delegation more.
use Rattle.std.specs.Prelude.{List, ◌≡◌, ℕ, ◌+◌, true, false, length, Result, Ok, Err, nat_lt, unwrap_or, if◌then◌else◌}
use Rattle.scheme_core.specs.Rules.{Rules}
use Rattle.lms_core.specs.Use.{peer_rules}
use Rattle.willow_area.specs.declared.area.Area.{Area}
use Rattle.mc_cap.specs.Grant.{extended, granted}
use Rattle.mc_cap.specs.Messages.{handover}
use Rattle.mc_cap.specs.Valid.{chain_refusal}
use Rattle.mc_cap.specs.declared.capability.Capability.{Capability}
use Rattle.mc_cap.specs.declared.check.TheConstants.{MAX_DELEGATIONS}
use Rattle.mc_cap.specs.declared.check.ChainRefusal.{ChainRefusal}
use Rattle.mc_cap.specs.declared.check.ChainRefusal.TheVariants.{AreaGrows, TooManyDelegations}
use Rattle.mc_cap.specs.declared.refusal.RowRefusal.TheVariants.{Chain}
use Rattle.peer_words.specs.declared.command.SignerWord.{SignerWord}
use Rattle.peer_words.specs.declared.command.AreaWords.{AreaWords}
use Rattle.peer_words.specs.Areas.{completed, is_empty}
use Rattle.peer_stage.specs.Steps.{Step, Then, Inside, OnInput, OnShelf}
use Rattle.peer_stage.specs.declared.outcome.Done.{Done}
use Rattle.peer_stage.specs.declared.outcome.Stop.{Stop}
use Rattle.peer_stage.specs.declared.outcome.Stop.TheVariants as stop
use Rattle.peer_make.specs.Signing.{Signs}
use Rattle.peer_make.specs.Granting.{Tells}
use Rattle.peer_make.specs.Reading.{ReadsOne}

-- ---- the area

-- the area of the words for what a capability grants
abbrev pub asked : AreaWords → Capability → Area
asked words c = completed words (granted c)

-- The first refusal of the capability with one delegation more, whose area counts as one that grows: too many
-- with that one; or what is against the capability so far; or that the new one's area grows.
unfoldable pub growing_refusal : Rules → Capability → ChainRefusal
growing_refusal rules c =
    if nat_lt MAX_DELEGATIONS (length c.chain + 1) then TooManyDelegations else unwrap_or (chain_refusal rules c) (AreaGrows (length c.chain + 1))

-- the area that the words ask for, or the refusal where it has no times
abbrev pub Asks : AreaWords → Capability → Result Area Stop → Type 0
Asks words c (Ok area) = (area ≡ asked words c) × (is_empty (asked words c) ≡ false)
Asks words c (Err (stop.Refused (Chain r))) = (is_empty (asked words c) ≡ true) × (r ≡ growing_refusal peer_rules c)
Asks words c (Err stop.NoMemory) = Unit {0}
Asks words c (Err e) = ⊥

-- ---- the command

-- It reads a capability, asks for an area, signs the handover, and checks and writes the longer capability.
abbrev pub Delegates : SignerWord → List ℕ → AreaWords → Step Done
Delegates key to words =
    Then (OnInput ReadsOne) (λ c.
    Then (Inside (Asks words c)) (λ area.
    Then (OnShelf (Signs key (handover c area to))) (λ signature.
    Tells (extended c area to signature))))
