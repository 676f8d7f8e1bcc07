-- Rows of which some conditions are judged before others.
use Rattle.std.specs.Prelude.{◌≡◌, ℕ, Bool, not, is_some, List, Some, slice_get}
use Rattle.std.specs.declared.option.Option.{Option}
use Rattle.spelling.specs.Answers.{or_else}
use Rattle.scheme_core.specs.Rules.{Rules}
use Rattle.willow_entry.specs.Message.{entry_message}
use Rattle.mc_cap.specs.Grant.{receiver_of}
use Rattle.mc_cap.specs.declared.refusal.RowRefusal.{RowRefusal}
use Rattle.cap_codec.specs.Rows.{RawValue}
use Rattle.auth_entry.specs.Authorised.{claim_refusal, capability_refusal, grant_refusal, signature_refusal}
use Rattle.auth_entry.specs.declared.signatures.Pending.{Pending}
use Rattle.auth_entry.specs.declared.turns.Told.{Told}

-- what refuses a row before its signature is checked: its claim, then its capability, then its grant
abbrev pub early_cause : Rules → List ℕ → RawValue → Option RowRefusal
early_cause rules n r = or_else (claim_refusal n r) (or_else (capability_refusal rules r.token.capability) (grant_refusal r.token.capability r.entry))

-- this row, with what refuses it before its signature is checked
abbrev pub IsPending : Rules → List ℕ → RawValue → Pending → Type 0
IsPending rules n r p = (p.row.now ≡ r) × (p.cause ≡ early_cause rules n r)

-- what refuses a row of which this is known
abbrev pub pending_refusal : Rules → Pending → Option RowRefusal
pending_refusal rules p = or_else p.cause (signature_refusal rules p.row.now)

-- whether the row's signature is to be checked, since nothing else refuses it
abbrev pub awaits_signature : Pending → Bool
awaits_signature p = not (is_some p.cause)

-- whether the receiver of the row's capability signed its entry
abbrev pub is_signed : Rules → RawValue → Bool
is_signed rules r = rules.user (receiver_of r.token.capability) (entry_message r.entry) r.token.signature

-- the same of a row of which something is known
abbrev pub pending_signed : Rules → Pending → Bool
pending_signed rules p = is_signed rules p.row.now

-- If there is a row at the place, this is what refuses it.
abbrev pub IsTold : Rules → List Pending → Told → Type 0
IsTold rules pendings told = (p : Pending) → slice_get pendings told.at ≡ Some p → told.cause ≡ pending_refusal rules p
