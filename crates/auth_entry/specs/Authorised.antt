-- Which rows are authorised in a namespace, and which condition is the first that fails.
use Rattle.std.specs.Prelude.{◌≡◌, ℕ, ◌<◌, ◌⊎◌, Bool, ◌&&◌, not, List, filter, length, Option, Some, None, is_some, option_map, Result, Ok, Err, IsTrue}
use Rattle.spelling.specs.Answers.{or_else, cause_if}
use Rattle.scheme_core.specs.Rules.{Rules}
use Rattle.willow_area.specs.Area.{in_area}
use Rattle.willow_entry.specs.Entry.{same_bytes}
use Rattle.willow_entry.specs.Message.{entry_message}
use Rattle.willow_entry.specs.declared.entry.Entry.{Entry}
use Rattle.mc_cap.specs.Grant.{receiver_of, granted}
use Rattle.mc_cap.specs.Valid.{beginning_refusal, chain_refusal, IsValid}
use Rattle.mc_cap.specs.declared.capability.Capability.{Capability}
use Rattle.mc_cap.specs.declared.capability.Mode.{Mode}
use Rattle.mc_cap.specs.declared.capability.Mode.TheVariants.{Read, Write}
use Rattle.cap_codec.specs.Rows.{RawValue}
use Rattle.mc_cap.specs.declared.refusal.RowRefusal.{RowRefusal}
use Rattle.mc_cap.specs.declared.refusal.RowRefusal.TheVariants.{WrongNamespace, NotWrite, Chain, OutsideGrant, BadEntrySignature}

-- ---- the first condition that fails

-- the entry or the capability is of another namespace
abbrev pub namespace_refusal : List ℕ → RawValue → Option RowRefusal
namespace_refusal n r = cause_if (not (same_bytes r.entry.namespace n && same_bytes r.token.capability.namespace n)) WrongNamespace

-- the capability is not for writing
abbrev pub mode_refusal : Mode → Option RowRefusal
mode_refusal Write = None
mode_refusal Read = Some NotWrite

-- the capability is not valid
abbrev pub capability_refusal : Rules → Capability → Option RowRefusal
capability_refusal rules c = option_map Chain (chain_refusal rules c)

-- the capability's grant does not include the entry
abbrev pub grant_refusal : Capability → Entry → Option RowRefusal
grant_refusal c e = cause_if (not (in_area (granted c) e.subspace e.path e.timestamp)) OutsideGrant

-- the receiver did not sign the entry
abbrev pub signature_refusal : Rules → RawValue → Option RowRefusal
signature_refusal rules r = cause_if (not (rules.user (receiver_of r.token.capability) (entry_message r.entry) r.token.signature)) BadEntrySignature

-- what needs no signature and no capability checked: namespace, then mode
unfoldable pub claim_refusal : List ℕ → RawValue → Option RowRefusal
claim_refusal n r = or_else (namespace_refusal n r) (mode_refusal r.token.capability.mode)

-- what is asked of the entry once its capability is valid: grant, then signature
unfoldable pub entry_refusal : Rules → RawValue → Option RowRefusal
entry_refusal rules r = or_else (grant_refusal r.token.capability r.entry) (signature_refusal rules r)

-- why the row is not authorised in the namespace: namespace, mode, capability, grant, signature
unfoldable pub row_refusal : Rules → List ℕ → RawValue → Option RowRefusal
row_refusal rules n r = or_else (claim_refusal n r) (or_else (capability_refusal rules r.token.capability) (entry_refusal rules r))

-- what is judged before any memory is asked for: the claim, and how the capability begins
unfoldable pub early_refusal : Rules → List ℕ → RawValue → Option RowRefusal
early_refusal rules n r = or_else (claim_refusal n r) (option_map Chain (beginning_refusal rules r.token.capability))

-- memory is asked for to check a delegation, or else the signature of an entry that the grant includes
abbrev pub CheckAsks : RawValue → Type 0
CheckAsks r = (0 < length r.token.capability.chain) ⊎ (grant_refusal r.token.capability r.entry ≡ None)

-- ---- authorised

-- nothing is against the row
unfoldable pub is_authorised : Rules → List ℕ → RawValue → Bool
is_authorised rules n r = not (is_some (row_refusal rules n r))

-- the authorised rows, in order
abbrev pub authorised : Rules → List ℕ → List RawValue → List RawValue
authorised rules n = filter (is_authorised rules n)

-- The row is authorised in the namespace: its entry and its capability are of the namespace, the capability
-- is for writing and valid, its grant includes the entry, and its receiver signed the entry.
pub record IsAuthorised (rules : Rules) (n : List ℕ) (r : RawValue) : Type 0 where
  pub of_namespace : (r.entry.namespace ≡ n) × (r.token.capability.namespace ≡ n)
  pub writes : r.token.capability.mode ≡ Write
  pub valid : IsValid rules r.token.capability
  pub within : IsTrue (in_area (granted r.token.capability) r.entry.subspace r.entry.path r.entry.timestamp)
  pub signed : IsTrue (rules.user (receiver_of r.token.capability) (entry_message r.entry) r.token.signature)

-- what an authorised entry keeps: the namespace in which it is authorised, and the row
pub record AuthorisedValue : Type 0 where
  pub namespace : List ℕ
  pub row : RawValue

-- the row where there is no refusal, or the refusal
abbrev pub verdict_by : AuthorisedValue → Option RowRefusal → Result AuthorisedValue RowRefusal
verdict_by a None = Ok a
verdict_by a (Some refusal) = Err refusal

-- what is answered of a row
abbrev pub verdict : Rules → List ℕ → RawValue → Result AuthorisedValue RowRefusal
verdict rules n r = verdict_by (record { namespace = n; row = r }) (row_refusal rules n r)
