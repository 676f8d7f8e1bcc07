-- Where rows stand before a signature is checked.
use Rattle.std.specs.Prelude.{◌≡◌, ℕ, List, slice_get, Some, None}
use Rattle.std.specs.declared.option.Option.{Option}
use Rattle.scheme_core.specs.Rules.{Rules}
use Rattle.mc_cap.specs.declared.capability.Capability.{Capability}
use Rattle.mc_cap.specs.declared.refusal.RowRefusal.{RowRefusal}
use Rattle.cap_codec.specs.Rows.{RawValue}
use Rattle.auth_entry.specs.Authorised.{claim_refusal, capability_refusal}
use Rattle.auth_entry.specs.Batch.{IsPending}
use Rattle.auth_entry.specs.declared.signatures.Pending.{Pending}
use Rattle.auth_entry.specs.declared.standing.Stood.{Stood}
use Rattle.auth_entry.specs.declared.standing.Standing.{Standing}
use Rattle.auth_entry.specs.declared.standing.Standing.TheVariants.{Refused, Known, Unknown}

-- the row stands so, where these capabilities are to be checked
abbrev pub Stands : Rules → List ℕ → List Capability → RawValue → Standing → Type 0
Stands rules n unknown r (Refused refusal) = claim_refusal n r ≡ Some refusal
Stands rules n unknown r Known = (claim_refusal n r ≡ None) × (capability_refusal rules r.token.capability ≡ None)
Stands rules n unknown r (Unknown at) = (claim_refusal n r ≡ None) × (slice_get unknown at ≡ Some r.token.capability)

-- this row, with where it stands
abbrev pub IsStood : Rules → List ℕ → List Capability → RawValue → Stood → Type 0
IsStood rules n unknown r s = (s.row.now ≡ r) × Stands rules n unknown r s.standing

-- the row stands so, where these causes are what refuses the capabilities that are to be checked
abbrev pub StandsBy : Rules → List ℕ → List (Option RowRefusal) → RawValue → Standing → Type 0
StandsBy rules n causes r (Refused refusal) = claim_refusal n r ≡ Some refusal
StandsBy rules n causes r Known = (claim_refusal n r ≡ None) × (capability_refusal rules r.token.capability ≡ None)
StandsBy rules n causes r (Unknown at) = (claim_refusal n r ≡ None) × (slice_get causes at ≡ Some (capability_refusal rules r.token.capability))

abbrev pub IsStoodBy : Rules → List ℕ → List (Option RowRefusal) → Stood → Type 0
IsStoodBy rules n causes s = StandsBy rules n causes s.row.now s.standing

-- what is known of a row that stood so
abbrev pub IsSettled : Rules → List ℕ → Stood → Pending → Type 0
IsSettled rules n s p = IsPending rules n s.row.now p
