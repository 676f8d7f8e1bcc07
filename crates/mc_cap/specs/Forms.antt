-- How capabilities are spelled, and what fits.
use Rattle.std.specs.Prelude.{ℕ, List, [], ◌∷◌, ◌++◌, Option, Some, None, IfSome}
use Rattle.spelling.specs.Spelling.{byte_spelling, list_spelling, IsList}
use Rattle.willow_path.specs.Key.{IsKey}
use Rattle.willow_area.specs.Area.{IsArea}
use Rattle.willow_area.specs.AreaSpelling.{area_spelling}
use Rattle.mc_cap.specs.Signature.{IsSignature, signature_spelling}
use Rattle.mc_cap.specs.declared.chain.TheConstants.{MAX_CHAIN}
use Rattle.mc_cap.specs.declared.chain.Delegation.{Delegation}
use Rattle.mc_cap.specs.declared.capability.Capability.{Capability}
use Rattle.mc_cap.specs.declared.capability.Mode.{Mode}
use Rattle.mc_cap.specs.declared.capability.Mode.TheVariants.{Read, Write}

-- the area, the user, the signature
abbrev pub delegation_spelling : Delegation → List ℕ
delegation_spelling d = area_spelling d.area ++ (d.user ++ signature_spelling d.signature)

-- each field is within its limits
pub record IsDelegation (d : Delegation) : Type 0 where
  pub area_fits : IsArea d.area
  pub user_fits : IsKey d.user
  pub signature_fits : IsSignature d.signature

-- one byte for how many there are, and the delegations
abbrev pub chain_spelling : List Delegation → List ℕ
chain_spelling = list_spelling byte_spelling delegation_spelling

-- delegations that fit, as many as one byte can count
abbrev pub IsChain : List Delegation → Type 0
IsChain = IsList MAX_CHAIN IsDelegation

-- 0 for a mode of reading, 1 of writing
abbrev pub mode_byte : Mode → ℕ
mode_byte Read = 0
mode_byte Write = 1

-- the first byte of a communal capability is that of its mode, and 2 more of an owned one
abbrev pub form_byte : Mode → Option (List ℕ) → ℕ
form_byte Read None = 0
form_byte Write None = 1
form_byte Read (Some signature) = 2
form_byte Write (Some signature) = 3

-- the initial signature, where there is one
abbrev pub initial_spelling : Option (List ℕ) → List ℕ
initial_spelling None = []
initial_spelling (Some signature) = signature_spelling signature

-- what comes before the delegations: the form, the namespace, the first user, the initial signature
unfoldable pub head_spelling : Capability → List ℕ
head_spelling c = form_byte c.mode c.initial ∷ (c.namespace ++ (c.user ++ initial_spelling c.initial))

-- all of it: the head, and the chain
unfoldable pub capability_spelling : Capability → List ℕ
capability_spelling c = form_byte c.mode c.initial ∷ (c.namespace ++ (c.user ++ (initial_spelling c.initial ++ chain_spelling c.chain)))

-- each field is within its limits
pub record IsCapability (c : Capability) : Type 0 where
  pub namespace_fits : IsKey c.namespace
  pub user_fits : IsKey c.user
  pub initial_fits : IfSome c.initial IsSignature
  pub chain_fits : IsChain c.chain
