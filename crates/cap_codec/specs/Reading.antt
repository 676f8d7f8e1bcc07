-- How capabilities, tokens and rows are read.
use Rattle.std.specs.Prelude.{ℕ, zero, suc, Bool, true, false, List, [], ◌∷◌, Option, Some, None}
use Rattle.std.specs.Int.{w16}
use Rattle.spelling.specs.Front.{Front, Whole, Part, Wrong, ◌>>=◌}
use Rattle.spelling.specs.Reading.{byte_up_to, number_up_to, text_at, list_at}
use Rattle.scheme_core.specs.declared.signer.TheConstants.{MAX_SIGNATURE}
use Rattle.willow_path.specs.Key.{key_at}
use Rattle.willow_area.specs.AreaSpelling.{area_at}
use Rattle.willow_entry.specs.EntryForm.{entry_at}
use Rattle.mc_cap.specs.declared.chain.TheConstants.{MAX_CHAIN}
use Rattle.mc_cap.specs.declared.chain.Delegation.{Delegation}
use Rattle.mc_cap.specs.declared.capability.Capability.{Capability}
use Rattle.mc_cap.specs.declared.capability.Mode.{Mode}
use Rattle.mc_cap.specs.declared.capability.Mode.TheVariants.{Read, Write}
use Rattle.cap_codec.specs.declared.token.WriteToken.{WriteToken}
use Rattle.cap_codec.specs.Rows.{RawValue}

-- the first byte of a capability: its mode, and whether it is owned
unfoldable pub form_at : List ℕ → Front (Mode × Bool)
form_at [] = Part
form_at (zero ∷ rest) = Whole (Read, false) rest
form_at (suc zero ∷ rest) = Whole (Write, false) rest
form_at (suc (suc zero) ∷ rest) = Whole (Read, true) rest
form_at (suc (suc (suc zero)) ∷ rest) = Whole (Write, true) rest
form_at (suc (suc (suc (suc other))) ∷ rest) = Wrong

-- two bytes for the length, and the bytes of a signature
unfoldable pub signature_at : List ℕ → Front (List ℕ)
signature_at = text_at (number_up_to w16 MAX_SIGNATURE)

-- the initial signature of an owned capability, and nothing for a communal one
unfoldable pub initial_at : Bool → List ℕ → Front (Option (List ℕ))
initial_at false bytes = Whole None bytes
initial_at true bytes = do
  signature ← signature_at bytes
  Whole (Some signature.0) signature.1

unfoldable pub delegation_at : List ℕ → Front Delegation
delegation_at bytes = do
  area ← area_at bytes
  user ← key_at area.1
  signature ← signature_at user.1
  Whole (record { area = area.0; user = user.0; signature = signature.0 }) signature.1

-- a byte for how many there are, and the delegations
unfoldable pub chain_at : List ℕ → Front (List Delegation)
chain_at = list_at (byte_up_to MAX_CHAIN) delegation_at

unfoldable pub capability_at : List ℕ → Front Capability
capability_at bytes = do
  form ← form_at bytes
  namespace ← key_at form.1
  user ← key_at namespace.1
  initial ← initial_at form.0.1 user.1
  chain ← chain_at initial.1
  Whole (record { mode = form.0.0; namespace = namespace.0; user = user.0; initial = initial.0; chain = chain.0 }) chain.1

unfoldable pub token_at : List ℕ → Front WriteToken
token_at bytes = do
  capability ← capability_at bytes
  signature ← signature_at capability.1
  Whole (record { capability = capability.0; signature = signature.0 }) signature.1

unfoldable pub raw_at : List ℕ → Front RawValue
raw_at bytes = do
  entry ← entry_at bytes
  token ← token_at entry.1
  Whole (record { entry = entry.0; token = token.0 }) token.1
