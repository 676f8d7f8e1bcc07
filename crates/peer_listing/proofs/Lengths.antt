-- How long a generated row's body is.
use Rattle.std.proofs.Common.{◌≡◌, ℕ, ◌/◌, ◌%◌, ◌≤◌, ◌==◌, Bool, true, false, if◌then◌else◌, List, [], ◌∷◌, ◌++◌, length, refl, arith, length-append, lit≤}
use Rattle.std.specs.Int.{w64, to_be_bytes}
use Rattle.sha2.proofs.Facts256.{length-sha256}
use Rattle.scheme_core.specs.Open.{open_signature}
use Rattle.willow_path.specs.PathSpelling.{path_spelling}
use Rattle.willow_entry.specs.EntryForm.{entry_spelling}
use Rattle.willow_entry.specs.declared.entry.Entry.{Entry}
use Rattle.willow_entry.specs.RowBody.{row_body}
use Rattle.mc_cap.specs.Signature.{signature_spelling}
use Rattle.mc_cap.specs.Forms.{form_byte, initial_spelling, chain_spelling, capability_spelling}
use Rattle.mc_cap.specs.Messages.{initial_message}
use Rattle.mc_cap.specs.declared.capability.Capability.{Capability}
use Rattle.mc_cap.specs.declared.capability.Mode.TheVariants.{Write}
use Rattle.willow_entry.specs.declared.frame.TheConstants.{MAX_FRAME}
use Rattle.willow_entry.specs.Message.{entry_message}
use Rattle.cap_codec.specs.Rows.{RawValue, row_of, token_spelling}
use Rattle.peer_listing.specs.Generator.{first_component, generated, generated_digest, generated_entry, generated_path, generated_token, generator_capability, generator_namespace, generator_writer}

-- with or without a second component
either_path : (b : Bool) (i : ℕ) → length (path_spelling (if b then first_component i ∷ [] else first_component i ∷ (i / 8 % 32 ∷ []) ∷ [])) ≤ 6
either_path true i = lit≤ tt
either_path false i = lit≤ tt

path_short : (i : ℕ) → length (path_spelling (generated_path i)) ≤ 6
unfolding generated_path
path_short i = either_path (i % 50 == 49) i

-- an entry's six parts
six : (a b c d e f : List ℕ) → length a ≡ 33 → length b ≡ 33 → length c ≤ 6 → length d ≡ 8 → length e ≡ 8 → length f ≡ 32 → length (a ++ (b ++ (c ++ (d ++ (e ++ f))))) ≤ 120
six a b c d e f ha hb hc hd he hf = omega (arith, length-append {A = ℕ})

entry_length : (e : Entry) → length e.namespace ≡ 33 → length e.subspace ≡ 33 → length (path_spelling e.path) ≤ 6 → length e.digest.0 ≡ 32 → length (entry_spelling e) ≤ 120
unfolding entry_spelling
entry_length e namespace subspace path digest =
    six e.namespace e.subspace (path_spelling e.path) (to_be_bytes w64 e.timestamp) (to_be_bytes w64 e.length) e.digest.0 namespace subspace path refl refl digest

entry_short : (i : ℕ) → length (entry_spelling (generated_entry i)) ≤ 120
unfolding generated_entry generator_namespace generator_writer generated_digest
entry_short i = entry_length (generated_entry i) refl refl (path_short i) refl

-- a signature of 32 bytes with its length
signature_length : (s : List ℕ) → length s ≡ 32 → length (signature_spelling s) ≡ 34
signature_length s h = omega arith

-- a capability's five parts
five : (a : ℕ) (b c d e : List ℕ) → length b ≡ 33 → length c ≡ 33 → length d ≡ 34 → length e ≡ 1 → length (a ∷ (b ++ (c ++ (d ++ e)))) ≡ 102
five a b c d e hb hc hd he = omega (arith, length-append {A = ℕ})

capability_at : (c : Capability) → length c.namespace ≡ 33 → length c.user ≡ 33 → length (initial_spelling c.initial) ≡ 34 → length (chain_spelling c.chain) ≡ 1 → length (capability_spelling c) ≡ 102
unfolding capability_spelling
capability_at c namespace user initial chain =
    five (form_byte c.mode c.initial) c.namespace c.user (initial_spelling c.initial) (chain_spelling c.chain) namespace user initial chain

capability_length : (s : ℕ) → length (capability_spelling (generator_capability (generator_writer s))) ≡ 102
unfolding generator_capability generator_namespace generator_writer
capability_length s =
    let message : List ℕ = initial_message Write (generator_writer s) in
    capability_at (generator_capability (generator_writer s)) refl refl (signature_length (open_signature generator_namespace message) (length-sha256 (generator_namespace ++ message))) refl

token_length : (i : ℕ) → length (token_spelling (generated_token i)) ≡ 136
unfolding generated_token
token_length i =
    let capability = capability_length (i % 8) in
    let signature = signature_length (open_signature (generator_writer (i % 8)) (entry_message (generated_entry i))) (length-sha256 (generator_writer (i % 8) ++ entry_message (generated_entry i))) in
    omega (arith, length-append {A = ℕ})

-- the body of a generated row
pub generated_short : (i : ℕ) → length (row_body (row_of (generated i))) ≤ 256
unfolding row_body
generated_short i = omega (arith, length-append (entry_spelling (generated_entry i)) (token_spelling (generated_token i)), entry_short i, token_length i)

-- a row with the parts of a generated row fits a frame
pub generated_fits : (i : ℕ) (row : RawValue) → row.entry ≡ generated_entry i → row.token ≡ generated_token i → length (row_body (row_of row)) ≤ MAX_FRAME
generated_fits i row entry token =
    let short = generated_short i in
    rw (entry, token) (omega arith)
