-- The rows of a generator: row i is the same wherever it is made. Its eight writers take turns; every writer
-- puts 32 rows below a first component before it goes on to the next one, and some rows stand at the first
-- component itself, above earlier ones.
use Rattle.std.specs.Prelude.{ℕ, ◌+◌, ◌/◌, ◌%◌, ◌==◌, List, [], ◌∷◌, ◌++◌, replicate, Some, if◌then◌else◌}
use Rattle.std.specs.Int.{w16, w64, to_be_bytes}
use Rattle.scheme_core.specs.Open.{open_signature}
use Rattle.willow_entry.specs.Message.{entry_message}
use Rattle.willow_entry.specs.declared.entry.Entry.{Entry}
use Rattle.mc_cap.specs.Messages.{initial_message}
use Rattle.mc_cap.specs.Forms.{capability_spelling}
use Rattle.mc_cap.specs.declared.capability.Capability.{Capability}
use Rattle.mc_cap.specs.declared.capability.Mode.TheVariants.{Write}
use Rattle.cap_codec.specs.declared.token.WriteToken.{WriteToken}
use Rattle.cap_codec.specs.Rows.{RawValue}

-- the namespace: an open key of 32 bytes 4f, which is owned
unfoldable pub generator_namespace : List ℕ
generator_namespace = 0 ∷ replicate 32 0x4f

-- writer s: an open key of 31 bytes 55 and the byte s
unfoldable pub generator_writer : ℕ → List ℕ
generator_writer s = 0 ∷ (replicate 31 0x55 ++ s ∷ [])

-- the first component of row i in two bytes
abbrev pub first_component : ℕ → List ℕ
first_component i = to_be_bytes w16 (i / 8 / 32)

-- a second component of one byte, but for the last row of every fifty
unfoldable pub generated_path : ℕ → List (List ℕ)
generated_path i = if i % 50 == 49 then first_component i ∷ [] else first_component i ∷ (i / 8 % 32 ∷ []) ∷ []

-- the number of the row in eight bytes, four times
unfoldable pub generated_digest : ℕ → List ℕ
generated_digest i = to_be_bytes w64 i ++ (to_be_bytes w64 i ++ (to_be_bytes w64 i ++ to_be_bytes w64 i))

unfoldable pub generated_entry : ℕ → Entry
generated_entry i = record {
  namespace = generator_namespace;
  subspace = generator_writer (i % 8);
  path = generated_path i;
  timestamp = 1_700_000_000_000_000 + i;
  length = i % 4096;
  digest = record { 0 = generated_digest i };
}

-- the owned write capability of a writer, without delegations
unfoldable pub generator_capability : List ℕ → Capability
generator_capability writer = record {
  mode = Write;
  namespace = generator_namespace;
  user = writer;
  initial = Some (open_signature generator_namespace (initial_message Write writer));
  chain = [];
}

-- what each row of writer s carries of it: its bytes
abbrev pub writer_capability : ℕ → List ℕ
writer_capability s = capability_spelling (generator_capability (generator_writer s))

unfoldable pub generated_token : ℕ → WriteToken
generated_token i = record {
  capability = generator_capability (generator_writer (i % 8));
  signature = open_signature (generator_writer (i % 8)) (entry_message (generated_entry i));
}

-- row i
abbrev pub generated : ℕ → RawValue
generated i = record { entry = generated_entry i; token = generated_token i }
