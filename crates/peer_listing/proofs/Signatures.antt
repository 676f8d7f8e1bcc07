-- What is signed of entries, one behind the other, and the digests of it.
use Rattle.std.proofs.Common.{◌≡◌, ℕ, ◌+◌, ◌-◌, ◌<◌, ◌≤◌, List, [], ◌∷◌, ◌++◌, get_or, length, map, take, drop, sym, ap, ◌∙◌, arith, length-append}
use Rattle.std.specs.List.{flat_map}
use Rattle.std.proofs.lemmas.List.{drop_at, drop_more, get_or-map, length-map, map_more, map_push, take_at}
use Rattle.std.proofs.lemmas.Simd.{map-map}
use Rattle.sha2.specs.Sha256.{sha256}
use Rattle.sha_lanes.specs.declared.message.Message.{Message}
use Rattle.sha_lanes.specs.Message.{bytes_of, digest_of}
use Rattle.willow_entry.specs.EntryForm.{entry_spelling}
use Rattle.willow_entry.specs.Message.{entry_message}
use Rattle.willow_entry.specs.declared.entry.Entry.{Entry}
use Rattle.peer_listing.specs.Generator.{generated_entry}
use Rattle.peer_listing.specs.Ranges.{entries_between}
use Rattle.peer_listing.specs.Signing.{own_signature, signed_bytes}
use Rattle.peer_listing.proofs.Ranges.{of_entries_long, of_entry_at}

-- a key and a letter stand in front of the entry
pub signed_long : (e : Entry) → length e.subspace ≡ 33 → length (signed_bytes e) ≡ 34 + length (entry_spelling e)
unfolding entry_message
signed_long e key = omega (arith, length-append e.subspace (entry_message e))

-- the digests of what is signed are the signatures
pub own_digests : (messages : List Message) (entries : List Entry) → map bytes_of messages ≡ map signed_bytes entries → map digest_of messages ≡ map own_signature entries
own_digests messages entries same = sym (map-map sha256 bytes_of messages) ∙ ap (map sha256) same ∙ map-map sha256 signed_bytes entries

-- what is left begins with what is signed of the next entry
module _ (entries : List Entry) (i : ℕ) (e : Entry) (left : List ℕ) (below : i < length entries) (is : e ≡ get_or entries i e) (held : left ≡ flat_map signed_bytes (drop i entries)) where
  parts : left ≡ signed_bytes e ++ flat_map signed_bytes (drop (i + 1) entries)
  parts =
      held
      ∙ ap (flat_map signed_bytes) (drop_more entries i e below)
      ∙ ap (λ (x : Entry). signed_bytes x ++ flat_map signed_bytes (drop (i + 1) entries)) (sym is)

  pub signed_within : length (signed_bytes e) + length (flat_map signed_bytes (drop (i + 1) entries)) ≡ length left
  signed_within = omega (arith, ap length parts, length-append (signed_bytes e) (flat_map signed_bytes (drop (i + 1) entries)))

  pub front_is : (mid : ℕ) (front : List ℕ) → mid ≡ length (signed_bytes e) → front ≡ take mid left → front ≡ signed_bytes e
  front_is mid front long took = took ∙ ap (take mid) parts ∙ take_at (signed_bytes e) (flat_map signed_bytes (drop (i + 1) entries)) mid (sym long)

  pub back_is : (mid : ℕ) (back : List ℕ) → mid ≡ length (signed_bytes e) → back ≡ drop mid left → back ≡ flat_map signed_bytes (drop (i + 1) entries)
  back_is mid back long took = took ∙ ap (drop mid) parts ∙ drop_at (signed_bytes e) (flat_map signed_bytes (drop (i + 1) entries)) mid (sym long)

-- one more message
pub one_more : {M : Type 0} (f : M → List ℕ) (entries : List Entry) (i : ℕ) (e : Entry) (messages messages' : List M) (m : M) → i < length entries → e ≡ get_or entries i e → map f messages ≡ map signed_bytes (take i entries) → messages' ≡ messages ++ m ∷ [] → f m ≡ signed_bytes e
    → map f messages' ≡ map signed_bytes (take (i + 1) entries)
one_more f entries i e messages messages' m below is so_far goes told =
    ap (map f) goes
    ∙ map_push f messages m
    ∙ ap (λ (l : List (List ℕ)). l ++ f m ∷ []) so_far
    ∙ ap (λ (l : List ℕ). map signed_bytes (take i entries) ++ l ∷ []) (told ∙ ap signed_bytes is)
    ∙ sym (map_more signed_bytes entries i e below)

-- ---- what was signed of rows that follow one another, and the signatures

module _ (from to i : ℕ) (up : from ≤ i) (below : i < to) where
  pub signatures_long : (signatures : List (List ℕ)) → signatures ≡ map own_signature (entries_between from to) → i - from < length signatures
  signatures_long signatures are = omega (arith, up, below, ap length are, of_entries_long own_signature from to)

  pub signature_at : (signatures : List (List ℕ)) (d : List ℕ) → signatures ≡ map own_signature (entries_between from to) → get_or signatures (i - from) d ≡ own_signature (generated_entry i)
  signature_at signatures d are = ap (λ (l : List (List ℕ)). get_or l (i - from) d) are ∙ of_entry_at own_signature from to i d up below

  pub messages_long : (messages : List Message) → map (λ (m : Message). m.rest.now) messages ≡ map signed_bytes (entries_between from to) → i - from < length messages
  messages_long messages are = omega (arith, up, below, ap length are, length-map messages (λ (m : Message). m.rest.now), of_entries_long signed_bytes from to)

  pub message_at : (messages : List Message) (d : Message) → map (λ (m : Message). m.rest.now) messages ≡ map signed_bytes (entries_between from to) → (get_or messages (i - from) d).rest.now ≡ signed_bytes (generated_entry i)
  message_at messages d are =
      sym (get_or-map (λ (m : Message). m.rest.now) messages (i - from) d [] (messages_long messages are))
      ∙ ap (λ (l : List (List ℕ)). get_or l (i - from) []) are
      ∙ of_entry_at signed_bytes from to i [] up below
