-- The parts of a generated row's body.
use Rattle.std.proofs.Common.{◌≡◌, ℕ, ◌+◌, ◌%◌, ◌<◌, ◌≤◌, List, [], ◌∷◌, ◌++◌, length, map, drop, refl, sym, ap, ◌∙◌, arith}
use Rattle.std.specs.List.{range_with_len}
use Rattle.std.proofs.lemmas.List.{map_push}
use Rattle.std.proofs.lemmas.List.FromFn.{map-range_with_len_more}
use Rattle.willow_entry.specs.EntryForm.{entry_spelling}
use Rattle.willow_entry.specs.Message.{entry_message}
use Rattle.willow_entry.specs.RowBody.{row_body}
use Rattle.willow_entry.specs.declared.frame.TheConstants.{MAX_FRAME}
use Rattle.mc_cap.specs.Signature.{signature_spelling}
use Rattle.cap_codec.specs.Rows.{raw_spelling}
use Rattle.peer_listing.specs.Generator.{generated, generated_entry, generated_token, generator_writer, writer_capability}
use Rattle.peer_listing.specs.Signing.{own_signature, signed_bytes}
use Rattle.peer_listing.proofs.Lengths.{generated_short}

-- a key and a letter stand in front of it
pub signed_begun : (i : ℕ) (signed : List ℕ) → signed ≡ signed_bytes (generated_entry i) → 34 ≤ length signed
unfolding generated_entry generator_writer entry_message
signed_begun i signed is = omega (arith, ap length is)

entry_behind : (i : ℕ) → drop 34 (signed_bytes (generated_entry i)) ≡ entry_spelling (generated_entry i)
unfolding generated_entry generator_writer entry_message
entry_behind i = refl

body_of : (i : ℕ) → entry_spelling (generated_entry i) ++ (writer_capability (i % 8) ++ signature_spelling (own_signature (generated_entry i))) ≡ raw_spelling (generated i)
unfolding generated_token generated_entry
body_of i = refl

-- the entry behind the key and the letter, the writer's capability and the signature are the body
pub body_is : (i : ℕ) (signed entry capability signature : List ℕ) → signed ≡ signed_bytes (generated_entry i) → entry ≡ drop 34 signed → capability ≡ writer_capability (i % 8) → signature ≡ own_signature (generated_entry i)
    → entry ++ (capability ++ signature_spelling signature) ≡ raw_spelling (generated i)
body_is i signed entry capability signature is_signed is_entry is_capability is_signature =
    let spelled : entry ≡ entry_spelling (generated_entry i) = is_entry ∙ ap (λ (l : List ℕ). drop 34 l) is_signed ∙ entry_behind i in
    ap (λ (l : List ℕ). l ++ (capability ++ signature_spelling signature)) spelled
    ∙ ap (λ (l : List ℕ). entry_spelling (generated_entry i) ++ (l ++ signature_spelling signature)) is_capability
    ∙ ap (λ (l : List ℕ). entry_spelling (generated_entry i) ++ (writer_capability (i % 8) ++ signature_spelling l)) is_signature
    ∙ body_of i

body_short : (i : ℕ) → length (raw_spelling (generated i)) ≤ 256
unfolding row_body
body_short i = generated_short i

pub body_fits : (i : ℕ) (body : List ℕ) → body ≡ raw_spelling (generated i) → length body ≤ MAX_FRAME
body_fits i body is = omega (arith, ap length is, body_short i)

-- one more writer's capability is spelled
pub spelled_on : {V : Type 0} (items : V → List ℕ) (vs vs' : List V) (v : V) (s : ℕ) → map items vs ≡ map writer_capability (range_with_len 0 s) → vs' ≡ vs ++ v ∷ [] → items v ≡ writer_capability s
    → map items vs' ≡ map writer_capability (range_with_len 0 (s + 1))
spelled_on items vs vs' v s so_far goes is =
    ap (map items) goes
    ∙ map_push items vs v
    ∙ ap (λ (l : List (List ℕ)). l ++ items v ∷ []) so_far
    ∙ ap (λ (l : List ℕ). map writer_capability (range_with_len 0 s) ++ l ∷ []) is
    ∙ sym (map-range_with_len_more writer_capability 0 s s (omega arith))
