use Rattle.std.proofs.Common.{◌≡◌, ℕ, List, [], ◌∷◌, ◌++◌, length, slice_index, sym, ap, ◌∙◌, arith, length-append}
use Rattle.std.proofs.lemmas.List.{append_assoc}
use Rattle.sha2.specs.Sha256.{add_state, digest_bytes, padding, compress, initial_hash_256}
use Rattle.sha_lanes.specs.Step.{step_block}
use Rattle.sha_lanes.specs.Lanes.{hash_in}
use Rattle.sha_lanes.proofs.OfSteps.{length-digest, one_block}
use Rattle.sha_lanes.proofs.OfRuns.{IsBegun-schedule}
use Rattle.sha_lanes.proofs.step.hash_step.Goals as goal

pub returns-clause-words : goal.returns-clause-words
returns-clause-words c = λ l j front low ready.
    let v = c.args.value in
    let value = digest_bytes (hash_in v l) 8 in
    let b = step_block front j value in
    let w16 = c.put_values.ensures l j front low ready.begun ready.numbered in
    let w21 = c.put_next_words.ensures l b low ready.shared.sums w16 in
    let w22 = c.round_and_word-v.ensures.words l b low w21 in
    let w23 = c.round_and_word-v-2.ensures.words l b low w22 in
    let w24 = c.round_and_word-v-3.ensures.words l b low w23 in
    let long = length-digest (slice_index v.a l) (slice_index v.b l) (slice_index v.c l) (slice_index v.d l) (slice_index v.e l) (slice_index v.f l) (slice_index v.g l) (slice_index v.h l) in
    IsBegun-schedule _ front j value ready.begun.long long (c.rounds_from.ensures.words l b low w24)

pub returns-clause-digest : goal.returns-clause-digest
unfolding compress
returns-clause-digest c = λ l j front low ready.
    let v = c.args.value in
    let value = digest_bytes (hash_in v l) 8 in
    let b = step_block front j value in
    let h = initial_hash_256 in
    let w16 = c.put_values.ensures l j front low ready.begun ready.numbered in
    let w21 = c.put_next_words.ensures l b low ready.shared.sums w16 in
    let w22 = c.round_and_word-v.ensures.words l b low w21 in
    let w23 = c.round_and_word-v-2.ensures.words l b low w22 in
    let w24 = c.round_and_word-v-3.ensures.words l b low w23 in
    let s6 = c.round_and_word-v.ensures.state l b h low w21 ready.shared.state in
    let s7 = c.round_and_word-v-2.ensures.state l b h low w22 s6 in
    let s8 = c.round_and_word-v-3.ensures.state l b h low w23 s7 in
    let s64 = c.rounds_from.ensures.state l b h low w24 s8 in
    let hashed : hash_in c.add_states.result l ≡ compress h b =
    c.add_states.ensures l low ∙ (λ i. add_state (c.initial_state.ensures l low i) (s64 i)) in
    let f = front ++ j ∷ [] in
    let long : length (f ++ value) ≡ 55 = omega (arith, length-append f value, ready.numbered.long, length-digest (slice_index v.a l) (slice_index v.b l) (slice_index v.c l) (slice_index v.d l) (slice_index v.e l) (slice_index v.f l) (slice_index v.g l) (slice_index v.h l)) in
    ap (λ (s : List ℕ). digest_bytes s 8) (hashed ∙ ap (compress h) (sym (append_assoc f value (padding 55)))) ∙ sym (one_block (f ++ value) long)
