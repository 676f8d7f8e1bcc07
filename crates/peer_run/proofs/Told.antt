-- A transcript with one turn more.
use Rattle.std.proofs.Common.{◌≡◌, ℕ, ◌+◌, ◌<◌, ◌%◌, List, [], ◌∷◌, ◌++◌, length, get_or, map, take, sym, ap, ◌∙◌, append_assoc, arith, length-take}
use Rattle.std.proofs.lemmas.List.{append-nil, length-map, map_more}
use Rattle.peer_run.specs.Transcript.{transcript, turn_told, turns_told}

told_behind : (i : ℕ) (turns : List (List ℕ)) (turn : List ℕ) → turns_told i (turns ++ turn ∷ []) ≡ turns_told i turns ++ turn_told ((i + length turns) % 2) turn
told_behind i [] turn = append-nil (turn_told (i % 2) turn) ∙ ap (λ (k : ℕ). turn_told (k % 2) turn) (omega arith)
told_behind i (t ∷ turns) turn =
    let place : (i + 1) + length turns ≡ i + length (t ∷ turns) = omega arith in
    ap (λ (rest : List ℕ). turn_told (i % 2) t ++ rest) (told_behind (i + 1) turns turn ∙ ap (λ (k : ℕ). turns_told (i + 1) turns ++ turn_told (k % 2) turn) place)
    ∙ sym (append_assoc (turn_told (i % 2) t) (turns_told (i + 1) turns) (turn_told ((i + length (t ∷ turns)) % 2) turn))

-- the text of the turns before place i, and behind it that of the turn there
pub told_more : {X : Type 0} (bytes : X → List ℕ) (turns : List X) (i : ℕ) (turn : X) (before after said : List ℕ) → i < length turns → turn ≡ get_or turns i turn → said ≡ bytes turn
    → before ≡ transcript (map bytes (take i turns)) → after ≡ before ++ turn_told (i % 2) said → after ≡ transcript (map bytes (take (i + 1) turns))
told_more bytes turns i turn before after said within is_turn is_said is_before is_after =
    let seen = map bytes (take i turns) in
    let here = get_or turns i turn in
    let count : 0 + length seen ≡ i = simp (length-map, length-take) (omega (arith, within)) in
    is_after
    ∙ ap (λ (text : List ℕ). text ++ turn_told (i % 2) said) is_before
    ∙ ap (λ (t : List ℕ). transcript seen ++ turn_told (i % 2) t) (is_said ∙ ap bytes is_turn)
    ∙ sym (ap transcript (map_more bytes turns i turn within) ∙ told_behind 0 seen (bytes here) ∙ ap (λ (k : ℕ). transcript seen ++ turn_told (k % 2) (bytes here)) count)
