-- Bytes with a gate in them: what a torn write behind the gate leaves, and what one over the gate leaves.
use Rattle.std.proofs.Common.{◌≡◌, ℕ, ◌+◌, ◌<◌, ◌≤◌, List, [], ◌∷◌, ◌++◌, length, get_or, take, drop, refl, sym, ◌∙◌, ap, arith, append_assoc, length-append, length-take, take-append-drop}
use Rattle.std.proofs.lemmas.List.{take_at, drop_at, drop_more, drop-drop}
use Rattle.willow_outside.specs.Disks.{written, IsTorn}

-- a write behind some bytes
pub written_over : (front piece tail : List ℕ) → written (length front) piece (front ++ tail) ≡ front ++ (piece ++ drop (length piece) tail)
written_over front piece tail =
    let later : drop (length front + length piece) (front ++ tail) ≡ drop (length piece) tail = sym (drop-drop (length piece) (length front) (front ++ tail)) ∙ ap (drop (length piece)) (drop_at front tail (length front) refl) in
    ap (λ (l : List ℕ). l ++ (piece ++ drop (length front + length piece) (front ++ tail))) (take_at front tail (length front) refl) ∙ ap (λ (l : List ℕ). front ++ (piece ++ l)) later

module _ (front : List ℕ) (gate : ℕ) (rest : List ℕ) where
  abbrev pub gated : List ℕ
  gated = front ++ gate ∷ rest

  upto : gated ≡ (front ++ gate ∷ []) ++ rest
  upto = sym (append_assoc front (gate ∷ []) rest)

  upto_long : length (front ++ gate ∷ []) ≡ length front + 1
  upto_long = length-append front (gate ∷ [])

  pub gated_long : length gated ≡ length front + 1 + length rest
  gated_long = omega (arith, length-append front (gate ∷ rest))

  through : take (length front + 1) gated ≡ front ++ gate ∷ []
  through = ap (take (length front + 1)) upto ∙ take_at (front ++ gate ∷ []) rest (length front + 1) upto_long

  behind : drop (length front + 1) gated ≡ rest
  behind = ap (drop (length front + 1)) upto ∙ drop_at (front ++ gate ∷ []) rest (length front + 1) upto_long

  -- a write behind the gate leaves it and what stands before it
  pub torn_behind : (n : ℕ) (c : List ℕ) → IsTorn (length front + 1) n gated c → c ≡ front ++ gate ∷ drop (length front + 1) c
  torn_behind n c torn =
      sym (take-append-drop (length front + 1) c) ∙ ap (λ (l : List ℕ). l ++ drop (length front + 1) c) (torn.before ∙ through) ∙ append_assoc front (gate ∷ []) (drop (length front + 1) c)

  pub written_behind : (piece : List ℕ) → written (length front + 1) piece gated ≡ front ++ (gate ∷ (piece ++ drop (length piece) rest))
  written_behind piece =
      let later : drop (length front + 1 + length piece) gated ≡ drop (length piece) rest = sym (drop-drop (length piece) (length front + 1) gated) ∙ ap (drop (length piece)) behind in
      ap (λ (l : List ℕ). l ++ (piece ++ drop (length front + 1 + length piece) gated)) through ∙ ap (λ (l : List ℕ). (front ++ gate ∷ []) ++ (piece ++ l)) later ∙ append_assoc front (gate ∷ []) (piece ++ drop (length piece) rest)

  -- a write over the gate leaves all else
  pub torn_gate : (c : List ℕ) → IsTorn (length front) 1 gated c → c ≡ front ++ get_or c (length front) 0 ∷ rest
  torn_gate c torn =
      let longer : length front < length c = omega (arith, torn.no_shorter, gated_long) in
      let later : drop (length front) c ≡ get_or c (length front) 0 ∷ rest = drop_more c (length front) 0 longer ∙ ap (λ (l : List ℕ). get_or c (length front) 0 ∷ l) (torn.after ∙ behind) in
      sym (take-append-drop (length front) c) ∙ ap (λ (l : List ℕ). l ++ drop (length front) c) (torn.before ∙ take_at front (gate ∷ rest) (length front) refl) ∙ ap (λ (l : List ℕ). front ++ l) later

  pub written_last : (new : ℕ) (piece : List ℕ) → written (length front) (new ∷ []) (written (length front + 1) piece gated) ≡ written (length front) (new ∷ piece) gated
  written_last new piece =
      ap (written (length front) (new ∷ [])) (written_behind piece) ∙ written_over front (new ∷ []) (gate ∷ (piece ++ drop (length piece) rest)) ∙ sym (written_over front (new ∷ piece) (gate ∷ rest))

-- a piece behind a gate and then the gate are a gate and the piece
pub gate_last : (at new : ℕ) (piece old : List ℕ) → at + 1 ≤ length old → written at (new ∷ []) (written (at + 1) piece old) ≡ written at (new ∷ piece) old
gate_last at new piece old within =
    let front = take at old in
    let gate = get_or old at 0 in
    let rest = drop (at + 1) old in
    let long : length front ≡ at = omega (arith, length-take at old) in
    let parts : front ++ gate ∷ rest ≡ old = ap (λ (l : List ℕ). front ++ l) (sym (drop_more old at 0 (omega (arith, within)))) ∙ take-append-drop at old in
    ap (λ (k : ℕ). written k (new ∷ []) (written (k + 1) piece old)) (sym long) ∙ ap (λ (l : List ℕ). written (length front) (new ∷ []) (written (length front + 1) piece l)) (sym parts)
    ∙ written_last front gate rest new piece ∙ ap (written (length front) (new ∷ piece)) parts ∙ ap (λ (k : ℕ). written k (new ∷ piece) old) long
