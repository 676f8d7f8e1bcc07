-- Runs: what is read one after the other, in pieces or at once, and behind an end.
use Rattle.std.proofs.Common.{◌≡◌, ℕ, List, [], ◌∷◌, ◌++◌, append_assoc, append-nil, sym, refl, ap, ap₂, ◌∙◌}
use Rattle.std.specs.List.{concat}
use Rattle.session_rules.specs.Machine.{Machine}
use Rattle.session_rules.specs.Reading.{Stand, Waits, Over, Broken, Refused, Move, stay, then, move, run, read, ending_of}
use Rattle.session_rules.specs.Rounds.{IsOver}

abbrev pub move_of : {S O R E : Type 0} → Stand S E → List O → List R → Move S O R E
move_of q says rows = record { stand = q; says = says; rows = rows }

then_assoc : {S O R E : Type 0} (l m n : Move S O R E) → then (then l m) n ≡ then l (then m n)
then_assoc l m n = ap₂ (move_of n.stand) (append_assoc l.says m.says n.says) (append_assoc l.rows m.rows n.rows)

pub then_stay : {S O R E : Type 0} (m : Move S O R E) → then m (stay m.stand) ≡ m
then_stay m = ap₂ (move_of m.stand) (append-nil m.says) (append-nil m.rows)

module _ {S O R E X : Type 0} (next : Stand S E → X → Move S O R E) where
  pub run_append : (q : Stand S E) (xs ys : List X) → run next q (xs ++ ys) ≡ then (run next q xs) (run next (run next q xs).stand ys)
  unfolding run
  run_append q [] ys = refl
  run_append q (x ∷ xs) ys =
      ap (then (next q x)) (run_append (next q x).stand xs ys)
      ∙ sym (then_assoc (next q x) (run next (next q x).stand xs) (run next (run next (next q x).stand xs).stand ys))

  -- where each thing that is read is for nothing, all are
  pub run_idle : (q : Stand S E) → ((x : X) → next q x ≡ stay q) → (xs : List X) → run next q xs ≡ stay q
  unfolding run
  run_idle q idle [] = refl
  run_idle q idle (x ∷ xs) = ap (λ m. then m (run next m.stand xs)) (idle x) ∙ run_idle q idle xs

  -- and what comes behind changes nothing
  pub run_stays : (q : Stand S E) (xs ys : List X) → ((x : X) → next (run next q xs).stand x ≡ stay (run next q xs).stand)
      → run next q (xs ++ ys) ≡ run next q xs
  run_stays q xs ys idle =
      run_append q xs ys ∙ ap (then (run next q xs)) (run_idle (run next q xs).stand idle ys) ∙ then_stay (run next q xs)

module _ {S M O R E : Type 0} (a : Machine S M O R E) where
  -- in pieces
  pub run_pieces : (q : Stand S E) (pieces : List (List ℕ)) → run (read a) q pieces ≡ read a q (concat pieces)
  unfolding run
  run_pieces q [] = refl
  run_pieces q (piece ∷ pieces) =
      ap (then (read a q piece)) (run_pieces (read a q piece).stand pieces) ∙ sym (run_append (move a) q piece (concat pieces))

  pub idle_over : (q : Stand S E) → IsOver (ending_of q) → (byte : ℕ) → move a q byte ≡ stay q
  idle_over (Waits s at held) over byte = absurd (over refl)
  idle_over Over over byte = refl
  idle_over (Broken at) over byte = refl
  idle_over (Refused e) over byte = refl
