-- The same bytes, read from another offset on.
use Rattle.std.proofs.Common.{◌≡◌, ℕ, ◌+◌, List, [], ◌∷◌, ◌++◌, length, add_assoc, sym, refl, ap, ◌∙◌}
use Rattle.session_rules.specs.Machine.{Seen, Whole, Part, Wrong, Step, Goes, Ends, Refuses, Machine}
use Rattle.session_rules.specs.Reading.{Stand, Waits, Over, Broken, Refused, Move, then, stepped, judged, run, read}

abbrev pub shift_stand : {S E : Type 0} → ℕ → Stand S E → Stand S E
shift_stand n (Waits s at held) = Waits s (n + at) held
shift_stand n Over = Over
shift_stand n (Broken at) = Broken (n + at)
shift_stand n (Refused e) = Refused e

abbrev pub shift : {S O R E : Type 0} → ℕ → Move S O R E → Move S O R E
shift n m = record m { stand = shift_stand n m.stand }

shift-stepped : {S O R E : Type 0} (n at : ℕ) (step : Step S O R E) → shift n (stepped at step) ≡ stepped (n + at) step
shift-stepped n at (Goes s says rows) = refl
shift-stepped n at (Ends says rows) = refl
shift-stepped n at (Refuses e) = refl

module _ {S M O R E : Type 0} (a : Machine S M O R E) (n : ℕ) where
  shift-judged : (s : S) (at : ℕ) (held : List ℕ) (seen : Seen M) → judged a s (n + at) held seen ≡ shift n (judged a s at held seen)
  shift-judged s at held (Whole m) = ap (λ there. stepped there (a.step s m)) (add_assoc n at (length held)) ∙ sym (shift-stepped n (at + length held) (a.step s m))
  shift-judged s at held Part = refl
  shift-judged s at held Wrong = refl

  pub shift-read : (q : Stand S E) (bytes : List ℕ) → read a (shift_stand n q) bytes ≡ shift n (read a q bytes)
  unfolding run
  shift-read q [] = refl
  shift-read (Waits s at held) (byte ∷ bytes) =
      let now = held ++ byte ∷ [] in
      let m = judged a s at now (a.sees s now) in
      ap (λ k. then k (read a k.stand bytes)) (shift-judged s at now (a.sees s now)) ∙ ap (then (shift n m)) (shift-read m.stand bytes)
  shift-read Over (byte ∷ bytes) = shift-read Over bytes
  shift-read (Broken at) (byte ∷ bytes) = shift-read (Broken at) bytes
  shift-read (Refused e) (byte ∷ bytes) = shift-read (Refused e) bytes
