-- What a machine makes of bytes of which it is known what they are.
use Rattle.std.proofs.Common.{◌≡◌, inl, inr, ℕ, ◌+◌, ◌<◌, List, [], ◌∷◌, ◌++◌, take, refl, ap, ◌∙◌, arith}
use Rattle.std.proofs.lemmas.List.{length-take-le}
use Rattle.session_rules.specs.Machine.{Seen, Machine}
use Rattle.session_rules.specs.Reading.{Waits, Broken, stay, then, stepped, judged, move, run, read}
use Rattle.session_rules.proofs.Growing.{judged_part}
use Rattle.session_rules.proofs.Runs.{run_idle}
use Rattle.session_rules.proofs.Spelled.{read_due}
use Rattle.row_intake.specs.Found.{IsFound, GoWrong}

pub some_taken : {M : Type 0} (sees : List ℕ → Seen M) (bytes : List ℕ) (m : M) (n : ℕ) → IsFound sees bytes m n → 0 < n
some_taken sees bytes m n found = omega (arith, found.reads.some_bytes, length-take-le n bytes found.within)

module _ {S M O R E : Type 0} (a : Machine S M O R E) (s : S) (at : ℕ) where
  -- bytes that are of no message
  pub read_wrong : (held bytes : List ℕ) → GoWrong (a.sees s) held bytes → read a (Waits s at held) bytes ≡ stay (Broken at)
  unfolding run
  read_wrong held [] h = absurd h
  read_wrong held (byte ∷ bytes) (inl e) =
      ap (λ seen. then (judged a s at (held ++ byte ∷ []) seen) (read a (judged a s at (held ++ byte ∷ []) seen).stand bytes)) e
      ∙ run_idle (move a) (Broken at) (λ b. refl) bytes
  read_wrong held (byte ∷ bytes) (inr h) =
      ap (λ m. then m (read a m.stand bytes)) (judged_part a s at (held ++ byte ∷ []) (a.sees s (held ++ byte ∷ [])) h.0)
      ∙ read_wrong (held ++ byte ∷ []) bytes h.1

  -- a message that stands in front
  pub read_found : (bytes : List ℕ) (m : M) (n : ℕ) → IsFound (a.sees s) bytes m n → read a (Waits s at []) (take n bytes) ≡ stepped (at + n) (a.step s m)
  read_found bytes m n found =
      read_due a s at m (take n bytes) found.reads [] (take n bytes) refl found.reads.some_bytes
      ∙ ap (λ k. stepped (at + k) (a.step s m)) (length-take-le n bytes found.within)
