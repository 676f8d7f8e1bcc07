-- The first message in front of some bytes, and what comes of all of them by it.
use Rattle.std.proofs.Common.{◌≡◌, ℕ, ◌+◌, List, [], ◌∷◌, ◌++◌, length, append_assoc, sym, refl, ap, ◌∙◌}
use Rattle.session_rules.specs.Machine.{Seen, Whole, Part, Wrong, Machine}
use Rattle.session_rules.specs.Reading.{Waits, Broken, Move, stay, then, stepped, judged, move, run, read}
use Rattle.session_rules.specs.Session.{seen_as}
use Rattle.session_rules.proofs.Runs.{run_idle}

-- the first message with its bytes and those behind it, bytes that are a part of one, or neither
pub data First (M : Type 0) : Type 0 where
  Found : M → List ℕ → List ℕ → First M
  Unfinished : List ℕ → First M
  Bad : First M

abbrev pub first_by : {M : Type 0} → Seen M → List ℕ → List ℕ → First M → First M
first_by (Whole m) now rest later = Found m now rest
first_by Part now rest later = later
first_by Wrong now rest later = Bad

-- behind some bytes that are held
abbrev pub first_of : {M : Type 0} → (List ℕ → Seen M) → List ℕ → List ℕ → First M
first_of sees held [] = Unfinished held
first_of sees held (byte ∷ bytes) = first_by (sees (held ++ byte ∷ [])) (held ++ byte ∷ []) bytes (first_of sees (held ++ byte ∷ []) bytes)

abbrev pub IsFirst : {M : Type 0} → (List ℕ → Seen M) → List ℕ → First M → Type 0
IsFirst sees all (Found m message rest) = (sees message ≡ Whole m) × (all ≡ message ++ rest)
IsFirst sees all (Unfinished held) = Unit {0}
IsFirst sees all Bad = Unit {0}

found_here : {M : Type 0} (sees : List ℕ → Seen M) (all now rest : List ℕ) (later : First M) → all ≡ now ++ rest → IsFirst sees all later
    → (seen : Seen M) → sees now ≡ seen → IsFirst sees all (first_by seen now rest later)
found_here sees all now rest later e h (Whole m) is = (is, e)
found_here sees all now rest later e h Part is = h
found_here sees all now rest later e h Wrong is = tt

pub first_is : {M : Type 0} (sees : List ℕ → Seen M) (all held bytes : List ℕ) → all ≡ held ++ bytes → IsFirst sees all (first_of sees held bytes)
first_is sees all held [] e = tt
first_is sees all held (byte ∷ bytes) e =
    let now = held ++ byte ∷ [] in
    let same = e ∙ sym (append_assoc held (byte ∷ []) bytes) in
    found_here sees all now bytes (first_of sees now bytes) same (first_is sees all now bytes same) (sees now) refl

-- what comes of all bytes
abbrev pub by_first : {S M O R E : Type 0} → Machine S M O R E → S → ℕ → First M → Move S O R E
by_first a s at (Found m message rest) =
    then (stepped (at + length message) (a.step s m)) (read a (stepped (at + length message) (a.step s m)).stand rest)
by_first a s at (Unfinished held) = stay (Waits s at held)
by_first a s at Bad = stay (Broken at)

module _ {S M O R E : Type 0} (a : Machine S M O R E) (s : S) (at : ℕ) where
  by_seen : (now rest : List ℕ) (later : First M) → read a (Waits s at now) rest ≡ by_first a s at later
      → (seen : Seen M) → then (judged a s at now seen) (read a (judged a s at now seen).stand rest) ≡ by_first a s at (first_by seen now rest later)
  by_seen now rest later e (Whole m) = refl
  by_seen now rest later e Part = e
  by_seen now rest later e Wrong = run_idle (move a) (Broken at) (λ byte. refl) rest

  pub read_first : (held bytes : List ℕ) → read a (Waits s at held) bytes ≡ by_first a s at (first_of (a.sees s) held bytes)
  unfolding run
  read_first held [] = refl
  read_first held (byte ∷ bytes) =
      let now = held ++ byte ∷ [] in
      by_seen now bytes (first_of (a.sees s) now bytes) (read_first now bytes) (a.sees s now)

-- ---- messages of a kind

abbrev pub first_as : {A M : Type 0} → (A → M) → First A → First M
first_as f (Found x message rest) = Found (f x) message rest
first_as f (Unfinished held) = Unfinished held
first_as f Bad = Bad

first_by-as : {A M : Type 0} (f : A → M) (now rest : List ℕ) (later : First A) (seen : Seen A)
    → first_by (seen_as f seen) now rest (first_as f later) ≡ first_as f (first_by seen now rest later)
first_by-as f now rest later (Whole x) = refl
first_by-as f now rest later Part = refl
first_by-as f now rest later Wrong = refl

pub first_of-as : {A M : Type 0} (f : A → M) (sees : List ℕ → Seen A) (held bytes : List ℕ)
    → first_of (λ all. seen_as f (sees all)) held bytes ≡ first_as f (first_of sees held bytes)
first_of-as f sees held [] = refl
first_of-as f sees held (byte ∷ bytes) =
    let now = held ++ byte ∷ [] in
    ap (first_by (seen_as f (sees now)) now bytes) (first_of-as f sees now bytes)
    ∙ first_by-as f now bytes (first_of sees now bytes) (sees now)
