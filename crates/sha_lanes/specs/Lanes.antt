-- What the lanes of vectors hold. A vector is the list of its lanes, an array of vectors the list of these.
use Rattle.std.specs.Prelude.{◌≡◌, ◌<◌, ℕ, List, [], ◌∷◌, length, map, slice_index, slice_index_or}
use Rattle.sha2.specs.Sha256.{first_words, schedule}
use Rattle.sha_lanes.specs.declared.compression.State.{State}

-- v has four lanes, and lane l holds f l
pub record HasLanes (v : List ℕ) (f : ℕ → ℕ) : Type 0 where
  pub long : length v ≡ 4
  pub each : (l : ℕ) → l < 4 → slice_index v l ≡ f l

-- the hash value in lane l, or the working variables there
abbrev pub hash_in : State → ℕ → List ℕ
hash_in v l = slice_index v.a l ∷ slice_index v.b l ∷ slice_index v.c l ∷ slice_index v.d l
    ∷ slice_index v.e l ∷ slice_index v.f l ∷ slice_index v.g l ∷ slice_index v.h l ∷ []

-- the words in lane l of several vectors
abbrev pub words_of : List (List ℕ) → ℕ → List ℕ
words_of vectors l = map (λ v. slice_index v l) vectors

-- the words are those of a block's bytes
abbrev pub IsBlock : List ℕ → List ℕ → Type 0
IsBlock words b = words ≡ first_words b 16

-- the first n of 64 words are those of the message schedule of a block
pub record IsSchedule (words b : List ℕ) (n : ℕ) : Type 0 where
  pub long : length words ≡ 64
  pub each : (t : ℕ) → t < n → slice_index words t ≡ slice_index (schedule b 48) t

-- string l of several
abbrev pub row : List (List ℕ) → ℕ → List ℕ
row rows l = slice_index_or rows l []

-- one of four strings, by its lane
abbrev pub one_of : List ℕ → List ℕ → List ℕ → List ℕ → ℕ → List ℕ
one_of first second third fourth l = row (first ∷ second ∷ third ∷ fourth ∷ []) l
