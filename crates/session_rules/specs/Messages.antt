-- Messages that are read whole.
use Rattle.std.specs.Prelude.{◌≡◌, ℕ, suc, ◌+◌, ◌<◌, List, [], ◌∷◌, ◌++◌, length, flat_map}
use Rattle.session_rules.specs.Machine.{Seen, Whole, Part, Machine}
use Rattle.session_rules.specs.Reading.{Stand, Waits, Over, Broken, Refused, Move, stay, stepped, start, run, ending_of, got, ending}
use Rattle.session_rules.specs.Rounds.{rounds}

-- The bytes are read as just this message: there are some, together they are the message, and until the last of them is
-- there they are a part of one.
pub record IsReadAs {M : Type 0} (sees : List ℕ → Seen M) (bytes : List ℕ) (m : M) : Type 0 where
  pub some_bytes : 0 < length bytes
  pub whole : sees bytes ≡ Whole m
  pub part : (held due : List ℕ) → bytes ≡ held ++ due → 0 < length held → 0 < length due → sees held ≡ Part

-- all these bytes, read behind those held, leave a message a part
abbrev pub ArePart : {M : Type 0} → (List ℕ → Seen M) → List ℕ → List ℕ → Type 0
ArePart sees held [] = Unit {0}
ArePart sees held (byte ∷ bytes) = (sees (held ++ byte ∷ []) ≡ Part) × ArePart sees (held ++ byte ∷ []) bytes

-- what comes of a message that is read whole
abbrev pub taken : {S M O R E : Type 0} → Machine S M O R E → (M → List ℕ) → Stand S E → M → Move S O R E
taken a spelling (Waits s at held) m = stepped (at + length (spelling m)) (a.step s m)
taken a spelling Over m = stay Over
taken a spelling (Broken at) m = stay (Broken at)
taken a spelling (Refused e) m = stay (Refused e)

-- the machine reads the bytes of the message as the message, if it still reads
abbrev pub CanRead : {S M O R E : Type 0} → Machine S M O R E → (M → List ℕ) → Stand S E → M → Type 0
CanRead a spelling (Waits s at held) m = IsReadAs (a.sees s) (spelling m) m
CanRead a spelling Over m = Unit {0}
CanRead a spelling (Broken at) m = Unit {0}
CanRead a spelling (Refused e) m = Unit {0}

-- so it is with each of some messages that come one after the other
abbrev pub CanReadAll : {S M O R E : Type 0} → Machine S M O R E → (M → List ℕ) → Stand S E → List M → Type 0
CanReadAll a spelling q [] = Unit {0}
CanReadAll a spelling q (m ∷ ms) = CanRead a spelling q m × CanReadAll a spelling (taken a spelling q m).stand ms

-- what comes of some messages that are read from the beginning
abbrev pub hear : {S M O R E : Type 0} → Machine S M O R E → (M → List ℕ) → List M → Move S O R E
hear a spelling ms = run (taken a spelling) (start a) ms

-- all that it says which reads them
abbrev pub tells : {S M O R E : Type 0} → Machine S M O R E → (M → List ℕ) → List M → List O
tells a spelling ms = a.opening ++ (hear a spelling ms).says

-- ---- two machines that read each other's messages

-- what both have said after so many rounds
abbrev pub dialogue : {S M O R E T Q F : Type 0} → Machine S M O R E → Machine T O M Q F → ℕ → List O × List M
dialogue a b n = rounds (tells a b.spelling) (tells b a.spelling) n

-- up to the round in which a machine reads what was said in so many rounds, each reads the bytes of what the other says
pub record CanTalk {S M O R E T Q F : Type 0} (a : Machine S M O R E) (b : Machine T O M Q F) (n : ℕ) : Type 0 where
  pub first_reads : CanReadAll a b.spelling (start a) (dialogue a b n).1
  pub second_reads : CanReadAll b a.spelling (start b) (dialogue a b (suc n)).0

-- these bytes are what was said up to then, and each machine ends and takes rows as it does to these messages
pub record IsDialogue {S M O R E T Q F : Type 0} (a : Machine S M O R E) (b : Machine T O M Q F) (n : ℕ) (by_a by_b : List ℕ) : Type 0 where
  pub first_writes : by_a ≡ flat_map a.spelling (dialogue a b (suc n)).0
  pub second_writes : by_b ≡ flat_map b.spelling (dialogue a b (suc n)).1
  pub first_ends : ending a by_b ≡ ending_of (hear a b.spelling (dialogue a b n).1).stand
  pub first_got : got a by_b ≡ (hear a b.spelling (dialogue a b n).1).rows
  pub second_ends : ending b by_a ≡ ending_of (hear b a.spelling (dialogue a b (suc n)).0).stand
  pub second_got : got b by_a ≡ (hear b a.spelling (dialogue a b (suc n)).0).rows
