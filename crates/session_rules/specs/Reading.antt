-- A machine as a function of the bytes that it reads. Its reader is asked after every byte, so what it says does not
-- depend on the pieces in which they come.
use Rattle.std.specs.Prelude.{◌≡◌, ℕ, ◌+◌, List, [], ◌∷◌, ◌++◌, length, flat_map}
use Rattle.session_rules.specs.Machine.{Seen, Whole, Part, Wrong, Step, Goes, Ends, Refuses, Machine}

-- How a machine stands: it waits for a message, which begins at an offset and of which these bytes are held; it has
-- ended; the bytes from an offset on are no message; or it has refused one.
pub data Stand (S E : Type 0) : Type 0 where
  Waits : S → ℕ → List ℕ → Stand S E
  Over : Stand S E
  Broken : ℕ → Stand S E
  Refused : E → Stand S E

-- what comes of something that is read: how the machine stands then, what it says, and the rows that it takes
pub record Move (S O R E : Type 0) : Type 0 where
  pub stand : Stand S E
  pub says : List O
  pub rows : List R

-- nothing is said
abbrev pub stay : {S O R E : Type 0} → Stand S E → Move S O R E
stay q = record { stand = q; says = []; rows = [] }

-- the one, and then the other
abbrev pub then : {S O R E : Type 0} → Move S O R E → Move S O R E → Move S O R E
then m n = record { stand = n.stand; says = m.says ++ n.says; rows = m.rows ++ n.rows }

-- the next message begins at an offset
abbrev pub stepped : {S O R E : Type 0} → ℕ → Step S O R E → Move S O R E
stepped at (Goes s says rows) = record { stand = Waits s at []; says = says; rows = rows }
stepped at (Ends says rows) = record { stand = Over; says = says; rows = rows }
stepped at (Refuses e) = stay (Refused e)

-- what comes of the bytes held from an offset on
abbrev pub judged : {S M O R E : Type 0} → Machine S M O R E → S → ℕ → List ℕ → Seen M → Move S O R E
judged a s at held (Whole m) = stepped (at + length held) (a.step s m)
judged a s at held Part = stay (Waits s at held)
judged a s at held Wrong = stay (Broken at)

-- what comes of one more byte
abbrev pub move : {S M O R E : Type 0} → Machine S M O R E → Stand S E → ℕ → Move S O R E
move a (Waits s at held) byte = judged a s at (held ++ byte ∷ []) (a.sees s (held ++ byte ∷ []))
move a Over byte = stay Over
move a (Broken at) byte = stay (Broken at)
move a (Refused e) byte = stay (Refused e)

-- what comes of things that are read one after the other
unfoldable pub run : {S O R E X : Type 0} → (Stand S E → X → Move S O R E) → Stand S E → List X → Move S O R E
run next q [] = stay q
run next q (x ∷ xs) = then (next q x) (run next (next q x).stand xs)

-- what comes of some bytes
abbrev pub read : {S M O R E : Type 0} → Machine S M O R E → Stand S E → List ℕ → Move S O R E
read a q bytes = run (move a) q bytes

-- ---- the machine as a whole

-- how it stands before it reads
abbrev pub start : {S M O R E : Type 0} → Machine S M O R E → Stand S E
start a = Waits a.first 0 []

-- how it stands, to those outside: it has ended, more is due, the bytes from an offset on are no message, or it has
-- refused one
pub data Ending (E : Type 0) : Type 0 where
  Done : Ending E
  More : Ending E
  BadMessage : ℕ → Ending E
  Refusal : E → Ending E

abbrev pub ending_of : {S E : Type 0} → Stand S E → Ending E
ending_of (Waits s at held) = More
ending_of Over = Done
ending_of (Broken at) = BadMessage at
ending_of (Refused e) = Refusal e

-- all that it says which reads some bytes
abbrev pub said : {S M O R E : Type 0} → Machine S M O R E → List ℕ → List O
said a bytes = a.opening ++ (read a (start a) bytes).says

-- the bytes that it writes
abbrev pub out : {S M O R E : Type 0} → Machine S M O R E → List ℕ → List ℕ
out a bytes = flat_map a.spelling (said a bytes)

-- the rows that it takes
abbrev pub got : {S M O R E : Type 0} → Machine S M O R E → List ℕ → List R
got a bytes = (read a (start a) bytes).rows

-- how it ends
abbrev pub ending : {S M O R E : Type 0} → Machine S M O R E → List ℕ → Ending E
ending a bytes = ending_of (read a (start a) bytes).stand

-- what it writes and takes, and how it ends, to some bytes
abbrev pub Shows : {S M O R E : Type 0} → Machine S M O R E → List ℕ → List ℕ → List R → Ending E → Type 0
Shows a bytes written rows end = (out a bytes ≡ written) × (got a bytes ≡ rows) × (ending a bytes ≡ end)
