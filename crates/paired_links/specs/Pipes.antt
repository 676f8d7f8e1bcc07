-- One direction between two threads.
use Rattle.std.specs.Prelude.{◌≡◌, ℕ, Bool, true, List, []}

-- the bytes that were written and not read yet, and whether the end that writes is gone
pub record PipeValue : Type 0 where
  pub waiting : List ℕ
  pub closed : Bool

-- a read need not wait: bytes are there, or none will come
abbrev pub IsDue : PipeValue → Type 0
IsDue pipe = pipe.waiting ≡ [] → pipe.closed ≡ true
