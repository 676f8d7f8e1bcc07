-- What is answered to bytes that may be the beginning of a hello.
use Rattle.std.specs.Prelude.{◌≡◌, ℕ, ◌≤◌, List, ◌++◌, length, take, Result, Ok, Err}
use Rattle.spelling.specs.Reader.{Begins}
use Rattle.spelling.specs.declared.ending.NoMemory.{NoMemory}
use Rattle.spelling.specs.declared.input.Unread.{Unread}
use Rattle.spelling.specs.declared.input.Unread.TheVariants as unread
use Rattle.sync_hello.specs.declared.hello.Hello.{Hello}
use Rattle.sync_hello.specs.declared.read.HelloStep.{HelloStep}
use Rattle.sync_hello.specs.declared.read.HelloStep.TheVariants as steps
use Rattle.sync_hello.specs.HelloForm.{draft_spelling, IsDraft, hello_spelling, IsHello}

-- the bytes are a proper beginning of a hello, whatever its capability: that is judged once it is whole
abbrev pub BeginsHello : List ℕ → Type 0
BeginsHello = Begins draft_spelling IsDraft

-- just the bytes taken spell the hello
pub record TakesHello (bytes : List ℕ) (hello : Hello) (taken : ℕ) : Type 0 where
  pub fits : IsHello hello
  pub within : taken ≤ length bytes
  pub spelled : take taken bytes ≡ hello_spelling hello

-- no hello begins so, and none stands in front of the bytes
pub record HasNoHello (bytes : List ℕ) : Type 0 where
  pub none_begun : BeginsHello bytes → ⊥
  pub none_whole : (hello : Hello) (rest : List ℕ) → IsHello hello → bytes ≡ hello_spelling hello ++ rest → ⊥

-- what stands at the front of the bytes: a hello and its length, or why there is none; for want of memory nothing is said
abbrev pub IsInFront : List ℕ → Result (Hello × ℕ) Unread → Type 0
IsInFront bytes (Ok x) = TakesHello bytes x.0 x.1
IsInFront bytes (Err unread.Part) = BeginsHello bytes
IsInFront bytes (Err unread.Wrong) = HasNoHello bytes
IsInFront bytes (Err unread.NoMemory) = Unit {0}

-- A hello that is whole is spelled by just the bytes taken. More is due where the bytes are a proper beginning of a
-- hello. They are bad where they are none and no hello stands in front of them. For want of memory nothing is said.
abbrev pub ReadsHello : List ℕ → Result HelloStep NoMemory → Type 0
ReadsHello bytes (Ok (steps.Whole hello taken)) = TakesHello bytes hello taken
ReadsHello bytes (Ok steps.More) = BeginsHello bytes
ReadsHello bytes (Ok steps.Bad) = HasNoHello bytes
ReadsHello bytes (Err e) = Unit {0}

-- at most one hello stands in front of some bytes
abbrev pub HaveOneHello : Type 0
HaveOneHello = (bytes : List ℕ) (hello other : Hello) (taken more : ℕ) → TakesHello bytes hello taken → TakesHello bytes other more → (hello ≡ other) × (taken ≡ more)

-- and where one does, the bytes are no proper beginning of one
abbrev pub AreNeverBoth : Type 0
AreNeverBoth = (bytes : List ℕ) (hello : Hello) (taken : ℕ) → TakesHello bytes hello taken → BeginsHello bytes → ⊥
