-- What `key` does: a new key under a name that was absent, and its user key as a line.
use Rattle.std.specs.Prelude.{◌≡◌, ℕ, ◌-◌, ◌≤◌, List, [], ◌∷◌, ◌++◌, length, take, All, Result, Ok, Err, Some, None}
use Rattle.std.specs.Global.{Vec}
use Rattle.std.specs.Option.{option_map}
use Rattle.std.specs.String.{string_bytes}
use Rattle.std.specs.declared.string.String.{String}
use Rattle.std.specs.declared.alloc.Global.{Global}
use Rattle.willow_outside.specs.Counts.{Rose}
use Rattle.willow_outside.specs.Facts.{ShelfFacts, NoiseFacts}
use Rattle.willow_outside.specs.Draws.{IsDraw}
use Rattle.willow_outside.specs.Names.{GetsName}
use Rattle.lms_core.specs.Key.{Key, IsKey, key_file}
use Rattle.lms_core.specs.Use.{user_key_of}
use Rattle.lms_core.specs.Reserve.{KeepsNames, IsOnlyRead}
use Rattle.lms_core.specs.declared.height.Height.{Height}
use Rattle.peer_listing.specs.Listing.{key_line}
use Rattle.peer_stage.specs.Steps.{Step, Then, OnShelf, OnNoise, OnOutput}
use Rattle.peer_stage.specs.Stages.{Writes}
use Rattle.peer_stage.specs.Shelves.{PutsBytes}
use Rattle.peer_stage.specs.declared.outcome.Done.{Done}
use Rattle.peer_stage.specs.declared.outcome.Done.TheVariants as done
use Rattle.peer_stage.specs.declared.outcome.Stop.{Stop}
use Rattle.peer_stage.specs.declared.outcome.Stop.TheVariants as stop

-- the key of two draws: its identifier is the first 16 bytes of the first, its seed the second, and no index
-- is used
abbrev pub drawn_key : Height → List ℕ → List ℕ → Key
drawn_key height first second = record { height = height; identifier = take 16 first; seed = second; next = 0 }

-- the user key of a key
abbrev pub own_user_key : Key → List ℕ
own_user_key k = user_key_of k.height k.identifier k.seed

-- these draws are the first of those to come, and are taken off
abbrev pub TakesDraws : NoiseFacts → NoiseFacts → List (List ℕ) → Type 0
TakesDraws old new draws = old.draws ≡ option_map (λ ds. draws ++ ds) new.draws

-- at most so many draws are taken off
abbrev pub TakesAtMost : ℕ → NoiseFacts → NoiseFacts → Type 0
TakesAtMost most old new = (draws : List (List ℕ)) × (length draws ≤ most) × TakesDraws old new draws

-- the key is that of the next two draws
pub record IsDrawn (height : Height) (old new : NoiseFacts) (k : Key) : Type 0 where
  pub first : List ℕ
  pub second : List ℕ
  pub taken : TakesDraws old new (first ∷ (second ∷ []))
  pub of_draws : k ≡ drawn_key height first second

-- ---- the stages

-- the name holds nothing, and no name was put
pub record IsAbsent (name : List ℕ) (old new : ShelfFacts) : Type 0 where
  pub nothing : GetsName old.names name None
  pub kept : IsOnlyRead old new

-- the name holds some bytes, and no name was put
pub record IsTaken (name : List ℕ) (old new : ShelfFacts) : Type 0 where
  pub bytes : List ℕ
  pub held : GetsName old.names name (Some bytes)
  pub kept : IsOnlyRead old new

-- whether the name is free, which is then given on
abbrev pub FindsFree : String Global → ShelfFacts → ShelfFacts → Result (String Global) Stop → Type 0
FindsFree name old new (Ok free) = (free ≡ name) × IsAbsent (string_bytes name) old new
FindsFree name old new (Err (stop.Taken taken)) = (taken ≡ name) × IsTaken (string_bytes name) old new
FindsFree name old new (Err stop.ReadFault) = Rose old.read_faults new.read_faults × IsOnlyRead old new
FindsFree name old new (Err stop.NoMemory) = KeepsNames old new
FindsFree name old new (Err e) = ⊥

-- one draw
abbrev pub DrawsOne : NoiseFacts → NoiseFacts → Result (List ℕ) Stop → Type 0
DrawsOne old new (Ok words) = IsDraw words × TakesDraws old new (words ∷ [])
DrawsOne old new (Err stop.ReadFault) = (new.draws ≡ old.draws) × Rose old.faults new.faults
DrawsOne old new (Err stop.NoMemory) = new.draws ≡ old.draws
DrawsOne old new (Err e) = ⊥

-- so many draws, in order; a fault takes off all but the last of them at most
abbrev pub DrawsAll : ℕ → NoiseFacts → NoiseFacts → Result (Vec (List ℕ)) Stop → Type 0
DrawsAll count old new (Ok draws) = (length draws.items ≡ count) × All IsDraw draws.items × TakesDraws old new draws.items
DrawsAll count old new (Err stop.ReadFault) = TakesAtMost (count - 1) old new × Rose old.faults new.faults
DrawsAll count old new (Err stop.NoMemory) = TakesAtMost count old new
DrawsAll count old new (Err e) = ⊥

-- a key of two draws; a fault takes off at most the first
abbrev pub DrawsKey : Height → NoiseFacts → NoiseFacts → Result Key Stop → Type 0
DrawsKey height old new (Ok k) = IsDrawn height old new k × IsKey k
DrawsKey height old new (Err stop.ReadFault) = TakesAtMost 1 old new × Rose old.faults new.faults
DrawsKey height old new (Err stop.NoMemory) = TakesAtMost 1 old new
DrawsKey height old new (Err e) = ⊥

-- the putting of a key's file
abbrev pub PutsFile : List ℕ → Key → ShelfFacts → ShelfFacts → Result (Unit {0}) Stop → Type 0
PutsFile name k = PutsBytes name (key_file k)

-- ---- the command

-- It asks the shelf for the name, which must be absent, draws a key, puts its file, and writes its user key as a line.
abbrev pub MakesKey : String Global → Height → Step Done
MakesKey name height =
    Then (OnShelf (FindsFree name)) (λ free.
    Then (OnNoise (DrawsKey height)) (λ k.
    Then (OnShelf (PutsFile (string_bytes free) k)) (λ put.
    OnOutput (Writes (key_line (own_user_key k)) done.Made))))
