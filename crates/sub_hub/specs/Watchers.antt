-- What a watcher tells of itself, and how the notes that it is given move that.
use Rattle.std.specs.Prelude.{◌≡◌, ◌⊎◌, ℕ, Bool, true, false, List, ◌∷◌, ◌++◌, []}
use Rattle.std.specs.declared.option.Option.{Option}
use Rattle.std.specs.Option.{option_map}
use Rattle.willow_outside.specs.Counts.{HasRisen}
use Rattle.sub_hub.specs.Heard.{Note}
use Rattle.sub_hub.specs.declared.watcher.Wish.{Wish}
use Rattle.sub_hub.specs.declared.watcher.Wish.TheVariants.{Stay, Leave}

-- all notes that it kept, where it tells them, and how often it answered Leave
pub record WatcherFacts : Type 0 where
  pub heard : Option (List Note)
  pub leaves : ℕ

-- told notes with these behind them
abbrev pub with_notes : List Note → Option (List Note) → Option (List Note)
with_notes notes told = option_map (λ kept. kept ++ notes) told

-- a note for which it stays is kept; one for which it leaves may be
abbrev pub KeepsNote : Option (List Note) → Option (List Note) → Note → Wish → Type 0
KeepsNote old new note Stay = new ≡ with_notes (note ∷ []) old
KeepsNote old new note Leave = (new ≡ with_notes (note ∷ []) old) ⊎ (new ≡ old)

-- the count rises where it leaves, and stays where it stays
abbrev pub CountsLeave : ℕ → ℕ → Wish → Type 0
CountsLeave before now Stay = now ≡ before
CountsLeave before now Leave = HasRisen before now

-- ---- several notes, one after the other

-- it was given all of these, and stays
pub record HearsEach (old new : WatcherFacts) (notes : List Note) : Type 0 where
  pub kept : new.heard ≡ with_notes notes old.heard
  pub stays : new.leaves ≡ old.leaves

-- It was given these up to one for which it left (`last`), which it may have kept, and none of those behind that.
pub record HearsUntil (old new : WatcherFacts) (notes : List Note) : Type 0 where
  pub front : List Note
  pub last : Note
  pub behind : List Note
  pub parts : notes ≡ front ++ last ∷ behind
  pub kept : (new.heard ≡ with_notes (front ++ last ∷ []) old.heard) ⊎ (new.heard ≡ with_notes front old.heard)
  pub leaves : HasRisen old.leaves new.leaves

-- by how it answered last
abbrev pub HearsNotes : WatcherFacts → WatcherFacts → List Note → Wish → Type 0
HearsNotes old new notes Stay = HearsEach old new notes
HearsNotes old new notes Leave = HearsUntil old new notes

-- By whether it had left before, and whether it has left now: one that had left hears nothing and stays away; any other hears
-- all of these and stays, or leaves at one of them.
abbrev pub IsToldOf : Bool → Bool → WatcherFacts → WatcherFacts → List Note → Type 0
IsToldOf true has_left old new notes = (has_left ≡ true) × (new ≡ old)
IsToldOf false false old new notes = HearsEach old new notes
IsToldOf false true old new notes = HearsUntil old new notes
