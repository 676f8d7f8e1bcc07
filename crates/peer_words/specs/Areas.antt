-- What options say of an area, and the area of what they say.
use Rattle.std.specs.Prelude.{◌≡◌, ℕ, ◌<◌, Bool, true, false, List, Option, Some, None, codes, unwrap_or}
use Rattle.willow_area.specs.Times.{ends_by}
use Rattle.willow_area.specs.declared.area.Area.{Area}
use Rattle.peer_words.specs.Options.{Setting, MayBeSet}
use Rattle.peer_words.specs.Values.{IsAnyOrKey, IsPathWord, IsNumber, IsNumberOrNone}
use Rattle.peer_words.specs.declared.command.AreaWords.{AreaWords}

-- an end that is a number is above the start, where both are given
abbrev pub AreRising : Option ℕ → Option (Option ℕ) → Type 0
AreRising None end = Unit {0}
AreRising (Some start) None = Unit {0}
AreRising (Some start) (Some None) = Unit {0}
AreRising (Some start) (Some (Some end)) = start < end

-- the options that say an area
pub record HasArea (settings : List Setting) (area : AreaWords) : Type 0 where
  pub any_or_key : MayBeSet IsAnyOrKey settings (codes "--subspace") area.subspace
  pub path : MayBeSet IsPathWord settings (codes "--under") area.under
  pub start : MayBeSet IsNumber settings (codes "--from") area.from
  pub end : MayBeSet IsNumberOrNone settings (codes "--until") area.until
  pub rising : AreRising area.from area.until

-- ---- the area

-- the area of the words, where a field without a word is that of the other area
abbrev pub completed : AreaWords → Area → Area
completed words area =
    record {
      subspace = unwrap_or words.subspace area.subspace;
      path = unwrap_or words.under area.path;
      times = record { start = unwrap_or words.from area.times.start; end = unwrap_or words.until area.times.end };
    }

-- the area has no times
abbrev pub is_empty : Area → Bool
is_empty area = ends_by area.times.end area.times.start

-- the area of the words, where it has times
abbrev pub Completes : AreaWords → Area → Option Area → Type 0
Completes words area None = is_empty (completed words area) ≡ true
Completes words area (Some whole) = (whole ≡ completed words area) × (is_empty (completed words area) ≡ false)
