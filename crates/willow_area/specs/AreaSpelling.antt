-- How an area is spelled, and how it is read.
use Rattle.std.specs.Prelude.{List, ℕ, ◌++◌}
use Rattle.spelling.specs.Front.{Front, Whole, ◌>>=◌}
use Rattle.spelling.specs.Memory.{Behind, IsWhole}
use Rattle.spelling.specs.Reading.{option_at}
use Rattle.spelling.specs.Spelling.{option_spelling}
use Rattle.willow_path.specs.Key.{key_at}
use Rattle.willow_path.specs.PathSpelling.{path_at, path_spelling}
use Rattle.willow_area.specs.TimesSpelling.{times_at, times_spelling}
use Rattle.willow_area.specs.declared.area.Area.{Area}

-- a byte 00 for any subspace or a byte 01 and the key, then the path, then the times
abbrev pub area_spelling : Area → List ℕ
area_spelling area = option_spelling (λ key. key) area.subspace ++ (path_spelling area.path ++ times_spelling area.times)

-- An area asks for memory behind its path.
abbrev pub AreaAsks : List ℕ → Type 0
AreaAsks bytes = Behind (option_at key_at bytes) (λ subspace rest. IsWhole (path_at rest))

-- an area
unfoldable pub area_at : List ℕ → Front Area
area_at bytes = do
  subspace ← option_at key_at bytes
  path ← path_at subspace.1
  times ← times_at path.1
  Whole (record { subspace = subspace.0; path = path.0; times = times.0 }) times.1
