-- Rows of the generator that follow one another.
use Rattle.std.specs.Prelude.{ℕ, ◌-◌, List, map}
use Rattle.std.specs.List.{flat_map, range_with_len}
use Rattle.willow_entry.specs.declared.entry.Entry.{Entry}
use Rattle.cap_codec.specs.Rows.{RawValue, frame}
use Rattle.peer_listing.specs.Generator.{generated, generated_entry}

-- the rows from one to before another, in order
abbrev pub generated_between : ℕ → ℕ → List RawValue
generated_between from to = map generated (range_with_len from (to - from))

-- their entries
abbrev pub entries_between : ℕ → ℕ → List Entry
entries_between from to = map generated_entry (range_with_len from (to - from))

-- their frames, one behind the other
abbrev pub frames_between : ℕ → ℕ → List ℕ
frames_between from to = flat_map (λ i. frame (generated i)) (range_with_len from (to - from))
