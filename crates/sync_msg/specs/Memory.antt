-- Where the reader of items asks for memory: want of memory is an answer only there.
use Rattle.std.specs.Prelude.{◌≡◌, ◌⊎◌, ℕ, zero, suc, List}
use Rattle.spelling.specs.Memory.{Behind, IsWhole}
use Rattle.spelling.specs.Reading.{byte_at, byte_up_to}
use Rattle.willow_path.specs.PathSpelling.{path_at}
use Rattle.willow_entry.specs.Frame.{FrameAsks}
use Rattle.sync_msg.specs.declared.points.TheConstants.{MAX_POINTS}
use Rattle.sync_msg.specs.ItemReading.{part_point_at}

-- a cut asks where it is of the dimension of paths, 1, and the path is whole
abbrev pub CutAsks : List ℕ → Type 0
CutAsks bytes = Behind (byte_at bytes) (λ dimension rest. (dimension ≡ 1) × IsWhole (path_at rest))

-- so many points of a dimension ask where the first of them is whole
abbrev pub CountedAsk : ℕ → List ℕ → Type 0
CountedAsk dimension bytes = Behind (byte_up_to MAX_POINTS bytes) (λ count points. IsWhole (part_point_at dimension points))

-- a cut in parts asks where its first point is whole
abbrev pub PartsAsk : List ℕ → Type 0
PartsAsk bytes = Behind (byte_at bytes) CountedAsk

-- of the items that are no rows only the cut of the version asks: one in two, whose kind is 3, or one in parts, whose
-- kind is 8
abbrev pub HeadAsks : ℕ → List ℕ → Type 0
HeadAsks version bytes = Behind (byte_at bytes) (λ kind rest. (((kind ≡ 3) × (version ≡ 1)) × CutAsks rest) ⊎ (((kind ≡ 8) × (version ≡ 2)) × PartsAsk rest))

-- while rows are due, the next item asks as the frame of a row, else as an item that is none
abbrev pub ItemAsks : ℕ → ℕ → List ℕ → Type 0
ItemAsks version zero bytes = HeadAsks version bytes
ItemAsks version (suc due) bytes = FrameAsks bytes
