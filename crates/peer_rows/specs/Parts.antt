-- Images that are taken a part at a time, as long as their rows are in order.
use Rattle.std.specs.Prelude.{◌≡◌, ℕ, ◌<◌, ◌≤◌, ◌⊎◌, Bool, List, ◌++◌, length, None}
use Rattle.spelling.specs.Memory.{Behind, IsWhole}
use Rattle.mc_cap.specs.declared.capability.Capability.{Capability}
use Rattle.cap_codec.specs.Rows.{RawValue}
use Rattle.ns_state.specs.declared.live_log.TheConstants.{LOG_LIMIT}
use Rattle.peer_image.specs.Fronts.{last_fronts}
use Rattle.peer_image.specs.ImageOneReading.{header_at}
use Rattle.peer_image.specs.ImageReading.{IsOfVersionTwo, raw_rows}
use Rattle.peer_image.specs.ImageTwoReading.{FirstIsWhole, head_two_at}
use Rattle.peer_image.specs.Order.{order_refusal}
use Rattle.peer_image.specs.ImageTwoParts.{IsPartTwo}
use Rattle.peer_image.specs.Parts.{IsPart}
use Rattle.peer_rows.specs.Images.{IsImageInOrder}
use Rattle.peer_rows.specs.Logged.{IsLogOf}
use Rattle.peer_rows.specs.Stored.{IsWholeLog}
use Rattle.peer_rows.specs.declared.parts.TheConstants.{PART}
use Rattle.peer_rows.specs.declared.log.Log.{Log}
use Rattle.peer_rows.specs.declared.parts.Taken.{Taken}

-- the rows are in order, and these are those of them that stand at prefixes of the last
pub record HaveFronts (rows fronts : List RawValue) : Type 0 where
  pub in_order : order_refusal (raw_rows rows) ≡ None
  pub are_fronts : raw_rows fronts ≡ last_fronts (raw_rows rows)

-- these rows were taken, in order: the log is that of them, each that would be stored with room
pub record HasTakenRows (namespace : List ℕ) (rows : List RawValue) (taken : Taken) : Type 0 where
  pub is_log : IsLogOf namespace rows taken.log.kept taken.log.counts
  pub fits : taken.log.counts.stored ≤ LOG_LIMIT
  pub fronts : HaveFronts rows taken.fronts.items

-- the rows of the first frames in front of the bytes were taken behind these, and these bytes are left
pub record HasTakenPart (namespace : List ℕ) (seen : List RawValue) (bytes left : List ℕ) (taken : Taken) : Type 0 where
  pub rows : List RawValue
  pub part : IsPart bytes PART rows left
  pub all_taken : HasTakenRows namespace (seen ++ rows) taken
  pub shorter : length left < length bytes

-- The same of rows that tell capabilities among those told. The marks tell the capabilities of these rows beside those that
-- the old ones told.
pub record HasTakenPartTwo (told : List Capability) (old : List Bool) (namespace : List ℕ) (seen : List RawValue) (bytes left : List ℕ) (marks : List Bool) (taken : Taken) : Type 0 where
  pub rows : List RawValue
  pub part : IsPartTwo told bytes PART old rows marks left
  pub all_taken : HasTakenRows namespace (seen ++ rows) taken
  pub shorter : length left < length bytes

-- The bytes are an image of rows in order, and the log is that of all of them.
pub record IsLoggedImage (bytes : List ℕ) (log : Log) : Type 0 where
  pub rows : List RawValue
  pub is_image : IsImageInOrder bytes log.kept.namespace rows
  pub whole : IsWholeLog log.kept.namespace rows log

-- ---- where memory is asked for

-- The log of an image of version 1 is begun, and asks for memory, behind the header.
abbrev pub OpeningOneAsks : List ℕ → Type 0
OpeningOneAsks bytes = IsWhole (header_at bytes)

-- That of an image of version 2 is begun behind the capabilities. The first of these asks where its frame is whole, and there
-- may be none.
abbrev pub OpeningTwoAsks : List ℕ → Type 0
OpeningTwoAsks bytes = Behind (head_two_at bytes) (λ head rest. (head.count ≡ 0) ⊎ FirstIsWhole rest)

-- where the log of an image of either version asks for memory
pub record OpeningAsks (bytes : List ℕ) : Type 0 where
  pub two : IsOfVersionTwo bytes → OpeningTwoAsks bytes
  pub one : (IsOfVersionTwo bytes → ⊥) → OpeningOneAsks bytes
