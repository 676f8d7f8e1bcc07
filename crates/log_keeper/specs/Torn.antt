-- What a crash may leave of the writes of a keeper, as bytes.
use Rattle.std.specs.Prelude.{◌≡◌, ◌⊎◌, ℕ, ◌+◌, List, ◌++◌, length, Option, Some}
use Rattle.std.specs.Option.{option_map}
use Rattle.willow_outside.specs.Disks.{written, IsTorn}
use Rattle.log_keeper.specs.LogFile.{HoldsNoLog}

-- told contents with n bytes torn at this place
abbrev pub IsTornOf : Option (List ℕ) → ℕ → ℕ → List ℕ → Type 0
IsTornOf contents at n image = (bytes : List ℕ) × (contents ≡ Some bytes) × IsTorn at n bytes image

-- told contents with a piece torn behind a gate, or with the piece there and the gate torn
abbrev pub IsTornAtGate : Option (List ℕ) → ℕ → List ℕ → List ℕ → Type 0
IsTornAtGate contents gate piece image =
    IsTornOf contents (gate + 1) (length piece) image ⊎ IsTornOf (option_map (written (gate + 1) piece) contents) gate 1 image

-- the bytes begin with a log
abbrev pub BeginsWith : List ℕ → List ℕ → Type 0
BeginsWith log bytes = (rest : List ℕ) × (bytes ≡ log ++ rest)

-- there is no log, or this one stands at the front
abbrev pub HoldsNoneOr : List ℕ → List ℕ → Type 0
HoldsNoneOr log bytes = HoldsNoLog bytes ⊎ BeginsWith log bytes
