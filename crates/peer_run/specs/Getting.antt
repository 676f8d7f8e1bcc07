-- What a command gets from the shelf, each judged as it is got.
use Rattle.std.specs.declared.string.String.{String}
use Rattle.std.specs.declared.alloc.Global.{Global}
use Rattle.mc_cap.specs.declared.capability.Capability.{Capability}
use Rattle.peer_image.specs.declared.read.Image.{Image}
use Rattle.peer_make.specs.Reading.{ReadsCapabilityFrom}
use Rattle.peer_rows.specs.Images.{ReadsImageFrom}
use Rattle.peer_stage.specs.Shelves.{GetsBytes}
use Rattle.peer_stage.specs.Steps.{Step, Then, Inside, OnShelf}
use Rattle.peer_stage.specs.declared.outcome.Origin.TheVariants as origin

-- It gets the bytes under a name, and reads them as an image.
abbrev pub GetsImage : String Global → Step Image
GetsImage name =
    Then (OnShelf (GetsBytes name)) (λ got.
    Inside (ReadsImageFrom (origin.Name got.0) got.1.items))

-- It gets the bytes under a name, and reads them as a capability.
abbrev pub GetsCapability : String Global → Step Capability
GetsCapability name =
    Then (OnShelf (GetsBytes name)) (λ got.
    Inside (ReadsCapabilityFrom (origin.Name got.0) got.1.items))
