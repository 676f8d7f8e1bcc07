-- Disks that a bay hands out.
use Rattle.std.specs.Prelude.{◌≡◌, ℕ, List, [], Option, Some, IfSome, unwrap_or}
use Rattle.willow_outside.specs.Facts.{Names, DiskFacts}

-- the bytes of a name, none where it is new
abbrev pub bytes_under : Names → List ℕ → List ℕ
bytes_under names name = unwrap_or (names name) []

-- nothing failed, and where the names are told the disk has its name's bytes
abbrev pub OpensDisk : Option Names → List ℕ → DiskFacts → Type 0
OpensDisk names name f =
    (f.read_faults ≡ 0) × (f.write_faults ≡ 0) × IfSome names (λ names. f.contents ≡ Some (bytes_under names name))
