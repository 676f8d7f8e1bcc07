-- Where the reader of hellos asks for memory: want of memory is an answer only there.
use Rattle.std.specs.Prelude.{ℕ, List}
use Rattle.spelling.specs.Memory.{Behind}
use Rattle.spelling.specs.Reading.{byte_at, bytes_at, exactly_at}
use Rattle.willow_area.specs.AreaSpelling.{AreaAsks}
use Rattle.sync_hello.specs.HelloForm.{magic}

-- a hello asks with its ask, behind the text WSY, the version and the nonce
abbrev pub HelloAsks : List ℕ → Type 0
HelloAsks bytes = Behind (exactly_at magic bytes) (λ letters b. Behind (byte_at b) (λ version c. Behind (bytes_at 16 c) (λ nonce rest. AreaAsks rest)))
