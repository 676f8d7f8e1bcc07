-- The version of a session.
use Rattle.std.specs.Prelude.{ℕ, min}
use Rattle.sync_hello.specs.declared.hello.Hello.{Hello}
use Rattle.sync_hello.specs.declared.version.TheConstants.{HIGHEST_VERSION}

-- the highest that is spoken here and by the sides of both hellos
abbrev pub session_version : Hello → Hello → ℕ
session_version one other = min HIGHEST_VERSION (min one.version other.version)
