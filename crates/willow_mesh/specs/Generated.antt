-- The mesh of the program.
use Rattle.cap_codec.specs.Rows.{row_of}
use Rattle.peer_listing.specs.Generator.{generated}
use Rattle.mesh_core.specs.Exchanging.{exchanging}
use Rattle.mesh_answers.specs.Rules.{MeshRules}

-- nodes exchange their rows by version 2 where they meet, and are offered the rows of the generator
abbrev pub generated_mesh : MeshRules
generated_mesh = record { mesh = exchanging 2; row = λ k. row_of (generated k) }
