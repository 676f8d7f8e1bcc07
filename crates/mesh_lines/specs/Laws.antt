-- What the grammar of a mesh keeps.
use Rattle.std.specs.Prelude.{◌≡◌, ℕ, List}
use Rattle.mesh_lines.specs.Text.{IsMesh, IsWrongMesh}
use Rattle.mesh_lines.specs.declared.line.MeshLine.{MeshLine}

-- bytes spell at most one mesh
abbrev pub SpellOneMesh : Type 0
SpellOneMesh = (bytes : List ℕ) (n m : ℕ) (ks ls : List MeshLine) → IsMesh bytes n ks → IsMesh bytes m ls → (n ≡ m) × (ks ≡ ls)

-- bytes that spell one have no wrong line
abbrev pub NoWrongLine : Type 0
NoWrongLine = (bytes : List ℕ) (nodes : ℕ) (lines : List MeshLine) (at : ℕ) → IsMesh bytes nodes lines → IsWrongMesh bytes at → ⊥

-- a first wrong line begins at one place
abbrev pub OneWrongLine : Type 0
OneWrongLine = (bytes : List ℕ) (a b : ℕ) → IsWrongMesh bytes a → IsWrongMesh bytes b → a ≡ b
