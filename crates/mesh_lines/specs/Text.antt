-- All lines of a mesh, and where they go wrong. Each ends with a newline.
use Rattle.std.specs.Prelude.{◌≡◌, ◌≢◌, ℕ, ◌+◌, ◌⊎◌, List, [], ◌∷◌, ◌++◌, length, Result, Ok, Err}
use Rattle.spelling.specs.declared.ending.End.{End}
use Rattle.spelling.specs.declared.ending.End.TheVariants.{Refused, NoMemory}
use Rattle.mesh_lines.specs.Lines.{IsFirstLine, IsLine}
use Rattle.mesh_lines.specs.declared.line.MeshLine.{MeshLine}
use Rattle.mesh_lines.specs.declared.text.MeshText.{MeshText}
use Rattle.mesh_lines.specs.declared.text.WrongLine.{WrongLine}

-- these lines stand in front, one after the other, and the rest behind them
abbrev pub HasLines : ℕ → List ℕ → List MeshLine → List ℕ → Type 0
HasLines nodes bytes [] rest = bytes ≡ rest
HasLines nodes bytes (l ∷ ls) rest = (line others : List ℕ) × (bytes ≡ line ++ 10 ∷ others) × IsLine nodes line l × HasLines nodes others ls rest

-- the first line stands in front, then these, and the rest behind them
pub record HasFront (bytes : List ℕ) (nodes : ℕ) (lines : List MeshLine) (rest : List ℕ) : Type 0 where
  pub first : List ℕ
  pub others : List ℕ
  pub whole : bytes ≡ first ++ 10 ∷ others
  pub is_first : IsFirstLine first nodes
  pub has_lines : HasLines nodes others lines rest

-- the bytes are these lines
abbrev pub IsMesh : List ℕ → ℕ → List MeshLine → Type 0
IsMesh bytes nodes lines = HasFront bytes nodes lines []

-- no first line stands in front
abbrev pub LacksFirst : List ℕ → Type 0
LacksFirst bytes = (line others : List ℕ) (nodes : ℕ) → bytes ≡ line ++ 10 ∷ others → IsFirstLine line nodes → ⊥

-- no other line does
abbrev pub LacksLine : ℕ → List ℕ → Type 0
LacksLine nodes bytes = (line others : List ℕ) (l : MeshLine) → bytes ≡ line ++ 10 ∷ others → IsLine nodes line l → ⊥

-- there is more behind these lines, and no further line of the grammar in front of that, which begins at this place
pub record IsWrongBehind (bytes : List ℕ) (nodes : ℕ) (lines : List MeshLine) (rest : List ℕ) (at : ℕ) : Type 0 where
  pub front : HasFront bytes nodes lines rest
  pub more : rest ≢ []
  pub wrong : LacksLine nodes rest
  pub place : at + length rest ≡ length bytes

-- the first wrong line begins at this place: it is the first of all, or stands behind others that are not wrong
abbrev pub IsWrongMesh : List ℕ → ℕ → Type 0
IsWrongMesh bytes at = ((at ≡ 0) × LacksFirst bytes) ⊎ ((nodes : ℕ) × (lines : List MeshLine) × (rest : List ℕ) × IsWrongBehind bytes nodes lines rest at)

-- how the reading of a mesh ends
abbrev pub ReadsMesh : List ℕ → Result MeshText (End WrongLine) → Type 0
ReadsMesh bytes (Ok text) = IsMesh bytes text.nodes text.lines.items
ReadsMesh bytes (Err (Refused wrong)) = IsWrongMesh bytes wrong.at
ReadsMesh bytes (Err NoMemory) = Unit {0}
