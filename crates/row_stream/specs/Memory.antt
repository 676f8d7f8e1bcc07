-- Where a stream of which nothing has begun asks for memory as it is fed.
use Rattle.std.specs.Prelude.{ℕ, List}
use Rattle.willow_entry.specs.EntryForm.{EntryAsks}
use Rattle.row_stream.specs.Places.{body_told, IsTooLong, IsTooShort}

-- where it does, the first length of the piece is not above MAX_FRAME, and a first body that is shorter than any entry
-- asks itself
pub record PieceAsks (piece : List ℕ) : Type 0 where
  pub not_too_long : IsTooLong piece → ⊥
  pub too_short : IsTooShort piece → EntryAsks (body_told piece)
