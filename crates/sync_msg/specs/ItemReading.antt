-- How items are read.
use Rattle.std.specs.Prelude.{◌≡◌, ℕ, zero, suc, ◌+◌, List, ◌⊎◌, None, Result, Ok, Err, nat_eq, nat_lt}
use Rattle.std.specs.Int.{w32, w64}
use Rattle.spelling.specs.Front.{Front, Whole, Part, Wrong, ◌>>=◌}
use Rattle.spelling.specs.Reading.{guard, byte_at, byte_up_to, bytes_at, many_at, number_at, number_up_to, text_at}
use Rattle.spelling.specs.declared.input.Unread.{Unread}
use Rattle.spelling.specs.declared.input.Unread.TheVariants as unread
use Rattle.willow_path.specs.Key.{key_at}
use Rattle.willow_path.specs.PathSpelling.{path_at}
use Rattle.willow_area.specs.declared.cut.CutAt.{CutAt}
use Rattle.willow_area.specs.declared.cut.CutAt.TheVariants as cuts
use Rattle.willow_entry.specs.Row.{RowValue}
use Rattle.willow_entry.specs.RowBody.{row_body, ReadsBody}
use Rattle.willow_entry.specs.declared.frame.TheConstants.{MAX_FRAME}
use Rattle.sync_msg.specs.declared.item.Item.TheVariants.{First, Agree, Split, Parts, Entries, Rest, EndTurn, Bye}
use Rattle.sync_msg.specs.declared.item.TheConstants.{MAX_ENTRIES, MAX_REST}
use Rattle.sync_msg.specs.declared.points.TheConstants.{MAX_POINTS}
use Rattle.sync_msg.specs.Items.{ItemValue}

-- the point of a cut in a dimension
unfoldable pub point_at : ℕ → List ℕ → Front CutAt
point_at zero bytes = do
  key ← key_at bytes
  Whole (cuts.Subspace key.0) key.1
point_at (suc zero) bytes = do
  path ← path_at bytes
  Whole (cuts.Path path.0) path.1
point_at (suc (suc other)) bytes = Wrong

-- a dimension, and the point
unfoldable pub cut_at : List ℕ → Front CutAt
cut_at bytes = do
  dimension ← byte_at bytes
  point_at dimension.0 dimension.1

-- a cut, and the fingerprints of the lower and the upper part
unfoldable pub split_at : List ℕ → Front ItemValue
split_at bytes = do
  cut ← cut_at bytes
  lower ← bytes_at 32 cut.1
  upper ← bytes_at 32 lower.1
  Whole (Split cut.0 lower.0 upper.0) upper.1

-- a point of a dimension of a cut in parts
unfoldable pub part_point_at : ℕ → List ℕ → Front CutAt
part_point_at zero bytes = do
  key ← key_at bytes
  Whole (cuts.Subspace key.0) key.1
part_point_at (suc zero) bytes = do
  path ← path_at bytes
  Whole (cuts.Path path.0) path.1
part_point_at (suc (suc zero)) bytes = do
  time ← number_at w64 bytes
  Whole (cuts.Time time.0) time.1
part_point_at (suc (suc (suc other))) bytes = Wrong

-- so many points of a dimension, and one fingerprint more
unfoldable pub points_at : ℕ → ℕ → List ℕ → Front ItemValue
points_at dimension count bytes = do
  points ← many_at (part_point_at dimension) count bytes
  prints ← many_at (bytes_at 32) (count + 1) points.1
  Whole (Parts points.0 prints.0) prints.1

-- the number of the points, which is from one to three, and these with the fingerprints
unfoldable pub counted_at : ℕ → List ℕ → Front ItemValue
counted_at dimension bytes = do
  count ← byte_up_to MAX_POINTS bytes
  guard (nat_lt 0 count.0) (points_at dimension count.0 count.1)

-- what stands behind the byte of a dimension
unfoldable pub behind_dimension : ℕ → List ℕ → Front ItemValue
behind_dimension zero bytes = counted_at 0 bytes
behind_dimension (suc zero) bytes = counted_at 1 bytes
behind_dimension (suc (suc zero)) bytes = counted_at 2 bytes
behind_dimension (suc (suc (suc other))) bytes = Wrong

-- a cut in parts, with their fingerprints
unfoldable pub cut_in_parts_at : List ℕ → Front ItemValue
cut_in_parts_at bytes = do
  dimension ← byte_at bytes
  behind_dimension dimension.0 dimension.1

-- what stands behind the byte of a kind, in a version
unfoldable pub behind_kind : ℕ → ℕ → List ℕ → Front ItemValue
behind_kind version zero bytes = Wrong
behind_kind version (suc zero) bytes = do
  print ← bytes_at 32 bytes
  Whole (First print.0) print.1
behind_kind version (suc (suc zero)) bytes = Whole Agree bytes
behind_kind version (suc (suc (suc zero))) bytes = guard (nat_eq version 1) (split_at bytes)
behind_kind version (suc (suc (suc (suc zero)))) bytes = do
  count ← byte_up_to MAX_ENTRIES bytes
  Whole (Entries count.0) count.1
behind_kind version (suc (suc (suc (suc (suc zero))))) bytes = do
  count ← number_up_to w32 MAX_REST bytes
  Whole (Rest count.0) count.1
behind_kind version (suc (suc (suc (suc (suc (suc zero)))))) bytes = Whole EndTurn bytes
behind_kind version (suc (suc (suc (suc (suc (suc (suc zero))))))) bytes = Whole Bye bytes
behind_kind version (suc (suc (suc (suc (suc (suc (suc (suc zero)))))))) bytes = guard (nat_eq version 2) (cut_in_parts_at bytes)
behind_kind version (suc (suc (suc (suc (suc (suc (suc (suc (suc other))))))))) bytes = Wrong

-- an item that is no row
unfoldable pub head_at : ℕ → List ℕ → Front ItemValue
head_at version bytes = do
  kind ← byte_at bytes
  behind_kind version kind.0 kind.1

-- the body of a frame, whatever it is
unfoldable pub body_at : List ℕ → Front (List ℕ)
body_at = text_at (number_up_to w32 MAX_FRAME)

-- the row that was read is the body of the frame; none was read where there is no frame, or its body is no row's
abbrev pub GivesRow : {R : Type 0} → (RowValue → Type 0) → (R → RowValue) → Result R Unread → List ℕ → Front (List ℕ) → Type 0
GivesRow IsRow value (Ok row) left front = IsRow (value row) × (front ≡ Whole (row_body (value row)) left)
GivesRow IsRow value (Err unread.Part) left front = front ≡ Part
GivesRow IsRow value (Err unread.Wrong) left front = (front ≡ Wrong) ⊎ ((body : List ℕ) × (rest : List ℕ) × (front ≡ Whole body rest) × ReadsBody IsRow body None)
GivesRow IsRow value (Err unread.NoMemory) left front = Unit {0}
