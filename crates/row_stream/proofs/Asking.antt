-- Where the feeding of a piece asked for memory, from what was read.
use Rattle.std.proofs.Common.{◌≡◌, ℕ, List, [], ◌∷◌, ◌++◌, Some, sym, ap, subst, ◌∙◌, append_assoc, arith}
use Rattle.std.specs.List.{AllByRecursion}
use Rattle.std.proofs.lemmas.List.Concat.{flat_map-cons}
use Rattle.willow_entry.specs.EntryForm.{EntryAsks, IsEntry}
use Rattle.willow_entry.specs.Row.{RowValue}
use Rattle.willow_entry.specs.RowBody.{row_body, ReadsBody}
use Rattle.willow_entry.specs.Frame.{row_frame}
use Rattle.willow_entry.proofs.EntryReads.{entry-reads, whole_asks}
use Rattle.row_stream.specs.Places.{IsUnfinished}
use Rattle.row_stream.specs.Memory.{PieceAsks}
use Rattle.row_stream.specs.Streams.{frames_of, IsStreamRow}
use Rattle.row_stream.specs.Steps.{IsSplit}
use Rattle.row_stream.proofs.Frames.{told_back, body_back}

-- a frame that is not whole is told neither too long nor too short
pub unfinished_asks : (left : List ℕ) → IsUnfinished left → PieceAsks left
unfinished_asks left late = record {
  not_too_long = λ long. omega (arith, (late long.field_there).0, long.beyond);
  too_short = λ short. absurd (omega (arith, (late short.field_there).1, short.whole));
}

-- where the body of the frame in front asks, the bytes do
pub split_asks : (bytes body behind : List ℕ) → IsSplit bytes body behind → EntryAsks body → PieceAsks bytes
split_asks bytes body behind s asks = record {
  not_too_long = λ long. omega (arith, s.within, long.beyond);
  too_short = λ short. subst EntryAsks s.body_is asks;
}

module _ (IsRow : RowValue → Type 0) (fit : (r : RowValue) → IsRow r → IsEntry r.entry) where
  -- a body that is a row's asked
  row_asks : (r : RowValue) → IsRow r → EntryAsks (row_body r)
  unfolding row_body
  row_asks r fits = whole_asks (row_body r) r.entry r.token (entry-reads.again r.entry r.token (fit r fits))

  -- where a row was read, its body asked
  pub read_asks : (body : List ℕ) (r : RowValue) → ReadsBody IsRow body (Some r) → EntryAsks body
  read_asks body r read = subst EntryAsks (sym read.1) (row_asks r read.0)

  -- a row's frame in front asked
  framed_asks : (r : RowValue) (rest : List ℕ) → IsStreamRow IsRow r → PieceAsks (row_frame r ++ rest)
  framed_asks r rest f = record {
    not_too_long = λ long. omega (arith, told_back r f.framed rest, f.framed, long.beyond);
    too_short = λ short. subst EntryAsks (sym (body_back r f.framed rest)) (row_asks r f.fits);
  }

  -- where what is left behind rows asks, the bytes did
  pub first_asks : (bytes : List ℕ) (rows : List RowValue) (left : List ℕ) → AllByRecursion (IsStreamRow IsRow) rows → bytes ≡ frames_of rows ++ left → PieceAsks left → PieceAsks bytes
  first_asks bytes [] left f parts asks = subst PieceAsks (sym parts) asks
  first_asks bytes (r ∷ rows) left f parts asks =
      let front : bytes ≡ row_frame r ++ (frames_of rows ++ left) =
      parts ∙ ap (λ (l : List ℕ). l ++ left) (flat_map-cons row_frame r rows) ∙ append_assoc (row_frame r) (frames_of rows) left in
      subst PieceAsks (sym front) (framed_asks r (frames_of rows ++ left) f.0)
