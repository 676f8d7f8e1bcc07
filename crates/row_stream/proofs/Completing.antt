-- The frame that has begun, completed by the front of a piece.
use Rattle.std.proofs.Common.{◌≡◌, ℕ, ◌+◌, ◌<◌, ◌≤◌, List, length, take, Some, sym, ap, ◌∙◌, arith, ◌⊎◌, inl, inr}
use Rattle.std.specs.Int.{w32, from_be_bytes}
use Rattle.std.proofs.lemmas.Bool.{cases_lt}
use Rattle.std.proofs.lemmas.List.{length-take, take-take}
use Rattle.row_stream.specs.Places.{length_told, IsUnfinished}
use Rattle.row_stream.specs.Steps.{TellsSize, IsFilled, IsCompleted}

-- bytes that still stand in front are no more than all
pub front_short : (front bytes : List ℕ) → take (length front) bytes ≡ front → length front ≤ length bytes
front_short front bytes kept = omega (arith, ap length kept, length-take (length front) bytes)

-- four bytes that still stand in front tell the same length
pub told_same : (front bytes : List ℕ) → take (length front) bytes ≡ front → 4 ≤ length front → length_told bytes ≡ length_told front
unfolding length_told
told_same front bytes kept there = ap (from_be_bytes w32) (sym (take-take 4 (length front) bytes there) ∙ ap (take 4) kept)

-- what had begun is no longer than the frame that is told
begun_short : (begun piece mid between : List ℕ) → IsUnfinished begun → IsFilled begun 4 piece mid between → take (length begun) mid ≡ begun → length mid ≤ 4 + length_told mid
begun_short begun piece mid between unfinished one kept =
    let by : (length begun < 4) ⊎ (4 ≤ length begun) = cases_lt (length begun) 4 in
    elim by [
      | inl short ↦ omega (arith, one.few 4 (omega (arith, short)) (omega arith))
      | inr there ↦ omega (arith, one.few (4 + length_told begun) (omega (arith, (unfinished there).1)) (omega arith), told_same begun mid kept there)
    ]

pub completed : (begun piece mid between filled rest : List ℕ) (size : ℕ) → IsUnfinished begun
    → IsFilled begun 4 piece mid between → take (length begun) mid ≡ begun → TellsSize mid (Some size) → IsFilled mid size between filled rest → take (length mid) filled ≡ mid
    → IsCompleted begun piece filled rest
completed begun piece mid between filled rest size unfinished one kept tells two again =
    let same : length_told filled ≡ length_told mid = told_same mid filled again tells.0 in
    let short = front_short mid filled again in
    record {
      parts = two.parts ∙ one.parts;
      settled = λ some late. omega (arith, two.enough some, tells.0, tells.2, same, (late (omega (arith, tells.0, short))).1);
      alone = λ there within. omega (arith, same, tells.2, two.few size (omega (arith, tells.2, begun_short begun piece mid between unfinished one kept)) (omega arith));
    }
