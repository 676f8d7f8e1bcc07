-- The frames of the generated rows that are not yet made.
use Rattle.std.proofs.Common.{◌≡◌, ℕ, suc, ◌+◌, ◌-◌, ◌<◌, ◌≤◌, [], ◌++◌, length, ap, arith, length-append}
use Rattle.std.specs.List.{flat_map, range_with_len}
use Rattle.cap_codec.specs.Rows.{frame}
use Rattle.peer_listing.specs.Generator.{generated}
use Rattle.peer_listing.specs.Ranges.{frames_between}
use Rattle.peer_rows.specs.Generate.{generated_frames}

-- at first those of all
pub all_left : (rows : ℕ) → generated_frames rows ≡ frames_between 0 rows
all_left rows = ap (λ n. flat_map (λ k. frame (generated k)) (range_with_len 0 n)) (omega arith)

-- in the end none
pub none_left : (i rows : ℕ) → rows ≤ i → frames_between i rows ≡ []
none_left i rows all =
    let count : rows - i ≡ 0 = omega arith in
    ap (λ n. flat_map (λ k. frame (generated k)) (range_with_len i n)) count

-- a frame has its length in front
pub some_left : (i rows : ℕ) → i < rows → 0 < length (frames_between i rows)
some_left i rows more =
    let count : rows - i ≡ suc (rows - (i + 1)) = omega arith in
    let parts : frames_between i rows ≡ frame (generated i) ++ frames_between (i + 1) rows = ap (λ n. flat_map (λ k. frame (generated k)) (range_with_len i n)) count in
    omega (arith, ap length parts, length-append (frame (generated i)) (frames_between (i + 1) rows))
