-- What `generate` does: the frames of generated rows.
use Rattle.std.specs.Prelude.{◌≡◌, ℕ, ◌+◌, ◌*◌, ◌<◌, List, length, Result, IfOk, IfSome, slice_get}
use Rattle.std.specs.Global.{Vec}
use Rattle.std.specs.List.{flat_map, range_with_len}
use Rattle.spelling.specs.declared.ending.NoMemory.{NoMemory}
use Rattle.cap_codec.specs.Rows.{frame}
use Rattle.peer_listing.specs.Generator.{generated}
use Rattle.peer_listing.specs.Ranges.{frames_between}
use Rattle.peer_stage.specs.Steps.{Step, OnOutput}
use Rattle.peer_stage.specs.Stages.{Writes}
use Rattle.peer_stage.specs.declared.outcome.Done.{Done}
use Rattle.peer_stage.specs.declared.outcome.Done.TheVariants as done
use Rattle.peer_rows.specs.declared.shares.TheConstants.{SHARE}

-- the frames of the generated rows 0 to n - 1, in order
abbrev pub generated_frames : ℕ → List ℕ
generated_frames n = flat_map (λ i. frame (generated i)) (range_with_len 0 n)

-- It writes the frames of the generated rows.
abbrev pub Generates : ℕ → Step Done
Generates rows = OnOutput (Writes (generated_frames rows) done.Made)

-- Share k of the rows from one on is the frames of SHARE of them, unless there was no memory for it.
abbrev pub AreFrameShares : ℕ → List (Result (Vec ℕ) NoMemory) → Type 0
AreFrameShares from shares = (k : ℕ) → k < length shares → IfSome (slice_get shares k) (λ share. IfOk share (λ bytes. bytes.items ≡ frames_between (from + k * SHARE) (from + (k * SHARE + SHARE))))
