-- Two pieces that are written one behind the other are written as one.
use Rattle.std.proofs.Common.{◌≡◌, ℕ, ◌+◌, List, ◌++◌, length, take, Ok, Err, Result, sym, subst, arith, length-append}
use Rattle.std.proofs.Math.Seq.{take-append-add}
use Rattle.std.specs.Io.KnownBytes.{Appends}
use Rattle.std.proofs.KnownBytes.{Appends-trans}
use Rattle.willow_outside.specs.Facts.{SinkFacts}
use Rattle.peer_stage.specs.Stages.{IsWritten, IsPartlyWritten, WritesOutput}
use Rattle.peer_stage.specs.declared.outcome.Stop.{Stop}
use Rattle.peer_stage.specs.declared.outcome.Stop.TheVariants as stop

-- the first piece with a front of the second is a front of both
partly_behind : (old mid new : SinkFacts) (first behind : List ℕ) → IsWritten old mid first → IsPartlyWritten mid new behind → IsPartlyWritten old new (first ++ behind)
partly_behind old mid new first behind w h = record {
  count = length first + h.count;
  within = omega (arith, h.within, length-append first behind);
  written = subst (λ (bytes : List ℕ). Appends old.held new.held bytes) (sym (take-append-add first behind h.count)) (Appends-trans old.held mid.held new.held first (take h.count behind) w h.written);
}

-- where the first piece was written, the second decides
pub both_end : (old mid new : SinkFacts) (first behind : List ℕ) (result : Result (Unit {0}) Stop) → IsWritten old mid first → mid.faults ≡ old.faults → WritesOutput mid new behind result → WritesOutput old new (first ++ behind) result
both_end old mid new first behind (Ok u) w same h = Appends-trans old.held mid.held new.held first behind w h
both_end old mid new first behind (Err stop.WriteFault) w same h = (partly_behind old mid new first behind w h.0, omega (arith, same, h.1))
both_end old mid new first behind (Err stop.NoMemory) w same h = partly_behind old mid new first behind w h
both_end old mid new first behind (Err stop.Usage) w same h = absurd h
both_end old mid new first behind (Err stop.ReadFault) w same h = absurd h
both_end old mid new first behind (Err (stop.BadInput from at)) w same h = absurd h
both_end old mid new first behind (Err (stop.NotRising from row)) w same h = absurd h
both_end old mid new first behind (Err (stop.Pruned from row by)) w same h = absurd h
both_end old mid new first behind (Err (stop.Missing name)) w same h = absurd h
both_end old mid new first behind (Err (stop.Taken name)) w same h = absurd h
both_end old mid new first behind (Err (stop.Refused refusal)) w same h = absurd h
both_end old mid new first behind (Err (stop.SessionRefused refusal)) w same h = absurd h
both_end old mid new first behind (Err stop.LogFull) w same h = absurd h
both_end old mid new first behind (Err stop.KeySpent) w same h = absurd h
