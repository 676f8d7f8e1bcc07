-- The bay round a log file that is opened.
use Rattle.std.proofs.Common.{◌≡◌, ◌≤◌, ℕ, List, Option, Some, None, inl, inr, refl, ap, arith}
use Rattle.std.specs.Prelude.{IfSome, Result, Err}
use Rattle.std.specs.declared.string.String.{String}
use Rattle.std.specs.declared.alloc.Global.{Global}
use Rattle.std.specs.Global.{Vec}
use Rattle.willow_outside.specs.Facts.{BayFacts, DiskFacts}
use Rattle.cap_codec.specs.Rows.{RawValue}
use Rattle.peer_stage.specs.World.{World}
use Rattle.peer_stage.specs.declared.outcome.Done.{Done}
use Rattle.peer_stage.specs.Steps.{Step, Then}
use Rattle.peer_stage.specs.declared.outcome.Stop.{Stop}
use Rattle.peer_stage.specs.declared.outcome.Stop.TheVariants as stop
use Rattle.peer_run.specs.Hosting.{DoesHost, HostsFile}
use Rattle.peer_run.specs.LogClosing.{GivesBack, end_told}
use Rattle.peer_run.specs.LogFiles.{FileState, IsLowIf, file_states}
use Rattle.peer_run.specs.LogOpening.{IsFileOpened, OpensFile}
use Rattle.peer_run.specs.declared.log_file.LogFile.{LogFile}
use Rattle.peer_run.specs.declared.sessions.HostWords.{HostWords}

-- its disk is out
opened_out : (log : Option (String Global)) (f : FileState) (b b' : BayFacts) → IsFileOpened log b b' f → 1 ≤ b'.out
opened_out log f b b' is = omega (arith, ap (λ (x : BayFacts). x.out) is.4.bay_is)

pub hosts_out : (words : HostWords) (f' : Option FileState) (old new : World) (end : Result Done Stop) → HostsFile words f' old new end → IfSome f' (λ f. 1 ≤ new.bay.out)
hosts_out words None old new end hosts = tt
hosts_out words (Some f') old new end hosts = opened_out words.log hosts.0 old.bay new.bay hosts.2

-- it is not too long
pub opened_low : (log : Option (String Global)) (f : Option FileState) (b b' : BayFacts) → IfSome f (IsFileOpened log b b') → IsLowIf f
opened_low log None b b' is = tt
opened_low log (Some f) b b' is = is.4.low

-- where none is named none is opened
pub none_opened : {K : Type 0} (facts : K → DiskFacts) (log : Option (String Global)) (file : Option (LogFile K)) (b b' : BayFacts) → log ≡ None → IfSome (file_states facts file) (IsFileOpened log b b') → file ≡ None
none_opened facts log None b b' none is = refl
none_opened facts log (Some file) b b' none is = absurd (no_name log none is.0 is.1) where
  no_name : (log : Option (String Global)) → log ≡ None → (name : String Global) → log ≡ Some name → ⊥
  no_name None none name some = absurd cc
  no_name (Some other) none name some = absurd cc

-- behind all else its disk is given back
pub closed_host : (words : HostWords) (f' : Option FileState) (old between new : World) (reached end : Result Done Stop) → HostsFile words f' old between reached → end ≡ end_told f' reached → GivesBack f' between.bay new.bay → new ≡ record between { bay = new.bay } → DoesHost words old new end
closed_host words None old between new reached end hosts told back others = inl (rw (others, back, told) hosts)
closed_host words (Some f') old between new reached end hosts told back others =
    inr (record {
      opened = hosts.0;
      left = f';
      between = between;
      reached = reached;
      hosts = hosts.1;
      keeps = hosts.3;
      is_opened = hosts.2;
      back = back;
      others = others;
      told = told;
    })

-- none is opened yet
pub unopened : {K : Type 0} (facts : K → DiskFacts) (file : Option (LogFile K)) (P : FileState → Type 0) → file ≡ None → IfSome (file_states facts file) P
unopened facts None P none = tt
unopened facts (Some file) P none = absurd cc

-- no memory was found before one is
pub no_memory_yet : {A : Type 0} (log : Option (String Global)) (n : List ℕ) (w : World) (next : Vec RawValue → Step A) → Then (OpensFile log None n) next w w (Err stop.NoMemory)
no_memory_yet None n w next = inl (tt, refl)
no_memory_yet (Some name) n w next = inl (record { does = inl refl; faults = refl; others = refl })
