-- What workers hand on.
use Rattle.std.specs.Prelude.{◌≡◌}
use mathlib.Core.List.{IsPrefix}
use Rattle.ns_cell.specs.Passes.{PassValue, IsLater}
use Rattle.benches.specs.declared.work.Done.{Done}
use Rattle.benches.specs.declared.work.Started.{Started}
use Rattle.benches.specs.declared.work.Worker.{Worker}
use Rattle.benches.specs.declared.work.Worker.TheVariants.{Runs, Ran}

module _ {R : Type 0} where
  -- the pass after a job: it has seen what it had seen and maybe more, and so it is with its own list
  pub record IsServed (before after : PassValue R) : Type 0 where
    pub later : IsLater before after
    pub own : IsPrefix before.own after.own

  -- a job of this pass is done
  pub record IsDone (pass : PassValue R) (done : Done R) : Type 0 where
    pub was : done.was.value ≡ pass
    pub served : IsServed pass done.pass

  -- a worker that runs promised to serve the pass, and one that ran served it
  abbrev pub KeepsTo : PassValue R → Worker R → Type 0
  KeepsTo pass (Runs handle) = handle.promise.pass.value ≡ pass
  KeepsTo pass (Ran after) = IsServed pass after

  abbrev pub Keeps : Started R → Type 0
  Keeps started = KeepsTo started.was.value started.worker
