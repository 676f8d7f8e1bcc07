-- What workers keep to.
use Rattle.std.specs.Prelude.{◌≡◌, ℕ, ◌+◌, ◌≤◌, [], All, vec_len, vec_capacity}
use Rattle.std.specs.declared.alloc.Global.{Global}
use Rattle.std.specs.declared.vec.Vec.{Vec}
use Rattle.willow_outside.specs.Facts.{LinkFacts}
use Rattle.willow_outside.specs.Links.{IsFresh}
use Rattle.link_host.specs.Begun.{Begun}
use Rattle.link_host.specs.declared.worker.Started.{Started}
use Rattle.link_host.specs.declared.worker.Worker.{Worker}
use Rattle.link_host.specs.declared.worker.Worker.TheVariants.{Runs, Ran}

-- the visit that a worker makes, as it was begun
abbrev pub begun_of : {L H J P : Type 0} → (L → LinkFacts) → Started L H J P → Begun J
begun_of facts started = record { job = started.job.value; handed_out = facts started.handed_out.value }

-- the facts of a link, what a host does, and the host
module _ {L H J P : Type 0} (facts : L → LinkFacts) (does : H → J → LinkFacts → P → LinkFacts → Type 0) (host : H) where
  -- a worker that runs promised what the host does with this job and link, and one that ran did it
  abbrev pub KeepsTo : J → L → Worker L H J P → Type 0
  KeepsTo job link (Runs handle) = (handle.promise.host.value ≡ host) × (handle.promise.job.value ≡ job) × (handle.promise.link.value ≡ link)
  KeepsTo job link (Ran visited) = does host job (facts link) visited.parting (facts visited.link)

  -- the link was as new, and the worker keeps to it
  pub record Keeps (started : Started L H J P) : Type 0 where
    pub fresh : IsFresh (facts started.handed_out.value)
    pub keeps : KeepsTo started.job.value started.handed_out.value started.worker

  -- each worker keeps to its visit, and there is room for so many more, for the links of all, and for what all of them hand on
  pub record AllKeep (started : Vec (Started L H J P) Global) (links : Vec L Global) (partings : Vec P Global) (more : ℕ) : Type 0 where
    pub keep : All Keeps started.items
    pub room : vec_len started + more ≤ vec_capacity started
    pub no_links : links.items ≡ []
    pub links_room : vec_len started + more ≤ vec_capacity links
    pub no_partings : partings.items ≡ []
    pub partings_room : vec_len started + more ≤ vec_capacity partings
