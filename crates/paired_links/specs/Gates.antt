-- A link in memory behind a gate.
use Rattle.std.specs.Prelude.{◌≡◌, ℕ, ◌+◌, min, List, length, Result, Err, Some}
use Rattle.willow_outside.specs.Counts.{one_more}
use Rattle.willow_outside.specs.Facts.{LinkFacts}
use Rattle.willow_outside.specs.InMemory.{MemoryLink}
use Rattle.willow_outside.specs.Plan.{called, planned}
use Rattle.willow_outside.specs.declared.fault.Fault.{Fault}
use Rattle.willow_outside.specs.declared.fault.Fault.TheVariants.{Failed}

-- the link, how many of its reads met a shut gate, how many bytes held open the gate, if a number above 0, and how often
-- a read looks at the gate
pub record GatedLink : Type 0 where
  pub link : MemoryLink
  pub shut : ℕ
  pub opens_at : ℕ
  pub turns : ℕ

-- what a gated link tells: what its link tells, and of its failed reads also those that met a shut gate
abbrev pub gated_facts : GatedLink → LinkFacts
gated_facts s = record { left = Some s.link.left; taken = Some s.link.taken; held = Some s.link.held; read_faults = s.link.read_faults + s.shut; write_faults = s.link.write_faults; ends = s.link.ends }

-- a read met a shut gate: it failed and was counted, and the link is as it was
pub record MetShut {A : Type 0} (old new : GatedLink) (result : Result A Fault) : Type 0 where
  pub waits : old.opens_at ≡ 0
  pub failed : result ≡ Err Failed
  pub counted : new ≡ record { link = old.link; shut = one_more old.shut; opens_at = old.opens_at; turns = old.turns }

-- a read went on: it answered what the link answers
pub record WentOn (old new : GatedLink) (result : Result ℕ Fault) (buf : List ℕ) : Type 0 where
  pub answer : result ≡ planned old.link.plan (min (min (length buf) old.link.most) (length old.link.left))
  pub plan : new.link.plan ≡ called old.link.plan
  pub shut : new.shut ≡ old.shut
