use Rattle.std.proofs.Common.{List, All, IfSome}
use Rattle.std.specs.Global.{Vec}
use Rattle.scheme_core.specs.Rules.{Rules}
use Rattle.auth_entry.specs.Batch.{IsTold}
use Rattle.auth_entry.specs.declared.signatures.Pending.{Pending}
use Rattle.auth_entry.specs.declared.turns.Told.{Told}
use Rattle.auth_entry.proofs.turns.placed.Given as goal

-- what is placed was told
abbrev pub invariant-lists : goal.invariant-lists
invariant-lists l = (rules : Rules) (pendings : List Pending) → All (λ (list : Vec Told). All (IsTold rules pendings) list.items) l.lists → All (λ told. IfSome told (IsTold rules pendings)) l.placed.items

abbrev pub invariant-told : goal.invariant-told
invariant-told l = (rules : Rules) (pendings : List Pending) → All (λ (list : Vec Told). All (IsTold rules pendings) list.items) l.lists → All (λ told. IfSome told (IsTold rules pendings)) l.placed.items
