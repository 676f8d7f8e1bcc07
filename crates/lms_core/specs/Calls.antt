-- Calls of `reserve_keys` and `reserve_keys_on` for one name of one shelf that tells what it holds, one after the other.
use Rattle.std.specs.Prelude.{◌≡◌, ℕ, List, [], ◌∷◌, map, flat_map, Result, Ok, Err, Some}
use Rattle.std.specs.declared.option.Option.{Option}
use Rattle.std.specs.declared.vec.Vec.{Vec}
use Rattle.std.specs.declared.alloc.Global.{Global}
use Rattle.std.specs.Option.{option_map}
use Rattle.spelling.specs.declared.ending.End.{End}
use Rattle.willow_outside.specs.Facts.{ShelfFacts}
use Rattle.lms_core.specs.declared.reserve.KeyRefusal.{KeyRefusal}
use Rattle.lms_core.specs.Use.{Use}
use Rattle.lms_core.specs.Reserve.{Reserves}

-- a call: how many indices were asked for, the shelf before and after it, and its answer
pub record Call : Type 0 where
  pub count : ℕ
  pub before : ShelfFacts
  pub after : ShelfFacts
  pub answer : Result (Vec Use Global) (End KeyRefusal)

-- the indices of the signers that an answer hands out
abbrev pub indices_of : Result (Vec Use Global) (End KeyRefusal) → List ℕ
indices_of (Ok signers) = map (λ s. s.index) signers.items
indices_of (Err e) = []

-- all indices that calls hand out, in the calls' order
abbrev pub handed_out : List Call → List ℕ
handed_out calls = flat_map (λ c. indices_of c.answer) calls

-- what the name of a shelf that tells it holds
abbrev pub told_under : List ℕ → ShelfFacts → Option (Option (List ℕ))
told_under name shelf = option_map (λ names. names name) shelf.names

-- a call does what both say, where the name held these bytes before it and those after it
pub record IsCall (name : List ℕ) (before after : Option (List ℕ)) (c : Call) : Type 0 where
  pub told_before : told_under name c.before ≡ Some before
  pub reserves : Reserves name c.count c.before c.after c.answer
  pub told_after : told_under name c.after ≡ Some after

-- Each call finds under the name what the call before it left there, and the first one what was held.
abbrev pub AreCalls : List ℕ → Option (List ℕ) → List Call → Type 0
AreCalls name held [] = Unit {0}
AreCalls name held (c ∷ more) = (after : Option (List ℕ)) × IsCall name held after c × AreCalls name after more
