use Rattle.std.proofs.Common.{◌≡◌, ℕ, Option, Some, None, Result, Ok, Err, IfOk, IfErr, sym, ◌∙◌}
use Rattle.std.specs.Result.{result_err}
use Rattle.willow_entry.proofs.Covering.{covering_found, covering_none}
use Rattle.block_store.proofs.looking.place.cover.Goals as goal

-- what stands in the error is the position, and else there is none
error_is : {V : Type 0} (o : Result V ℕ) (p : Option ℕ) → IfOk o (λ at. p ≡ None) → IfErr o (λ by. p ≡ Some by) → result_err o ≡ p
error_is (Ok at) p free covered = sym free
error_is (Err by) p free covered = sym covered

pub returns-clause-first : goal.returns-clause-first
returns-clause-first g c = c.err.ensures.value ∙ error_is _ _ c.place_or_cover.ensures.free c.place_or_cover.ensures.covered

pub returns-clause-found : goal.returns-clause-found
returns-clause-found g c = covering_found _ _ c.err.result (returns-clause-first g c)

pub returns-clause-none : goal.returns-clause-none
returns-clause-none g c = covering_none _ _ c.err.result (returns-clause-first g c)
