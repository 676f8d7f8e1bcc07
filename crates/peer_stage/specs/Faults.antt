-- How a count of faults moves in a step, by how that ends. So no fault is passed over, and want of memory hides none.
use Rattle.std.specs.Prelude.{◌≡◌, ℕ, ◌≤◌, Result, Ok, Err}
use Rattle.peer_stage.specs.declared.outcome.Stop.{Stop}
use Rattle.peer_stage.specs.declared.outcome.Stop.TheVariants as stop

-- where a fault stopped the step it never falls, and at any other stop, want of memory too, it is as before
abbrev pub CountsStop : ℕ → ℕ → Stop → Type 0
CountsStop before now stop.ReadFault = before ≤ now
CountsStop before now stop.WriteFault = before ≤ now
CountsStop before now e = now ≡ before

-- and it is as before where the step gave its value
abbrev pub CountsStep : {A : Type 0} → ℕ → ℕ → Result A Stop → Type 0
CountsStep before now (Ok value) = now ≡ before
CountsStep before now (Err e) = CountsStop before now e
