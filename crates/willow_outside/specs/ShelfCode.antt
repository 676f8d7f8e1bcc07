-- By what a proof tells the values of a shelf in memory apart.
use Rattle.std.specs.Prelude.{ℕ, List, refl}
use Rattle.std.specs.declared.string.String.{String}
use Rattle.std.specs.declared.vec.Vec.{Vec}
use Rattle.std.specs.declared.alloc.Global.{Global}
use Rattle.std.specs.BTreeMap.{BTreeMap}
use Rattle.std.specs.Coded.{Coded, code_by, coded×, coded_ℕ, coded_list}
use Rattle.willow_outside.specs.declared.cabinet.Cabinet.{Cabinet}
use Rattle.willow_outside.specs.contracts.cabinet.Cabinet as cabinet
use Rattle.willow_outside.specs.Plan.{Plan}
use Rattle.willow_outside.specs.InMemory.{MemoryShelf}

-- a map is told apart as the struct that holds nothing else
abbrev pub contents_code : Coded (BTreeMap (String Global) (Vec ℕ Global))
contents_code = code_by Cabinet cabinet.the_row.coded (λ m. record { contents = m }) (λ c. c.contents) (λ _. refl)

abbrev pub plan_code : Coded Plan
plan_code = code_by (List ℕ × ℕ) (coded× (coded_list coded_ℕ) coded_ℕ) (λ p. (p.fails, p.calls)) (λ t. record { fails = t.0; calls = t.1 }) (λ _. refl)

abbrev pub shelf_code : Coded MemoryShelf
shelf_code =
    code_by (BTreeMap (String Global) (Vec ℕ Global) × (Plan × (ℕ × ℕ))) (coded× contents_code (coded× plan_code (coded× coded_ℕ coded_ℕ))) (λ s. (s.contents, (s.plan, (s.read_faults, s.write_faults)))) (λ t. record { contents = t.0; plan = t.1.0; read_faults = t.1.1.0; write_faults = t.1.1.1 }) (λ _. refl)
