-- By what a proof tells the values of a bay in memory apart.
use Rattle.std.specs.Prelude.{ℕ, List, refl}
use Rattle.std.specs.declared.string.String.{String}
use Rattle.std.specs.declared.vec.Vec.{Vec}
use Rattle.std.specs.declared.alloc.Global.{Global}
use Rattle.std.specs.BTreeMap.{BTreeMap}
use Rattle.std.specs.Coded.{Coded, code_by, coded×, coded_ℕ, coded_list}
use Rattle.willow_outside.specs.contracts.mem_disk.MemDisk as mem_disk
use Rattle.willow_outside.specs.DiskRecord.{MemoryDisk}
use Rattle.willow_outside.specs.InMemory.{MemoryBay}
use Rattle.willow_outside.specs.Plan.{Plan}
use Rattle.willow_outside.specs.ShelfCode.{contents_code, plan_code}

abbrev pub bay_code : Coded MemoryBay
bay_code =
    code_by (BTreeMap (String Global) (Vec ℕ Global) × (List ℕ × (List MemoryDisk × (ℕ × (List (List ℕ) × (Plan × ℕ)))))) (coded× contents_code (coded× (coded_list coded_ℕ) (coded× (coded_list mem_disk.the_row.coded) (coded× coded_ℕ (coded× (coded_list (coded_list coded_ℕ)) (coded× plan_code coded_ℕ)))))) (λ b. (b.contents, (b.disk_fails, (b.back, (b.out, (b.asked, (b.plan, b.faults))))))) (λ t. record { contents = t.0; disk_fails = t.1.0; back = t.1.1.0; out = t.1.1.1.0; asked = t.1.1.1.1.0; plan = t.1.1.1.1.1.0; faults = t.1.1.1.1.1.1 }) (λ _. refl)
