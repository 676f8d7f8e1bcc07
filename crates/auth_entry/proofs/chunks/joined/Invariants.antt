use Rattle.std.proofs.Common.{◌≡◌, flat_map, take}
use Rattle.std.specs.Global.{Vec}
use Rattle.std.specs.declared.option.Option.{Option}
use Rattle.mc_cap.specs.declared.refusal.RowRefusal.{RowRefusal}
use Rattle.auth_entry.proofs.chunks.joined.Given as goal

abbrev pub invariant-lists : goal.invariant-lists
invariant-lists l = l.causes.items ≡ flat_map (λ (list : Vec (Option RowRefusal)). list.items) (take l.list-index l.lists)
