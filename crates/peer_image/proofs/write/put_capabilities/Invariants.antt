use Rattle.std.proofs.Common.{◌≡◌, ◌++◌, map, take}
use Rattle.std.specs.List.{flat_map}
use Rattle.peer_image.specs.Image.{bytes_frame}
use Rattle.peer_image.proofs.write.put_capabilities.Given as goal

abbrev pub invariant-loop-capability : goal.invariant-loop-capability
invariant-loop-capability l = l.out.items ≡ l.fn.out.items ++ flat_map bytes_frame (map (λ c. c.now) (take l.capability-index l.told))
