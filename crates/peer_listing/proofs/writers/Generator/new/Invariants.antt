use Rattle.std.proofs.Common.{◌≡◌, map}
use Rattle.std.specs.List.{range_with_len}
use Rattle.peer_listing.specs.Generator.{generator_capability, generator_writer, writer_capability}
use Rattle.peer_listing.proofs.writers.Generator.new.Given as goal

abbrev pub invariant-writers : goal.invariant-writers
invariant-writers l = record {
  signed : l.capabilities.items ≡ map (λ s. generator_capability (generator_writer s)) (range_with_len 0 l.s);
  spelled : map (λ bytes. bytes.items) l.spellings.items ≡ map writer_capability (range_with_len 0 l.s);
}
