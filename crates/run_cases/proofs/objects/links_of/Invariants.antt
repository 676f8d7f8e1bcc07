use Rattle.std.specs.Prelude.{◌≡◌, []}
use Rattle.std.specs.List.{AllByRecursion}
use Rattle.run_cases.proofs.objects.links_of.Given as goal

-- The links so far are as new.
abbrev pub invariant-loop-bytes : goal.invariant-loop-bytes
invariant-loop-bytes l =
    AllByRecursion (λ link. (link.read_faults ≡ 0) × (link.write_faults ≡ 0) × (link.ends ≡ 0) × (link.taken ≡ []) × (link.held ≡ [])) l.links.items
