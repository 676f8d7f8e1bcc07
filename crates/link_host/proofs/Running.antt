-- Workers that run, one by one.
use Rattle.std.proofs.Common.{◌≡◌, ℕ, ◌+◌, List, [], ◌∷◌, ◌++◌, map, vec_len, vec_capacity, ap, ◌∙◌, arith}
use Rattle.std.specs.declared.alloc.Global.{Global}
use Rattle.std.specs.declared.vec.Vec.{Vec}
use Rattle.std.proofs.lemmas.List.{map-append}
use Rattle.willow_outside.specs.Facts.{LinkFacts}
use Rattle.link_host.specs.Keeping.{AllKeep, Keeps, begun_of}
use Rattle.link_host.specs.declared.worker.Started.{Started}
use Rattle.link_host.proofs.Passing.{all_have}

module _ {L H J P : Type 0} (facts : L → LinkFacts) (does : H → J → LinkFacts → P → LinkFacts → Type 0) (host : H) where
  -- one more that keeps to its visit takes one of the places
  pub one_more_keeps : (before after : Vec (Started L H J P) Global) (links : Vec L Global) (partings : Vec P Global) (room left : ℕ) (s : Started L H J P)
      → AllKeep facts does host before links partings room → Keeps facts does host s
      → after.items ≡ before.items ++ s ∷ [] → vec_len after ≡ vec_len before + 1 → vec_capacity after ≡ vec_capacity before → left + 1 ≡ room
      → AllKeep facts does host after links partings left
  one_more_keeps before after links partings room left s all keeps pushed longer same one_less = record {
    keep = all_have (Keeps facts does host) before.items after.items s pushed all.keep keeps;
    room = omega (arith, all.room, longer, same, one_less);
    no_links = all.no_links;
    links_room = omega (arith, all.links_room, longer, one_less);
    no_partings = all.no_partings;
    partings_room = omega (arith, all.partings_room, longer, one_less);
  }

-- one more visit is begun
pub one_more_begun : {L H J P : Type 0} (facts : L → LinkFacts) (before after : List (Started L H J P)) (s : Started L H J P) (job : J) (link : L)
    → after ≡ before ++ s ∷ [] → s.job.value ≡ job → s.handed_out.value ≡ link
    → map (begun_of facts) after ≡ map (begun_of facts) before ++ record { job = job; handed_out = facts link } ∷ []
one_more_begun facts before after s job link pushed of_job of_link =
    ap (map (begun_of facts)) pushed
    ∙ (map-append (begun_of facts) before (s ∷ [])
    ∙ (ap (λ j. map (begun_of facts) before ++ record { job = j; handed_out = facts s.handed_out.value } ∷ []) of_job ∙ ap (λ l. map (begun_of facts) before ++ record { job = job; handed_out = facts l } ∷ []) of_link))
