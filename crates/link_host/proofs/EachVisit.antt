-- What is known of the visit of a number.
use Rattle.std.proofs.Common.{◌≡◌, ℕ, ◌<◌, List, [], ◌∷◌, length, map, get_or, ap, ◌∙◌, arith}
use Rattle.std.proofs.Math.ListN.{get_or-append}
use Rattle.std.proofs.lemmas.List.{get_or-map, length-map}
use Rattle.willow_outside.specs.Facts.{LinkFacts, DoorFacts}
use Rattle.link_host.specs.Visits.{Visit, IsVisit}
use Rattle.link_host.specs.Hosted.{IsHosted}
use Rattle.link_host.specs.declared.hosting.Hosted.{Hosted}

-- an item of a list that has one
some_of : {X : Type 0} (xs : List X) (k : ℕ) → k < length xs → X
some_of [] k within = absurd (omega arith)
some_of (x ∷ xs) k within = x

module _ {J P : Type 0} (does : J → LinkFacts → P → LinkFacts → Type 0) (jobs : List J) (old new : DoorFacts) (x : Hosted J P) where
  -- there are as many visits as partings
  pub count_of_visits : (h : IsHosted does jobs old new x) → length h.visits ≡ length x.partings.items
  count_of_visits h = omega (arith, ap length h.partings_are, length-map h.visits (λ v. v.parting))

  -- each parting is that of a visit, and so is the job of its number
  pub visit_of : IsHosted does jobs old new x → (k : ℕ) → k < length x.partings.items
      → (v : Visit J P) × IsVisit does v × ((p : P) → get_or x.partings.items k p ≡ v.parting) × ((j : J) → get_or jobs k j ≡ v.job)
  visit_of h k within =
      let inside : k < length h.visits = omega (arith, count_of_visits h) in
      let some = some_of h.visits k inside in (
        get_or h.visits k some,
        h.each k some inside,
        λ p. ap (λ ps. get_or ps k p) h.partings_are ∙ get_or-map (λ v. v.parting) h.visits k some p inside,
        λ j. ap (λ js. get_or js k j) h.jobs_are ∙ (get_or-append (map (λ v. v.job) h.visits) x.unused.items j k (omega (arith, length-map h.visits (λ v. v.job))) ∙ get_or-map (λ v. v.job) h.visits k some j inside),
      )
