-- Accepts that are made one after the other, and what comes of them.
use Rattle.std.proofs.Common.{◌≡◌, ℕ, ◌+◌, zero, suc, List, [], ◌∷◌, ◌++◌, length, map, Some, None, refl, sym, ap, ◌∙◌, subst, arith}
use Rattle.std.proofs.lemmas.List.{length-append, length-map}
use Rattle.std.proofs.lemmas.Simd.{map-map}
use Rattle.willow_outside.specs.Counts.{one_more, many_more, CountsCause}
use Rattle.willow_outside.specs.Facts.{LinkFacts, DoorFacts}
use Rattle.willow_outside.specs.declared.fault.Fault.{Fault}
use Rattle.link_host.specs.Begun.{Begun, HaveLinks, IsAccepted, AreVisited, beginning}
use Rattle.link_host.specs.Hosted.{CountsStop, IsHosted, accepts_made, counted_on, list_with_all}
use Rattle.link_host.specs.declared.hosting.Hosted.{Hosted}
use Rattle.link_host.proofs.Passing.{became_one_more}

-- one accept more is counted on as one more
pub counted_one_more : (made count : ℕ) → one_more (counted_on made count) ≡ counted_on (made + 1) count
counted_one_more zero count = refl
counted_one_more (suc made) count =
    let risen : one_more (many_more (suc made) count) ≡ many_more (suc (suc made)) count = omega arith in
    let next : suc (suc made) ≡ suc made + 1 = omega arith in
    risen ∙ ap (λ n. counted_on n count) next

module _ {J : Type 0} (jobs : List J) (old : DoorFacts) where
  -- no link came yet
  pub none_came : (begun : List (Begun J)) → begun ≡ [] → HaveLinks jobs old old begun jobs
  none_came begun none = rw none (record { jobs_are = refl; out = omega arith; accepts = refl; asked = refl; back = refl; faults = refl })

  -- one more came for the next job
  pub one_more_came : (mid new : DoorFacts) (begun more : List (Begun J)) (rest left : List J) (job : J) (link : LinkFacts)
      → HaveLinks jobs old mid begun rest → rest ≡ job ∷ left → more ≡ begun ++ record { job = job; handed_out = link } ∷ []
      → new.accepts ≡ one_more mid.accepts → new.out ≡ mid.out + 1 → new.asked ≡ mid.asked → new.back ≡ mid.back → new.faults ≡ mid.faults
      → HaveLinks jobs old new more left
  one_more_came mid new begun more rest left job link had next pushed accepts out asked back faults =
      let longer : length more ≡ length begun + 1 = ap length pushed ∙ length-append begun (record { job = job; handed_out = link } ∷ []) in
      record {
        jobs_are = became_one_more (λ (b : Begun J). b.job) jobs rest left begun more job (record { job = job; handed_out = link }) had.jobs_are next refl pushed;
        out = omega (arith, out, had.out, longer);
        accepts = accepts ∙ (ap one_more had.accepts ∙ (counted_one_more (length begun) old.accepts ∙ ap (λ n. counted_on n old.accepts) (sym longer)));
        asked = asked ∙ had.asked;
        back = back ∙ had.back;
        faults = faults ∙ had.faults;
      }

  -- none came for the next job, and so none is asked for behind it
  pub none_came_for : (mid new : DoorFacts) (begun : List (Begun J)) (rest left : List J) (job : J) (fault : Fault)
      → HaveLinks jobs old mid begun rest → rest ≡ job ∷ left
      → new.accepts ≡ one_more mid.accepts → new.out ≡ mid.out → new.asked ≡ mid.asked → new.back ≡ mid.back → CountsCause mid.faults new.faults fault
      → IsAccepted jobs old new begun (job ∷ left) (Some fault)
  none_came_for mid new begun rest left job fault had next accepts out asked back cause = record {
    jobs_are = had.jobs_are ∙ ap (λ more. map (λ b. b.job) begun ++ more) next;
    out = out ∙ had.out;
    accepts = accepts ∙ (ap one_more had.accepts ∙ counted_one_more (length begun) old.accepts);
    asked = asked ∙ had.asked;
    back = back ∙ had.back;
    stopped = (omega arith, subst (λ before. CountsCause before new.faults fault) had.faults cause);
  }

  -- one came for each job
  pub all_came : (new : DoorFacts) (begun : List (Begun J)) (rest : List J) → HaveLinks jobs old new begun rest → rest ≡ [] → IsAccepted jobs old new begun rest None
  all_came new begun rest had none = record {
    jobs_are = had.jobs_are;
    out = had.out;
    accepts = had.accepts;
    asked = had.asked;
    back = had.back;
    stopped = (none, had.faults);
  }

module _ {J P : Type 0} (does : J → LinkFacts → P → LinkFacts → Type 0) (jobs : List J) (old mid new : DoorFacts) where
  -- no more links are asked for, and behind that the visits that were begun are over
  pub hosted : (begun : List (Begun J)) (x : Hosted J P) → IsAccepted jobs old mid begun x.unused.items x.stopped → AreVisited does begun x.partings.items mid new → IsHosted does jobs old new x
  hosted begun x accepted visited =
      let vs = visited.visits in
      let jobs_begun : map (λ b. b.job) begun ≡ map (λ v. v.job) vs = ap (map (λ (b : Begun J). b.job)) (sym visited.begun_are) ∙ map-map (λ (b : Begun J). b.job) beginning vs in
      let as_many : length begun ≡ length vs = ap length (sym visited.begun_are) ∙ length-map vs beginning in
      record {
        visits = vs;
        each = visited.each;
        jobs_are = accepted.jobs_are ∙ ap (λ front. front ++ x.unused.items) jobs_begun;
        partings_are = sym visited.partings_are;
        back = visited.back ∙ ap (list_with_all (map (λ v. v.link) vs)) accepted.back;
        out = omega (arith, visited.out, accepted.out);
        accepts = visited.accepts ∙ (accepted.accepts ∙ ap (λ n. counted_on (accepts_made n x.stopped) old.accepts) as_many);
        asked = visited.asked ∙ accepted.asked;
        stopped = subst (λ now. CountsStop old.faults now x.unused.items x.stopped) (sym visited.faults) accepted.stopped;
      }

-- the same of the host and of the jobs that are left, as they are called behind that
pub hosted_as : {H J P : Type 0} (does : H → J → LinkFacts → P → LinkFacts → Type 0) (of host : H) (jobs unused : List J) (old mid new : DoorFacts) (begun : List (Begun J)) (x : Hosted J P)
    → of ≡ host → x.unused.items ≡ unused → IsAccepted jobs old mid begun unused x.stopped → AreVisited (does of) begun x.partings.items mid new → IsHosted (does host) jobs old new x
hosted_as does of host jobs unused old mid new begun x same left accepted visited =
    hosted (does host) jobs old mid new begun x (subst (λ js. IsAccepted jobs old mid begun js x.stopped) (sym left) accepted) (subst (λ h. AreVisited (does h) begun x.partings.items mid new) same visited)
