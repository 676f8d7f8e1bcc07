-- A run is given back as many links at most as its words name.
use Rattle.std.proofs.Common.{◌≡◌, ◌≢◌, ◌∙◌, ℕ, ◌≤◌, Bool, true, false, List, [], map, length, Option, Some, None, inl, inr, refl, sym, ap, subst, arith}
use Rattle.std.proofs.lemmas.List.{length-map}
use Rattle.std.specs.Prelude.{Result, Ok, Err}
use Rattle.std.specs.String.{string_bytes}
use Rattle.willow_outside.specs.Facts.{DoorFacts, LinkFacts}
use Rattle.link_host.specs.Hosted.{list_with_all}
use Rattle.sync_msg.specs.declared.role.Role.{Role}
use Rattle.peer_make.proofs.Many.{as_many}
use Rattle.peer_stage.specs.Status.{status_of}
use Rattle.peer_stage.specs.World.{World}
use Rattle.peer_stage.specs.declared.outcome.Done.{Done}
use Rattle.peer_stage.specs.declared.outcome.Stop.{Stop}
use Rattle.peer_stage.specs.declared.outcome.Stop.TheVariants as stop
use Rattle.peer_run.specs.Hosting.{DoesHost, HostsWith, IsBackAtMost, PutsImage, own_role, way_of}
use Rattle.peer_run.specs.LogFiles.{FileState}
use Rattle.peer_run.specs.Telling.{Told}
use Rattle.peer_run.specs.Visiting.{Visit, Accepts, StopsAttending}
use Rattle.peer_run.specs.declared.sessions.HostWords.{HostWords}
use Rattle.peer_run.proofs.FiledEnds.{filed_seven}
use Rattle.peer_run.proofs.HostBegun.{has_house}
use Rattle.peer_run.proofs.HostDeeds.{opening_keeps_door}
use Rattle.peer_run.proofs.HostRules.{none_more}

came_few : (awaited : Bool) (links came : ℕ) (all_came : Bool) (old new : DoorFacts) → Accepts awaited links came all_came old new → came ≤ links
came_few awaited links came true old new accepts = omega (arith, accepts.0)
came_few awaited links came false old new accepts = omega (arith, accepts.0)

module _ (words : HostWords) (file : Option FileState) where
  abbrev Few : DoorFacts → DoorFacts → Type 0
  Few = IsBackAtMost words.links

  abbrev role : Role
  role = own_role words.awaited

  none_back : (old new : DoorFacts) → new.back ≡ old.back → Few old new
  none_back old new same = record { links = []; back = same ∙ none_more old.back; few = omega arith }

  stops_few : (e : Stop) (old new : DoorFacts) → StopsAttending (way_of words) old new e → status_of (Err e) ≢ 7 → Few old new
  stops_few stop.ReadFault old new s memory = none_back old new s.0.back
  stops_few stop.NoMemory old new s memory = absurd (memory refl)
  stops_few e old new s memory = absurd s

  puts_none : (e : Stop) (name : List ℕ) (told : Told) (old new : World) → PutsImage name old told new (Err e) → status_of (Err e) ≢ 7 → ⊥
  puts_none stop.NoMemory name told old new puts memory = memory refl
  puts_none e name told old new puts memory = puts

  stopped_few : (old new : World) (e : Stop) → HostsWith words file old new (Err e) → status_of (Err e) ≢ 7 → Few old.door new.door
  stopped_few old new e hosts memory =
      elim hosts [
        | inl s ↦ none_back old.door new.door (ap (λ (d : DoorFacts). d.back) (opening_keeps_door role words.image words.cap words.key words.links words.area words.limits words.log file old new (Err e) s))
        | inr p ↦
            let opened = opening_keeps_door role words.image words.cap words.key words.links words.area words.limits words.log file old p.between (Ok p.value) p.given in
            elim p.rest [
              | inl s ↦ none_back old.door new.door (ap (λ (d : DoorFacts). d.back) (ap (λ (w : World). w.door) s.others ∙ opened))
              | inr q ↦
                  let before = ap (λ (w : World). w.door) q.given.others ∙ opened in
                  elim q.rest [
                    | inl s ↦ subst (λ (d : DoorFacts). Few d new.door) before (stops_few e q.between.door new.door s.0 memory)
                    | inr r ↦ absurd (puts_none e (string_bytes words.image) r.so_far r.between new r.rest memory)
                  ]
            ]
      ]

  done_few : (old new : World) (d : Done) → HostsWith words file old new (Ok d) → Few old.door new.door
  done_few old new d p =
      let q = p.rest in
      let hosts = q.rest.1 in
      let visits = hosts.given.does.visits in
      let links : List LinkFacts = map (λ (visit : Visit). visit.link) visits in
      let opened = has_house role words.image words.cap words.key words.links words.area words.limits words.log file old p.between p.value p.given in
      let before = ap (λ (w : World). w.door) q.given.others ∙ ap (λ (w : World). w.door) opened.others in
      let many = as_many words.key words.links old.shelf p.between.shelf p.value.signers.items opened.reserved in
      let came = came_few words.awaited (length p.value.signers.items) (length visits) hosts.so_far.all_came q.between.door hosts.between.door hosts.given.does.accepts in
      record {
        links = links;
        back = ap (λ (w : World). w.door.back) hosts.rest.does.others ∙ hosts.given.does.back.back ∙ ap (λ (d : DoorFacts). list_with_all links d.back) before;
        few = omega (arith, many, came, length-map visits (λ (visit : Visit). visit.link));
      }

  pub with_few : (old new : World) (end : Result Done Stop) → HostsWith words file old new end → status_of end ≢ 7 → Few old.door new.door
  with_few old new (Ok d) hosts memory = done_few old new d hosts
  with_few old new (Err e) hosts memory = stopped_few old new e hosts memory

-- with a log file or without
pub few_back : (words : HostWords) (old new : World) (end : Result Done Stop) → DoesHost words old new end → status_of end ≢ 7 → IsBackAtMost words.links old.door new.door
few_back words old new end (inl hosts) memory = with_few words None old new end hosts memory
few_back words old new end (inr filed) memory =
    subst (λ (d : DoorFacts). IsBackAtMost words.links old.door d) (sym (ap (λ (w : World). w.door) filed.others))
    (with_few words (Some filed.opened) old filed.between filed.reached filed.hosts (λ seven. memory (ap status_of filed.told ∙ filed_seven filed.left filed.reached seven)))
