-- The sessions that a command had, over the objects of its run.
use Rattle.std.proofs.Common.{◌≡◌, ◌∙◌, ℕ, List, Option, map, sym, subst, ap}
use Rattle.std.specs.Prelude.{Ok}
use Rattle.std.specs.Global.{Vec}
use Rattle.std.specs.String.{string_bytes}
use Rattle.willow_outside.specs.Facts.{LinkFacts, DoorFacts, NoiseFacts, ShelfFacts}
use Rattle.link_host.specs.Hosted.{list_with_all}
use Rattle.willow_entry.specs.Row.{live}
use Rattle.auth_entry.specs.Authorised.{AuthorisedValue}
use Rattle.lms_core.specs.Use.{peer_rules}
use Rattle.lms_core.specs.declared.scheme.PeerScheme.{PeerScheme}
use Rattle.ns_state.specs.Log.{IsLog}
use Rattle.auth_entry.specs.Rows.{entry_row}
use Rattle.sync_link.specs.Kept.{log_rows}
use Rattle.sync_link.specs.Plans.{planned}
use Rattle.sync_link.specs.Run.{Answer}
use Rattle.sync_link.specs.Sessions.{Party}
use Rattle.sync_link.specs.declared.plan.SessionPlan.{SessionPlan}
use Rattle.peer_make.specs.Making.{DrawsAll, TakesDraws}
use Rattle.peer_stage.specs.Shelves.{IsPut, PutsBytes}
use Rattle.peer_stage.specs.Steps.{OnNoise, OnShelf}
use Rattle.peer_stage.specs.World.{World}
use Rattle.peer_image.specs.Image.{image}
use Rattle.peer_run.specs.Closing.{image_of}
use Rattle.peer_run.specs.HostDeed.{HadSessions}
use Rattle.peer_run.specs.Hosting.{HasAttended, plans_of, own_role, way_of}
use Rattle.peer_run.specs.LogFiles.{FileState}
use Rattle.peer_run.specs.Preparing.{nonce_of}
use Rattle.peer_run.specs.SideGiven.{SideGiven, party_of}
use Rattle.peer_run.specs.Telling.{Told, none_told}
use Rattle.peer_run.specs.Visiting.{Visit, AreAttended}
use Rattle.peer_run.specs.declared.sessions.House as house
use Rattle.peer_run.specs.declared.sessions.HostWords.{HostWords}
use Rattle.peer_run.specs.declared.tails.Tail.{Tail}
use Rattle.peer_run.proofs.AllNew.{filed_is, filed_raw, opening_is}
use Rattle.peer_run.proofs.HostBegun.{HasHouse, plan_asks}

-- those that it had by what is given, each of which ended so
pub record HadSo (words : HostWords) (old new : World) (answers : List Answer) (tails : List Tail) (given : SideGiven) : Type 0 where
  pub had : HadSessions words given old new
  pub ends : answers ≡ map (λ (visit : Visit). visit.answer) had.visits
  pub tailed : tails ≡ map (λ (visit : Visit). visit.tail) had.visits

module _ (words : HostWords) (file : Option FileState) (old new : World) (s : house.House) (began : World) (draws : Vec (List ℕ)) (drawn : World) (t : Told) (attended : World)
    (opened : HasHouse (own_role words.awaited) words.image words.cap words.key words.links words.area words.limits words.log file old began s) (drew : OnNoise (DrawsAll words.links) began drawn (Ok draws))
    (did : HasAttended (way_of words) s.plan.ask (plans_of s) s.signers.items draws.items s.opening.rows drawn (none_told s.opening.state s.opening.first) attended t)
    (puts : OnShelf (PutsBytes (string_bytes words.image) (image_of t.state)) attended new (Ok tt)) where
  abbrev n : List ℕ
  n = opened.front.given.namespace

  abbrev given : SideGiven
  given = record { namespace = n; rows = opened.front.given.rows.items; cap = opened.front.capability }

  party_is : plans_of s ≡ party_of (own_role words.awaited) words.area words.limits given
  party_is =
      let by_namespace : List ℕ → List ℕ → List ℕ → Party = λ m draw. planned peer_rules m s.plan (nonce_of draw) in
      let by_plan : SessionPlan PeerScheme → List ℕ → List ℕ → Party = λ plan draw. planned peer_rules n plan (nonce_of draw) in
      ap by_namespace opened.front.opened.of_namespace ∙ ap by_plan (plan_asks (own_role words.awaited) words.image words.cap words.key words.links words.area words.limits words.log file old began s opened)

  sessions : AreAttended (way_of words) (party_of (own_role words.awaited) words.area words.limits given) s.signers.items draws.items s.opening.state drawn.door attended.door t.answers t.tails t.all_came t.state
  sessions = subst (λ (p : List ℕ → List ℕ → Party). AreAttended (way_of words) p s.signers.items draws.items s.opening.state drawn.door attended.door t.answers t.tails t.all_came t.state) party_is did.does

  abbrev links : List LinkFacts
  links = map (λ (visit : Visit). visit.link) sessions.visits

  door_before : drawn.door ≡ old.door
  door_before = ap (λ (w : World). w.door) drew.others ∙ ap (λ (w : World). w.door) opened.others

  back : new.door.back ≡ list_with_all links old.door.back
  back = ap (λ (w : World). w.door.back) puts.others ∙ sessions.back.back ∙ ap (λ (d : DoorFacts). list_with_all links d.back) door_before

  namespace_is : t.state.namespace ≡ n
  namespace_is = sessions.of_namespace ∙ opened.front.opened.of_namespace

  shelf_before : attended.shelf ≡ began.shelf
  shelf_before = ap (λ (w : World). w.shelf) did.others ∙ ap (λ (w : World). w.shelf) drew.others

  is_put : IsPut (string_bytes words.image) (image n (live (log_rows t.state.log))) began.shelf new.shelf
  is_put =
      subst (λ (h : ShelfFacts). IsPut (string_bytes words.image) (image n (live (log_rows t.state.log))) h new.shelf) shelf_before
      (subst (λ (m : List ℕ). IsPut (string_bytes words.image) (image m (live (log_rows t.state.log))) attended.shelf new.shelf) namespace_is puts.does)

  noise_before : began.noise ≡ old.noise
  noise_before = ap (λ (w : World). w.noise) opened.others

  noise_after : drawn.noise ≡ new.noise
  noise_after = sym (ap (λ (w : World). w.noise) did.others) ∙ sym (ap (λ (w : World). w.noise) puts.others)

  all_draws : TakesDraws old.noise new.noise draws.items
  all_draws =
      subst (λ (f : NoiseFacts). TakesDraws f new.noise draws.items) noise_before
      (subst (λ (f : NoiseFacts). TakesDraws began.noise f draws.items) noise_after drew.does.2)

  pub had_sessions : HadSo words old new t.answers t.tails given
  had_sessions =
      record {
        had = record {
          signers = s.signers.items;
          reserved = began.shelf;
          are_signers = opened.reserved;
          draws = draws.items;
          drawn = all_draws;
          many = drew.does.0;
          visits = sessions.visits;
          back = back;
          opening = s.opening.state.log;
          log = t.state.log;
          opens = record {
            filed = opened.front.filed;
            read_out = filed_raw words.log file n old.bay opened.prepared.bay opened.front.filed opened.front.is_filed;
            are_filed = filed_is words.log file n old.bay opened.prepared.bay opened.front.filed opened.front.is_filed;
            are_rows = opening_is words.log file n opened.front.given.rows.items old.bay opened.prepared.bay opened.front.filed s.opening opened.front.has_image.is_image.in_order opened.front.is_filed opened.front.opened;
          };
          shared = sessions.shared;
          alone = λ call. (sessions.called call).alone;
          is_log = subst (λ (m : List ℕ). IsLog {R = AuthorisedValue} entry_row m t.state.log) opened.front.opened.of_namespace sessions.is_log;
          are_visits = sessions.are_visits;
          is_put = is_put;
        };
        ends = sessions.ends;
        tailed = sessions.tailed;
      }
