-- The run of a mesh, event by event, and what its nodes promise.
use Rattle.std.proofs.Common.{◌≡◌, ℕ, ◌+◌, ◌<◌, ◌≤◌, List, [], ◌∷◌, ◌++◌, map, take, length, get_or, All, refl, sym, ap, subst, ◌∙◌, add-one, take_all}
use Rattle.std.specs.List.{AllByRecursion}
use Rattle.std.proofs.Math.Seq.{take-suc}
use Rattle.std.proofs.lemmas.List.{map-append}
use Rattle.spelling.proofs.Lists.{All-append}
use Rattle.willow_entry.specs.Row.{RowValue, AreLive}
use Rattle.cap_codec.specs.Rows.{RawValue, row_of}
use Rattle.mesh_rules.specs.Events.{node_rows, after_event, empty_nodes}
use Rattle.mesh_rules.specs.Laws.{HoldsOnlyReached, IsExactRun}
use Rattle.mesh_rules.proofs.Runs.{reaches_only, stay_live, holds_reached, holds_area}
use Rattle.mesh_core.specs.declared.event.MeshEvent.{MeshEvent}
use Rattle.mesh_core.specs.declared.event.MeshEvent.TheVariants.{Offer, Meet}
use Rattle.mesh_core.specs.Areas.{has_row}
use Rattle.mesh_core.specs.Exchanging.{exchanging, TellApart}
use Rattle.mesh_core.specs.Given.{event_of, events_of, MeetsWithinLimits, IsAmong}
use Rattle.mesh_core.specs.Held.{nodes_of, EachNode, EachTwo}
use Rattle.mesh_core.specs.Promises.{CoversReached, HoldsAllOffered, HoldSame}
use Rattle.mesh_core.proofs.Exact.{OffersGenerated, IsGiven, none_hold, live_all, made_up_none_all, exact_all, open_all}
use Rattle.mesh_core.proofs.Open.{includes_dominating}
use Rattle.mesh_core.proofs.Putting.{as_many, same_nodes}
use Rattle.mesh_core.proofs.Stores.{one_more_event, each_from}

pub given_event : (n : ℕ) (e : MeshEvent) → IsAmong n e → MeetsWithinLimits e → IsGiven (event_of e)
given_event n (Offer node row) among area = (row, among.1, refl)
given_event n (Meet left right subspace from) among area = (area, record { path = refl; times = refl })

pub offers_generated : (n : ℕ) (e : MeshEvent) → IsAmong n e → OffersGenerated (event_of e)
offers_generated n (Offer node row) among = (row, among.1, refl)
offers_generated n (Meet left right subspace from) among = tt

-- what k events make of so many nodes
pub record IsRun (version nodes : ℕ) (events : List MeshEvent) (k : ℕ) (mesh : List (List RawValue)) : Type 0 where
  pub as_many : length mesh ≡ nodes
  pub run : nodes_of mesh ≡ node_rows (exchanging version) (events_of (take k events))
  pub given : AllByRecursion IsGiven (events_of (take k events))

-- and what all events do
pub record IsDone (version nodes : ℕ) (events : List MeshEvent) (mesh : List (List RawValue)) : Type 0 where
  pub as_many : length mesh ≡ nodes
  pub run : nodes_of mesh ≡ node_rows (exchanging version) (events_of events)
  pub given : AllByRecursion IsGiven (events_of events)

module _ (version nodes : ℕ) (events : List MeshEvent) where
  pub begun : (mesh : List (List RawValue)) → length mesh ≡ nodes → nodes_of mesh ≡ empty_nodes → IsRun version nodes events 0 mesh
  begun mesh many is = record { as_many = many; run = is; given = tt }

  module _ (k : ℕ) (old : List (List RawValue)) (e : MeshEvent) (run : IsRun version nodes events k old) (all : All (IsAmong nodes) events) (within : k < length events) (is : e ≡ get_or events k e) where
    among_all : IsAmong nodes e
    among_all = subst (IsAmong nodes) (sym is) (all k e within)

    pub goes_on : (new : List (List RawValue)) → MeetsWithinLimits e → length new ≡ length old → nodes_of new ≡ after_event (exchanging version) (nodes_of old) (event_of e) → IsRun version nodes events (k + 1) new
    goes_on new area many step =
        let m = exchanging version in
        let before = events_of (take k events) in
        let more : events_of (take (k + 1) events) ≡ before ++ event_of e ∷ [] =
        ap (λ n. events_of (take n events)) (add-one k) ∙ ap events_of (take-suc events k e within ∙ ap (λ f. take k events ++ f ∷ []) (sym is)) ∙ map-append event_of (take k events) (e ∷ []) in
        record {
          as_many = many ∙ run.as_many;
          run = step ∙ ap (λ s. after_event m s (event_of e)) run.run ∙ sym (one_more_event m empty_nodes before (event_of e)) ∙ ap (λ es. node_rows m es) (sym more);
          given = subst (AllByRecursion IsGiven) (sym more) (All-append IsGiven before (event_of e ∷ []) run.given (given_event nodes e among_all area, tt));
        }

  pub done : (k : ℕ) (mesh : List (List RawValue)) → IsRun version nodes events k mesh → length events ≤ k → IsDone version nodes events mesh
  done k mesh run all = let whole = take_all k events all in record {
    as_many = run.as_many;
    run = run.run ∙ ap (λ es. node_rows (exchanging version) (events_of es)) whole;
    given = subst (λ es. AllByRecursion IsGiven (events_of es)) whole run.given;
  }

  -- lists with the same rows are done alike
  pub done_alike : (mesh others : List (List RawValue)) → IsDone version nodes events mesh → map (map row_of) others ≡ map (map row_of) mesh → IsDone version nodes events others
  done_alike mesh others is same = record {
    as_many = as_many others mesh same ∙ is.as_many;
    run = same_nodes others mesh same ∙ is.run;
    given = is.given;
  }

  -- ---- the promises

  module _ (mesh : List (List RawValue)) (is : IsDone version nodes events mesh) where
    each : (P : ℕ → List RowValue → Type 0) → ((i : ℕ) → P i (node_rows (exchanging version) (events_of events) i)) → EachNode P mesh
    each P = each_from P mesh (node_rows (exchanging version) (events_of events)) is.run

    pub are_run : EachNode (λ i rows. rows ≡ node_rows (exchanging version) (events_of events) i) mesh
    are_run = each (λ i rows. rows ≡ node_rows (exchanging version) (events_of events) i) (λ i. refl)

    pub are_live : EachNode (λ i rows. AreLive rows) mesh
    are_live = each (λ i rows. AreLive rows) (λ i. stay_live (exchanging version) (events_of events) (live_all version empty_nodes (events_of events)) i)

    pub only_reached : EachNode (HoldsOnlyReached has_row (events_of events)) mesh
    only_reached = each (HoldsOnlyReached has_row (events_of events)) (λ i r c. reaches_only (exchanging version) (events_of events) (made_up_none_all version empty_nodes (events_of events) is.given none_hold) i r c)

    module _ (apart : TellApart version (events_of events)) where
      exact_run : IsExactRun (exchanging version) (events_of events)
      exact_run = record { exact = exact_all version empty_nodes (events_of events) is.given none_hold apart; areas = open_all version empty_nodes (events_of events) is.given }

      pub cover_reached : EachNode (CoversReached (events_of events)) mesh
      cover_reached = each (CoversReached (events_of events)) (λ i. (holds_reached (exchanging version) (events_of events) exact_run i).all)

      pub hold_all : EachNode (HoldsAllOffered (events_of events)) mesh
      hold_all = each (HoldsAllOffered (events_of events)) (λ i area whole reach. holds_area (exchanging version) (events_of events) exact_run i area (includes_dominating area whole) reach)

      pub agree : EachTwo (HoldSame (events_of events)) mesh
      agree = λ i rows here j others there area whole one other. hold_all i rows here area whole one ∙ sym (hold_all j others there area whole other)
