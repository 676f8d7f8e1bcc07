-- What a watch leaves that came to its end.
use Rattle.std.proofs.Common.{◌≡◌, ℕ, ◌+◌, ◌≤◌, List, [], ◌++◌, length, Option, inl, inr, sym, ap, ◌∙◌, subst, arith}
use Rattle.std.specs.Prelude.{Ok, Err}
use Rattle.std.specs.Option.{option_map}
use Rattle.std.specs.String.{string_bytes}
use Rattle.std.specs.declared.string.String.{String}
use Rattle.std.specs.declared.alloc.Global.{Global}
use Rattle.std.proofs.lemmas.List.{length-drop}
use Rattle.willow_outside.specs.Facts.{Names, SourceFacts}
use Rattle.willow_outside.specs.Names.{name_put}
use Rattle.willow_area.specs.declared.area.Area.{Area}
use Rattle.willow_entry.specs.Row.{is_covering, new}
use Rattle.cap_codec.specs.Rows.{RawValue}
use Rattle.sub_hub.specs.Hubs.{HubValue, IsPumped}
use Rattle.mc_cap.specs.declared.refusal.RowRefusal.{RowRefusal}
use Rattle.peer_words.specs.declared.command.AreaWords.{AreaWords}
use Rattle.peer_stage.specs.Stages.{IsReadWhole}
use Rattle.peer_stage.specs.World.{World}
use Rattle.peer_stage.specs.declared.outcome.Done.{Done}
use Rattle.peer_stage.specs.declared.outcome.Done.TheVariants as done
use Rattle.peer_stage.specs.declared.outcome.Stop.TheVariants as stop
use Rattle.peer_stage.specs.declared.outcome.WatchCounts.{WatchCounts}
use Rattle.peer_stage.specs.declared.stage.TheConstants.{INPUT_LIMIT}
use Rattle.peer_rows.specs.Logged.{authorised_rows}
use Rattle.peer_rows.specs.Opened.{NamedRows}
use Rattle.peer_rows.specs.Watch.{HasWatched, Watches, hub_begun, log_length, new_behind, watched_area}
use Rattle.peer_rows.proofs.AuthorisedRows.{authorised_parts}
use Rattle.peer_rows.proofs.NewRows.{new_after-longer}

-- what is new behind some rows brings the log to that of all
new_many : (n : List ℕ) (had rows : List RawValue) → log_length n had + length (new_behind n had rows) ≡ log_length n (had ++ rows)
new_many n had rows =
    let more : log_length n had ≤ log_length n (had ++ rows) = rw (authorised_parts n had rows) (new_after-longer is_covering [] (authorised_rows n had) (authorised_rows n rows)) in
    omega (arith, more, length-drop (log_length n had) (new (authorised_rows n (had ++ rows))))

pub whole_watch : (name : String Global) (words : AreaWords) (old last : World) (d : Done) → Watches name words old last (Ok d) → (counts : WatchCounts) × (d ≡ done.Watched counts) × HasWatched (string_bytes name) words old last counts
whole_watch name words old last d meets =
    let given = meets.rest in
    let opening = given.rest in
    let hearing = opening.rest in
    let putting = hearing.rest in
    let opened : NamedRows = opening.value in
    let heard : World = hearing.between in
    let counts : WatchCounts = hearing.value.1 in
    let h = hearing.given.does in
    let before : opening.between ≡ record old { shelf = meets.between.shelf } = opening.given.1 ∙ given.given.1 ∙ meets.given.others in
    let on : heard ≡ record (opening.between) { input = heard.input; hub = heard.hub } = hearing.given.others in
    let behind : last ≡ record heard { shelf = last.shelf } = putting.others in
    let input : opening.between.input ≡ old.input = ap (λ (w : World). w.input) before in
    let hub : opening.between.hub ≡ old.hub = ap (λ (w : World). w.hub) before in
    let input_stays : heard.input ≡ last.input = sym (ap (λ (w : World). w.input) behind) in
    let hub_stays : heard.hub ≡ last.hub = sym (ap (λ (w : World). w.hub) behind) in
    let names : heard.shelf.names ≡ old.shelf.names = ap (λ (w : World). w.shelf.names) on ∙ ap (λ (w : World). w.shelf.names) before ∙ meets.given.does.1.1 in
    let fresh = new_behind opened.namespace opened.rows h.rows in
    let told =
    subst (λ (u : HubValue). IsPumped (hub_begun opened (watched_area words) old.hub) u fresh counts.left) hub_stays
    (subst (λ (u : HubValue). IsPumped (hub_begun opened (watched_area words) u) heard.hub fresh counts.left) hub
    (subst (λ (area : Area). IsPumped (hub_begun opened area opening.between.hub) heard.hub fresh counts.left) given.given.0 h.told)) in (
      counts,
      putting.does.1,
      record {
        image_bytes = meets.value.1.items;
        held = meets.given.does.1.0;
        opened = opened;
        is_opened = opening.given.0;
        bytes = h.bytes;
        read = subst (λ (i : SourceFacts). IsReadWhole INPUT_LIMIT old.input i h.bytes) input_stays (subst (λ (i : SourceFacts). IsReadWhole INPUT_LIMIT i heard.input h.bytes) input h.read);
        rows = h.rows;
        frames = h.frames;
        fits_log = h.fits_log;
        put =
            subst (λ (bytes : List ℕ). last.shelf.names ≡ option_map (name_put (string_bytes name) bytes) old.shelf.names) h.is_image
            (subst (λ (n : Option Names). last.shelf.names ≡ option_map (name_put (string_bytes name) hearing.value.0) n) names putting.does.0);
        counted = h.counted;
        told = told;
        front = told.front ∙ new_many opened.namespace opened.rows h.rows;
        others =
            behind
            ∙ ap (λ (w : World). record w { shelf = last.shelf }) on
            ∙ ap (λ (w : World). record w { shelf = last.shelf; input = heard.input; hub = heard.hub }) before
            ∙ ap (λ (i : SourceFacts). record old { shelf = last.shelf; input = i; hub = heard.hub }) input_stays
            ∙ ap (λ (u : HubValue). record old { shelf = last.shelf; input = last.input; hub = u }) hub_stays;
      },
    )

-- what is put is never refused as what was to be made
pub never_refused : (name : String Global) (words : AreaWords) (refusal : RowRefusal) (old last : World) → Watches name words old last (Err (stop.Refused refusal)) → ⊥
never_refused name words refusal old last (inl got) = got.does
never_refused name words refusal old last (inr p) = elim p.rest [
  | inl area ↦ area.0
  | inr q ↦ elim q.rest [
    | inl opened ↦ opened.0
    | inr r ↦ elim r.rest [ inl heard ↦ heard.does.0 | inr put ↦ put.rest.does ]
  ]
]
