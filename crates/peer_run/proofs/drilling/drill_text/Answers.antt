use Rattle.std.proofs.Common.{ℕ, ◌/◌, List, ◌++◌, Some, length, refl, sym, ap, ◌∙◌, subst}
use Rattle.std.proofs.lemmas.List.{length-map}
use Rattle.auth_entry.specs.Rows.{entry_row}
use Rattle.willow_area.specs.declared.area.Area.{Area}
use Rattle.peer_listing.specs.Summary.{drill_summary}
use Rattle.peer_listing.specs.declared.summary.DrillCounts.{DrillCounts}
use Rattle.peer_rows.specs.Drilled.{generated_rows}
use Rattle.peer_run.specs.Exchanged.{boxed, AreMet}
use Rattle.peer_run.specs.Offered.{no_limits}
use Rattle.peer_run.proofs.DrilledRows.{drill_fits}
use Rattle.peer_run.proofs.DrilledText.{drilled_framed, is_drill_text}
use Rattle.peer_run.proofs.drilling.drill_text.Goals as goal

pub exchange-requires-clause-one_namespace : goal.exchange-requires-clause-one_namespace
exchange-requires-clause-one_namespace g c = c.in_ok-left.ensures.one_namespace

pub exchange-requires-clause-left_frames : goal.exchange-requires-clause-left_frames
exchange-requires-clause-left_frames g c = drilled_framed c.args.rows c.in_ok-left.left c.in_ok-left.ensures.whole

pub exchange-requires-clause-right_frames : goal.exchange-requires-clause-right_frames
exchange-requires-clause-right_frames g c = drilled_framed (c.args.rows / 2) c.in_ok-left.right c.in_ok-left.ensures.half

pub unreachable-requires : goal.unreachable-requires
unreachable-requires g c =
    let ends = rw c.in-Err-Refused.field-0-is at c.in-Err-Refused.ensures in
    drill_fits c.args.rows (boxed (Some c.full.result)) c.requires (ends (generated_rows c.args.rows) (generated_rows (c.args.rows / 2)) c.in_ok-left.ensures.whole c.in_ok-left.ensures.half)

pub returns : goal.returns
returns g c =
    let n = c.args.rows in
    let counts : DrillCounts = record { rows = n; left = c.len.result; right = c.len-2.result; left_after = c.len-3.result; right_after = c.len-4.result; items = c.in-Ok.exchanged.items; turns = c.len-5.result } in
    let is = subst (λ (area : Area). AreMet (generated_rows n) (generated_rows (n / 2)) (boxed (Some area)) no_limits c.exchange.new.left c.exchange.new.right c.in-Ok.exchanged) c.full.ensures.full
    (c.in-Ok.ensures (generated_rows n) (generated_rows (n / 2)) c.in_ok-left.ensures.whole c.in_ok-left.ensures.half) in
    is_drill_text n c.in_ok-left.left c.in_ok-left.right c.exchange.new.left c.exchange.new.right c.in-Ok.exchanged c.in_ok-left.ensures.whole c.in_ok-left.ensures.half is counts c.drill_summary.new.out.items refl
    (c.len.ensures ∙ sym (length-map c.store.result.now entry_row) ∙ ap length c.store.ensures.live) (c.len-2.ensures ∙ sym (length-map c.store-2.result.now entry_row) ∙ ap length c.store-2.ensures.live) (c.len-3.ensures ∙ sym (length-map c.store-3.result.now entry_row) ∙ ap length c.store-3.ensures.live) (c.len-4.ensures ∙ sym (length-map c.store-4.result.now entry_row) ∙ ap length c.store-4.ensures.live) refl (c.len-5.ensures ∙ c.in-Ok.exchanged.turns.ok.0)
    (c.in_ok-drill_summary.ensures.appended ∙ ap (λ (front : List ℕ). front ++ drill_summary counts) c.new-text.ensures.items)
