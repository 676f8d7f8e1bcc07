use Rattle.std.proofs.Common.{◌+◌, ◌∙◌, ℕ, drop, refl, sym, ap, add-zero}
use Rattle.std.specs.Prelude.{Ok, Err}
use Rattle.peer_run.specs.Telling.{first_of_links, rows_told}
use Rattle.peer_run.proofs.FirstOfLinks.{first_behind, first_stops}
use Rattle.peer_run.proofs.sessions.first_of_all.Goals as goal
use Rattle.peer_run.proofs.sessions.first_of_all.Goals.{in-Ok+in_default-first, in_default}

pub loop-end-preserved : goal.loop-end-preserved
loop-end-preserved c =
    let ends = c.args.ends.now in
    let at = c.loop-end.end-index in
    let before = c.loop-end.before in
    elim c.match-end.branch [
      | in-Ok+in_default-first w ↦
          let n = before + rows_told (Ok w.in-Ok.report) in
          first_behind c.args.rows before at ends c.end-item.result (Ok w.in-Ok.report) c.loop-end-test.true (sym c.end-item.is ∙ w.in-Ok.is) w.in_default-first.is c.loop-end.invariant
          ∙ sym (first_stops n (drop (at + 1) ends)) ∙ ap (λ (k : ℕ). first_of_links k (drop (at + 1) ends)) (sym (w.before-is ∙ w.behind-before.ensures))
      | in_default w ↦
          first_behind c.args.rows before at ends c.end-item.result (Err w.in_default.field-0) c.loop-end-test.true (sym c.end-item.is ∙ w.in_default.is) refl c.loop-end.invariant
          ∙ ap (λ (k : ℕ). first_of_links k (drop (at + 1) ends)) (add-zero before ∙ sym w.before-is)
    ]
