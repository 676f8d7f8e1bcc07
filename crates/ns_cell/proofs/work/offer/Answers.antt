use Rattle.std.proofs.Common.{◌∙◌, sym, ap, subst}
use Rattle.willow_entry.specs.LogRow.{log_value}
use Rattle.willow_entry.specs.declared.row.LogRow.{LogRow}
use Rattle.ns_state.specs.Log.{IsLog, logged}
use Rattle.ns_state.specs.Answer.{IsAnswer, IsOffer}
use Rattle.ns_cell.specs.Answers.{stored}
use Rattle.ns_cell.specs.Seats.{IsTurned}
use Rattle.ns_cell.proofs.Turned.{further_rows, turned, later, stored_there, stored_own}
use Rattle.ns_cell.proofs.work.offer.Goals as goal

pub end-requires-clause-log : goal.end-requires-clause-log
end-requires-clause-log g c =
    let row : LogRow g.row.R.Denot = record { pass = c.args.number; row = c.args.row } in
    further_rows g.R.Row.value c.args.number _ c.args.seat.now.me c.begin-state.new.seat.me.0 c.begin-state.result c.ingest-answer.new.self.log (stored row c.ingest-answer.result) c.requires.rest c.begin-state.ensures.took
    (stored_there g.R.Row.value c.begin-state.result.log c.ingest-answer.new.self.log row c.ingest-answer.result c.ingest-answer.ensures.answer) (stored_own row c.ingest-answer.result)

whole_turn : (g : _) (c : goal.After-end g) → IsTurned g.R.Row.value c.args.number (stored (record { pass = c.args.number; row = c.args.row }) c.ingest-answer.result) c.args.seat.now.me c.end.new.seat.me
whole_turn g c =
    let row : LogRow g.row.R.Denot = record { pass = c.args.number; row = c.args.row } in
    turned g.R.Row.value c.args.number _ c.args.seat.now.me c.end.new.seat.me c.begin-state.new.seat.me.0 c.begin-state.result c.ingest-answer.new.self.log (stored row c.ingest-answer.result) c.requires.rest c.begin-state.ensures.took
    (stored_there g.R.Row.value c.begin-state.result.log c.ingest-answer.new.self.log row c.ingest-answer.result c.ingest-answer.ensures.answer) (stored_own row c.ingest-answer.result)
    (subst (λ space. IsLog g.R.Row.value space c.ingest-answer.new.self.log) c.ingest-answer.ensures.namespace c.ingest-answer.ensures.log) c.end.ensures.view

pub returns-clause-rest : goal.returns-clause-rest
returns-clause-rest g c = (whole_turn g c).rest

pub returns-clause-later : goal.returns-clause-later
returns-clause-later g c = later g.R.Row.value c.args.number _ c.args.seat.now.table_id c.end.new.seat.table_id c.args.seat.now.me c.end.new.seat.me (whole_turn g c) (c.end.ensures.same ∙ c.begin-state.ensures.same)

pub returns-clause-offered : goal.returns-clause-offered
returns-clause-offered g c =
    let value = g.R.Row.value in
    let row : LogRow g.row.R.Denot = record { pass = c.args.number; row = c.args.row } in
    let log = c.begin-state.result.log in
    let seen = sym (ap (λ m. m.0.seen) c.end.ensures.view) in
    record {
      log = log;
      seen = c.begin-state.ensures.took.seen;
      answer = subst (λ l. IsAnswer value log row l c.ingest-answer.result) seen c.ingest-answer.ensures.answer;
      event = subst (λ l. IsOffer (logged value log) (log_value value row) (logged value l) c.ingest-answer.result) seen c.ingest-answer.ensures.offer;
      own = (whole_turn g c).own;
    }

pub returns-clause-turn : goal.returns-clause-turn
returns-clause-turn g c = (whole_turn g c).turns
