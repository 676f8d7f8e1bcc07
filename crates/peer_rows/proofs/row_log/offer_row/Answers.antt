use Rattle.std.proofs.lemmas.Result.{err_from_is_err_and}
use Rattle.peer_rows.specs.declared.row_log.TheConstants.{PASS}
use Rattle.peer_rows.proofs.Taken.{placed_row, refused_row}
use Rattle.peer_rows.proofs.row_log.offer_row.Goals as goal

pub returns-in_err-offer-clause-offers : goal.returns-in_err-offer-clause-offers
returns-in_err-offer-clause-offers g c = λ seen taken.
    let p = err_from_is_err_and c.from_residual.result c.from_residual.ensures.1 in
    rw (p.1, p.2) (refused_row g.R.Row.value seen c.args.log.now c.offer.new.self (record { pass = PASS; row = c.args.row }) taken c.in_err-offer.field-0.0 c.in_err-offer.ensures.answer)

pub returns-clause-offers : goal.returns-clause-offers
returns-clause-offers g c = λ seen taken.
    placed_row g.R.Row.value seen c.args.log.now c.offer.new.self (record { pass = PASS; row = c.args.row }) taken c.in_ok-offer.field-0 c.is_some.result c.is_some.ensures c.in_ok-offer.ensures.answer
