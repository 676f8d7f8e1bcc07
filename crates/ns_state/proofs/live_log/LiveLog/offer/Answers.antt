use Rattle.std.proofs.Common.{◌≡◌, ap, subst}
use Rattle.willow_entry.specs.Row.{new}
use Rattle.ns_state.specs.Log.{values}
use Rattle.ns_state.proofs.Offers.{placed_new, grown_new}
use Rattle.ns_state.proofs.live_log.LiveLog.offer.Goals as goal

pub returns-then-len-ge-LOG_LIMIT-clause-answer : goal.returns-then-len-ge-LOG_LIMIT-clause-answer
returns-then-len-ge-LOG_LIMIT-clause-answer g c = c.offer_full.ensures.answer c.args.pass

pub returns-then-len-ge-LOG_LIMIT-clause-new : goal.returns-then-len-ge-LOG_LIMIT-clause-new
returns-then-len-ge-LOG_LIMIT-clause-new g c =
    let value = g.R.Row.value in
    let log = c.args.self.now.log in
    grown_new value log log (record { pass = c.args.pass; row = c.args.row }) (subst (λ l. new (values value l) ≡ values value l) (ap (λ s. s.log) c.self.view_is) c.self.invariant.0.fresh)
    c.offer_full.result (c.offer_full.ensures.answer c.args.pass)

pub returns-clause-new : goal.returns-clause-new
returns-clause-new g c =
    let value = g.R.Row.value in
    placed_new value c.args.self.now.log c.place.new.self.log (record { pass = c.args.pass; row = c.args.row }) (subst (λ l. new (values value l) ≡ values value l) (ap (λ s. s.log) c.self.view_is) c.self.invariant.0.fresh)
    c.in_ok-place.field-0 c.in_ok-place.ensures.placed
