use Rattle.std.proofs.Common.{Ok, refl, subst}
use Rattle.willow_entry.specs.Row.{IsCoveringAt, HasCovering}
use Rattle.ns_state.specs.declared.state.Told.TheVariants.{Kept}
use Rattle.ns_state.specs.Log.{IsLog, values}
use Rattle.ns_state.proofs.Offers.{offer_from_answer, answer_new, answer_live, answer_covers}
use Rattle.ns_state.proofs.state.NsState.ingest.Goals as goal

pub returns-in-Ok-clause-offer : goal.returns-in-Ok-clause-offer
returns-in-Ok-clause-offer g c =
    let value = g.R.Row.value in
    let covers = subst (λ s. IsCoveringAt (values value s.log) c.in-Ok.at (value c.args.row)) c.self.view_is c.in-Ok.ensures.found in
    offer_from_answer value c.args.self.now.log (record { pass = c.args.pass; row = c.args.row }) c.args.self.now.log (Ok (Kept c.in-Ok.at)) (record { covers = covers; log_is = refl })

pub returns-in-Ok-clause-live : goal.returns-in-Ok-clause-live
returns-in-Ok-clause-live g c =
    let value = g.R.Row.value in
    let log = c.args.self.now.log in
    let covers = subst (λ s. IsCoveringAt (values value s.log) c.in-Ok.at (value c.args.row)) c.self.view_is c.in-Ok.ensures.found in
    let is_log = subst (λ s. IsLog value s.namespace s.log) c.self.view_is c.in-Ok.ensures.log in
    answer_live value log log (record { pass = c.args.pass; row = c.args.row }) is_log.fresh (Ok (Kept c.in-Ok.at)) (record { covers = covers; log_is = refl })

pub returns-in-Ok-clause-new : goal.returns-in-Ok-clause-new
returns-in-Ok-clause-new g c =
    let value = g.R.Row.value in
    let log = c.args.self.now.log in
    let covers = subst (λ s. IsCoveringAt (values value s.log) c.in-Ok.at (value c.args.row)) c.self.view_is c.in-Ok.ensures.found in
    let is_log = subst (λ s. IsLog value s.namespace s.log) c.self.view_is c.in-Ok.ensures.log in
    answer_new value log log (record { pass = c.args.pass; row = c.args.row }) is_log.fresh (Ok (Kept c.in-Ok.at)) (record { covers = covers; log_is = refl })

pub offer_new-requires-clause-uncovered : goal.offer_new-requires-clause-uncovered
offer_new-requires-clause-uncovered g c = subst (λ s. HasCovering (values g.R.Row.value s.log) (g.R.Row.value c.args.row) → ⊥) c.self.view_is c.in-Err.ensures.none

pub returns-in-Err-clause-offer : goal.returns-in-Err-clause-offer
returns-in-Err-clause-offer g c =
    offer_from_answer g.R.Row.value c.args.self.now.log (record { pass = c.args.pass; row = c.args.row }) c.offer_new.new.self.log c.offer_new.result c.offer_new.ensures.answer

pub returns-in-Err-clause-live : goal.returns-in-Err-clause-live
returns-in-Err-clause-live g c =
    let is_log = subst (λ s. IsLog g.R.Row.value s.namespace s.log) c.self.view_is c.in-Err.ensures.log in
    answer_live g.R.Row.value c.args.self.now.log c.offer_new.new.self.log (record { pass = c.args.pass; row = c.args.row }) is_log.fresh c.offer_new.result c.offer_new.ensures.answer

pub returns-in-Err-clause-new : goal.returns-in-Err-clause-new
returns-in-Err-clause-new g c =
    let is_log = subst (λ s. IsLog g.R.Row.value s.namespace s.log) c.self.view_is c.in-Err.ensures.log in
    answer_new g.R.Row.value c.args.self.now.log c.offer_new.new.self.log (record { pass = c.args.pass; row = c.args.row }) is_log.fresh c.offer_new.result c.offer_new.ensures.answer

pub returns-in-Err-clause-covers : goal.returns-in-Err-clause-covers
returns-in-Err-clause-covers g c =
    let is_log = subst (λ s. IsLog g.R.Row.value s.namespace s.log) c.self.view_is c.in-Err.ensures.log in
    answer_covers g.R.Row.value c.args.self.now.log c.offer_new.new.self.log (record { pass = c.args.pass; row = c.args.row }) is_log.fresh c.offer_new.result c.offer_new.ensures.answer
