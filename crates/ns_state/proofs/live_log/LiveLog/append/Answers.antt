use Rattle.std.proofs.Common.{◌<◌, [], ◌∷◌, ◌++◌, map, length, sym, ap, ◌∙◌, subst, arith}
use Rattle.std.proofs.lemmas.List.{map-append, length-map}
use Rattle.willow_entry.specs.Row.{HasCovering, live}
use Rattle.ns_state.specs.Log.{values, plain_row}
use Rattle.ns_state.specs.declared.live_log.TheConstants.{LOG_LIMIT}
use Rattle.ns_state.proofs.Logs.{store_short}
use Rattle.ns_state.proofs.Growing.{grown, log_covers}
use Rattle.ns_state.proofs.live_log.LiveLog.append.Goals as goal

pub ingest_at-requires-clause-room : goal.ingest_at-requires-clause-room
ingest_at-requires-clause-room g c = omega (arith, store_short g.R.Row.value c.self.inside.store (map plain_row c.self.inside.log.items) c.self.invariant.1 c.self.invariant.0.few)

pub ingest_at-requires-clause-uncovered : goal.ingest_at-requires-clause-uncovered
ingest_at-requires-clause-uncovered g c = λ h.
    let value = g.R.Row.value in
    let inside = c.self.inside in
    let is_row = ap value c.in_ok-shared.ensures.cases ∙ ap value c.in_ok-held.ensures.ok in
    c.requires.uncovered (subst (λ l. HasCovering (values value l) (value c.args.row)) (ap (λ s. s.log) c.self.view_is)
    (log_covers value (map plain_row inside.log.items) inside.store c.self.invariant.1 (value c.args.row) (subst (HasCovering (map value inside.store)) is_row h)))

pub invariant_of-self-2 : goal.invariant_of-self-2
invariant_of-self-2 g c =
    let value = g.R.Row.value in
    let inside = c.self.inside in
    let log = inside.log.items in
    let is_row = ap value c.in_ok-shared.ensures.cases ∙ ap value c.in_ok-held.ensures.ok in
    grown value inside.namespace log c.push_reserved.new.self.items inside.store c.ingest_at.new.self
    (record { pass = c.args.pass; row = c.in_ok-held.held }) (record { pass = c.args.pass; row = c.args.row }) c.self.invariant (ap (λ x. record { pass = c.args.pass; row = x }) c.in_ok-held.ensures.ok)
    (c.push_reserved.ensures.items ∙ ap (λ l. l ++ record { pass = c.args.pass; row = c.in_ok-held.held } ∷ []) c.in_ok-reserve.ensures.items)
    (subst (λ l. length l < LOG_LIMIT) (sym (ap (λ s. s.log) c.self.view_is)) c.requires.room)
    (c.requires.namespace ∙ sym (ap (λ s. s.namespace) c.self.view_is))
    (λ h. c.requires.uncovered (subst (λ l. HasCovering (values value l) (value c.args.row)) (ap (λ s. s.log) c.self.view_is) (log_covers value (map plain_row log) inside.store c.self.invariant.1 (value c.args.row) h)))
    (c.in_ok-ingest_at.ensures.rows ∙ ap (λ s. live (map value inside.store ++ s ∷ [])) is_row)

pub returns-clause-stored : goal.returns-clause-stored
returns-clause-stored g c =
    let inside = c.self.inside in
    let log = inside.log.items in
    let seen = ap (λ s. s.log) c.self.view_is in
    record {
      uncovered = c.requires.uncovered;
      room = c.requires.room;
      at_is = omega (arith, c.len-at.ensures, c.reserve.new.self.ok.0, ap length c.in_ok-reserve.ensures.items, length-map log plain_row, ap length seen);
      log_is =
          ap (map plain_row) (c.push_reserved.ensures.items ∙ ap (λ l. l ++ record { pass = c.args.pass; row = c.in_ok-held.held } ∷ []) c.in_ok-reserve.ensures.items)
          ∙ map-append plain_row log (record { pass = c.args.pass; row = c.in_ok-held.held } ∷ [])
          ∙ ap (λ x. map plain_row log ++ record { pass = c.args.pass; row = x } ∷ []) c.in_ok-held.ensures.ok
          ∙ ap (λ l. l ++ record { pass = c.args.pass; row = c.args.row } ∷ []) seen;
    }

pub returns-clause-log : goal.returns-clause-log
returns-clause-log g c = (invariant_of-self-2 g c).0
