-- The laws of the machine of a log.
use Rattle.std.proofs.Common.{◌≡◌, ◌↔◌, ◌≤◌, Bool, true, false, cond, nat_lt, List, [], ◌∷◌, ◌++◌, length, Contains, refl, sym, ap, ◌∙◌, subst, append_assoc, append-nil, length-append, ltb-true, arith}
use Rattle.std.proofs.lemmas.List.{map-append}
use Rattle.std.proofs.lemmas.Bool.{ltb-true, both_ways}
use Rattle.willow_entry.specs.LogRow.{LogValue}
use Rattle.willow_entry.specs.Row.{RowValue, is_covering, live, new, HasCovering}
use Rattle.willow_entry.proofs.Members.{contains_from_member, member_from_contains, member_append_left, any_true}
use Rattle.willow_entry.proofs.RowLaws.{covering_means}
use Rattle.willow_entry.proofs.Live.{live-covered, live_covers, live_early_left, live_same_members}
use Rattle.ns_state.specs.Machine.{Event, Offer, Snapshot, Reply, StoredAt, Covered, Full, rows_logged, is_covered, reply, log_after, next, run, taken, unrefused, accepted}
use Rattle.ns_state.specs.declared.live_log.TheConstants.{LOG_LIMIT}
use Rattle.ns_state.proofs.NewRows.{covered_test, new-with_covered, new-with_uncovered, covering_alike, covering_of_new, new_covering}

covering_from_test : (log : List LogValue) (r : RowValue) → is_covered log r ≡ true → HasCovering (rows_logged log) r
covering_from_test log r t =
    let found = any_true (λ s. is_covering s r) (rows_logged log) t in
    (found.0, contains_from_member (rows_logged log) found.0 found.1, (covering_means found.0 r).0 found.2)

none_from_test : (log : List LogValue) (r : RowValue) → is_covered log r ≡ false → HasCovering (rows_logged log) r → ⊥
none_from_test log r f h = both_ways (is_covered log r) f (covered_test (rows_logged log) r h)

rows_more : (log : List LogValue) (l : LogValue) → rows_logged (log ++ l ∷ []) ≡ rows_logged log ++ l.row ∷ []
rows_more log l = map-append (λ (k : LogValue). k.row) log (l ∷ [])

-- ---- one event

-- where what is new of some rows is the log's rows, it is so with the event's row behind them
step_new : (log : List LogValue) (rows : List RowValue) (e : Event) → rows_logged log ≡ new rows → rows_logged (next log e) ≡ new (rows ++ taken e (reply log e))
unfolding reply
step_new log rows (Offer l) is =
    let after : Bool → Bool → Reply = λ b c. cond b Covered (cond c (StoredAt (length log)) Full) in
    let P : Bool → Type 0 = λ b. is_covered log l.row ≡ b → (c : Bool) → rows_logged (log_after log (Offer l) (after b c)) ≡ new (rows ++ taken (Offer l) (after b c)) in
    let each : (b : Bool) → P b = elim [
      | true ↦ λ t c. is ∙ sym (new-with_covered rows l.row (covering_of_new rows l.row (subst (λ k. HasCovering k l.row) is (covering_from_test log l.row t))))
      | false ↦ λ f. elim [
        | true ↦ rows_more log l ∙ ap (λ k. k ++ l.row ∷ []) is
            ∙ sym (new-with_uncovered rows l.row (λ h. none_from_test log l.row f (subst (λ k. HasCovering k l.row) (sym is) (new_covering rows l.row h))))
        | false ↦ is ∙ ap new (sym (append-nil rows))
      ]
    ] in
    each (is_covered log l.row) refl (nat_lt (length log) LOG_LIMIT)
step_new log rows (Snapshot pass) is = is ∙ ap new (sym (append-nil rows))

-- where the same is live of some rows as of the log's, it is so with the event's row behind them
step_live : (log : List LogValue) (rows : List RowValue) (e : Event) → live (rows_logged log) ≡ live rows → live (rows_logged (next log e)) ≡ live (rows ++ taken e (reply log e))
unfolding reply
step_live log rows (Offer l) is =
    let after : Bool → Bool → Reply = λ b c. cond b Covered (cond c (StoredAt (length log)) Full) in
    let P : Bool → Type 0 = λ b. is_covered log l.row ≡ b → (c : Bool) → live (rows_logged (log_after log (Offer l) (after b c))) ≡ live (rows ++ taken (Offer l) (after b c)) in
    let each : (b : Bool) → P b = elim [
      | true ↦ λ t c. is ∙ sym (live-covered rows l.row (covering_alike (rows_logged log) rows l.row is (covering_from_test log l.row t)))
      | false ↦ λ f. elim [
        | true ↦ ap live (rows_more log l) ∙ sym (live_early_left (rows_logged log) (l.row ∷ [])) ∙ ap (λ k. live (k ++ l.row ∷ [])) is ∙ live_early_left rows (l.row ∷ [])
        | false ↦ is ∙ ap live (sym (append-nil rows))
      ]
    ] in
    each (is_covered log l.row) refl (nat_lt (length log) LOG_LIMIT)
step_live log rows (Snapshot pass) is = is ∙ ap live (sym (append-nil rows))

step_short : (log : List LogValue) (e : Event) → length log ≤ LOG_LIMIT → length (next log e) ≤ LOG_LIMIT
unfolding reply
step_short log (Offer l) short =
    let P : Bool → Type 0 = λ c. nat_lt (length log) LOG_LIMIT ≡ c → (b : Bool) → length (log_after log (Offer l) (cond b Covered (cond c (StoredAt (length log)) Full))) ≤ LOG_LIMIT in
    let each : (c : Bool) → P c = elim [
      | true ↦ λ t. elim [ true ↦ short | false ↦ omega (arith, length-append log (l ∷ []), ltb-true (length log) LOG_LIMIT t) ]
      | false ↦ λ f. elim [ true ↦ short | false ↦ short ]
    ] in
    each (nat_lt (length log) LOG_LIMIT) refl (is_covered log l.row)
step_short log (Snapshot pass) short = short

step_grows : (log : List LogValue) (e : Event) → (more : List LogValue) × (next log e ≡ log ++ more)
unfolding reply
step_grows log (Offer l) =
    let P : Bool → Bool → Type 0 = λ b c. (more : List LogValue) × (log_after log (Offer l) (cond b Covered (cond c (StoredAt (length log)) Full)) ≡ log ++ more) in
    let each : (b c : Bool) → P b c = elim [
      | true ↦ λ c. ([], sym (append-nil log))
      | false ↦ elim [ true ↦ (l ∷ [], refl) | false ↦ ([], sym (append-nil log)) ]
    ] in
    each (is_covered log l.row) (nat_lt (length log) LOG_LIMIT)
step_grows log (Snapshot pass) = ([], sym (append-nil log))

-- ---- all events

new_from : (log : List LogValue) (rows : List RowValue) (events : List Event) → rows_logged log ≡ new rows → rows_logged (run log events) ≡ new (rows ++ unrefused log events)
new_from log rows [] is = is ∙ ap new (sym (append-nil rows))
new_from log rows (e ∷ es) is =
    new_from (next log e) (rows ++ taken e (reply log e)) es (step_new log rows e is) ∙ ap new (append_assoc rows (taken e (reply log e)) (unrefused (next log e) es))

live_from : (log : List LogValue) (rows : List RowValue) (events : List Event) → live (rows_logged log) ≡ live rows → live (rows_logged (run log events)) ≡ live (rows ++ unrefused log events)
live_from log rows [] is = is ∙ ap live (sym (append-nil rows))
live_from log rows (e ∷ es) is =
    live_from (next log e) (rows ++ taken e (reply log e)) es (step_live log rows e is) ∙ ap live (append_assoc rows (taken e (reply log e)) (unrefused (next log e) es))

pub run_live : (log : List LogValue) (events : List Event) → live (rows_logged (run log events)) ≡ live (accepted log events)
run_live log events = live_from log (rows_logged log) events refl

pub run_new : (log : List LogValue) (events : List Event) → new (rows_logged log) ≡ rows_logged log → rows_logged (run log events) ≡ new (accepted log events)
run_new log events fresh = new_from log (rows_logged log) events (sym fresh)

pub run_short : (log : List LogValue) (events : List Event) → length log ≤ LOG_LIMIT → length (run log events) ≤ LOG_LIMIT
run_short log [] short = short
run_short log (e ∷ es) short = run_short (next log e) es (step_short log e short)

pub run_same : (log log' : List LogValue) (events events' : List Event) → ((r : RowValue) → Contains (accepted log events) r ↔ Contains (accepted log' events') r) → live (rows_logged (run log events)) ≡ live (rows_logged (run log' events'))
run_same log log' events events' same = run_live log events ∙ live_same_members (accepted log events) (accepted log' events') same ∙ sym (run_live log' events')

pub never_lost : (log more : List LogValue) (r : RowValue) → Contains (rows_logged log) r → HasCovering (live (rows_logged (log ++ more))) r
never_lost log more r c =
    let there = contains_from_member (rows_logged log ++ rows_logged more) r (member_append_left (rows_logged log) (rows_logged more) r (member_from_contains (rows_logged log) r c)) in
    subst (λ l. HasCovering (live l) r) (sym (map-append (λ (k : LogValue). k.row) log more)) (live_covers (rows_logged log ++ rows_logged more) r there)

pub run_grows : (log : List LogValue) (events : List Event) → (more : List LogValue) × (run log events ≡ log ++ more)
run_grows log [] = ([], sym (append-nil log))
run_grows log (e ∷ es) =
    let one = step_grows log e in
    let rest = run_grows (next log e) es in
    (one.0 ++ rest.0, rest.1 ∙ ap (λ l. l ++ rest.0) one.1 ∙ append_assoc log one.0 rest.0)
