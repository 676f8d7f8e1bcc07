use Rattle.std.proofs.Common.{refl, sym, subst}
use Rattle.std.proofs.lemmas.Result.{err_from_is_err_and}
use Rattle.sub_hub.specs.Seen.{hub_seen}
use Rattle.peer_rows.specs.Logged.{AreCounts}
use Rattle.peer_rows.specs.declared.log.Log.{Log}
use Rattle.peer_rows.proofs.WatchSteps.{begun_is, opens_reading, watched_all, watched_none, watched_stops}
use Rattle.peer_rows.proofs.watching.watch_input.Goals as goal

pub returns-in_err-checker-clause-watches : goal.returns-in_err-checker-clause-watches
returns-in_err-checker-clause-watches g c = λ had whole few.
    let opening = c.args.opening in
    let i = g.I.Source.facts c.args.input.now in
    let h = hub_seen (λ w. (goal.Watcher-dyn g (w.vtable, w.value)).told w.value) c.args.hub.now in
    let begun = hub_seen (λ w. (goal.Watcher-dyn g (w.vtable, w.value)).told w.value) c.begin.new.self in
    let p = err_from_is_err_and c.from_residual.result c.from_residual.ensures.1 in
    rw (p.1, p.2) (watched_none opening had whole i i h begun c.args.area begun (begun_is opening had whole h begun c.args.area c.front.result c.begin.ensures c.front.ensures.front) opening refl refl refl)

pub returns-in_err-reading-clause-watches : goal.returns-in_err-reading-clause-watches
returns-in_err-reading-clause-watches g c = λ had whole few.
    let opening = c.args.opening in
    let i = g.I.Source.facts c.args.input.now in
    let h = hub_seen (λ w. (goal.Watcher-dyn g (w.vtable, w.value)).told w.value) c.args.hub.now in
    let begun = hub_seen (λ w. (goal.Watcher-dyn g (w.vtable, w.value)).told w.value) c.begin.new.self in
    let p = err_from_is_err_and c.from_residual-in_err-reading.result c.from_residual-in_err-reading.ensures.1 in
    rw (p.1, p.2) (watched_none opening had whole i i h begun c.args.area begun (begun_is opening had whole h begun c.args.area c.front.result c.begin.ensures c.front.ensures.front) opening refl refl refl)

pub hear_input-requires-clause-opened : goal.hear_input-requires-clause-opened
hear_input-requires-clause-opened g c κs within =
    let had = c.requires.0 in
    let i = g.I.Source.facts c.args.input.now in
    let reading = c.in_ok-reading in
    let intake = c.behind-intake in
    (had, opens_reading c.args.opening had c.requires.1 i reading.reading intake.result c.requires.2 reading.ensures.stream reading.ensures.room reading.ensures.all intake.ensures.log intake.ensures.none_wait)

pub returns-in_err-left-clause-watches : goal.returns-in_err-left-clause-watches
returns-in_err-left-clause-watches g c = λ had whole few.
    let opening = c.args.opening in
    let i = g.I.Source.facts c.args.input.now in
    let h = hub_seen (λ w. (goal.Watcher-dyn g (w.vtable, w.value)).told w.value) c.args.hub.now in
    let begun = hub_seen (λ w. (goal.Watcher-dyn g (w.vtable, w.value)).told w.value) c.begin.new.self in
    let i' = g.I.Source.facts c.hear_input.new.input in
    let h' = hub_seen (λ w. (goal.Watcher-dyn g (w.vtable, w.value)).told w.value) c.hear_input.new.hub in
    let intake = c.behind-intake.result in
    let ready = opens_reading opening had whole i c.in_ok-reading.reading intake few c.in_ok-reading.ensures.stream c.in_ok-reading.ensures.room c.in_ok-reading.ensures.all c.behind-intake.ensures.log c.behind-intake.ensures.none_wait in
    let p = err_from_is_err_and c.from_residual-in_err-left.result c.from_residual-in_err-left.ensures.1 in
    rw (p.1, p.2) (watched_stops opening had whole i i' h h' c.args.area begun (begun_is opening had whole h begun c.args.area c.front.result c.begin.ensures c.front.ensures.front) intake.log c.behind-intake.ensures.log
    c.hear_input.new.intake.log c.in_err-left.field-0.0 (c.in_err-left.ensures.hears had ready))

pub counts_behind-counts-requires : goal.counts_behind-counts-requires
counts_behind-counts-requires g c =
    let opening = c.args.opening in
    let i = g.I.Source.facts c.args.input.now in
    let had = c.requires.0 in
    let whole = c.requires.1 in
    let intake = c.behind-intake.result in
    let ready = opens_reading opening had whole i c.in_ok-reading.reading intake c.requires.2 c.in_ok-reading.ensures.stream c.in_ok-reading.ensures.room c.in_ok-reading.ensures.all c.behind-intake.ensures.log c.behind-intake.ensures.none_wait in
    let heard = c.in_ok-left.ensures.hears had ready in
    let before = subst (λ (log : Log). AreCounts log.kept.namespace had opening.counts) (sym c.behind-intake.ensures.log) whole.is_log.counted in
    (intake.log.kept.namespace, had, heard.read.rows, before, heard.read.whole.is_log.counted)

pub returns-clause-watches : goal.returns-clause-watches
returns-clause-watches g c = λ had whole few.
    let opening = c.args.opening in
    let i = g.I.Source.facts c.args.input.now in
    let h = hub_seen (λ w. (goal.Watcher-dyn g (w.vtable, w.value)).told w.value) c.args.hub.now in
    let begun = hub_seen (λ w. (goal.Watcher-dyn g (w.vtable, w.value)).told w.value) c.begin.new.self in
    let i' = g.I.Source.facts c.hear_input.new.input in
    let h' = hub_seen (λ w. (goal.Watcher-dyn g (w.vtable, w.value)).told w.value) c.hear_input.new.hub in
    let intake = c.behind-intake.result in
    let ready = opens_reading opening had whole i c.in_ok-reading.reading intake few c.in_ok-reading.ensures.stream c.in_ok-reading.ensures.room c.in_ok-reading.ensures.all c.behind-intake.ensures.log c.behind-intake.ensures.none_wait in
    watched_all opening had whole i i' h h' c.args.area begun (begun_is opening had whole h begun c.args.area c.front.result c.begin.ensures c.front.ensures.front) intake.log c.behind-intake.ensures.log
    c.hear_input.new.intake.log c.in_ok-left.left c.counts_behind-counts.result (c.in_ok-left.ensures.hears had ready) c.counts_behind-counts.ensures.left c.counts_behind-counts.ensures.counted
