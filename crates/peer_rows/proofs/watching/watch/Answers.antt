use Rattle.std.proofs.Common.{ℕ, List, ap, ◌∙◌, subst}
use Rattle.std.specs.String.{string_bytes}
use Rattle.std.proofs.lemmas.Result.{err_from_is_err_and}
use Rattle.sub_hub.specs.Seen.{hub_seen}
use Rattle.peer_image.specs.Image.{image}
use Rattle.peer_image.proofs.Stops.{image_few}
use Rattle.peer_stage.specs.declared.outcome.Done.TheVariants as done
use Rattle.peer_rows.specs.Logged.{live_rows}
use Rattle.peer_rows.specs.Watch.{Puts, hub_begun}
use Rattle.peer_rows.proofs.WatchSteps.{heard_framed, heard_whole, puts, stops_hearing, stops_opening}
use Rattle.peer_rows.proofs.watching.watch.Goals as goal

pub returns-in_err-name-2 : goal.returns-in_err-name-2
returns-in_err-name-2 g c =
    let h = g.H.Shelf.facts c.args.shelf.now in
    let h1 = g.H.Shelf.facts c.get_bytes.new.shelf in
    let i = g.I.Source.facts c.args.input.now in
    let u = hub_seen (λ w. (goal.Watcher-dyn g (w.vtable, w.value)).told w.value) c.args.hub.now in
    let p = err_from_is_err_and c.from_residual-in_err-name-2.result c.from_residual-in_err-name-2.ensures.1 in
    rw (p.1, p.2) (λ others. stops_opening c.args.name c.args.area.now others h h1 i u (c.in_ok-name.name, c.in_ok-name.bytes) c.in_ok-name.ensures.gets c.in_ok-name.ensures.read_faults c.get_bytes.ensures.write_faults
    c.in_ok-area.area c.in_ok-area.ensures c.in_err-name-2.field-0.0 c.in_err-name-2.ensures.stops)

pub returns-in_err-log : goal.returns-in_err-log
returns-in_err-log g c =
    let h = g.H.Shelf.facts c.args.shelf.now in
    let h1 = g.H.Shelf.facts c.get_bytes.new.shelf in
    let i = g.I.Source.facts c.args.input.now in
    let u = hub_seen (λ w. (goal.Watcher-dyn g (w.vtable, w.value)).told w.value) c.args.hub.now in
    let i1 = g.I.Source.facts c.watch_input.new.input in
    let u1 = hub_seen (λ w. (goal.Watcher-dyn g (w.vtable, w.value)).told w.value) c.watch_input.new.hub in
    let bytes = c.in_ok-name.bytes.items in
    let first = c.in_ok-name-2.opening in
    let logged = c.in_ok-name-2.ensures.opens in
    let few = image_few bytes first.kept.namespace logged.rows logged.is_image.is_image in
    let p = err_from_is_err_and c.from_residual-in_err-log.result c.from_residual-in_err-log.ensures.1 in
    rw (p.1, p.2) (λ others. stops_hearing c.args.name c.args.area.now others h h1 i u (c.in_ok-name.name, c.in_ok-name.bytes) c.in_ok-name.ensures.gets c.in_ok-name.ensures.read_faults c.get_bytes.ensures.write_faults
    c.in_ok-area.area c.in_ok-area.ensures first logged i1 u1 c.in_err-log.field-0.0 (c.in_err-log.ensures.watches logged.rows logged.whole few) c.in_err-log.ensures.faults c.watch_input.ensures.ends)

pub put_log-end-requires : goal.put_log-end-requires
put_log-end-requires g c =
    let i = g.I.Source.facts c.args.input.now in
    let u = hub_seen (λ w. (goal.Watcher-dyn g (w.vtable, w.value)).told w.value) c.args.hub.now in
    let i1 = g.I.Source.facts c.watch_input.new.input in
    let u1 = hub_seen (λ w. (goal.Watcher-dyn g (w.vtable, w.value)).told w.value) c.watch_input.new.hub in
    let bytes = c.in_ok-name.bytes.items in
    let first = c.in_ok-name-2.opening in
    let logged = c.in_ok-name-2.ensures.opens in
    let few = image_few bytes first.kept.namespace logged.rows logged.is_image.is_image in
    heard_framed bytes first c.in_ok-log.log logged i i1 (hub_begun (record { namespace = first.kept.namespace; rows = logged.rows }) c.in_ok-area.area u) u1 c.in_ok-log.counts (c.in_ok-log.ensures.watches logged.rows logged.whole few)

pub returns : goal.returns
returns g c =
    let h = g.H.Shelf.facts c.args.shelf.now in
    let h1 = g.H.Shelf.facts c.get_bytes.new.shelf in
    let i = g.I.Source.facts c.args.input.now in
    let u = hub_seen (λ w. (goal.Watcher-dyn g (w.vtable, w.value)).told w.value) c.args.hub.now in
    let i1 = g.I.Source.facts c.watch_input.new.input in
    let u1 = hub_seen (λ w. (goal.Watcher-dyn g (w.vtable, w.value)).told w.value) c.watch_input.new.hub in
    let bytes = c.in_ok-name.bytes.items in
    let first = c.in_ok-name-2.opening in
    let logged = c.in_ok-name-2.ensures.opens in
    let few = image_few bytes first.kept.namespace logged.rows logged.is_image.is_image in
    let log = c.in_ok-log.log in
    let counts = c.in_ok-log.counts in
    let h2 = g.H.Shelf.facts c.put_log-end.new.shelf in
    let written = image log.kept.namespace (live_rows log.kept) in
    let whole = heard_whole bytes first log logged i i1 (hub_begun (record { namespace = first.kept.namespace; rows = logged.rows }) c.in_ok-area.area u) u1 counts (c.in_ok-log.ensures.watches logged.rows logged.whole few) in
    let named = c.as_str.ensures.value ∙ c.in_ok-name-2.ensures.named ∙ ap string_bytes c.in_ok-name.ensures.gets.0 in
    let put = subst (λ (b : List ℕ). Puts b written (done.Watched counts) h1 h2 c.put_log-end.result) named c.put_log-end.ensures.puts in
    λ others. puts c.args.name c.args.area.now others h h1 i u (c.in_ok-name.name, c.in_ok-name.bytes) c.in_ok-name.ensures.gets c.in_ok-name.ensures.read_faults c.get_bytes.ensures.write_faults
    c.in_ok-area.area c.in_ok-area.ensures first logged i1 u1 h2 (written, counts) c.put_log-end.result whole c.in_ok-log.ensures.faults c.watch_input.ensures.ends put c.put_log-end.ensures.read_faults c.put_log-end.ensures.write_faults
