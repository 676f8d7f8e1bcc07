use Rattle.std.proofs.Common.{refl}
use Rattle.std.proofs.lemmas.Result.{err_from_is_err_and}
use Rattle.std.specs.Prelude.{Ok, Err}
use Rattle.peer_stage.specs.declared.outcome.Done.TheVariants as done
use Rattle.peer_stage.proofs.Steps.{reads_and_writes, stops_reading, stops_writing, has_written}
use Rattle.peer_rows.specs.Listed.{shown}
use Rattle.peer_rows.specs.Show.{ShowsInput}
use Rattle.peer_rows.proofs.showing.show.Goals as goal

pub returns-in_err-log : goal.returns-in_err-log
returns-in_err-log g c =
    let p = err_from_is_err_and c.from_residual.result c.from_residual.ensures.1 in
    let asked = c.args.newest in
    rw (p.1, p.2) (λ others. stops_reading (ShowsInput asked) (λ x. x.0) (λ x. done.Shown x.1) others (g.I.Source.facts c.args.input.now) (g.I.Source.facts c.show_input.new.input) (g.O.Sink.facts c.args.output.now)
    c.in_err-log.field-0.0 (c.in_err-log.ensures.shows asked) c.in_err-log.ensures.faults c.show_input.ensures.ends)

pub returns-in_err-write_listing : goal.returns-in_err-write_listing
returns-in_err-write_listing g c =
    let p = err_from_is_err_and c.from_residual-in_err-write_listing.result c.from_residual-in_err-write_listing.ensures.1 in
    let o = g.O.Sink.facts c.args.output.now in
    let o' = g.O.Sink.facts c.write_listing.new.output in
    let e = c.in_err-write_listing.field-0.0 in
    let asked = c.args.newest in
    let x = shown asked c.in_ok-log.log in
    rw (p.1, p.2) (λ others. reads_and_writes (ShowsInput asked) (λ x. x.0) (λ x. done.Shown x.1) others (g.I.Source.facts c.args.input.now) (g.I.Source.facts c.show_input.new.input) o o'
    x (Err e) (c.in_ok-log.ensures.shows asked) c.in_ok-log.ensures.faults c.show_input.ensures.ends
    (stops_writing x.0 x.0 (done.Shown x.1) o o' e refl c.in_err-write_listing.ensures.writes) c.in_err-write_listing.ensures.faults)

pub returns : goal.returns
returns g c =
    let o = g.O.Sink.facts c.args.output.now in
    let o' = g.O.Sink.facts c.write_listing.new.output in
    let asked = c.args.newest in
    let x = shown asked c.in_ok-log.log in
    let is_done = done.Shown x.1 in
    rw c.show_counts-counts.ensures (λ others. reads_and_writes (ShowsInput asked) (λ x. x.0) (λ x. done.Shown x.1) others (g.I.Source.facts c.args.input.now) (g.I.Source.facts c.show_input.new.input) o o'
    x (Ok is_done) (c.in_ok-log.ensures.shows asked) c.in_ok-log.ensures.faults c.show_input.ensures.ends
    (has_written x.0 x.0 is_done o o' refl c.in_ok-write_listing.ensures.writes) c.in_ok-write_listing.ensures.faults)
