use Rattle.std.proofs.Common.{◌≡◌, ◌++◌, length, sym, ◌∙◌, subst, refl, arith}
use Rattle.std.specs.List.{flat_map}
use Rattle.std.proofs.lemmas.Result.{err_from_is_err_and}
use Rattle.auth_entry.specs.Rows.{entry_row}
use Rattle.peer_listing.specs.Listing.{listing_head}
use Rattle.peer_stage.specs.Stages.{IsWritten, WritesOutput}
use Rattle.peer_stage.proofs.Pieces.{both_end}
use Rattle.peer_rows.specs.Logged.{live_rows}
use Rattle.peer_rows.specs.Listed.{asked_rows, log_listing, row_line}
use Rattle.peer_rows.proofs.Listed.{listing_unpaid, rows_text}
use Rattle.peer_rows.proofs.Writing.{nothing_written, writing_stops}
use Rattle.peer_rows.proofs.listing.write_listing.Goals as goal
use Rattle.peer_rows.proofs.listing.write_listing.Goals.{In_ok-head}

text : (g : _) (c : In_ok-head g) → c.in_ok-head.head.items ++ flat_map row_line c.in_ok-rows.rows.items ≡ log_listing c.args.newest c.args.log.now.namespace (live_rows c.args.log.now)
text g c =
    let log = c.args.log.now in
    let items = c.in_ok-rows.rows.items in
    let count : c.len.result ≡ length items = omega (arith, c.len.ensures, c.in_ok-rows.rows.ok.0) in
    rows_text log.namespace (λ row. entry_row row.now) items (asked_rows c.args.newest (live_rows log)) c.in_ok-head.head.items (flat_map row_line items) c.in_ok-rows.ensures
    (◌∙◌ {b = listing_head c.namespace.result c.len.result} c.in_ok-head.ensures (λ i. listing_head (c.namespace.ensures i) (count i))) refl

pub returns-in_err-rows-clause-writes : goal.returns-in_err-rows-clause-writes
returns-in_err-rows-clause-writes g c =
    let p = err_from_is_err_and c.from_residual.result c.from_residual.ensures.1 in
    let log = c.args.log.now in
    rw (p.1, p.2) (listing_unpaid (g.O.Sink.facts c.args.output.now) log.namespace (asked_rows c.args.newest (live_rows log)))

pub returns-in_err-head-clause-writes : goal.returns-in_err-head-clause-writes
returns-in_err-head-clause-writes g c =
    let p = err_from_is_err_and c.from_residual-in_err-head.result c.from_residual-in_err-head.ensures.1 in
    let log = c.args.log.now in
    rw (p.1, p.2) (listing_unpaid (g.O.Sink.facts c.args.output.now) log.namespace (asked_rows c.args.newest (live_rows log)))

pub returns-in_err-write_output-clause-writes : goal.returns-in_err-write_output-clause-writes
returns-in_err-write_output-clause-writes g c =
    let p = err_from_is_err_and c.from_residual-in_err-write_output.result c.from_residual-in_err-write_output.ensures.1 in
    let o = g.O.Sink.facts c.args.output.now in
    let log = c.args.log.now in
    let whole = log_listing c.args.newest log.namespace (live_rows log) in
    let head = c.in_ok-head.head.items in
    let lines = flat_map row_line c.in_ok-rows.rows.items in
    let all = text g (goal.at.returns-in_err-write_output-clause-writes g c).In_ok-head in
    rw (p.1, p.2) (writing_stops o o whole head (g.O.Sink.facts c.write_output.new.output) c.deref.result.now lines c.in_err-write_output.field-0.0 (nothing_written o whole head lines (sym all)) c.deref.ensures.value c.in_err-write_output.ensures.writes)

pub returns-clause-writes : goal.returns-clause-writes
returns-clause-writes g c =
    let o = g.O.Sink.facts c.args.output.now in
    let mid = g.O.Sink.facts c.write_output.new.output in
    let o' = g.O.Sink.facts c.write_lines.new.output in
    let head = c.in_ok-head.head.items in
    let lines = flat_map row_line c.in_ok-rows.rows.items in
    let all = text g (goal.at.returns-clause-writes g c).In_ok-head in
    subst (λ l. WritesOutput o o' l c.write_lines.result) all
    (both_end o mid o' head lines c.write_lines.result (subst (λ l. IsWritten o mid l) c.deref.ensures.value c.in_ok-write_output.ensures.writes) c.in_ok-write_output.ensures.faults
    (subst (λ l. WritesOutput mid o' (flat_map row_line l) c.write_lines.result) c.deref-2.ensures.value c.write_lines.ensures.writes))
