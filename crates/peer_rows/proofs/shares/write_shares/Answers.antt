use Rattle.std.proofs.Common.{◌+◌, ◌<◌, [], length, refl, ◌∙◌, arith}
use Rattle.std.proofs.lemmas.Result.{err_from_is_err_and}
use Rattle.peer_rows.proofs.InShares.{share_left, next_piece}
use Rattle.peer_rows.proofs.Writing.{nothing_written, piece_written, writing_unpaid, writing_stops, all_written}
use Rattle.peer_rows.proofs.shares.write_shares.Goals as goal

pub shares-init : goal.shares-init
shares-init g c = record { writing = λ left are. nothing_written (g.O.Sink.facts c.args.output.now) (left 0) [] (left 0) refl; no_fault = refl }

pub shares-preserved : goal.shares-preserved
shares-preserved g c =
    let o = g.O.Sink.facts c.args.output.now in
    let now = g.O.Sink.facts c.shares.output in
    let k = c.shares.k in
    let within : k < length c.args.shares.now = omega (arith, c.shares-test.true) in
    record {
      writing = λ left are.
          let bytes = c.in-Ok.bytes.items in
          let parts = share_left left c.args.shares.now k c.index-shares-k.result c.in-Ok.bytes are within c.index-shares-k.is c.in-Ok.is in
          let held = next_piece o now (left 0) (left k) bytes (left (k + 1)) parts (c.shares.invariant.writing left are) in
          piece_written o now (left 0) bytes (g.O.Sink.facts c.write_output.new.output) c.deref.result.now [] (left (k + 1)) held c.deref.ensures.value
          c.in_ok-write_output-in-Ok.ensures.writes c.in_ok-write_output-in-Ok.ensures.faults refl;
      no_fault = c.in_ok-write_output-in-Ok.ensures.faults ∙ c.shares.invariant.no_fault;
    }

pub returns-in_err-write_output-in-Ok-clause-writes : goal.returns-in_err-write_output-in-Ok-clause-writes
returns-in_err-write_output-in-Ok-clause-writes g c = λ left are.
    let p = err_from_is_err_and c.from_residual.result c.from_residual.ensures.1 in
    let o = g.O.Sink.facts c.args.output.now in
    let now = g.O.Sink.facts c.shares.output in
    let k = c.shares.k in
    let within : k < length c.args.shares.now = omega (arith, c.shares-test.true) in
    let bytes = c.in-Ok.bytes.items in
    let parts = share_left left c.args.shares.now k c.index-shares-k.result c.in-Ok.bytes are within c.index-shares-k.is c.in-Ok.is in
    let held = next_piece o now (left 0) (left k) bytes (left (k + 1)) parts (c.shares.invariant.writing left are) in
    rw (p.1, p.2) (writing_stops o now (left 0) bytes (g.O.Sink.facts c.write_output.new.output) c.deref.result.now (left (k + 1))
    c.in_err-write_output-in-Ok.field-0.0 held c.deref.ensures.value c.in_err-write_output-in-Ok.ensures.writes)

pub returns-in-Err-clause-writes : goal.returns-in-Err-clause-writes
returns-in-Err-clause-writes g c = λ left are.
    let within : c.shares.k < length c.args.shares.now = omega (arith, c.shares-test.true) in
    writing_unpaid (g.O.Sink.facts c.args.output.now) (g.O.Sink.facts c.shares.output) (left 0) [] (left c.shares.k) (c.shares.invariant.writing left are) (are.some c.shares.k within)

pub returns-clause-writes : goal.returns-clause-writes
returns-clause-writes g c = λ left are.
    all_written (g.O.Sink.facts c.args.output.now) (g.O.Sink.facts c.shares.output) (left 0) [] (left c.shares.k) (c.shares.invariant.writing left are) (are.none c.shares.k (omega (arith, c.shares-test.false)))
