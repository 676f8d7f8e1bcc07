use Rattle.std.proofs.Common.{ℕ, ◌+◌, ◌*◌, ◌≤◌, [], refl, sym, ap, subst, arith}
use Rattle.std.proofs.lemmas.Result.{err_from_is_err_and}
use Rattle.peer_listing.specs.Ranges.{frames_between}
use Rattle.peer_rows.specs.Generate.{generated_frames}
use Rattle.peer_rows.specs.declared.shares.TheConstants.{SHARE, SHARES}
use Rattle.peer_rows.proofs.Generated.{all_left, some_left}
use Rattle.peer_rows.specs.Shares.{AreShares}
use Rattle.peer_rows.proofs.InShares.{shares_left, frame_shares, next_share, last_piece}
use Rattle.peer_rows.proofs.Writing.{nothing_written, piece_written, writing_unpaid, writing_stops, writing_ends}
use Rattle.peer_rows.proofs.generating.write_rows.Goals as goal

pub rounds-init : goal.rounds-init
rounds-init g c =
    record {
      within = omega arith;
      writing = nothing_written (g.O.Sink.facts c.args.output.now) (generated_frames c.args.rows) [] (frames_between 0 c.args.rows) (all_left c.args.rows);
    }

pub returns-in_err-shares-clause-writes : goal.returns-in_err-shares-clause-writes
returns-in_err-shares-clause-writes g c =
    let p = err_from_is_err_and c.from_residual.result c.from_residual.ensures.1 in
    let more : c.rounds.made + SHARES * SHARE ≤ c.args.rows = omega (arith, c.is_worth_threads.ensures c.rounds-test.true, c.rounds.invariant.within) in
    rw (p.1, p.2) (writing_unpaid (g.O.Sink.facts c.args.output.now) (g.O.Sink.facts c.rounds.output) (generated_frames c.args.rows) [] (frames_between c.rounds.made c.args.rows) c.rounds.invariant.writing (some_left c.rounds.made c.args.rows (omega (arith, more))))

pub returns-in_err-write_shares-clause-writes : goal.returns-in_err-write_shares-clause-writes
returns-in_err-write_shares-clause-writes g c =
    let p = err_from_is_err_and c.from_residual-in_err-write_shares.result c.from_residual-in_err-write_shares.ensures.1 in
    let o = g.O.Sink.facts c.args.output.now in
    let now = g.O.Sink.facts c.rounds.output in
    let made = c.rounds.made in
    let next = made + SHARES * SHARE in
    let more : next ≤ c.args.rows = omega (arith, c.is_worth_threads.ensures c.rounds-test.true, c.rounds.invariant.within) in
    let held = next_share o now (generated_frames c.args.rows) made next c.args.rows (omega arith) more c.rounds.invariant.writing in
    let given = shares_left made in
    let are = subst (AreShares given) (sym c.deref.ensures.value) (frame_shares made c.in_ok-shares.shares.items c.in_ok-shares.ensures.shares c.in_ok-shares.ensures.count) in
    rw (p.1, p.2) (writing_stops o now (generated_frames c.args.rows) (frames_between made next) (g.O.Sink.facts c.write_shares.new.output) (given 0) (frames_between next c.args.rows)
    c.in_err-write_shares.field-0.0 held (ap (λ (i : ℕ). frames_between i next) (omega arith)) (c.in_err-write_shares.ensures.writes given are))

pub rounds-preserved : goal.rounds-preserved
rounds-preserved g c =
    let o = g.O.Sink.facts c.args.output.now in
    let now = g.O.Sink.facts c.rounds.output in
    let made = c.rounds.made in
    let next = made + SHARES * SHARE in
    let more : next ≤ c.args.rows = omega (arith, c.is_worth_threads.ensures c.rounds-test.true, c.rounds.invariant.within) in
    let held = next_share o now (generated_frames c.args.rows) made next c.args.rows (omega arith) more c.rounds.invariant.writing in
    let given = shares_left made in
    let are = subst (AreShares given) (sym c.deref.ensures.value) (frame_shares made c.in_ok-shares.shares.items c.in_ok-shares.ensures.shares c.in_ok-shares.ensures.count) in
    record {
      within = more;
      writing =
          piece_written o now (generated_frames c.args.rows) (frames_between made next) (g.O.Sink.facts c.write_shares.new.output) (given 0) [] (frames_between next c.args.rows) held (ap (λ (i : ℕ). frames_between i next) (omega arith))
          (c.in_ok-write_shares.ensures.writes given are) c.in_ok-write_shares.ensures.faults refl;
    }

pub returns-clause-writes : goal.returns-clause-writes
returns-clause-writes g c =
    let o = g.O.Sink.facts c.args.output.now in
    let now = g.O.Sink.facts c.rounds.output in
    let rest = frames_between c.rounds.made c.args.rows in
    writing_ends o now (generated_frames c.args.rows) rest (g.O.Sink.facts c.write_frames.new.output) rest c.write_frames.result
    (last_piece o now (generated_frames c.args.rows) rest c.rounds.invariant.writing) refl c.write_frames.ensures.writes
