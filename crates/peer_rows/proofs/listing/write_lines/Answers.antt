use Rattle.std.proofs.Common.{◌≡◌, ◌+◌, ◌<◌, ◌≤◌, [], ◌++◌, length, drop, refl, sym, ap, subst, zero-mul, arith}
use Rattle.std.specs.List.{flat_map}
use Rattle.std.proofs.lemmas.Result.{err_from_is_err_and}
use Rattle.std.proofs.lemmas.List.{drop_all, length-drop}
use Rattle.peer_rows.specs.Listed.{row_line}
use Rattle.peer_rows.specs.Shares.{AreShares}
use Rattle.peer_rows.proofs.InShares.{lines_left, lines_part, next_piece, some_lines}
use Rattle.peer_rows.proofs.Listed.{row_some}
use Rattle.peer_rows.proofs.Writing.{nothing_written, piece_written, writing_stops, writing_unpaid, all_written}
use Rattle.peer_rows.proofs.listing.write_lines.Goals as goal
use Rattle.peer_rows.proofs.listing.write_lines.Goals.{After-line_shares}

pub rounds-init : goal.rounds-init
rounds-init g c = record {
  within = omega arith;
  writing = nothing_written (g.O.Sink.facts c.args.output.now) (flat_map row_line c.args.rows.now) [] (flat_map row_line c.args.rows.now) refl;
}

-- the lines of a round are the piece to be written next
next_round : (g : _) (c : After-line_shares g) → flat_map row_line (drop c.rounds.made c.args.rows.now) ≡ flat_map row_line c.split_at-in-rounds.result.0.now ++ flat_map row_line (drop (c.rounds.made + length c.split_at-in-rounds.result.0.now) c.args.rows.now)
next_round g c =
    lines_part row_line c.rounds.made c.min.result c.args.rows.now c.split_at.result.1.now c.split_at-in-rounds.result.0.now c.split_at.ensures.back c.split_at-in-rounds.ensures.front c.split_at-in-rounds.ensures.front_len

pub returns-in_err-shares-clause-writes : goal.returns-in_err-shares-clause-writes
returns-in_err-shares-clause-writes g c =
    let p = err_from_is_err_and c.from_residual.result c.from_residual.ensures.1 in
    let left = drop c.rounds.made c.args.rows.now in
    let some : 0 < length left = omega (arith, c.rounds-test.true, length-drop c.rounds.made c.args.rows.now) in
    rw (p.1, p.2) (writing_unpaid (g.O.Sink.facts c.args.output.now) (g.O.Sink.facts c.rounds.output) (flat_map row_line c.args.rows.now) [] (flat_map row_line left) c.rounds.invariant.writing (some_lines row_line left row_some some))

pub returns-in_err-write_shares-clause-writes : goal.returns-in_err-write_shares-clause-writes
returns-in_err-write_shares-clause-writes g c =
    let p = err_from_is_err_and c.from_residual-in_err-write_shares.result c.from_residual-in_err-write_shares.ensures.1 in
    let o = g.O.Sink.facts c.args.output.now in
    let now = g.O.Sink.facts c.rounds.output in
    let rows = c.args.rows.now in
    let whole = flat_map row_line rows in
    let round = c.split_at-in-rounds.result.0.now in
    let behind = flat_map row_line (drop (c.rounds.made + length round) rows) in
    let held = next_piece o now whole (flat_map row_line (drop c.rounds.made rows)) (flat_map row_line round) behind (next_round g (goal.at.returns-in_err-write_shares-clause-writes g c).After-line_shares) c.rounds.invariant.writing in
    let size = c.share_of-share.result in
    let given = lines_left row_line size round in
    let are = subst (AreShares given) (sym c.deref.ensures.value) c.in_ok-shares.ensures in
    rw (p.1, p.2) (writing_stops o now whole (flat_map row_line round) (g.O.Sink.facts c.write_shares.new.output) (given 0) behind
    c.in_err-write_shares.field-0.0 held (ap (λ k. flat_map row_line (drop k round)) (zero-mul size)) (c.in_err-write_shares.ensures.writes given are))

pub rounds-preserved : goal.rounds-preserved
rounds-preserved g c =
    let o = g.O.Sink.facts c.args.output.now in
    let now = g.O.Sink.facts c.rounds.output in
    let rows = c.args.rows.now in
    let whole = flat_map row_line rows in
    let round = c.split_at-in-rounds.result.0.now in
    let behind = flat_map row_line (drop (c.rounds.made + length round) rows) in
    let held = next_piece o now whole (flat_map row_line (drop c.rounds.made rows)) (flat_map row_line round) behind (next_round g (goal.at.rounds-preserved g c).After-line_shares) c.rounds.invariant.writing in
    let size = c.share_of-share.result in
    let given = lines_left row_line size round in
    let are = subst (AreShares given) (sym c.deref.ensures.value) c.in_ok-shares.ensures in
    record {
      within = omega (arith, c.split_at-in-rounds.ensures.front_len, c.split_at-in-rounds.ensures.back_len, c.split_at.ensures.back_len);
      writing =
          piece_written o now whole (flat_map row_line round) (g.O.Sink.facts c.write_shares.new.output) (given 0) [] behind held (ap (λ k. flat_map row_line (drop k round)) (zero-mul size))
          (c.in_ok-write_shares.ensures.writes given are) c.in_ok-write_shares.ensures.faults refl;
    }

pub returns-clause-writes : goal.returns-clause-writes
returns-clause-writes g c =
    let rows = c.args.rows.now in
    let all : length rows ≤ c.rounds.made = omega (arith, c.rounds-test.false) in
    all_written (g.O.Sink.facts c.args.output.now) (g.O.Sink.facts c.rounds.output) (flat_map row_line rows) [] (flat_map row_line (drop c.rounds.made rows)) c.rounds.invariant.writing
    (ap (flat_map row_line) (drop_all c.rounds.made rows all))
