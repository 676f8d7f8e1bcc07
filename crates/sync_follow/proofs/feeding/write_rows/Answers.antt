use Rattle.std.proofs.Common.{◌++◌, ◌+◌, ℕ, List, [], ◌∷◌, map, take, refl, ◌∙◌, arith}
use Rattle.auth_entry.specs.Rows.{entry_row}
use Rattle.session_rules.proofs.Growing.{front_is, front_self}
use Rattle.ns_state.specs.Log.{logged, plain_row}
use Rattle.willow_entry.specs.LogRow.{LogValue, log_value}
use Rattle.sync_follow.specs.Feeds.{fed_of, feed_spelling, feed_end}
use Rattle.sync_follow.proofs.FedRows.{bytes_on, count_on, fed_bytes, front_of_feed, spelled_whole}
use Rattle.sync_follow.proofs.Feedings.{last_failed, rows_failed, rows_wanting}
use Rattle.sync_follow.proofs.Written.{written_more, written_none, written_on}
use Rattle.sync_follow.proofs.feeding.write_rows.Goals as goal

pub loop-at-init : goal.loop-at-init
loop-at-init g c = record {
  wrote = written_none (g.L.Link.facts c.args.link.now) c.new-out.result.items c.new-out.ensures.items;
  count = refl;
  few = omega arith;
  most = refl;
}

pub returns-in-Err-clause-writes : goal.returns-in-Err-clause-writes
returns-in-Err-clause-writes g c =
    let area = c.args.area.now in
    let own = c.args.own in
    let log : List LogValue = logged entry_row (map plain_row c.args.rows.now) in
    rows_wanting (fed_of area own log) (g.L.Link.facts c.args.link.now) (g.L.Link.facts c.loop-at.link) (fed_bytes area own (take c.loop-at.at log)) c.loop-at.out.items c.loop-at.invariant.wrote (front_of_feed area own log c.loop-at.at)

pub returns-in-Err-write_piece-clause-writes : goal.returns-in-Err-write_piece-clause-writes
returns-in-Err-write_piece-clause-writes g c =
    let area = c.args.area.now in
    let own = c.args.own in
    let i = c.loop-at.at in
    let log : List LogValue = logged entry_row (map plain_row c.args.rows.now) in
    let old = g.L.Link.facts c.args.link.now in
    let mid = g.L.Link.facts c.loop-at.link in
    let more = fed_bytes area own (log_value entry_row (plain_row c.index-rows-at.result) ∷ []) in
    let on = bytes_on plain_row (log_value entry_row) area own c.args.rows.now i c.index-rows-at.result c.loop-at-test.true c.index-rows-at.is in
    let h = written_more old mid (fed_bytes area own (take i log)) c.loop-at.out.items more (fed_bytes area own (take (i + 1) log)) c.put_row.new.out.items on c.in-Ok.ensures.feed c.loop-at.invariant.wrote in
    rows_failed (fed_of area own log) old mid (fed_bytes area own (take (i + 1) log)) c.put_row.new.out.items h (front_of_feed area own log (i + 1)) (g.L.Link.facts c.write_piece.new.link) c.in-Err-write_piece.fault c.in-Err-write_piece.ensures.writes

pub loop-at-preserved : goal.loop-at-preserved
loop-at-preserved g c =
    let area = c.args.area.now in
    let own = c.args.own in
    let i = c.loop-at.at in
    let log : List LogValue = logged entry_row (map plain_row c.args.rows.now) in
    let old = g.L.Link.facts c.args.link.now in
    let mid = g.L.Link.facts c.loop-at.link in
    let more = fed_bytes area own (log_value entry_row (plain_row c.index-rows-at.result) ∷ []) in
    let on = bytes_on plain_row (log_value entry_row) area own c.args.rows.now i c.index-rows-at.result c.loop-at-test.true c.index-rows-at.is in
    let h = written_more old mid (fed_bytes area own (take i log)) c.loop-at.out.items more (fed_bytes area own (take (i + 1) log)) c.put_row.new.out.items on c.in-Ok.ensures.feed c.loop-at.invariant.wrote in
    record {
      wrote = written_on old mid (g.L.Link.facts c.write_piece.new.link) (fed_bytes area own (take (i + 1) log)) c.put_row.new.out.items c.write_piece.new.out.items h c.in-Ok-write_piece.ensures.writes;
      count = count_on plain_row (log_value entry_row) area own c.args.rows.now i c.index-rows-at.result c.loop-at-test.true c.index-rows-at.is c.loop-at.count c.in-Ok.more c.loop-at.invariant.count c.in-Ok.ensures.count;
      few = omega (arith, c.loop-at.invariant.few, c.in-Ok.ensures.one);
      most = c.in-Ok-write_piece.ensures.most ∙ c.loop-at.invariant.most;
    }

pub returns-clause-writes : goal.returns-clause-writes
returns-clause-writes g c =
    let area = c.args.area.now in
    let own = c.args.own in
    let i = c.loop-at.at in
    let count = c.loop-at.count in
    let log : List LogValue = logged entry_row (map plain_row c.args.rows.now) in
    let old = g.L.Link.facts c.args.link.now in
    let mid = g.L.Link.facts c.loop-at.link in
    let new = g.L.Link.facts c.send.new.link in
    let bytes : List ℕ = fed_bytes area own (take i log) ++ feed_end count in
    let whole = spelled_whole plain_row (log_value entry_row) area own c.args.rows.now i (omega (arith, c.loop-at-test.false)) count c.loop-at.invariant.count in
    let h = written_more old mid (fed_bytes area own (take i log)) c.loop-at.out.items (feed_end count) bytes c.put_end.new.out.items refl c.in-Ok-put_end.ensures c.loop-at.invariant.wrote in
    rows_failed (fed_of area own log) old mid bytes c.put_end.new.out.items h (front_is bytes bytes (feed_spelling (fed_of area own log)) whole (front_self bytes)) new c.in-Err-send.fault
    (last_failed mid new c.put_end.new.out.items c.deref.result.now c.in-Err-send.fault c.deref.ensures.value c.in-Err-send.ensures.held c.in-Err-send.ensures.cause)
