use Rattle.std.proofs.Common.{◌≡◌, List, length, map, drop, refl, ap, ◌∙◌, arith}
use Rattle.auth_entry.specs.Authorised.{AuthorisedValue}
use Rattle.auth_entry.specs.Rows.{entry_row}
use Rattle.ns_state.specs.Log.{logged, plain_row}
use Rattle.willow_entry.specs.Row.{RowValue}
use Rattle.willow_entry.specs.declared.row.LogRow.{LogRow}
use Rattle.sync_follow.specs.Feeds.{fed, fed_of}
use Rattle.sync_follow.proofs.FedRows.{fed_is, rows_few}
use Rattle.sync_follow.proofs.Feedings.{feeds_failed, feeds_nothing, feeds_wanting, feeds_whole}
use Rattle.sync_follow.proofs.feeding.feed.Goals as goal

pub returns-in-Err-clause-feeds : goal.returns-in-Err-clause-feeds
returns-in-Err-clause-feeds g c =
    let seen : List (LogRow AuthorisedValue) = c.read_log.new.pass.seen in
    feeds_nothing (fed (logged entry_row seen) c.args.area.now c.args.own c.args.from (length seen)) (length seen) (g.L.Link.facts c.args.link.now)

pub write_rows-requires-clause-few : goal.write_rows-requires-clause-few
write_rows-requires-clause-few g c = omega (arith, ap length c.deref.ensures.value, rows_few plain_row c.in-Ok.rows.items 4294967295 (drop c.args.from c.read_log.new.pass.seen) c.in-Ok.ensures.rows)

pub returns-in-Ok-write_rows-clause-feeds : goal.returns-in-Ok-write_rows-clause-feeds
returns-in-Ok-write_rows-clause-feeds g c =
    let seen : List (LogRow AuthorisedValue) = c.read_log.new.pass.seen in
    let area = c.args.area.now in
    let own = c.args.own in
    let rows : List RowValue = fed_of area own (logged entry_row (map plain_row c.deref.result.now)) in
    let due : List RowValue = fed (logged entry_row seen) area own c.args.from (length seen) in
    let same : rows ≡ due =
    ap (λ l. fed_of area own (logged entry_row (map plain_row l))) c.deref.ensures.value ∙ fed_is entry_row area own c.args.from 4294967295 seen (map plain_row c.in-Ok.rows.items) c.in-Ok.ensures.rows (omega (arith, c.in-Ok.ensures.pass.log.few)) in
    feeds_whole rows due same (length seen) (g.L.Link.facts c.args.link.now) (g.L.Link.facts c.write_rows.new.link) c.in-Ok-write_rows.count c.in-Ok-write_rows.ensures.writes
    (record { count = c.in-Ok-write_rows.count; to = c.seen.result }) refl c.seen.ensures.seen

pub returns-in-Err-Failed-clause-feeds : goal.returns-in-Err-Failed-clause-feeds
returns-in-Err-Failed-clause-feeds g c =
    let seen : List (LogRow AuthorisedValue) = c.read_log.new.pass.seen in
    let area = c.args.area.now in
    let own = c.args.own in
    let rows : List RowValue = fed_of area own (logged entry_row (map plain_row c.deref.result.now)) in
    let due : List RowValue = fed (logged entry_row seen) area own c.args.from (length seen) in
    let same : rows ≡ due =
    ap (λ l. fed_of area own (logged entry_row (map plain_row l))) c.deref.ensures.value ∙ fed_is entry_row area own c.args.from 4294967295 seen (map plain_row c.in-Ok.rows.items) c.in-Ok.ensures.rows (omega (arith, c.in-Ok.ensures.pass.log.few)) in
    feeds_failed rows due same (length seen) (g.L.Link.facts c.args.link.now) (g.L.Link.facts c.write_rows.new.link) c.in-Err-Failed.field-0 c.in-Err-Failed.ensures.writes c.in-Err-Failed.field-0-is

pub returns-clause-feeds : goal.returns-clause-feeds
returns-clause-feeds g c =
    let seen : List (LogRow AuthorisedValue) = c.read_log.new.pass.seen in
    let area = c.args.area.now in
    let own = c.args.own in
    let rows : List RowValue = fed_of area own (logged entry_row (map plain_row c.deref.result.now)) in
    let due : List RowValue = fed (logged entry_row seen) area own c.args.from (length seen) in
    let same : rows ≡ due =
    ap (λ l. fed_of area own (logged entry_row (map plain_row l))) c.deref.ensures.value ∙ fed_is entry_row area own c.args.from 4294967295 seen (map plain_row c.in-Ok.rows.items) c.in-Ok.ensures.rows (omega (arith, c.in-Ok.ensures.pass.log.few)) in
    feeds_wanting rows due same (length seen) (g.L.Link.facts c.args.link.now) (g.L.Link.facts c.write_rows.new.link) c.in-Err-NoMemory.field-0 c.in-Err-NoMemory.ensures.writes c.in-Err-NoMemory.field-0-is
