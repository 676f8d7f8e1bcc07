use Rattle.std.proofs.Common.{Bor, map, take, sym, ap, ◌∙◌, rules}
use Rattle.std.proofs.lemmas.List.{take-map}
use Rattle.willow_entry.specs.Row.{RowValue}
use Rattle.recency_index.specs.Rows.{row_recency_cmp}
use Rattle.recency_index.proofs.Rows.{row_total}
use Rattle.ns_state.proofs.SortedRows.{sorted_by, sorted_newest}
use Rattle.ns_state.proofs.live_log.LiveLog.newest.Goals as goal

pub returns : goal.returns
returns g c =
    let f : Bor g.row.R.Denot → RowValue = λ r. g.R.Row.value r.now in
    let log = c.args.self.now in
    let sorted = c.sort_unstable_by.new.self.items in
    let up = sorted_by row_recency_cmp row_total f sorted c.sort_unstable_by.ensures.sorted (λ a r q k. search rules) in
    let same = sorted_newest g.R.Row.value log.namespace log.log c.live_rows.ensures.log f c.in_ok-rows.rows.items sorted c.in_ok-rows.ensures.live c.sort_unstable_by.ensures.permutation up in
    ap (map f) c.truncate.ensures.items ∙ sym (take-map f c.args.most sorted) ∙ ap (take c.args.most) same
