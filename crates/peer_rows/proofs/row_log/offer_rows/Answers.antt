use Rattle.std.proofs.Common.{◌≡◌, ◌∷◌, ◌++◌, ◌∙◌, [], sym, ap, subst, List, map, append_assoc}
use Rattle.std.specs.Prelude.{Err}
use Rattle.std.specs.Vec.Iter.{into_iter_items}
use Rattle.std.proofs.lemmas.List.{map-append}
use Rattle.std.proofs.lemmas.Result.{err_from_is_err_and}
use Rattle.spelling.specs.declared.ending.End.{End}
use Rattle.spelling.specs.declared.ending.End.TheVariants.{Refused, NoMemory}
use Rattle.willow_entry.specs.Row.{RowValue}
use Rattle.ns_state.specs.Log.{StateValue}
use Rattle.ns_state.specs.declared.live_log.LogFull.{LogFull}
use Rattle.peer_rows.specs.RowLogs.{ArePastLog, OffersRow, OffersRows}
use Rattle.peer_rows.proofs.Taken.{past_among, next_here}
use Rattle.peer_rows.proofs.row_log.offer_rows.Goals as goal

-- where one of the rows is refused they are too many
stops : {R : Type 0} (value : R → RowValue) (seen : List RowValue) (all rows left : List R) (row : R) (log : StateValue R) (e : End LogFull) → all ≡ rows ++ row ∷ left
    → OffersRow value (seen ++ map value rows) (value row) log (Err e) → OffersRows value seen (map value all) log (Err e)
stops value seen all rows left row log (Refused full) is past = past_among value seen all rows left row is past
stops value seen all rows left row log NoMemory is none_past = record {
  front = map value rows;
  row = value row;
  left = map value left;
  parts = ap (map value) is ∙ map-append value rows (row ∷ left);
  room = λ past. none_past (subst ArePastLog (sym (append_assoc seen (map value rows) (value row ∷ []))) past);
}

pub offer_row-requires : goal.offer_row-requires
offer_row-requires g c =
    let so_far = c.loop-row.invariant in
    let next : into_iter_items c.loop-row.row-iterator ≡ c.in-Some.row ∷ into_iter_items c.next.new.self = c.in-Some.ensures.steps.0 in
    next_here g.R.Row.value c.args.log.now.namespace c.args.rows.items c.loop-row.yielded (into_iter_items c.next.new.self) c.in-Some.row
    (so_far.whole ∙ ap (λ (l : List g.row.R.Denot). c.loop-row.yielded ++ l) next) c.requires ∙ sym so_far.of_namespace

pub returns-in_err-offer_row-clause-offers : goal.returns-in_err-offer_row-clause-offers
returns-in_err-offer_row-clause-offers g c = λ seen taken.
    let value = g.R.Row.value in
    let p = err_from_is_err_and c.from_residual.result c.from_residual.ensures.1 in
    let so_far = c.loop-row.invariant in
    let next : into_iter_items c.loop-row.row-iterator ≡ c.in-Some.row ∷ into_iter_items c.next.new.self = c.in-Some.ensures.steps.0 in
    rw (p.1, p.2) (stops value seen c.args.rows.items c.loop-row.yielded (into_iter_items c.next.new.self) c.in-Some.row c.offer_row.new.log c.in_err-offer_row.field-0.0
    (so_far.whole ∙ ap (λ (l : List g.row.R.Denot). c.loop-row.yielded ++ l) next) (c.in_err-offer_row.ensures.offers (seen ++ map value c.loop-row.yielded) (so_far.took seen taken)))
