use Rattle.std.proofs.Common.{◌≡◌, ◌∷◌, [], map, sym, ap, ◌∙◌, arith}
use Rattle.std.specs.Vec.Iter.{into_iter_items}
use Rattle.std.proofs.lemmas.List.{nil_from_length}
use Rattle.std.proofs.lemmas.Result.{IfOk-weaker}
use Rattle.area_interest.specs.Kept.{is_kept}
use Rattle.area_interest.proofs.Keeping.{none_kept_yet, room_left, one_more_kept, all_are_kept}
use Rattle.area_interest.proofs.chosen.chosen.Goals as goal

pub loop-row-init : goal.loop-row-init
loop-row-init g c =
    none_kept_yet g.R.Row.value (is_kept c.args.last.now) c.args.rows.items (into_iter_items c.into_iter-row-iterator.result) c.new-store.result c.new-store.ensures.empty (sym c.into_iter-row-iterator.ensures.into_iter_gives.0)

pub keep-requires : goal.keep-requires
keep-requires g c =
    let next : into_iter_items c.loop-row.row-iterator ≡ c.in-Some.row ∷ into_iter_items c.next.new.self = c.in-Some.ensures.steps.0 in
    room_left g.R.Row.value (is_kept c.args.last.now) c.args.rows.items c.loop-row.yielded (into_iter_items c.loop-row.row-iterator) c.loop-row.store c.loop-row.invariant c.in-Some.row (into_iter_items c.next.new.self) next c.requires

pub loop-row-preserved : goal.loop-row-preserved
loop-row-preserved g c =
    let next : into_iter_items c.loop-row.row-iterator ≡ c.in-Some.row ∷ into_iter_items c.next.new.self = c.in-Some.ensures.steps.0 in
    one_more_kept g.R.Row.value (is_kept c.args.last.now) c.args.rows.items c.loop-row.yielded (into_iter_items c.loop-row.row-iterator) c.loop-row.store c.loop-row.invariant c.in-Some.row (into_iter_items c.next.new.self) next
    c.keep.new.store c.in_ok-keep.ensures.rows c.keep.ensures.few

pub returns : goal.returns
returns g c =
    let value = g.R.Row.value in
    let none : into_iter_items c.loop-row.row-iterator ≡ [] = nil_from_length (into_iter_items c.loop-row.row-iterator) (omega (arith, c.in-None.ensures.steps.0)) in
    IfOk-weaker c.snapshot.result _ _
    (λ made is. ap (map value) is ∙ all_are_kept value (is_kept c.args.last.now) c.args.rows.items c.loop-row.yielded (into_iter_items c.loop-row.row-iterator) c.loop-row.store c.loop-row.invariant none)
    c.snapshot.ensures.equal
