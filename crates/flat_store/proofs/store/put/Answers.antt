use Rattle.std.proofs.Common.{◌≡◌, map, ap, ◌∙◌, subst, insert, sym}
use Rattle.willow_entry.specs.Pruning.{IsPlace}
use Rattle.willow_entry.specs.Row.{place_cmp, left_of, IsRising}
use Rattle.willow_entry.proofs.Between.{left_rises, live-inserted, live-again, map-insert}
use Rattle.flat_store.proofs.store.put.Goals as goal

pub place-at-requires : goal.place-at-requires
place-at-requires g c =
    let value = g.R.Row.value in
    let r = value c.args.row in
    let rows = map value c.args.rows.now.items in
    let left : map value c.deref.result.now ≡ left_of r rows =
    ap (map value) c.deref.ensures.value ∙ c.prune-pruned.ensures.left ∙ ap (λ l. left_of r (map value l)) c.in_ok-reserve.ensures.items in
    subst IsRising (sym left) (left_rises rows r c.requires.is_live c.requires.uncovered)

pub returns-clause-rows : goal.returns-clause-rows
returns-clause-rows g c =
    let value = g.R.Row.value in
    let r = value c.args.row in
    let rows = map value c.args.rows.now.items in
    let at = c.place-at.result in
    let left : map value c.prune-pruned.new.rows.items ≡ left_of r rows =
    c.prune-pruned.ensures.left ∙ ap (λ l. left_of r (map value l)) c.in_ok-reserve.ensures.items in
    let place : IsPlace place_cmp r (left_of r rows) at =
    subst (λ l. IsPlace place_cmp r l at) (ap (map value) c.deref.ensures.value ∙ left) c.place-at.ensures.place in
    ap (map value) c.in_ok-insert.ensures.items ∙ map-insert value _ at c.args.row ∙ ap (λ l. insert l at r) left
    ∙ live-inserted rows r c.requires.is_live c.requires.uncovered at place

pub returns-clause-is_live : goal.returns-clause-is_live
returns-clause-is_live g c = live-again _ _ (returns-clause-rows g c)
