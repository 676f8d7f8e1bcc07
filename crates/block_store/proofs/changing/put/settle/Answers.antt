use Rattle.std.proofs.Common.{◌≡◌, ◌++◌, ◌∷◌, [], insert, sym, ap, ◌∙◌, subst, arith}
use Rattle.std.proofs.lemmas.List.{nil_from_length}
use Rattle.std.proofs.lemmas.Result.{on_ok_weaker}
use Rattle.willow_entry.specs.Row.{HasCovering, live}
use Rattle.willow_entry.proofs.Between.{live-empty}
use Rattle.block_store.specs.Blocks.{block_values, index_of}
use Rattle.block_store.proofs.Extensions.{live-parted}
use Rattle.block_store.proofs.Putting.{live-entered, later_stays}
use Rattle.block_store.proofs.changing.put.settle.Goals as goal

-- the first row
pub returns-then-len-eq0-clause-rows : goal.returns-then-len-eq0-clause-rows
returns-then-len-eq0-clause-rows g c =
    let r = g.R.Row.value c.args.held.value in
    let none : block_values g.R.Row.value c.args.pieces.now.items ≡ [] = ap (block_values g.R.Row.value) (nil_from_length c.args.pieces.now.items (omega (arith, c.args.pieces.now.ok.0))) in
    let alone : r ∷ [] ≡ live ([] ++ r ∷ []) = live-parted [] r 0 (record { below = tt; beyond = tt }) live-empty (λ w. c.requires.uncovered (subst (λ l. HasCovering l r) (sym none) w)) in
    on_ok_weaker c.begin.result (λ e. e ∙ alone ∙ ap (λ l. live (l ++ r ∷ [])) (sym none)) c.begin.ensures.rows

pub returns-then-index-lt-BLOCK_ROWS-clause-rows : goal.returns-then-index-lt-BLOCK_ROWS-clause-rows
returns-then-index-lt-BLOCK_ROWS-clause-rows g c =
    let r = g.R.Row.value c.args.held.value in
    let rows = block_values g.R.Row.value c.args.pieces.now.items in
    let n = index_of c.args.pieces.now.items c.args.at in
    let index : index_of c.args.pieces.now.items c.entry-spot.result ≡ n = subst (λ l. index_of l c.entry-spot.result ≡ index_of l c.args.at) c.deref.ensures.value c.entry-spot.ensures.index in
    on_ok_weaker c.enter.result (λ e. e ∙ ap (λ k. insert rows k r) index ∙ live-entered r rows n c.requires.place c.requires.is_live c.requires.uncovered (c.requires.none (omega arith))) c.enter.ensures.rows

pub rebuild-requires-clause-stays : goal.rebuild-requires-clause-stays
rebuild-requires-clause-stays g c = later_stays (g.R.Row.value c.args.held.value) g.R.Row.value c.args.pieces.now.items c.args.to c.max.result (omega arith) c.requires.stays
