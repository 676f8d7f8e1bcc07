use Rattle.std.proofs.Common.{◌≡◌, ◌+◌, ◌-◌, ◌≤◌, ◌<◌, ◌++◌, ◌∷◌, [], Result, Ok, Err, OnOk, OnErr, length, take, drop, min, sym, ap, ap₂, ◌∙◌, subst, arith}
use Rattle.std.proofs.lemmas.List.{drop_min}
use Rattle.std.proofs.lemmas.Result.{on_ok_weaker, on_err_weaker}
use Rattle.willow_entry.specs.Pruning.{IsPlace}
use Rattle.willow_entry.specs.Row.{AreLive, HasCovering, live, place_cmp}
use Rattle.block_store.specs.Blocks.{block_values, index_of, size_at}
use Rattle.block_store.specs.Packing.{IsPacked, first_size, last_size}
use Rattle.block_store.specs.Entered.{entered, entered_upto}
use Rattle.block_store.proofs.Pieces.{values_cut, values_long, index_within}
use Rattle.block_store.proofs.Growing.{packed_replaced}
use Rattle.block_store.proofs.Renewing.{live_renewed}
use Rattle.block_store.proofs.changing.put.rebuild.Goals as goal

pub returns-clause-packed : goal.returns-clause-packed
returns-clause-packed g c = λ packed.
    let pieces = c.args.pieces.now.items in
    let fresh = c.in_ok-fresh.fresh.items in
    let upto = c.min-upto.ensures ∙ ap (min (c.args.to + 1)) (c.len.ensures ∙ c.args.pieces.now.ok.0) in
    let first = subst (λ l. 0 < c.args.at.block → size_at l (c.args.at.block - 1) ≤ first_size fresh) c.deref.ensures.value c.in_ok-fresh.ensures.first in
    let last = subst (λ l. c.args.to < length l → size_at l c.args.to ≤ last_size fresh) c.deref.ensures.value c.in_ok-fresh.ensures.last in
    let made = packed_replaced pieces fresh c.args.at.block c.args.to c.saturating_sub.result c.min-upto.result c.saturating_sub.ensures upto c.requires.from (omega (arith, c.requires.within, c.args.pieces.now.ok.0)) packed c.in_ok-fresh.ensures.packed first last in
    either_way c.replace.result
    (on_ok_weaker c.replace.result (λ e. subst IsPacked (sym e) made) c.replace.ensures.blocks)
    (on_err_weaker c.replace.result (λ e. subst IsPacked (sym e) packed) c.replace.ensures.err)
  where
    either_way : {V E : Type 0} {P : Type 0} (r : Result V E) → OnOk r P → OnErr r P → P
    either_way (Ok v) done failed = done
    either_way (Err e) done failed = failed

pub returns-clause-rows : goal.returns-clause-rows
returns-clause-rows g c =
    let f = block_values g.R.Row.value in
    let pieces = c.args.pieces.now.items in
    let r = g.R.Row.value c.args.held.value in
    let n = index_of pieces c.args.at in
    let to = c.args.to in
    let fresh = c.in_ok-fresh.fresh.items in
    let whole : f pieces ≡ f (take to pieces) ++ f (drop to pieces) = values_cut g.R.Row.value pieces to in
    let ends : drop c.min-upto.result pieces ≡ drop (to + 1) pieces =
    ap (λ k. drop k pieces) (c.min-upto.ensures ∙ ap (min (to + 1)) (c.len.ensures ∙ c.args.pieces.now.ok.0)) ∙ drop_min (to + 1) pieces in
    let parts : f (take c.saturating_sub.result pieces ++ (fresh ++ drop c.min-upto.result pieces)) ≡ f (take (c.args.at.block - 1) pieces ++ (fresh ++ drop (to + 1) pieces)) =
    ap₂ (λ k l. f (take k pieces ++ (fresh ++ l))) c.saturating_sub.ensures ends in
    let inside : n ≤ length (f (take to pieces)) = omega (arith, index_within pieces c.args.at to c.requires.from c.requires.row, values_long g.R.Row.value (take to pieces)) in
    let alive : entered_upto g.R.Row.value pieces c.args.at to r ≡ live (f pieces ++ r ∷ []) =
    subst (λ l. entered r n (f (take to pieces)) ++ f (drop to pieces) ≡ live (l ++ r ∷ [])) (sym whole)
    (live_renewed r (f (take to pieces)) (f (drop to pieces)) n inside (subst (λ l. IsPlace place_cmp r l n) whole c.requires.place) c.requires.stays (subst (λ l. AreLive l) whole c.requires.is_live) (subst (λ l. HasCovering l r → ⊥) whole c.requires.uncovered)) in
    let made : f (take (c.args.at.block - 1) pieces ++ (fresh ++ drop (to + 1) pieces)) ≡ entered_upto g.R.Row.value pieces c.args.at to r =
    subst (λ l. f (take (c.args.at.block - 1) l ++ (fresh ++ drop (to + 1) l)) ≡ entered_upto g.R.Row.value l c.args.at to r) c.deref.ensures.value c.in_ok-fresh.ensures.values in
    on_ok_weaker c.replace.result (λ e. ap f e ∙ parts ∙ made ∙ alive) c.replace.ensures.blocks
