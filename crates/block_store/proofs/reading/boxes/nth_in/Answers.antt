use Rattle.std.proofs.Common.{◌≡◌, ℕ, Option, Some, None, MatchOption, sym, ap, ◌∙◌, arith}
use Rattle.block_store.specs.Blocks.{block_values, index_of}
use Rattle.block_store.specs.InBox.{is_in}
use Rattle.block_store.proofs.Numbering.{none_there}
use Rattle.block_store.proofs.Spans.{exact_count, exact_nth}
use Rattle.block_store.proofs.reading.boxes.nth_in.Goals as goal

pub returns-then-run : goal.returns-then-run
returns-then-run g c =
    let pieces = c.args.listing.now.pieces.items in
    let run = c.run_of-run.result in
    let is = c.run_of-run.ensures.run in
    let test = is_in c.args.area.now in
    let rows = block_values g.R.Row.value pieces in
    let low = index_of pieces run.from in
    let high = index_of pieces run.to in
    let p = c.position.ensures.position in
    let q = c.position-then-run.ensures.position in
    told c.nth_between.result
    (λ h. (none_there test rows c.args.n).1 (omega (arith, h, p, q, exact_count test rows low high is.between.order is.between.before (is.all_in c.if-run.true) is.between.behind is.between.within)))
    (λ at h. exact_nth test rows low high is.between.order is.between.before (is.all_in c.if-run.true) is.between.behind is.between.within c.args.n (omega (arith, h.0, h.1, p, q))
    ∙ ap (λ n. Some n) (omega (arith, h.0, p, q)))
    c.nth_between.ensures
  where
    told : {P : Type 0} {Q : ℕ → Type 0} {o : Option ℕ} (found : Option ℕ) → (P → o ≡ None) → ((at : ℕ) → Q at → o ≡ Some at) → MatchOption found P Q → found ≡ o
    told None f k m = sym (f m)
    told (Some at) f k m = sym (k at m)
