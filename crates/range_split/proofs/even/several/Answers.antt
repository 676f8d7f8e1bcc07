use Rattle.std.proofs.Common.{◌≡◌, cond, map, sym, ap, ◌∙◌, arith}
use Rattle.block_store.specs.InBox.{is_in, rows_in}
use Rattle.range_split.specs.Points.{cuts_at}
use Rattle.range_split.specs.Quarters.{base_points, greatest, load, part_sizes, path_points, subspace_points, time_points}
use Rattle.range_split.proofs.Finding.{found_many}
use Rattle.range_split.proofs.Evenly.{base_is_even, base_taken, times_taken}
use Rattle.range_split.proofs.even.several.Goals as goal

pub returns-then-most-found : goal.returns-then-most-found
returns-then-most-found g c =
    let rows = map g.R.Row.value c.args.snapshot.now in
    let held = rows_in c.args.area.now rows in
    let many = found_many (is_in c.args.area.now) rows c.args.found.now c.requires.found in
    let base : base_points held ≡ subspace_points held = ap (λ t. cond t (subspace_points held) (path_points held)) c.requires.several in
    let most : c.in_ok-most.most ≡ load (base_points held) held = c.in_ok-most.ensures ∙ ap (λ l. greatest (part_sizes l held)) (c.in_ok-base.ensures ∙ sym (ap cuts_at base)) in
    c.in_ok-base.ensures ∙ sym (ap cuts_at (base_is_even held (omega arith) (omega arith) ∙ base))

pub returns-then-from : goal.returns-then-from
returns-then-from g c =
    let rows = map g.R.Row.value c.args.snapshot.now in
    let held = rows_in c.args.area.now rows in
    let many = found_many (is_in c.args.area.now) rows c.args.found.now c.requires.found in
    let base : base_points held ≡ subspace_points held = ap (λ t. cond t (subspace_points held) (path_points held)) c.requires.several in
    let most : c.in_ok-most.most ≡ load (base_points held) held = c.in_ok-most.ensures ∙ ap (λ l. greatest (part_sizes l held)) (c.in_ok-base.ensures ∙ sym (ap cuts_at base)) in
    let least : c.in_ok-least.least ≡ load (time_points held) held = c.in_ok-least.ensures ∙ ap (λ l. greatest (part_sizes l held)) c.in_ok-times.ensures in
    c.in_ok-times.ensures ∙ sym (ap cuts_at (times_taken held (omega (arith, most, least, c.if-from.true, c.from.ensures, c.from-2.ensures))))

pub returns-else-from : goal.returns-else-from
returns-else-from g c =
    let rows = map g.R.Row.value c.args.snapshot.now in
    let held = rows_in c.args.area.now rows in
    let many = found_many (is_in c.args.area.now) rows c.args.found.now c.requires.found in
    let base : base_points held ≡ subspace_points held = ap (λ t. cond t (subspace_points held) (path_points held)) c.requires.several in
    let most : c.in_ok-most.most ≡ load (base_points held) held = c.in_ok-most.ensures ∙ ap (λ l. greatest (part_sizes l held)) (c.in_ok-base.ensures ∙ sym (ap cuts_at base)) in
    let least : c.in_ok-least.least ≡ load (time_points held) held = c.in_ok-least.ensures ∙ ap (λ l. greatest (part_sizes l held)) c.in_ok-times.ensures in
    c.in_ok-base.ensures ∙ sym (ap cuts_at (base_taken held (omega (arith, most, least, c.if-from.false, c.from.ensures, c.from-2.ensures)) ∙ base))
