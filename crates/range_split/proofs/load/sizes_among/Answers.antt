use Rattle.std.proofs.Common.{◌+◌, get_or, map, replicate, set, sym, ap, ◌∙◌, arith}
use Rattle.std.proofs.lemmas.List.{take_all, length-map}
use Rattle.block_store.specs.InBox.{is_in, rows_in}
use Rattle.range_split.specs.Quarters.{part_sizes}
use Rattle.range_split.proofs.Finding.{found_few, found_many}
use Rattle.range_split.proofs.Tally.{counted, size_within, sizes_long, sizes_of_none}
use Rattle.range_split.proofs.load.sizes_among.Goals as goal

pub loop-n-init : goal.loop-n-init
loop-n-init g c =
    record {
      sizes_so_far = c.in_ok-sizes.ensures.items_if_clones_equal (λ y e. e) ∙ ap (λ n. replicate (n + 1) 0) c.len.ensures.length ∙ sym (sizes_of_none c.args.points.now);
    }

pub index_mut-requires : goal.index_mut-requires
index_mut-requires g c =
    let held = rows_in c.args.area.now (map g.R.Row.value c.args.snapshot.now) in
    let row = g.R.Row.value c.row_among.result.now in
    let long = sizes_long c.args.points.now held c.loop-n.n c.loop-n.sizes.items c.loop-n.invariant.sizes_so_far row in
    omega (arith, long, c.part_of-part.ensures.part)

pub overflow_add-index_mut : goal.overflow_add-index_mut
overflow_add-index_mut g c =
    let rows = map g.R.Row.value c.args.snapshot.now in
    let held = rows_in c.args.area.now rows in
    let row = g.R.Row.value c.row_among.result.now in
    let size = c.index_mut.result.now in
    let read = c.index_mut.ensures.value ∙ ap (λ k. get_or c.loop-n.sizes.items k size) c.part_of-part.ensures.part in
    let within = size_within c.args.points.now held c.loop-n.n c.loop-n.sizes.items c.loop-n.invariant.sizes_so_far row size read in
    omega (arith, within, c.loop-n-test.true, found_few (is_in c.args.area.now) rows c.args.found.now c.requires, length-map c.args.snapshot.now g.R.Row.value)

pub loop-n-preserved : goal.loop-n-preserved
loop-n-preserved g c =
    let held = rows_in c.args.area.now (map g.R.Row.value c.args.snapshot.now) in
    let row = g.R.Row.value c.row_among.result.now in
    let size = c.index_mut.result.now in
    let read = c.index_mut.ensures.value ∙ ap (λ k. get_or c.loop-n.sizes.items k size) c.part_of-part.ensures.part in
    record {
      sizes_so_far = ap (λ k. set c.loop-n.sizes.items k (size + 1)) c.part_of-part.ensures.part
          ∙ counted c.args.points.now held c.loop-n.n c.loop-n.sizes.items c.loop-n.invariant.sizes_so_far row c.row_among.ensures size read;
    }

pub returns : goal.returns
returns g c =
    let rows = map g.R.Row.value c.args.snapshot.now in
    let held = rows_in c.args.area.now rows in
    c.loop-n.invariant.sizes_so_far ∙ ap (part_sizes c.args.points.now) (take_all c.loop-n.n held (omega (arith, c.loop-n-test.false, found_many (is_in c.args.area.now) rows c.args.found.now c.requires)))
