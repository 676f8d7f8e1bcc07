-- A row that dominates one in a box with the shortest path and no end of times is in it too.
use Rattle.std.proofs.Common.{◌≡◌, ℕ, ◌≤◌, true, false, List, [], ◌∷◌, Option, Some, None, inl, inr, refl, sym, ap, subst, arith}
use Rattle.std.specs.declared.cmp.Ordering.{Ordering}
use Rattle.std.specs.declared.cmp.Ordering.TheVariants.{Less, Equal, Greater}
use Rattle.std.specs.Ordering.{is_lt, is_le, is_gt}
use Rattle.std.proofs.lemmas.Bool.{false≢true}
use Rattle.willow_path.specs.Path.{is_prefix, part_cmp, path_cmp}
use Rattle.willow_path.proofs.PathOrder.{is_prefix_decides, path_cmp_equal, path_cmp_total, prefix_at_most}
use Rattle.willow_area.specs.Boxes.{Ranges}
use Rattle.willow_area.specs.Range.{Range, in_range, is_before_end}
use Rattle.willow_area.proofs.Cutting.{passes_box, box_passes}
use Rattle.willow_area.proofs.Membership.{IsBefore, both_of, and_of, time_in, in_time}
use Rattle.willow_area.proofs.Orders.{less_is, is_less}
use Rattle.willow_entry.specs.Row.{RowValue, Dominates, live}
use Rattle.block_store.specs.InBox.{is_in, rows_in}
use Rattle.sync_pair.specs.Agreement.{IsSelfContained}
use Rattle.willow_entry.proofs.LiveParts.{filter-live}

-- ---- paths

none_shorter : (path : List (List ℕ)) → is_le (path_cmp [] path) ≡ true
none_shorter [] = refl
none_shorter (part ∷ path) = refl

-- what begins a path below an end is below it
begins_before : (path longer end : List (List ℕ)) (o : Ordering) → path_cmp path longer ≡ o → is_gt o ≡ false → is_lt (path_cmp longer end) ≡ true → is_lt (path_cmp path end) ≡ true
begins_before path longer end Less e low h = is_less (path_cmp path end) (path_cmp_total.trans path longer end e (less_is (path_cmp longer end) h))
begins_before path longer end Equal e low h = subst (λ p. is_lt (path_cmp p end) ≡ true) (sym ((path_cmp_equal path longer).0 e)) h
begins_before path longer end Greater e low h = absurd (false≢true (sym low))

before_end : (path longer : List (List ℕ)) (end : Option (List (List ℕ))) → is_prefix path longer ≡ true → is_before_end path_cmp longer end ≡ true → is_before_end path_cmp path end ≡ true
before_end path longer None begins h = refl
before_end path longer (Some end) begins h = begins_before path longer end (path_cmp path longer) refl (prefix_at_most path longer begins) h

path_inside : (paths : Range (List (List ℕ))) (path longer : List (List ℕ)) → paths.start ≡ [] → is_prefix path longer ≡ true → in_range path_cmp paths longer ≡ true → in_range path_cmp paths path ≡ true
path_inside paths path longer from begins h =
    let p = both_of (is_le (path_cmp paths.start longer)) (is_before_end path_cmp longer paths.end) h in
    and_of (is_le (path_cmp paths.start path)) (is_before_end path_cmp path paths.end)
    (subst (λ start. is_le (path_cmp start path) ≡ true) (sym from) (none_shorter path))
    (before_end path longer paths.end begins p.1)

-- ---- times

-- a row that dominates another is no older
no_older : (r s : RowValue) → Dominates r s → s.entry.timestamp ≤ r.entry.timestamp
no_older r s d = elim d.stronger [
  | inl newer ↦ elim newer [ inl later ↦ omega (arith, later) | inr rest ↦ elim rest [ inl same ↦ omega (arith, same.0) | inr same ↦ omega (arith, same.0) ] ]
  | inr same ↦ omega (arith, ap (λ e. e.timestamp) same.0)
]

-- ---- boxes

pub dominating_inside : (x : Ranges) (r s : RowValue) → IsSelfContained x → Dominates r s → is_in x s ≡ true → is_in x r ≡ true
dominating_inside x r s whole d h =
    let p = passes_box x s.entry.subspace s.entry.path s.entry.timestamp h in
    let time = time_in x.times s.entry.timestamp p.time_in in
    box_passes x r.entry.subspace r.entry.path r.entry.timestamp (record {
      key_in = subst (λ subspace. in_range part_cmp x.keys subspace ≡ true) (sym d.subspace) p.key_in;
      path_in = path_inside x.paths r.entry.path s.entry.path whole.paths ((is_prefix_decides r.entry.path s.entry.path).1 d.path) p.path_in;
      time_in = in_time x.times r.entry.timestamp (omega (arith, time.0, no_older r s d)) (subst (λ end. IsBefore r.entry.timestamp end) (sym whole.times) refl);
    })

pub live_inside : (x : Ranges) (rows : List RowValue) → IsSelfContained x → rows_in x (live rows) ≡ live (rows_in x rows)
live_inside x rows whole = filter-live (is_in x) (λ r s. dominating_inside x r s whole) rows
