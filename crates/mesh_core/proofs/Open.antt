-- An area with all paths and no end of times includes what dominates its rows.
use Rattle.std.proofs.Common.{◌≡◌, ◌≤◌, true, [], inl, inr, refl, sym, ap, subst, arith}
use Rattle.willow_path.specs.Path.{is_prefix}
use Rattle.willow_path.proofs.PathOrder.{is_prefix_decides}
use Rattle.willow_area.specs.Area.{fits_subspace}
use Rattle.willow_area.specs.declared.area.Area.{Area}
use Rattle.willow_area.proofs.Membership.{IsBefore, passes_area, area_passes, time_in, in_time}
use Rattle.willow_entry.specs.Row.{RowValue, Dominates}
use Rattle.mesh_rules.specs.Meetings.{IncludesDominating}
use Rattle.mesh_core.specs.Areas.{has_row, IsOpenEnded}

-- a row that dominates another is no older
no_older : (r s : RowValue) → Dominates r s → s.entry.timestamp ≤ r.entry.timestamp
no_older r s d = elim d.stronger [
  | inl newer ↦ elim newer [ inl later ↦ omega (arith, later) | inr rest ↦ elim rest [ inl same ↦ omega (arith, same.0) | inr same ↦ omega (arith, same.0) ] ]
  | inr same ↦ omega (arith, ap (λ e. e.timestamp) same.0)
]

pub includes_dominating : (area : Area) → IsOpenEnded area → IncludesDominating has_row area
includes_dominating area whole r s d h =
    let p = passes_area area s.entry.subspace s.entry.path s.entry.timestamp h in
    let time = time_in area.times s.entry.timestamp p.time_fits in
    area_passes area r.entry.subspace r.entry.path r.entry.timestamp (record {
      subspace_fits = subst (λ subspace. fits_subspace area.subspace subspace ≡ true) (sym d.subspace) p.subspace_fits;
      path_fits = subst (λ path. is_prefix path r.entry.path ≡ true) (sym whole.path) ((is_prefix_decides [] r.entry.path).1 (r.entry.path, refl));
      time_fits = in_time area.times r.entry.timestamp (omega (arith, time.0, no_older r s d)) (subst (λ end. IsBefore r.entry.timestamp end) (sym whole.times) refl);
    })
