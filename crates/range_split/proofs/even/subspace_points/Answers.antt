use Rattle.std.proofs.Common.{◌≡◌, ℕ, List, [], ◌∷◌, length, map, sym, ap, ◌∙◌, subst, arith}
use Rattle.std.specs.Prelude.{IfOk}
use Rattle.std.specs.Option.{option_to_list}
use Rattle.std.proofs.lemmas.List.{length-map}
use Rattle.std.proofs.lemmas.List.Kept.{IsStrictlySortedBy-filter}
use Rattle.willow_area.specs.declared.cut.CutAt.{CutAt}
use Rattle.willow_area.specs.declared.cut.CutAt.TheVariants as cuts
use Rattle.willow_entry.specs.Entry.{bytes_cmp}
use Rattle.willow_entry.specs.Row.{inner_place_cmp}
use Rattle.willow_entry.specs.declared.entry.Entry.{Entry}
use Rattle.block_store.specs.InBox.{is_in, rows_in}
use Rattle.range_split.specs.Choice.{subspaces_of}
use Rattle.range_split.specs.Quarters.{cuts_among, distinct_above}
use Rattle.range_split.proofs.Pointing.{pushed}
use Rattle.range_split.proofs.Subspaces.{entries_told, or_others_first, or_others_other}
use Rattle.range_split.proofs.even.subspace_points.Goals as goal

-- the points that were found
abbrev found : Entry → Entry → Entry → Entry → List (List ℕ)
found low a b c = distinct_above bytes_cmp low.subspace (a.subspace ∷ b.subspace ∷ c.subspace ∷ [])

pub returns-then-len-gt0 : goal.returns-then-len-gt0
returns-then-len-gt0 g c =
    let rows = map g.R.Row.value c.args.snapshot.now in
    let held = rows_in c.args.area.now rows in
    let make : List ℕ → CutAt = λ x. cuts.Subspace x in
    let el = c.entry.result.now in
    let ea = c.entry-2.result.now in
    let eb = c.entry-3.result.now in
    let ec = c.entry-4.result.now in
    let points : c.push_key-3.new.points ≡ map make (found el ea eb ec) =
    pushed bytes_cmp make el.subspace ea.subspace eb.subspace ec.subspace c.in_ok-one.one c.in_ok-two.two c.new-points.result c.push_key.new.points c.push_key-2.new.points c.push_key-3.new.points
    c.new-points.ensures c.in_ok-one.ensures.points c.in_ok-one.ensures.next c.in_ok-two.ensures.points c.in_ok-two.ensures.next c.in_ok-_three.ensures.points in
    let told = entries_told held (IsStrictlySortedBy-filter inner_place_cmp (is_in c.args.area.now) rows c.requires.rise)
    (g.R.Row.value c.quarter.result.now) (g.R.Row.value c.quarter-2.result.now) (g.R.Row.value c.quarter-3.result.now) (g.R.Row.value c.quarter-4.result.now)
    el ea eb ec c.entry.ensures.entry c.entry-2.ensures.entry c.entry-3.ensures.entry c.entry-4.ensures.entry c.quarter.ensures c.quarter-2.ensures c.quarter-3.ensures c.quarter-4.ensures in
    points ∙ ap (map make) (sym (told ∙ or_others_first (found el ea eb ec) _ (omega (arith, c.len.ensures.length, c.if-len-gt0.true, ap length points, length-map (found el ea eb ec) make))))

pub returns : goal.returns
returns g c =
    let rows = map g.R.Row.value c.args.snapshot.now in
    let held = rows_in c.args.area.now rows in
    let make : List ℕ → CutAt = λ x. cuts.Subspace x in
    let el = c.entry.result.now in
    let ea = c.entry-2.result.now in
    let eb = c.entry-3.result.now in
    let ec = c.entry-4.result.now in
    let points : c.push_key-3.new.points ≡ map make (found el ea eb ec) =
    pushed bytes_cmp make el.subspace ea.subspace eb.subspace ec.subspace c.in_ok-one.one c.in_ok-two.two c.new-points.result c.push_key.new.points c.push_key-2.new.points c.push_key-3.new.points
    c.new-points.ensures c.in_ok-one.ensures.points c.in_ok-one.ensures.next c.in_ok-two.ensures.points c.in_ok-two.ensures.next c.in_ok-_three.ensures.points in
    let told = entries_told held (IsStrictlySortedBy-filter inner_place_cmp (is_in c.args.area.now) rows c.requires.rise)
    (g.R.Row.value c.quarter.result.now) (g.R.Row.value c.quarter-2.result.now) (g.R.Row.value c.quarter-3.result.now) (g.R.Row.value c.quarter-4.result.now)
    el ea eb ec c.entry.ensures.entry c.entry-2.ensures.entry c.entry-3.ensures.entry c.entry-4.ensures.entry c.quarter.ensures c.quarter-2.ensures c.quarter-3.ensures c.quarter-4.ensures in
    let all : cuts_among bytes_cmp (subspaces_of held) ≡ option_to_list c.least_among.result =
    told ∙ or_others_other (found el ea eb ec) _ (omega (arith, c.len.ensures.length, c.if-len-gt0.false, ap length points, length-map (found el ea eb ec) make)) ∙ sym (ap option_to_list c.least_among.ensures) in
    subst (λ l. IfOk c.key_points.result (λ points. points ≡ map make l)) (sym all) c.key_points.ensures
