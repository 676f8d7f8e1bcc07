use Rattle.std.proofs.Common.{◌≡◌, ◌++◌, map, take, drop, append_assoc, sym, ap, ap₂, ◌∙◌, Global}
use Rattle.std.specs.declared.sync.Arc.{Arc}
use Rattle.std.proofs.lemmas.List.{map-append, take-append-drop}
use Rattle.std.proofs.lemmas.Result.{on_ok_weaker}
use Rattle.willow_entry.specs.Row.{RowValue}
use Rattle.block_store.specs.Blocks.{block_values}
use Rattle.block_store.proofs.Growing.{grown_on}
use Rattle.block_store.proofs.changing.renew.add_halves.Goals as goal

pub returns-clause-values : goal.returns-clause-values
returns-clause-values g c =
    let value : Arc g.row.R.Denot Global → RowValue = λ a. g.R.Row.value a.value in
    let old = block_values g.R.Row.value c.args.fresh.now.items in
    let rows = c.args.rows.items in
    let front = ap (map value) c.in_ok-behind.ensures.items in
    let behind = ap (map value) c.in_ok-behind.ensures.tail in
    let both : map value (take 32 rows) ++ map value (drop 32 rows) ≡ map value rows = sym (map-append value (take 32 rows) (drop 32 rows)) ∙ ap (map value) (take-append-drop 32 rows) in
    on_ok_weaker c.append_rows-2.result
    (λ e. e ∙ ap₂ (λ l m. l ++ m) (c.in_ok-append_rows.ensures.values ∙ ap (λ l. old ++ l) front) behind
    ∙ append_assoc old (map value (take 32 rows)) (map value (drop 32 rows)) ∙ ap (λ l. old ++ l) both)
    c.append_rows-2.ensures.values

pub returns-clause-grown : goal.returns-clause-grown
returns-clause-grown g c =
    on_ok_weaker c.append_rows-2.result (grown_on c.args.fresh.now.items c.append_rows.new.fresh.items c.append_rows-2.new.fresh.items c.in_ok-append_rows.ensures.grown) c.append_rows-2.ensures.grown
