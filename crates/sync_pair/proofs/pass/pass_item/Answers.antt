use Rattle.std.proofs.Common.{◌≡◌, ◌++◌, ◌<◌, map, ap, ap₂, ◌∙◌, arith}
use Rattle.std.specs.Option.{option_to_list}
use Rattle.std.proofs.lemmas.List.{map-append}
use Rattle.sync_msg.specs.Items.{item_value}
use Rattle.sync_core.specs.Flat.{row_in}
use Rattle.sync_core.specs.Runs.{left_to_say}
use Rattle.sync_core.proofs.OneByOne.{says_first}
use Rattle.sync_pair.specs.Passing.{turn_end}
use Rattle.sync_pair.proofs.TurnEnds.{on_ok, on_both_ok, always_ok, row_kept, passes_on, passes_first}
use Rattle.sync_pair.proofs.pass.pass_item.Goals as goal

pub encode_item-requires : goal.encode_item-requires
encode_item-requires g c =
    (passes_first c.args.from.now.side c.say.new.self.side c.args.to.now.side (item_value g.R.Row.value c.in_ok-item.item) c.in_ok-item.ensures.said c.requires.passes).spelled

pub hear-requires-clause-comes : goal.hear-requires-clause-comes
hear-requires-clause-comes g c =
    (passes_first c.args.from.now.side c.say.new.self.side c.args.to.now.side (item_value g.R.Row.value c.in_ok-item.item) c.in_ok-item.ensures.said c.requires.passes).may_come

pub hear-requires-clause-prints : goal.hear-requires-clause-prints
hear-requires-clause-prints g c =
    (passes_first c.args.from.now.side c.say.new.self.side c.args.to.now.side (item_value g.R.Row.value c.in_ok-item.item) c.in_ok-item.ensures.said c.requires.passes).prints

pub returns-clause-rest : goal.returns-clause-rest
returns-clause-rest g c =
    let first = passes_first c.args.from.now.side c.say.new.self.side c.args.to.now.side (item_value g.R.Row.value c.in_ok-item.item) c.in_ok-item.ensures.said c.requires.passes in
    on_ok c.hear.result (first.rest c.hear.new.self.side) c.hear.ensures.heard

pub returns-clause-fewer : goal.returns-clause-fewer
returns-clause-fewer g c =
    let first = says_first c.args.from.now.side c.say.new.self.side (item_value g.R.Row.value c.in_ok-item.item) c.in_ok-item.ensures.said in
    let fewer : left_to_say c.say.new.self.side.doing < left_to_say c.args.from.now.side.doing = omega (arith, first.fewer) in
    always_ok c.hear.result fewer

pub returns-clause-end : goal.returns-clause-end
returns-clause-end g c =
    let value = g.R.Row.value in
    let item = c.in_ok-item.item in
    let got = c.args.to.now.got.items in
    let next = c.say.new.self.side in
    let then = c.hear.new.self.side in
    on_both_ok c.hear.result
    (λ heard kept.
    let rows : map value c.hear.new.self.got.items ≡ map value got ++ option_to_list (row_in (item_value value item)) =
    ap (map value) kept ∙ map-append value got (option_to_list (row_in item)) ∙ ap (λ l. map value got ++ l) (row_kept value item) in
    ap₂ (turn_end next then) c.in_ok-encode_item.ensures.spelled rows
    ∙ passes_on c.args.from.now.side next c.args.to.now.side then (item_value value item) c.args.bytes.now.items (map value got) c.in_ok-item.ensures.said heard)
    c.hear.ensures.heard c.hear.ensures.got
