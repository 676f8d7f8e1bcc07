use Rattle.std.proofs.Common.{rules, ◌≡◌, ◌<◌, Some, map, length, ap, ◌∙◌, sym}
use Rattle.std.proofs.lemmas.List.{nil_from_length}
use Rattle.sync_core.specs.Held.{items_at, owed_value}
use Rattle.sync_core.specs.Steps.{going_on}
use Rattle.sync_core.proofs.Spoken.{said_first, named_rest, ready_rest}
use Rattle.sync_core.proofs.say.say.Goals as goal

pub returns-then-is_empty-clause-doing : goal.returns-then-is_empty-clause-doing
returns-then-is_empty-clause-doing c = λ rows named.
    let work = c.args.work.now in
    let rest = c.pop_front.new.self.items in
    let asks = map (owed_value rows) work.ear.owed.items in
    let short : length rest ≡ 0 = search rules in
    said_first rows work c.in-Some.item rest c.in-Saying.is c.in-Some.ensures.items named
    ∙ ap (λ l. Some (going_on (items_at rows l) asks)) (nil_from_length rest short)
    ∙ ap (λ d. Some d) (sym (c.wait-work.ensures.doing rows (record work { items = c.pop_front.new.self })))

pub returns-else-is_empty-clause-ready : goal.returns-else-is_empty-clause-ready
returns-else-is_empty-clause-ready c = λ rows named.
    let work = c.args.work.now in
    let rest = c.pop_front.new.self.items in
    let some : 0 < length rest = search rules in
    ready_rest rows (record work { items = c.pop_front.new.self }) c.in-Saying.is some (named_rest rows work.items.items c.in-Some.item rest c.in-Some.ensures.items named)
