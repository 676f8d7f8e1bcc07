use Rattle.std.proofs.lemmas.List.Elements.{All-from_recursion, recursion_from_All}
use Rattle.willow_entry.specs.Frame.{HasFrame}
use Rattle.exchange_rules.specs.Answer.{turn}
use Rattle.exchange_rules.specs.Exchange.{first_turn}
use Rattle.sync_msg.specs.Items.{HasSpelling}
use Rattle.sync_core.specs.SyncRules.{sync_rules}
use Rattle.sync_core.specs.Flat.{turn_items}
use Rattle.sync_core.proofs.SpelledTurns.{told_turn, spelled_turn}
use Rattle.sync_core.proofs.laws.turns_are_spelled.Goals as goal

pub returns-clause-told : goal.returns-clause-told
returns-clause-told c = λ version rows asks rise. told_turn version rows rise asks

pub returns-clause-spelled : goal.returns-clause-spelled
returns-clause-spelled c = λ version rows asks rise few framed.
    All-from_recursion HasSpelling (turn_items version (turn (sync_rules version) rows asks)) (spelled_turn version rows rise few (recursion_from_All HasFrame rows framed) asks)

pub returns-clause-first : goal.returns-clause-first
returns-clause-first c = λ version rows area. All-from_recursion HasSpelling (turn_items version (first_turn (sync_rules version) rows area)) (tt, (tt, tt))
