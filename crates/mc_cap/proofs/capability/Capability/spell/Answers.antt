use Rattle.std.proofs.lemmas.Result.{on_ok_weaker}
use Rattle.mc_cap.proofs.Spellings.{spelled_on}
use Rattle.mc_cap.proofs.capability.Capability.spell.Goals as goal

pub returns : goal.returns
returns c = on_ok_weaker c.spell_chain.result (spelled_on c.args.self.now c.args.text.now.items c.spell_head.new.text.items c.spell_chain.new.text.items c.in_ok-spell_head.ensures) c.spell_chain.ensures
