use Rattle.std.proofs.Common.{sym, ◌∙◌}
use Rattle.willow_area.specs.AreaBox.{area_box}
use Rattle.sync_pair.proofs.Agreeing.{agrees_left, agrees_right}
use Rattle.sync_pair.proofs.laws.agreement.Goals as goal

pub returns-clause-left : goal.returns-clause-left
returns-clause-left c = λ version namespace a b x stores whole apart. agrees_left version namespace a b x stores apart whole

pub returns-clause-right : goal.returns-clause-right
returns-clause-right c = λ version namespace a b x stores whole apart. agrees_right version namespace a b x stores apart whole

pub returns-clause-areas : goal.returns-clause-areas
returns-clause-areas c = λ version namespace a b area stores paths times apart.
    agrees_left version namespace a b (area_box area) stores apart (record { paths = paths; times = times })
    ∙ sym (agrees_right version namespace a b (area_box area) stores apart (record { paths = paths; times = times }))
