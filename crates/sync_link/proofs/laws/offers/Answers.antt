use Rattle.std.proofs.Common.{Option, ap, ap₂, ◌∙◌}
use Rattle.willow_area.specs.Boxes.{Ranges}
use Rattle.area_interest.specs.Interest.{interest}
use Rattle.area_interest.proofs.Offering.{all_inside}
use Rattle.area_interest.proofs.Unlimited.{takes_all}
use Rattle.sync_core.specs.Place.{rows_of_area}
use Rattle.sync_link.specs.Places.{of_interest}
use Rattle.sync_link.proofs.laws.offers.Goals as goal

pub returns-clause-limited : goal.returns-clause-limited
returns-clause-limited c = λ p hello rows x is.
    ap (λ (b : Option Ranges). rows_of_area b (of_interest p.interest b rows)) is ∙ all_inside rows x p.interest.newest p.interest.bytes

pub returns-clause-unlimited : goal.returns-clause-unlimited
returns-clause-unlimited c = λ p hello rows x is none live one.
    ap (λ (b : Option Ranges). rows_of_area b (of_interest p.interest b rows)) is
    ∙ all_inside rows x p.interest.newest p.interest.bytes
    ∙ ap₂ (λ n b. interest rows x n b) none.0 none.1
    ∙ takes_all rows x live one

pub returns-clause-nowhere : goal.returns-clause-nowhere
returns-clause-nowhere c = λ p hello rows is. ap (λ (b : Option Ranges). rows_of_area b (of_interest p.interest b rows)) is
