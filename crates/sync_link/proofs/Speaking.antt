-- What a side says until it reads: it is all that there is to say.
use Rattle.std.proofs.Common.{◌≡◌, ℕ, zero, suc, [], Option, Some, None, refl, ap, ◌∙◌, arith}
use Rattle.sync_msg.specs.Items.{ItemValue}
use Rattle.sync_core.specs.Place.{Place}
use Rattle.sync_core.specs.Steps.{said}
use Rattle.sync_core.specs.Runs.{with_item, said_from, says, left_to_say, says_all}
use Rattle.sync_core.proofs.OneByOne.{says_first}
use Rattle.session_rules.specs.Talk.{speaks_from, speaks, spoken}
use Rattle.sync_link.specs.Places.{places}

-- the rules of sessions let a side speak as it does
pub speaks_as : (n : ℕ) (place : Place) → speaks places n place ≡ says n place
unfolding speaks says
speaks_as zero place = refl
speaks_as (suc n) place = by_next (speaks_as n) (said place)
  where
    by_next : ((next : Place) → speaks places n next ≡ says n next) → (o : Option (ItemValue × Place)) → speaks_from (speaks places n) place o ≡ said_from (says n) place o
    by_next later None = refl
    by_next later (Some step) = ap (with_item step.0) (later step.1)

pub spoken_as : (place : Place) → spoken places place ≡ says_all place
spoken_as place = speaks_as (left_to_say place.doing) place

silent : (n : ℕ) (place : Place) → said place ≡ None → says n place ≡ ([], place)
unfolding says
silent zero place none = refl
silent (suc n) place none = ap (said_from (says n) place) none

to_the_end : (n : ℕ) (place : Place) → left_to_say place.doing ≡ n → said (says_all place).1 ≡ None
to_the_end zero place left = by_next (said place) refl
  where
    by_next : (o : Option (ItemValue × Place)) → said place ≡ o → said (says_all place).1 ≡ None
    by_next None is = ap (λ run. said run.1) (silent (left_to_say place.doing) place is) ∙ is
    by_next (Some step) is =
        let first = says_first place step.1 step.0 is in
        absurd (omega (arith, left, first.fewer))
to_the_end (suc n) place left = by_next (λ next is. to_the_end n next is) (said place) refl
  where
    by_next : ((next : Place) → left_to_say next.doing ≡ n → said (says_all next).1 ≡ None) → (o : Option (ItemValue × Place)) → said place ≡ o → said (says_all place).1 ≡ None
    by_next later None is = ap (λ run. said run.1) (silent (left_to_say place.doing) place is) ∙ is
    by_next later (Some step) is =
        let first = says_first place step.1 step.0 is in
        ap (λ run. said run.1) first.all ∙ later step.1 (omega (arith, left, first.fewer))

-- where a side has said what it says until it reads, it says nothing more
pub all_spoken : (place : Place) → said (spoken places place).1 ≡ None
all_spoken place = ap (λ run. said run.1) (spoken_as place) ∙ to_the_end (left_to_say place.doing) place refl

-- it stays in its version
says_on : (n : ℕ) (place : Place) → (says n place).1.version ≡ place.version
unfolding says
says_on zero place = refl
says_on (suc n) place = by_next (says_on n) (said place) refl
  where
    by_next : ((next : Place) → (says n next).1.version ≡ next.version) → (o : Option (ItemValue × Place)) → said place ≡ o → (said_from (says n) place o).1.version ≡ place.version
    by_next later None is = refl
    by_next later (Some step) is = later step.1 ∙ (says_first place step.1 step.0 is).version

pub version_spoken : (place : Place) → (says_all place).1.version ≡ place.version
version_spoken place = says_on (left_to_say place.doing) place
