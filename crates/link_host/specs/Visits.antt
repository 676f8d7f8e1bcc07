-- What a host did with the links that came, one by one.
use Rattle.willow_outside.specs.Facts.{LinkFacts}
use Rattle.willow_outside.specs.Links.{IsFresh}

-- one visit: its job, the link as it was handed out, what the visit handed on, and the link as it came back
pub record Visit (J P : Type 0) : Type 0 where
  pub job : J
  pub handed_out : LinkFacts
  pub parting : P
  pub link : LinkFacts

module _ {J P : Type 0} where
  -- the link was as new, and the visit did what this says of its job, of both ends of the link and of what it handed on
  pub record IsVisit (does : J → LinkFacts → P → LinkFacts → Type 0) (v : Visit J P) : Type 0 where
    pub fresh : IsFresh v.handed_out
    pub did : does v.job v.handed_out v.parting v.link
