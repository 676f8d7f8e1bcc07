-- The texts of refusals.
use Rattle.std.specs.Prelude.{ℕ, List, ◌++◌, codes, decimal}
use Rattle.mc_cap.specs.declared.check.ChainRefusal.{ChainRefusal}
use Rattle.mc_cap.specs.declared.check.ChainRefusal.TheVariants.{NotCommunal, NotOwned, BadInitial, AreaGrows, BadSignature, TooManyDelegations}
use Rattle.mc_cap.specs.declared.refusal.RowRefusal.{RowRefusal}
use Rattle.mc_cap.specs.declared.refusal.RowRefusal.TheVariants.{WrongNamespace, NotWrite, Chain, OutsideGrant, BadEntrySignature}

-- why a capability is not valid: the name, and the number of the delegation where there is one
abbrev pub chain_refusal_text : ChainRefusal → List ℕ
chain_refusal_text NotCommunal = codes "NotCommunal"
chain_refusal_text NotOwned = codes "NotOwned"
chain_refusal_text BadInitial = codes "BadInitial"
chain_refusal_text (AreaGrows at) = codes "AreaGrows " ++ decimal at
chain_refusal_text (BadSignature at) = codes "BadSignature " ++ decimal at
chain_refusal_text TooManyDelegations = codes "TooManyDelegations"

-- why a row is not authorised: the name, and the text of the capability's refusal where there is one
abbrev pub row_refusal_text : RowRefusal → List ℕ
row_refusal_text WrongNamespace = codes "WrongNamespace"
row_refusal_text NotWrite = codes "NotWrite"
row_refusal_text (Chain refusal) = codes "Chain " ++ chain_refusal_text refusal
row_refusal_text OutsideGrant = codes "OutsideGrant"
row_refusal_text BadEntrySignature = codes "BadEntrySignature"
