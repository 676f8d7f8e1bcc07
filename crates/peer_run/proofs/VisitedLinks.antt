-- Of the sessions one by one, over links that were answered.
use Rattle.std.proofs.Common.{ℕ, Bool, ◌+◌, List, [], ◌∷◌, map, get_or, All, Contains}
use Rattle.std.specs.List.{AllByRecursion}
use Rattle.std.proofs.lemmas.List.Elements.{All-from_recursion, All-contains, Contains-get_or, recursion_from_All}
use Rattle.willow_entry.specs.declared.row.LogRow.{LogRow}
use Rattle.auth_entry.specs.Authorised.{AuthorisedValue}
use Rattle.mc_cap.specs.declared.capability.Capability.{Capability}
use Rattle.sync_link.specs.Sessions.{Party}
use Rattle.call_rules.specs.Visits.{AreVisits}
use Rattle.peer_make.specs.declared.key_signer.KeySigner.{KeySigner}
use Rattle.peer_run.specs.Answered.{AreAnswered, IsAnsweredOver, SignsFor}
use Rattle.peer_run.specs.Visiting.{Visit, IsVisit}

-- It is one of the visits, by a signer that signs for the capability, and another side answered over its link.
pub record IsAnsweredVisit (awaited follows : Bool) (opening log : List (LogRow AuthorisedValue)) (p : List ℕ → List ℕ → Party) (cap : Capability) (visit : Visit) : Type 0 where
  pub number : ℕ
  pub signer : KeySigner
  pub draw : List ℕ
  pub is_visit : IsVisit awaited follows opening log p number signer draw visit
  pub signs : SignsFor cap signer
  pub answered : IsAnsweredOver (p draw) visit.behind

module _ (awaited follows : Bool) (opening log : List (LogRow AuthorisedValue)) (p : List ℕ → List ℕ → Party) (cap : Capability) where
  each_answered : (number : ℕ) (signers : List KeySigner) (draws : List (List ℕ)) (visits : List Visit) → AreVisits (IsVisit awaited follows opening log p) number signers draws visits → AllByRecursion (SignsFor cap) signers
      → AreAnswered p draws (map (λ (visit : Visit). visit.behind) visits) → AllByRecursion (IsAnsweredVisit awaited follows opening log p cap) visits
  each_answered number signers draws [] are signs answered = tt
  each_answered number (signer ∷ signers) (draw ∷ draws) (visit ∷ visits) are signs answered =
      (record { number = number; signer = signer; draw = draw; is_visit = are.0; signs = signs.0; answered = answered.0 }, each_answered (number + 1) signers draws visits are.1 signs.1 answered.1)
  each_answered number [] draws (visit ∷ visits) are signs answered = absurd are
  each_answered number (signer ∷ signers) [] (visit ∷ visits) are signs answered = absurd are

  pub answered_visit : (number : ℕ) (signers : List KeySigner) (draws : List (List ℕ)) (visits : List Visit) → AreVisits (IsVisit awaited follows opening log p) number signers draws visits
      → ((signer : KeySigner) → Contains signers signer → SignsFor cap signer) → AreAnswered p draws (map (λ (visit : Visit). visit.behind) visits)
      → (visit : Visit) → Contains visits visit → IsAnsweredVisit awaited follows opening log p cap visit
  answered_visit number signers draws visits are signs answered visit at =
      let all : All (SignsFor cap) signers = λ k d within. signs (get_or signers k d) (Contains-get_or signers k d within) in
      let each = each_answered number signers draws visits are (recursion_from_All (SignsFor cap) signers all) answered in
      All-contains (IsAnsweredVisit awaited follows opening log p cap) visits visit (All-from_recursion (IsAnsweredVisit awaited follows opening log p cap) visits each) at
