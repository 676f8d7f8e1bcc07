-- The loop over the link goes on, whatever the session began with.
use Rattle.std.proofs.Common.{◌≡◌, ℕ, Bool, List, sym, ◌∙◌}
use Rattle.scheme_core.specs.Rules.{Rules}
use Rattle.sync_link.specs.UnderWay.{Start, IsBy, Now, IsUnderWay}

-- a session that was so is so now
unfoldable pub Keeps : Rules → List ℕ → (List ℕ → List ℕ → Bool) → ℕ → Now → Now → Type 0
Keeps rules namespace gives most old now = (start : Start) → IsBy start rules namespace gives most → IsUnderWay start old → IsUnderWay start now

pub keeps_self : (rules : Rules) (namespace : List ℕ) (gives : List ℕ → List ℕ → Bool) (most : ℕ) (now : Now) → Keeps rules namespace gives most now now
unfolding Keeps
keeps_self rules namespace gives most now start is u = u

-- the same by the signer and the link as they are now
pub is_now : (start : Start) (rules : Rules) (namespace : List ℕ) (gives gives' : List ℕ → List ℕ → Bool) (most most' : ℕ) → gives' ≡ gives → most' ≡ most → IsBy start rules namespace gives most → IsBy start rules namespace gives' most'
is_now start rules namespace gives gives' most most' same same_most is = record {
  by_rules = is.by_rules;
  in_namespace = is.in_namespace;
  gives_so = is.gives_so ∙ sym same;
  at_once = is.at_once ∙ sym same_most;
  signs = is.signs;
}

pub keeps_on : (rules : Rules) (namespace : List ℕ) (gives gives' : List ℕ → List ℕ → Bool) (most most' : ℕ) (old now next : Now) → gives' ≡ gives → most' ≡ most → Keeps rules namespace gives most old now
    → ((start : Start) → IsBy start rules namespace gives' most' → IsUnderWay start now → IsUnderWay start next) → Keeps rules namespace gives most old next
unfolding Keeps
keeps_on rules namespace gives gives' most most' old now next same same_most k step start is u = step start (is_now start rules namespace gives gives' most most' same same_most is) (k start is u)
