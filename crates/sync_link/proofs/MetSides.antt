-- Whom a session has met.
use Rattle.std.proofs.Common.{◌≡◌, inl, inr, ℕ, List, sym, subst}
use Rattle.willow_entry.specs.Row.{RowValue}
use Rattle.scheme_core.specs.Rules.{Rules}
use Rattle.sync_hello.specs.Checked.{Passes}
use Rattle.sync_hello.specs.declared.hello.Hello.{Hello}
use Rattle.sync_link.specs.Sessions.{Party}
use Rattle.sync_link.specs.Settling.{Accepts}
use Rattle.sync_link.specs.Ran.{Ran, side, AreBothRoles, IsOther}
use Rattle.sync_link.proofs.OtherSides.{MeetAs, IsMet}

-- what passes at the one passes at the other
pub passes_at : (p q : Party) (hello : Hello) → q.rules ≡ p.rules → q.namespace ≡ p.namespace → Passes p.rules p.namespace hello → Passes q.rules q.namespace hello
passes_at p q hello rules namespace passes =
    subst (λ (r : Rules). Passes r q.namespace hello) (sym rules)
    (subst (λ (n : List ℕ). Passes p.rules n hello) (sym namespace) passes)

-- two that accept each other can meet
pub meet_as : (p q : Party) → AreBothRoles p.role q.role → q.rules ≡ p.rules → q.namespace ≡ p.namespace → Accepts p q → Accepts q p → MeetAs p q
meet_as p q (inl r) rules namespace accepts is_accepted = inl (record { calls = r.0; answers = r.1; same_rules = rules; same_namespace = namespace; accepts = accepts; is_accepted = is_accepted })
meet_as p q (inr r) rules namespace accepts is_accepted = inr (record { calls = r.1; answers = r.0; same_rules = sym rules; same_namespace = sym namespace; accepts = is_accepted; is_accepted = accepts })

pub is_met : (p : List ℕ → Party) (ran : Ran p) (q : Party) (others : List RowValue) → IsOther ran q others → IsMet ran q others
is_met p ran q others other =
    let party = side ran in
    let own_passes = passes_at party q party.hello other.same_rules other.same_namespace ran.did.own_passes in
    record {
      can_meet = meet_as party q other.roles other.same_rules other.same_namespace other.accepts (record { hello_fits = ran.did.own_fits; hello_passes = own_passes; proof_fits = ran.did.proof_fits; proved = other.is_accepted });
      opens = other.opens;
      hears = other.hears;
    }
