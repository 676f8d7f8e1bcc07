-- What a side says of itself passes, whatever is drawn.
use Rattle.std.proofs.Common.{◌≡◌, ℕ, Bool, true, false, cond, List, Option, Some, None, refl, sym, subst, arith}
use Rattle.spelling.specs.Answers.{or_else}
use Rattle.area_interest.specs.declared.interest.Interest.{Interest}
use Rattle.lms_core.specs.Use.{peer_rules}
use Rattle.lms_core.specs.declared.scheme.PeerScheme.{PeerScheme}
use Rattle.mc_cap.specs.declared.capability.Capability.{Capability}
use Rattle.session_end.specs.declared.refusal.HelloRefusal.{HelloRefusal}
use Rattle.session_end.specs.declared.refusal.HelloRefusal.TheVariants.{AskOutsideGrant}
use Rattle.sync_msg.specs.declared.role.Role.{Role}
use Rattle.sync_hello.specs.Checked.{claim_refusal, capability_refusal, hello_refusal}
use Rattle.sync_hello.specs.declared.hello.Hello.{Hello}
use Rattle.sync_core.specs.SyncRules.{IsVersion}
use Rattle.sync_link.specs.Plans as plans
use Rattle.sync_link.specs.declared.plan.SessionPlan.{SessionPlan}
use Rattle.peer_words.specs.Areas.{is_empty}
use Rattle.peer_words.specs.declared.command.AreaWords.{AreaWords}
use Rattle.peer_run.specs.Greeting.{empty_refusal, own_hello, own_refusal}
use Rattle.peer_run.specs.Preparing.{no_nonce, plan_of}

never_none : {E : Type 0} (a b : Option E) (x : E) → or_else a (or_else b (Some x)) ≡ None → ⊥
never_none (Some y) b x e = absurd cc
never_none None (Some y) x e = absurd cc
never_none None None x e = absurd cc

-- an own hello that is not refused is one that passes
own_passes : (n : List ℕ) (h : Hello) → own_refusal n h ≡ None → hello_refusal peer_rules n h ≡ None
unfolding own_refusal
own_passes n h none = by (is_empty h.ask) none where
  by : (b : Bool) → cond b (empty_refusal n h) (hello_refusal peer_rules n h) ≡ None → hello_refusal peer_rules n h ≡ None
  by true e = absurd (never_none (claim_refusal n h) (capability_refusal peer_rules h.capability) AskOutsideGrant e)
  by false e = e

-- its nonce makes no difference to that
any_nonce : (n : List ℕ) (area : AreaWords) (c : Capability) (nonce : List ℕ) → hello_refusal peer_rules n (own_hello area c no_nonce) ≡ hello_refusal peer_rules n (own_hello area c nonce)
unfolding hello_refusal claim_refusal
any_nonce n area c nonce = refl

pub plan_passes : (role : Role) (n : List ℕ) (area : AreaWords) (limits : Interest) (c : Capability) (nonce : List ℕ) (plan : SessionPlan PeerScheme) → plan ≡ plan_of role (own_hello area c no_nonce) limits → own_refusal n (own_hello area c no_nonce) ≡ None
    → hello_refusal peer_rules n (plans.own_hello plan nonce) ≡ None
plan_passes role n area limits c nonce plan is none =
    let passes = subst (λ (o : Option HelloRefusal). o ≡ None) (any_nonce n area c nonce) (own_passes n (own_hello area c no_nonce) none) in
    subst (λ (p : SessionPlan PeerScheme). hello_refusal peer_rules n (plans.own_hello p nonce) ≡ None) (sym is) passes

-- and its version is one that is spoken
pub plan_speaks : (role : Role) (area : AreaWords) (limits : Interest) (c : Capability) (plan : SessionPlan PeerScheme) → plan ≡ plan_of role (own_hello area c no_nonce) limits → IsVersion plan.version
plan_speaks role area limits c plan is = subst (λ (p : SessionPlan PeerScheme). IsVersion p.version) (sym is) (omega arith, omega arith)
