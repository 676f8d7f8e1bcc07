-- Why the own hello of a side is refused, by the steps of the check.
use Rattle.std.proofs.Common.{◌≡◌, ℕ, inl, inr, Bool, true, false, cond, not, List, Option, Some, None, ap, ◌∙◌, subst}
use Rattle.std.specs.Prelude.{Result, Ok, Err}
use Rattle.spelling.specs.Answers.{or_else, cause_if}
use Rattle.spelling.proofs.Causes.{or_else_both}
use Rattle.lms_core.specs.Use.{peer_rules}
use Rattle.mc_cap.specs.Grant.{granted}
use Rattle.mc_cap.specs.declared.capability.Capability.{Capability}
use Rattle.willow_area.specs.Area.{includes_area}
use Rattle.willow_area.specs.declared.area.Area.{Area}
use Rattle.session_end.specs.declared.refusal.HelloRefusal.{HelloRefusal}
use Rattle.session_end.specs.declared.refusal.HelloRefusal.TheVariants.{AskOutsideGrant}
use Rattle.sync_hello.specs.Checked.{claim_refusal, capability_refusal, ask_refusal, hello_refusal}
use Rattle.sync_hello.specs.declared.hello.Hello.{Hello}
use Rattle.peer_words.specs.Areas.{completed, is_empty}
use Rattle.peer_words.specs.declared.command.AreaWords.{AreaWords}
use Rattle.peer_stage.specs.declared.outcome.Stop.{Stop}
use Rattle.peer_stage.specs.declared.outcome.Stop.TheVariants as stop
use Rattle.peer_run.specs.Greeting.{Greets, JudgesOwn, empty_refusal, hello_of, own_hello, own_refusal}

-- ---- causes in order

-- none is found, so a last cause would be
last_found : {E : Type 0} (a b c : Option E) (x : E) → or_else a (or_else b c) ≡ None → or_else a (or_else b (Some x)) ≡ Some x
last_found a b c x none =
    let first = or_else_both a (or_else b c) none in
    let second = or_else_both b c first.1 in
    ap (λ (o : Option _). or_else o (or_else b (Some x))) first.0 ∙ ap (λ (o : Option _). or_else o (Some x)) second.0

-- the cause that is found would be found too where the last test failed
found_anyway : {E : Type 0} (a b : Option E) (test : Bool) (x e : E) → or_else a (or_else b (cause_if test x)) ≡ Some e → or_else a (or_else b (Some x)) ≡ Some e
found_anyway (Some y) b test x e found = found
found_anyway None (Some y) test x e found = found
found_anyway None None true x e found = found
found_anyway None None false x e found = absurd cc

module _ (n : List ℕ) (words : AreaWords) (c : Capability) (nonce : List ℕ) where
  -- ---- an ask with times

  pub with_times : is_empty (completed words (granted c)) ≡ false → own_refusal n (own_hello words c nonce) ≡ hello_refusal peer_rules n (own_hello words c nonce)
  unfolding own_refusal
  with_times some = ap (λ (b : Bool). cond b (empty_refusal n (own_hello words c nonce)) (hello_refusal peer_rules n (own_hello words c nonce))) some

  pub greets : (ask : Area) (h : Hello) (result : Result Hello Stop) → ask ≡ completed words (granted c) → is_empty (completed words (granted c)) ≡ false → h ≡ hello_of c ask nonce
      → JudgesOwn n h result → Greets n words c nonce result
  greets ask h result ask_is some h_is judges = go result (subst (λ (g : Hello). JudgesOwn n g result) is judges) where
    is : h ≡ own_hello words c nonce
    is = h_is ∙ ap (λ (area : Area). hello_of c area nonce) ask_is

    go : (r : Result Hello Stop) → JudgesOwn n (own_hello words c nonce) r → Greets n words c nonce r
    go (Ok hello) j = (j.0, ap (own_refusal n) j.0 ∙ with_times some ∙ j.1)
    go (Err (stop.SessionRefused refusal)) j = with_times some ∙ j
    go (Err stop.NoMemory) j = inr some
    go (Err e) j = absurd j

  -- ---- an ask without times

  pub without_times : is_empty (completed words (granted c)) ≡ true → own_refusal n (own_hello words c nonce) ≡ empty_refusal n (own_hello words c nonce)
  unfolding own_refusal
  without_times none = ap (λ (b : Bool). cond b (empty_refusal n (own_hello words c nonce)) (hello_refusal peer_rules n (own_hello words c nonce))) none

  -- the same hello that asks for all that is granted
  abbrev all_granted : Hello
  all_granted = hello_of c (granted c) nonce

  passes_all : hello_refusal peer_rules n all_granted ≡ None → empty_refusal n (own_hello words c nonce) ≡ Some AskOutsideGrant
  unfolding hello_refusal claim_refusal
  passes_all passes = last_found (claim_refusal n all_granted) (capability_refusal peer_rules c) (ask_refusal all_granted) AskOutsideGrant passes

  fails_all : (refusal : HelloRefusal) → hello_refusal peer_rules n all_granted ≡ Some refusal → empty_refusal n (own_hello words c nonce) ≡ Some refusal
  unfolding hello_refusal claim_refusal
  fails_all refusal fails = found_anyway (claim_refusal n all_granted) (capability_refusal peer_rules c) (not (includes_area (granted c) (granted c))) AskOutsideGrant refusal fails

  judges_all : (area : Area) (h : Hello) (result : Result Hello Stop) → area ≡ granted c → h ≡ hello_of c area nonce → JudgesOwn n h result → JudgesOwn n all_granted result
  judges_all area h result area_is h_is judges = subst (λ (g : Hello). JudgesOwn n g result) (h_is ∙ ap (λ (a : Area). hello_of c a nonce) area_is) judges

  pub refuses_last : (area : Area) (h hello : Hello) → is_empty (completed words (granted c)) ≡ true → area ≡ granted c → h ≡ hello_of c area nonce
      → JudgesOwn n h (Ok hello) → Greets n words c nonce (Err (stop.SessionRefused AskOutsideGrant))
  refuses_last area h hello none area_is h_is judges =
      let j = judges_all area h (Ok hello) area_is h_is judges in
      without_times none ∙ passes_all j.1

  pub refuses_first : (area : Area) (h : Hello) (e : Stop) → is_empty (completed words (granted c)) ≡ true → area ≡ granted c → h ≡ hello_of c area nonce
      → JudgesOwn n h (Err e) → Greets n words c nonce (Err e)
  refuses_first area h e none area_is h_is judges = go e (judges_all area h (Err e) area_is h_is judges) where
    go : (s : Stop) → JudgesOwn n all_granted (Err s) → Greets n words c nonce (Err s)
    go (stop.SessionRefused refusal) j = without_times none ∙ fails_all refusal j
    go stop.NoMemory j = inl j.2
    go s j = absurd j
