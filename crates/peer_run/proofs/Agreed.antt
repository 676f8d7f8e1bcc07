-- What two sides agree on, by the steps of the judging.
use Rattle.std.proofs.Common.{◌≡◌, ℕ, inl, inr, Bool, true, false, not, List, replicate, Option, Some, None, sym, ap, ◌∙◌}
use Rattle.std.specs.Prelude.{Ok, Err}
use Rattle.std.specs.Cmp.Lexicographic.{bytes_decides}
use Rattle.spelling.specs.Answers.{or_else, cause_if}
use Rattle.spelling.proofs.Causes.{or_else_both}
use Rattle.willow_area.specs.declared.area.Area.{Area}
use Rattle.willow_entry.specs.Entry.{same_bytes}
use Rattle.mc_cap.specs.declared.capability.Capability.{Capability}
use Rattle.mc_cap.proofs.Causes.{unless_true}
use Rattle.session_end.specs.declared.refusal.HelloRefusal.{HelloRefusal}
use Rattle.session_end.specs.declared.refusal.HelloRefusal.TheVariants.{WrongNamespace}
use Rattle.sync_hello.specs.Common.{common_area}
use Rattle.sync_hello.specs.declared.hello.Hello.{Hello}
use Rattle.peer_words.specs.declared.command.AreaWords.{AreaWords}
use Rattle.peer_stage.specs.declared.outcome.Stop.{Stop}
use Rattle.peer_stage.specs.declared.outcome.Stop.TheVariants as stop
use Rattle.peer_run.specs.Greeting.{Greets, own_refusal}
use Rattle.peer_run.specs.Meet.{Agrees, meeting_refusal, namespaces_refusal, side_hello}

module _ (words : AreaWords) (n m : List ℕ) (c d : Capability) where
  -- why either hello is refused
  abbrev either : Option HelloRefusal
  either = or_else (own_refusal n (side_hello words c)) (own_refusal n (side_hello words d))

  pub other_namespace : not (same_bytes m n) ≡ true → meeting_refusal words n m c d ≡ Some WrongNamespace
  unfolding meeting_refusal
  other_namespace differs = ap (λ (test : Bool). or_else (cause_if test WrongNamespace) either) differs

  -- where two sides agree, their images are of one namespace
  pub one_namespace : meeting_refusal words n m c d ≡ None → m ≡ n
  unfolding meeting_refusal
  one_namespace none = (bytes_decides m n).0 ((unless_true (same_bytes m n) WrongNamespace).0 (or_else_both (namespaces_refusal n m) either none).0)

  module _ (same : not (same_bytes m n) ≡ false) where
    of_hellos : meeting_refusal words n m c d ≡ either
    unfolding meeting_refusal
    of_hellos = ap (λ (test : Bool). or_else (cause_if test WrongNamespace) either) same

    one : namespaces_refusal n m ≡ None
    one = ap (λ (test : Bool). cause_if test WrongNamespace) same

    pub left_refused : (e : Stop) → Greets n words c (replicate 16 0) (Err e) → Agrees words n m c d (Err e)
    left_refused (stop.SessionRefused refusal) greets = of_hellos ∙ ap (λ (o : Option HelloRefusal). or_else o (own_refusal n (side_hello words d))) greets
    left_refused stop.NoMemory greets = record { one_namespace = one; left = inl greets; right = inl greets }
    left_refused e greets = absurd greets

    left_passes : (h : Hello) → Greets n words c (replicate 16 0) (Ok h) → own_refusal n (side_hello words c) ≡ None
    left_passes h greets = sym (ap (own_refusal n) greets.0) ∙ greets.1

    pub right_refused : (h : Hello) (e : Stop) → Greets n words c (replicate 16 0) (Ok h) → Greets n words d (replicate 16 0) (Err e) → Agrees words n m c d (Err e)
    right_refused h (stop.SessionRefused refusal) passed greets = of_hellos ∙ ap (λ (o : Option HelloRefusal). or_else o (own_refusal n (side_hello words d))) (left_passes h passed) ∙ greets
    right_refused h stop.NoMemory passed greets = record { one_namespace = one; left = inr (left_passes h passed); right = inr (inl greets) }
    right_refused h e passed greets = absurd greets

    -- nothing is against either hello, and no memory was found for the area
    pub unagreed : (h k : Hello) → Greets n words c (replicate 16 0) (Ok h) → Greets n words d (replicate 16 0) (Ok k) → Agrees words n m c d (Err stop.NoMemory)
    unagreed h k passed other = record { one_namespace = one; left = inr (left_passes h passed); right = inr (inr (sym (ap (own_refusal n) other.0) ∙ other.1)) }

    pub agrees : (h k : Hello) (area : Option Area) → Greets n words c (replicate 16 0) (Ok h) → Greets n words d (replicate 16 0) (Ok k) → area ≡ common_area h k → Agrees words n m c d (Ok area)
    agrees h k area one other is = (
      of_hellos ∙ ap (λ (o : Option HelloRefusal). or_else o (own_refusal n (side_hello words d))) (left_passes h one) ∙ sym (ap (own_refusal n) other.0) ∙ other.1,
      is ∙ ap (λ (g : Hello). common_area g k) one.0 ∙ ap (common_area (side_hello words c)) other.0,
    )
