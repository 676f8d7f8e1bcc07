-- Nothing is against a meeting exactly where both images are of one namespace and nothing is against either hello.
use Rattle.std.proofs.Common.{◌≡◌, ℕ, Bool, true, false, not, List, Option, None, refl, ap, ◌∙◌}
use Rattle.std.specs.Cmp.Lexicographic.{bytes_decides}
use Rattle.spelling.specs.Answers.{or_else, cause_if}
use Rattle.spelling.proofs.Causes.{or_else_both}
use Rattle.willow_entry.specs.Entry.{same_bytes}
use Rattle.mc_cap.specs.declared.capability.Capability.{Capability}
use Rattle.session_end.specs.declared.refusal.HelloRefusal.{HelloRefusal}
use Rattle.session_end.specs.declared.refusal.HelloRefusal.TheVariants.{WrongNamespace}
use Rattle.peer_words.specs.declared.command.AreaWords.{AreaWords}
use Rattle.peer_run.specs.Greeting.{own_refusal}
use Rattle.peer_run.specs.Meet.{meeting_refusal, namespaces_refusal, side_hello}

-- what it takes that nothing is against a meeting
pub record AreAgreed (words : AreaWords) (n m : List ℕ) (c d : Capability) : Type 0 where
  pub one_namespace : m ≡ n
  pub left : own_refusal n (side_hello words c) ≡ None
  pub right : own_refusal n (side_hello words d) ≡ None

pub none_against : (words : AreaWords) (n : List ℕ) (c d : Capability) → own_refusal n (side_hello words c) ≡ None → own_refusal n (side_hello words d) ≡ None → meeting_refusal words n n c d ≡ None
unfolding meeting_refusal
none_against words n c d left right =
    ap (λ (b : Bool). or_else (cause_if (not b) WrongNamespace) (or_else (own_refusal n (side_hello words c)) (own_refusal n (side_hello words d)))) ((bytes_decides n n).1 refl)
    ∙ ap (λ (o : Option HelloRefusal). or_else o (own_refusal n (side_hello words d))) left
    ∙ right

same_namespace : (n m : List ℕ) → namespaces_refusal n m ≡ None → m ≡ n
same_namespace n m none = by (same_bytes m n) refl none where
  by : (b : Bool) → same_bytes m n ≡ b → cause_if (not b) WrongNamespace ≡ None → m ≡ n
  by true same e = (bytes_decides m n).0 same
  by false same e = absurd cc

pub agreed : (words : AreaWords) (n m : List ℕ) (c d : Capability) → meeting_refusal words n m c d ≡ None → AreAgreed words n m c d
unfolding meeting_refusal
agreed words n m c d none =
    let first = or_else_both (namespaces_refusal n m) (or_else (own_refusal n (side_hello words c)) (own_refusal n (side_hello words d))) none in
    let hellos = or_else_both (own_refusal n (side_hello words c)) (own_refusal n (side_hello words d)) first.1 in
    record { one_namespace = same_namespace n m first.0; left = hellos.0; right = hellos.1 }
