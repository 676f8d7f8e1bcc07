-- A session over a link that was answered is one with another side.
use Rattle.std.proofs.Common.{◌≡◌, ◌∙◌, ℕ, List, [], ◌++◌, Option, None, Some, sym, subst, ap}
use Rattle.std.specs.Prelude.{IfSome}
use Rattle.willow_outside.specs.Counts.{HasRisen}
use Rattle.willow_outside.specs.Links.{IsFresh}
use Rattle.willow_outside.specs.Told.{Extends}
use Rattle.session_rules.specs.Rounds.{IsFront}
use Rattle.sync_link.specs.Ran.{Ran, HasOther}
use Rattle.sync_link.specs.Sessions.{Party, out}
use Rattle.peer_run.specs.Answered.{IsAnsweredOver}

-- all that was told of a list that began empty
whole : (old new : Option (List ℕ)) (bytes told : List ℕ) → IfSome old (λ xs. xs ≡ []) → Extends old new bytes → new ≡ Some told → told ≡ bytes
whole None new bytes told empty grew is =
    let none : None ≡ Some told = sym grew ∙ is in
    absurd cc
whole (Some xs) new bytes told empty grew is =
    let some : Some (xs ++ bytes) ≡ Some told = sym grew ∙ is in
    let same : xs ++ bytes ≡ told = cc in
    sym same ∙ ap (λ (l : List ℕ). l ++ bytes) empty

pub has_other : {p : List ℕ → Party} (ran : Ran p) → IsFresh ran.link → (over : IsAnsweredOver p ran.link') → HasOther ran over.other over.rows
has_other {p} ran fresh over =
    let can = over.can_answer ran.did.signature in
    let taken = whole ran.link.taken ran.link'.taken ran.did.bytes over.taken fresh.3 ran.did.taken.1 over.are_taken in
    let held = whole ran.link.held ran.link'.held ran.did.written over.held fresh.4 ran.did.held over.are_held in
    record {
      roles = can.roles;
      same_rules = can.same_rules;
      same_namespace = can.same_namespace;
      accepts = can.accepts;
      opens = can.opens;
      hears =
          subst (λ (l : List ℕ). IsFront ran.did.bytes (out over.other over.rows l)) held
          (subst (λ (l : List ℕ). IsFront l (out over.other over.rows over.held)) taken over.hears);
      hears_all = λ risen.
          sym taken ∙ over.hears_all (subst (λ (k : ℕ). HasRisen k ran.link'.ends) fresh.2 risen) ∙ ap (out over.other over.rows) held;
    }
