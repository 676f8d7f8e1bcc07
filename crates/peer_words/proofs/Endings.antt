-- An end that is passed on.
use Rattle.std.proofs.Common.{◌≡◌, Result, sym, subst}
use Rattle.std.specs.Result.{IsErrAnd}
use Rattle.std.proofs.lemmas.Result.{err_from_is_err_and}
use Rattle.spelling.specs.declared.ending.End.{End}
use Rattle.spelling.specs.declared.ending.End.TheVariants.{Refused, NoMemory}
use Rattle.peer_words.specs.declared.command.Usage.{Usage}
use Rattle.peer_words.specs.Words.{Refuses, Reads}

same_end : {A B : Type 0} (P : A → Type 0) (Q : B → Type 0) (e : End Usage) → Refuses P e → (((x : A) → P x → ⊥) → (y : B) → Q y → ⊥) → Refuses Q e
same_end P Q (Refused u) part whole = whole part
same_end P Q NoMemory part whole = tt

-- where a part is refused, the whole is
pub passed_on : {A B : Type 0} (P : A → Type 0) (Q : B → Type 0) (e : End Usage) (r : Result B (End Usage)) → IsErrAnd r (λ y. y ≡ e) → Refuses P e
    → (((x : A) → P x → ⊥) → (y : B) → Q y → ⊥) → Reads Q r
passed_on {A} {B} P Q e r is part whole =
    let end = err_from_is_err_and r is in
    subst (λ (o : Result B (End Usage)). Reads Q o) (sym end.1) (subst (λ (d : End Usage). Refuses Q d) (sym end.2) (same_end P Q e part whole))
