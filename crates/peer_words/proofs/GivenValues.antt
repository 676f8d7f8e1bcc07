-- What is read of the value behind a name.
use Rattle.std.proofs.Common.{◌≡◌, ℕ, Bool, List, true, false, Option, Some, None, MatchOption, Result, Ok, Err, Bor, codes, sym, subst}
use Rattle.std.specs.Option.{is_some}
use Rattle.std.proofs.lemmas.Bool.{false≢true}
use Rattle.spelling.specs.declared.ending.End.{End}
use Rattle.spelling.specs.declared.ending.End.TheVariants.{Refused, NoMemory}
use Rattle.peer_words.specs.Options.{Setting, HaveOwnNames, IsSet, IsSetTo, MayBeSet, IsAsked}
use Rattle.peer_words.specs.Words.{Reads}
use Rattle.peer_words.specs.declared.command.Usage.{Usage}
use Rattle.peer_words.proofs.SetOnce.{one_word}

-- the answers of a look for a value
abbrev Finds : List Setting → List ℕ → Option (Bor (List ℕ)) → Type 0
Finds settings name found = MatchOption found ((word : List ℕ) → IsSet settings name word → ⊥) (λ (value : Bor (List ℕ)). IsSet settings name value.now)

pub some_set : (settings : List Setting) (name : List ℕ) (found : Option (Bor (List ℕ))) → Finds settings name found → true ≡ is_some found → (word : List ℕ) × IsSet settings name word
some_set settings name None finds some = absurd (false≢true (sym some))
some_set settings name (Some value) finds some = (value.now, finds)

pub none_set_so : (settings : List Setting) (name : List ℕ) (found : Option (Bor (List ℕ))) → Finds settings name found → false ≡ is_some found → (word : List ℕ) → IsSet settings name word → ⊥
none_set_so settings name None finds none = finds
none_set_so settings name (Some value) finds none = absurd (false≢true none)

-- where each name stands once, the value found is the only one
pub only_found : (within settings : List Setting) → within ≡ settings → HaveOwnNames within → (name : List ℕ) (found : Option (Bor (List ℕ))) → Finds within name found
    → MatchOption found ((word : List ℕ) → IsSet settings name word → ⊥) (λ (value : Bor (List ℕ)). IsSet settings name value.now × ((word : List ℕ) → IsSet settings name word → word ≡ value.now))
only_found within settings same own name found finds =
    subst (λ (ss : List Setting). MatchOption found ((word : List ℕ) → IsSet ss name word → ⊥) (λ (value : Bor (List ℕ)). IsSet ss name value.now × ((word : List ℕ) → IsSet ss name word → word ≡ value.now))) same (go found finds)
  where
    go : (found : Option (Bor (List ℕ))) → Finds within name found → MatchOption found ((word : List ℕ) → IsSet within name word → ⊥) (λ (value : Bor (List ℕ)). IsSet within name value.now × ((word : List ℕ) → IsSet within name word → word ≡ value.now))
    go None finds = finds
    go (Some value) finds = (finds, (λ word is. one_word within own name word value.now is finds))

-- what the only value spells is what the name gives
pub gives_read : {A : Type 0} (P : List ℕ → A → Type 0) (settings : List Setting) (name value : List ℕ) (result : Result A (End Usage)) → IsSet settings name value → ((word : List ℕ) → IsSet settings name word → word ≡ value)
    → Reads (P value) result → Reads (IsSetTo P settings name) result
gives_read P settings name value (Ok x) is only reads = (value, is, reads)
gives_read P settings name value (Err (Refused e)) is only reads = λ x gives. reads x (subst (λ (word : List ℕ). P word x) (only gives.0 gives.1) gives.2)
gives_read P settings name value (Err NoMemory) is only reads = tt

pub gives_nothing : {A : Type 0} (P : List ℕ → A → Type 0) (settings : List Setting) (name : List ℕ) → ((word : List ℕ) → IsSet settings name word → ⊥) → (x : A) → IsSetTo P settings name x → ⊥
gives_nothing P settings name none x gives = none gives.0 gives.1

-- where the only value spells nothing, there is nothing that the name may give
pub may_give_nothing : {A : Type 0} (P : List ℕ → A → Type 0) (settings : List Setting) (name value : List ℕ) → IsSet settings name value → ((word : List ℕ) → IsSet settings name word → word ≡ value)
    → ((x : A) → P value x → ⊥) → (y : Option A) → MayBeSet P settings name y → ⊥
may_give_nothing P settings name value is only none None may = may value is
may_give_nothing P settings name value is only none (Some x) gives = none x (subst (λ (word : List ℕ). P word x) (only gives.0 gives.1) gives.2)

-- ---- whether a name stands, with the value `yes`

pub yes_asked : (settings : List Setting) (name value : List ℕ) → IsSet settings name value → value ≡ codes "yes" → IsSet settings name (codes "yes")
yes_asked settings name value is same = subst (λ (word : List ℕ). IsSet settings name word) same is

-- another value says nothing
pub other_asked : (settings : List Setting) (name value : List ℕ) → IsSet settings name value → ((word : List ℕ) → IsSet settings name word → word ≡ value) → (value ≡ codes "yes" → ⊥)
    → (asked : Bool) → IsAsked settings name asked → ⊥
other_asked settings name value is only other true asks = other (sym (only (codes "yes") asks))
other_asked settings name value is only other false none = none value is
