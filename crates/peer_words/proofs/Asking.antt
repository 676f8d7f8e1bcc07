-- Where want of memory is passed on, memory was asked for.
use Rattle.std.proofs.Common.{◌≡◌, ℕ, ◌%◌, ◌≤◌, ◌⊎◌, List, length, get_or, drop, Option, Some, None, Result, Ok, Err, String, inl, inr, sym, ap, ◌∙◌, subst}
use Rattle.std.specs.List.{position_or_len}
use Rattle.std.specs.Result.{IsErrAnd}
use Rattle.std.proofs.lemmas.Result.{err_from_is_err_and}
use Rattle.std.specs.declared.alloc.Global.{Global}
use Rattle.hex.specs.Hex.{decode_of}
use Rattle.hex.proofs.HexLemmas.{decode_of-ok}
use Rattle.spelling.specs.declared.ending.End.{End}
use Rattle.spelling.specs.declared.ending.End.TheVariants.{NoMemory}
use Rattle.peer_words.specs.Memory.{IsSetAs, PathWordAsks}
use Rattle.peer_words.specs.Options.{Setting, IsSetTo, MayBeSet}
use Rattle.peer_words.specs.Values.{IsName, IsNameWord}
use Rattle.peer_words.specs.declared.command.Usage.{Usage}
use Rattle.peer_words.specs.declared.name.Name.{Name}
use Rattle.peer_words.proofs.PathWords.{is_slash, front_of}

-- where a part asked, the whole did
pub asks_on : {A B P Q : Type 0} (e : End Usage) (r : Result B (End Usage)) → IsErrAnd r (λ y. y ≡ e) → (◌≡◌ {A = Result A (End Usage)} (Err e) (Err NoMemory) → P) → (P → Q)
    → r ≡ Err NoMemory → Q
asks_on {A} e r is part whole want =
    let end = err_from_is_err_and r is in
    let same : e ≡ NoMemory = cc (end.1, end.2, want) in
    whole (part (ap Err same))

-- a name that was read is a word that asks
pub name_asks : (settings : List Setting) (name : List ℕ) (x : Name) → IsSetTo (λ word (n : Name). IsNameWord word n.0) settings name x → IsSetAs IsName settings name
name_asks settings name x given = (given.0, given.1, given.2.1)

-- the digits of a component are even
pub even_digits : (digits part : List ℕ) → decode_of digits ≡ Ok part → length digits % 2 ≡ 0
even_digits digits part decoded = (decode_of-ok digits part decoded).0

-- a word that is read from its front asks at its first component
pub path_asks : (word left : List ℕ) (n : ℕ) → (left ≡ word) ⊎ PathWordAsks word → 1 ≤ length left → get_or left 0 0 ≡ 47 → n ≡ position_or_len is_slash (drop 1 left) → n % 2 ≡ 0 → PathWordAsks word
path_asks word left n (inl same) some slash end even =
    let front : PathWordAsks left = record { behind = drop 1 left; spelled = front_of left some slash; even = ap (λ (m : ℕ). m % 2) (sym end) ∙ even } in
    subst (λ (w : List ℕ). PathWordAsks w) same front
path_asks word left n (inr asks) some slash end even = asks

-- where no name is given in a field of its own, none is given
pub no_name : (settings : List Setting) (name : List ℕ) → ((x : Option Name) → MayBeSet (λ word (n : Name). IsNameWord word n.0) settings name x → ⊥) → (y : Option (String Global)) → MayBeSet IsNameWord settings name y → ⊥
no_name settings name none None given = none None given
no_name settings name none (Some y) given = none (Some (record { 0 = y })) given
