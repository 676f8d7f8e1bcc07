-- A value spells one thing.
use Rattle.std.proofs.Common.{◌≡◌, ℕ, List, get_or, true, eqb, Option, Some, None, codes, refl, sym, ap, ◌∙◌, arith, subst}
use Rattle.std.specs.Option.{option_eq}
use Rattle.std.proofs.lemmas.Bool.{false≢true}
use Rattle.std.proofs.lemmas.Bool.Decides.{nat_tests}
use Rattle.peer_words.specs.Areas.{AreRising}
use Rattle.peer_words.specs.Options.{Setting, HaveOwnNames, IsSetTo, MayBeSet}
use Rattle.peer_words.specs.Values.{IsNumber, IsNumberOrNone}
use Rattle.peer_words.proofs.Numbers.{one_number, not_letter}
use Rattle.peer_words.proofs.SetOnce.{one_word}

-- a word of the form stands for one x
abbrev pub IsSingle : {A : Type 0} → (List ℕ → A → Type 0) → Type 0
IsSingle {A} P = (word : List ℕ) (x y : A) → P word x → P word y → x ≡ y

-- what a name gives twice is alike, where each name stands once
pub gives_same : {A : Type 0} (R : A → A → Type 0) (P : List ℕ → A → Type 0) → ((word : List ℕ) (x y : A) → P word x → P word y → R x y) → (settings : List Setting) → HaveOwnNames settings → (name : List ℕ) (x y : A) → IsSetTo P settings name x → IsSetTo P settings name y → R x y
gives_same R P one settings own name x y a b =
    one b.0 x y (subst (λ (word : List ℕ). P word x) (one_word settings own name a.0 b.0 a.1 b.1) a.2) b.2

pub gives_one : {A : Type 0} (P : List ℕ → A → Type 0) → IsSingle P → (settings : List Setting) → HaveOwnNames settings → (name : List ℕ) (x y : A) → IsSetTo P settings name x → IsSetTo P settings name y → x ≡ y
gives_one P one settings own name x y a b = gives_same (λ v w. v ≡ w) P one settings own name x y a b

pub may_give_one : {A : Type 0} (P : List ℕ → A → Type 0) → IsSingle P → (settings : List Setting) → HaveOwnNames settings → (name : List ℕ) (x y : Option A) → MayBeSet P settings name x → MayBeSet P settings name y → x ≡ y
may_give_one P one settings own name None None a b = refl
may_give_one P one settings own name None (Some y) a b = absurd (a b.0 b.1)
may_give_one P one settings own name (Some x) None a b = absurd (b a.0 a.1)
may_give_one P one settings own name (Some x) (Some y) a b = ap Some (gives_one P one settings own name x y a b)

pub one_end : IsSingle IsNumberOrNone
one_end word None None a b = refl
one_end word None (Some n) a b = absurd (not_letter word (ap (λ (w : List ℕ). get_or w 0 0) a) n b)
one_end word (Some n) None a b = absurd (not_letter word (ap (λ (w : List ℕ). get_or w 0 0) b) n a)
one_end word (Some n) (Some m) a b = ap Some (one_number word n m a b)

-- the times that options give rise or do not
pub times_are : (settings : List Setting) → HaveOwnNames settings → (start : Option ℕ) (end : Option (Option ℕ)) (other : Option ℕ) (later : Option (Option ℕ))
    → MayBeSet IsNumber settings (codes "--from") start → MayBeSet IsNumberOrNone settings (codes "--until") end
    → MayBeSet IsNumber settings (codes "--from") other → MayBeSet IsNumberOrNone settings (codes "--until") later
    → AreRising other later → AreRising start end
times_are settings own start end other later a b c d rising =
    subst (λ (s : Option ℕ). AreRising s end) (may_give_one IsNumber one_number settings own (codes "--from") other start c a)
    (subst (λ (e : Option (Option ℕ)). AreRising other e) (may_give_one IsNumberOrNone one_end settings own (codes "--until") later end d b) rising)

-- an end that passes the test for 0 is 0
pub ends_at_0 : (end : Option (Option ℕ)) → true ≡ option_eq (option_eq eqb) end (Some (Some 0)) → end ≡ Some (Some 0)
ends_at_0 None test = absurd (false≢true (sym test))
ends_at_0 (Some None) test = absurd (false≢true (sym test))
ends_at_0 (Some (Some n)) test = let zero : n ≡ 0 = grind (arith, nat_tests) in ap (λ (m : ℕ). Some (Some m)) zero

-- so it is, where the options give it
pub given_end : (settings : List Setting) → HaveOwnNames settings → (end read : Option (Option ℕ)) → MayBeSet IsNumberOrNone settings (codes "--until") end → MayBeSet IsNumberOrNone settings (codes "--until") read
    → true ≡ option_eq (option_eq eqb) read (Some (Some 0)) → end ≡ Some (Some 0)
given_end settings own end read a b test = may_give_one IsNumberOrNone one_end settings own (codes "--until") end read a b ∙ ends_at_0 read test
