-- Points of one dimension, one more of it, and where reading them asks for memory.
use Rattle.std.proofs.Common.{◌≡◌, ◌⊎◌, inl, inr, ℕ, zero, suc, ◌<◌, true, List, [], ◌∷◌, ◌++◌, Result, Err, refl, sym, ap, ◌∙◌, subst, eq-eqb, arith}
use Rattle.spelling.specs.declared.input.Unread.{Unread}
use Rattle.std.specs.Prelude.{nat_eq}
use Rattle.std.specs.List.{AllByRecursion, list_all}
use Rattle.std.proofs.lemmas.Bool.{and_from}
use Rattle.spelling.specs.Front.{Front, Whole, Part, Wrong, ◌>>=◌}
use Rattle.spelling.specs.Memory.{IsWhole}
use Rattle.spelling.specs.Reading.{many_at}
use Rattle.spelling.proofs.Joining.{bind_whole}
use Rattle.spelling.proofs.Loop.{behind}
use Rattle.willow_area.specs.declared.cut.CutAt.{CutAt}
use Rattle.sync_msg.specs.CutPoints.{dimension, are_of_one}
use Rattle.sync_msg.specs.ItemReading.{part_point_at}

-- one more of the dimension of the first
all_same : (d : ℕ) (first : CutAt) (ats : List CutAt) (at : CutAt) → dimension first ≡ d → AllByRecursion (λ p. dimension p ≡ d) ats → dimension at ≡ d → list_all (λ other. nat_eq (dimension other) (dimension first)) (ats ++ at ∷ []) ≡ true
all_same d first [] at e all f = and_from (nat_eq (dimension at) (dimension first)) true (eq-eqb (dimension at) (dimension first) (f ∙ sym e)) refl
all_same d first (a ∷ ats) at e all f =
    and_from (nat_eq (dimension a) (dimension first)) (list_all (λ other. nat_eq (dimension other) (dimension first)) (ats ++ at ∷ [])) (eq-eqb (dimension a) (dimension first) (all.0 ∙ sym e)) (all_same d first ats at e all.1 f)

-- points of a dimension and one more of it are of one
pub one_more_of : (d : ℕ) (ats : List CutAt) (at : CutAt) → AllByRecursion (λ p. dimension p ≡ d) ats → dimension at ≡ d → are_of_one (ats ++ at ∷ []) ≡ true
one_more_of d [] at all f = refl
one_more_of d (a ∷ ats) at all f = all_same d a ats at all.0 all.1 f

-- and each is of that dimension
pub all_more : (d : ℕ) (ats : List CutAt) (at : CutAt) → AllByRecursion (λ p. dimension p ≡ d) ats → dimension at ≡ d → AllByRecursion (λ p. dimension p ≡ d) (ats ++ at ∷ [])
all_more d [] at all f = (f, tt)
all_more d (a ∷ ats) at all f = (all.0, all_more d ats at all.1 f)

-- before anything was read
pub nothing_read : {A : Type 0} (front : Front (List A)) → behind [] front ≡ front
nothing_read (Whole xs rest) = refl
nothing_read Part = refl
nothing_read Wrong = refl

-- nothing was read yet, or the first point was whole
abbrev pub HasAsked : ℕ → List ℕ → List ℕ → Type 0
HasAsked d start left = (left ≡ start) ⊎ IsWhole (part_point_at d start)

-- what asks now asked behind the start
pub asks_now : (d : ℕ) (start left : List ℕ) → HasAsked d start left → IsWhole (part_point_at d left) → IsWhole (part_point_at d start)
asks_now d start left (inl is) asks = subst (λ l. IsWhole (part_point_at d l)) is asks
asks_now d start left (inr asked) asks = asked

-- what was read was whole
pub whole_is : {A : Type 0} (front : Front A) (x : A) (rest : List ℕ) → front ≡ Whole x rest → IsWhole front
whole_is front x rest e = subst (λ f. IsWhole f) (sym e) tt

-- the same error of another result
pub same_error : {T U : Type 0} (r : Result T Unread) (e f x : Unread) → r ≡ Err x → x ≡ e → r ≡ Err f → ◌≡◌ {A = Result U Unread} (Err e) (Err f)
same_error {T} {U} r e f x a b w =
    let same : x ≡ f = told (sym a ∙ w) in
    ap (λ (u : Unread). Err u) (sym b ∙ same)
  where
    told : ◌≡◌ {A = Result T Unread} (Err x) (Err f) → x ≡ f
    told h = cc

-- where many were read the first was whole
pub many_whole : {A : Type 0} (at : List ℕ → Front A) (n : ℕ) (bytes : List ℕ) (xs : List A) (rest : List ℕ) → 0 < n → many_at at n bytes ≡ Whole xs rest → IsWhole (at bytes)
unfolding many_at
many_whole at zero bytes xs rest some e = absurd (omega (arith, some))
many_whole at (suc n) bytes xs rest some e =
    let b = bind_whole (at bytes) (λ first. many_at at n first.1 >>= λ more. Whole (first.0 ∷ more.0) more.1) xs rest e in
    whole_is (at bytes) b.0 b.1 b.2
