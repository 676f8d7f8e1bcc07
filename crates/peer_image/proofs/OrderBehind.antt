-- The order of rows behind others that are in order.
use Rattle.std.proofs.Common.{◌≡◌, ◌↔◌, suc, ◌+◌, ◌-◌, Bool, true, false, cond, not, List, [], ◌∷◌, ◌++◌, length, map, filter, Option, Some, None, is_some, option_map, refl, sym, ap, subst, ◌∙◌, append_assoc, append-nil, arith, Bor}
use Rattle.std.specs.Prelude.{IsTrue}
use Rattle.std.specs.Option.{option_copied}
use Rattle.std.specs.List.{last_or, slice_get}
use Rattle.std.proofs.lemmas.List.{map-append}
use Rattle.std.proofs.lemmas.List.Elements.{filter-append}
use Rattle.spelling.specs.Answers.{or_else}
use Rattle.spelling.proofs.Causes.{or_else_both}
use Rattle.willow_entry.specs.Row.{RowValue, is_dominating}
use Rattle.peer_image.specs.declared.refusal.ImageRefusal.{ImageRefusal}
use Rattle.peer_image.specs.Fronts.{is_at_inner_prefix, numbered, StandBehind}
use Rattle.peer_image.specs.Order.{fall_after, first_fall, first_pruned, order_refusal, pruned_after, pruned_by, IsInnerRising}
use Rattle.std.specs.List.{position_from}
use Rattle.peer_image.proofs.Falls.{rising_after, none_after, rising_from_none, none_from_rising}
use Rattle.peer_image.proofs.LastFronts.{EndsIn, ends_in, last_of_snoc, rising_joined, rising_right}

-- ---- the last of a list

ends_at : {X : Type 0} (xs : List X) (last : X) → EndsIn xs last → slice_get xs (length xs - 1) ≡ Some last
ends_at {X} xs last end = subst (λ (l : List X). slice_get l (length l - 1) ≡ Some last) (sym end.parts) (each end.front) where
  each : (front : List X) → slice_get (front ++ last ∷ []) (length (front ++ last ∷ []) - 1) ≡ Some last
  each [] = refl
  each (x ∷ []) = refl
  each (x ∷ y ∷ front) =
      let i : length (x ∷ y ∷ front ++ last ∷ []) - 1 ≡ suc (length (y ∷ front ++ last ∷ []) - 1) = omega arith in
      ap (slice_get (x ∷ y ∷ front ++ last ∷ [])) i ∙ each (y ∷ front)

some_is : {X : Type 0} (x y : X) → Some x ≡ Some y → x ≡ y
some_is x y e = cc

pub ended : {X : Type 0} (xs : List X) (last : X) → Some last ≡ slice_get xs (length xs - 1) → EndsIn xs last
ended [] last e = absurd cc
ended (x ∷ xs) last e =
    let end = ends_in x xs in
    subst (EndsIn (x ∷ xs)) (some_is end.0 last (sym (ends_at (x ∷ xs) end.0 end.1) ∙ sym e)) end.1

pub empty : {X : Type 0} (xs : List X) → None ≡ slice_get xs (length xs - 1) → xs ≡ []
empty [] e = refl
empty (x ∷ xs) e =
    let end = ends_in x xs in
    let some : None ≡ Some end.0 = e ∙ ends_at (x ∷ xs) end.0 end.1 in
    absurd cc

pub mapped_end : {X Y : Type 0} (f : X → Y) (xs : List X) (last : X) → EndsIn xs last → EndsIn (map f xs) (f last)
mapped_end f xs last end = record { front = map f end.front; parts = ap (map f) end.parts ∙ map-append f end.front (last ∷ []) }

-- of two lists the last of all is that of the second
pub last_of_second : {X : Type 0} (xs ys : List X) (last : X) → EndsIn ys last → Some last ≡ last_or None (xs ++ ys)
last_of_second xs ys last end =
    sym (last_of_snoc None (xs ++ end.front) last)
    ∙ ap (last_or None) (append_assoc xs end.front (last ∷ []) ∙ ap (λ (l : List _). xs ++ l) (sym end.parts))

-- where that is empty, it is the last of the first
pub last_of_first : {X Y : Type 0} (f : X → Y) (xs : List X) (ys : List Y) (last : Option (Bor X)) → ys ≡ [] → option_copied last ≡ slice_get xs (length xs - 1) → option_map (λ (r : Bor X). f r.now) last ≡ last_or None (map f xs ++ ys)
last_of_first f xs ys None none is = rw (none, empty xs is) refl
last_of_first f xs ys (Some last) none is =
    let end = mapped_end f xs last.now (ended xs last.now is) in
    sym (last_of_snoc None end.front (f last.now)) ∙ ap (last_or None) (sym (append-nil (map f xs) ∙ end.parts)) ∙ ap (λ (l : List _). last_or None (map f xs ++ l)) (sym none)

-- ---- answers

pub tells_none : {X : Type 0} (o : Option X) (b : Bool) → is_some o ≡ not b → IsTrue b ↔ (o ≡ None)
tells_none None true e = (λ yes. refl, λ none. refl)
tells_none None false e = absurd cc
tells_none (Some x) true e = absurd cc
tells_none (Some x) false e = (λ yes. absurd cc, λ none. absurd cc)

pub tells_as : {X : Type 0} (o : Option X) (b : Bool) (P : Type 0) → is_some o ≡ not b → (o ≡ None) ↔ P → IsTrue b ↔ P
tells_as o b P e means = let told = tells_none o b e in (λ yes. means.0 (told.0 yes), λ p. told.1 (means.1 p))

-- ---- rows that rise behind others

pub rise_by_last : (earlier rows : List RowValue) (last : RowValue) → IsInnerRising earlier → EndsIn earlier last → (fall_after 2 last rows ≡ None) ↔ IsInnerRising (earlier ++ rows)
rise_by_last earlier rows last up end =
    let same : earlier ++ rows ≡ end.front ++ last ∷ rows = ap (λ (l : List RowValue). l ++ rows) end.parts ∙ append_assoc end.front (last ∷ []) rows in (
      λ none. subst IsInnerRising (sym same) (rising_joined end.front last rows (subst IsInnerRising end.parts up) (rising_after 2 last rows none)),
      λ all. none_after 2 last rows (rising_right end.front (last ∷ rows) (subst IsInnerRising same all)),
    )

pub rise_alone : (earlier rows : List RowValue) → earlier ≡ [] → (first_fall rows ≡ None) ↔ IsInnerRising (earlier ++ rows)
rise_alone earlier rows none =
    subst (λ (l : List RowValue). (first_fall rows ≡ None) ↔ IsInnerRising (l ++ rows)) (sym none) (λ e. rising_from_none rows e, λ up. none_from_rising rows up)

-- ---- rows that are in order behind others

or_else_assoc : {E : Type 0} (a b c : Option E) → or_else a (or_else b c) ≡ or_else (or_else a b) c
or_else_assoc None b c = refl
or_else_assoc (Some e) b c = refl

pruned_joined : (earlier rows more : List RowValue) → pruned_after earlier (rows ++ more) ≡ or_else (pruned_after earlier rows) (pruned_after (earlier ++ rows) more)
unfolding pruned_after
pruned_joined earlier [] more = ap (λ (l : List RowValue). pruned_after l more) (sym (append-nil earlier))
pruned_joined earlier (r ∷ rows) more =
    let here = pruned_by (length earlier + 1) (position_from (λ s. is_dominating s r) 1 earlier) in
    ap (or_else here) (pruned_joined (earlier ++ r ∷ []) rows more ∙ ap (λ (l : List RowValue). or_else (pruned_after (earlier ++ r ∷ []) rows) (pruned_after l more)) (append_assoc earlier (r ∷ []) rows))
    ∙ or_else_assoc here (pruned_after (earlier ++ r ∷ []) rows) (pruned_after (earlier ++ r ∷ rows) more)

pub order_rises : (rows : List RowValue) → order_refusal rows ≡ None → IsInnerRising rows
order_rises rows e = rising_from_none rows (or_else_both (first_fall rows) (first_pruned rows) e).0

pub order_behind : (earlier rows : List RowValue) → order_refusal earlier ≡ None → IsInnerRising (earlier ++ rows) → (pruned_after earlier rows ≡ None) ↔ (order_refusal (earlier ++ rows) ≡ None)
order_behind earlier rows e up =
    let before : first_pruned earlier ≡ None = (or_else_both (first_fall earlier) (first_pruned earlier) e).1 in
    let same : order_refusal (earlier ++ rows) ≡ pruned_after earlier rows =
    ap (λ (o : Option ImageRefusal). or_else o (first_pruned (earlier ++ rows))) (none_from_rising (earlier ++ rows) up)
    ∙ pruned_joined [] earlier rows
    ∙ ap (λ (o : Option ImageRefusal). or_else o (pruned_after earlier rows)) before in
    (λ none. same ∙ none, λ none. sym same ∙ none)

-- all earlier rows, with their numbers, are enough
pub all_sufficient : (earlier rows : List RowValue) → IsInnerRising (earlier ++ rows) → StandBehind earlier (numbered 1 earlier) (length earlier) rows
all_sufficient earlier rows up = record { counted = refl; sufficient = λ r above. refl; rising = up }

-- ---- copies of fronts

pub copied_on : (last : RowValue) (old kept kept' passed passed' : List RowValue) (next : RowValue) (b : Bool) → kept ≡ old ++ filter (λ r. is_at_inner_prefix r last) passed → is_at_inner_prefix next last ≡ b
    → kept' ≡ kept ++ cond b (next ∷ []) [] → passed' ≡ passed ++ next ∷ [] → kept' ≡ old ++ filter (λ r. is_at_inner_prefix r last) passed'
copied_on last old kept kept' passed passed' next b is at goes on =
    let p : RowValue → Bool = λ r. is_at_inner_prefix r last in
    let one : filter p (next ∷ []) ≡ cond b (next ∷ []) [] = ap (λ (t : Bool). cond t (next ∷ []) []) at in
    goes ∙ ap (λ (l : List RowValue). l ++ cond b (next ∷ []) []) is ∙ append_assoc old (filter p passed) (cond b (next ∷ []) [])
    ∙ ap (λ (l : List RowValue). old ++ l) (ap (λ (l : List RowValue). filter p passed ++ l) (sym one) ∙ sym (filter-append p passed (next ∷ [])) ∙ ap (filter p) (sym on))
