-- A tree rises where its list does.
use Rattle.std.proofs.Common.{◌≡◌, ℕ, ◌+◌, ◌<◌, arith, refl, sym, subst, inl, inr, List, [], ◌++◌, ◌∷◌}
use Rattle.std.proofs.lemmas.Grind.{common_steps}
use Rattle.std.proofs.Math.Nat.{eq-zero-or-pos}
use Rattle.link_arena.specs.Tree.{Tree, IsRising, IsStrict, Rises, times, hit, slots_of, count_of}
use Rattle.link_arena.specs.Tree.Tree.{leaf, node}
use Rattle.link_arena.proofs.Trees.{hit_same}

pub count_append : (s : ℕ) (xs ys : List ℕ) → count_of s (xs ++ ys) ≡ count_of s xs + count_of s ys
count_append s [] ys = omega arith
count_append s (x ∷ xs) ys = omega (arith, count_append s xs ys)

pub count_tree : (s : ℕ) (t : Tree) → count_of s (slots_of t) ≡ times s t
count_tree s leaf = refl
count_tree s (node a i b) = omega (arith, count_append s (slots_of a) (i ∷ slots_of b), count_tree s a, count_tree s b)

-- a slot that is hit is the slot
pub is_hit : (s i : ℕ) → 0 < hit s i → s ≡ i
is_hit s i h = grind (arith, common_steps)

module _ (less : ℕ → ℕ → Type 0) where
  rises_join : (xs ys : List ℕ) → Rises less xs → Rises less ys → ((s u : ℕ) → 0 < count_of s xs → 0 < count_of u ys → less s u) → Rises less (xs ++ ys)
  rises_join [] ys rx ry cross = ry
  rises_join (x ∷ xs) ys rx ry cross = (
    λ s h. elim (eq-zero-or-pos (count_of s xs)) [
      | inl none ↦ cross x s (omega (arith, hit_same x)) (omega (arith, count_append s xs ys))
      | inr some ↦ rx.0 s some
    ],
    rises_join xs ys rx.1 ry (λ s u h k. cross s u (omega arith) k),
  )

  record IsSplit (xs ys : List ℕ) : Type 0 where
    pub first : Rises less xs
    pub last : Rises less ys
    pub cross : (s u : ℕ) → 0 < count_of s xs → 0 < count_of u ys → less s u

  rises_split : (xs ys : List ℕ) → Rises less (xs ++ ys) → IsSplit xs ys
  rises_split [] ys r = record { first = tt; last = r; cross = λ s u h k. let none : 0 < 0 = h in absurd (omega arith) }
  rises_split (x ∷ xs) ys r =
      let below = rises_split xs ys r.1 in
      record {
        first = (λ s h. r.0 s (omega (arith, count_append s xs ys)), below.first);
        last = below.last;
        cross = λ s u h k. elim (eq-zero-or-pos (count_of s xs)) [
          | inl none ↦ let same : s ≡ x = is_hit s x (omega arith) in subst (λ i. less i u) (sym same) (r.0 u (omega (arith, count_append u xs ys)))
          | inr some ↦ below.cross s u some k
        ];
      }

  pub to_list : IsStrict less → (t : Tree) → IsRising less t → Rises less (slots_of t)
  to_list strict leaf r = tt
  to_list strict (node a i b) r =
      rises_join (slots_of a) (i ∷ slots_of b) (to_list strict a r.2) (λ s h. r.1 s (omega (arith, count_tree s b)), to_list strict b r.3)
      (λ s u h k. let below : less s i = r.0 s (omega (arith, count_tree s a)) in
      elim (eq-zero-or-pos (count_of u (slots_of b))) [
        | inl none ↦ let same : u ≡ i = is_hit u i (omega arith) in subst (λ w. less s w) (sym same) below
        | inr some ↦ strict.transitive s i u below (r.1 u (omega (arith, count_tree u b)))
      ])

  pub from_list : (t : Tree) → Rises less (slots_of t) → IsRising less t
  from_list leaf r = tt
  from_list (node a i b) r =
      let split = rises_split (slots_of a) (i ∷ slots_of b) r in (
        λ s h. split.cross s i (omega (arith, count_tree s a)) (omega (arith, hit_same i)),
        λ s h. split.last.0 s (omega (arith, count_tree s b)),
        from_list a split.first,
        from_list b split.last.1,
      )
