-- What the links tell of the tree that they stand as.
use Rattle.std.proofs.Common.{◌≡◌, ℕ, suc, zero, ◌<◌, ◌≤◌, ◌≢◌, refl, ap, subst, arith, Option, None, Some}
use Rattle.std.proofs.lemmas.Grind.{common_steps}
use Rattle.link_arena.specs.declared.slot.Link.{Link}
use Rattle.link_arena.specs.Tree.{Tree, grown, Stands, height, times, hit}
use Rattle.link_arena.specs.Tree.Tree.{leaf, node}
use Rattle.link_arena.specs.Slots.{root_height}

-- links stand as one tree
pub same_tree : (links : ℕ → Link) (r q : Option ℕ) (t u : Tree) → r ≡ q → Stands links r t → Stands links q u → t ≡ u
same_tree links r q leaf leaf e s z = refl
same_tree links r q leaf (node a i b) e s z = cc
same_tree links r q (node a i b) leaf e s z = cc
same_tree links r q (node a i b) (node c j d) e s z =
    let here : i ≡ j = cc in
    let left : a ≡ c = same_tree links _ _ a c (ap (λ k. (links k).left) here) s.2 z.2 in
    let right : b ≡ d = same_tree links _ _ b d (ap (λ k. (links k).right) here) s.3 z.3 in
    cc

pub told_height : (links : ℕ → Link) (r : Option ℕ) (t : Tree) → Stands links r t → root_height links r ≡ height t
told_height links r leaf s = rw s refl
told_height links r (node a i b) s = rw s.0 s.1

-- a tree stays where the links of its slots stay
pub stands_still : (f g : ℕ → Link) (r : Option ℕ) (t : Tree) → ((s : ℕ) → 0 < times s t → g s ≡ f s) → Stands f r t → Stands g r t
stands_still f g r leaf same s = s
stands_still f g r (node a i b) same s =
    let here : g i ≡ f i = same i (grind (arith, common_steps)) in
    let left : Stands g ((f i).left) a = stands_still f g _ a (λ k h. same k (omega arith)) s.2 in
    let right : Stands g ((f i).right) b = stands_still f g _ b (λ k h. same k (omega arith)) s.3 in
    rw here (s.0, s.1, left, right)

-- a slot's own count
pub hit_same : (i : ℕ) → hit i i ≡ 1
hit_same i = grind (arith, common_steps)

pub hit_other : (s i : ℕ) → s ≢ i → hit s i ≡ 0
hit_other s i apart = grind (arith, common_steps)

-- the links determine the tree, to any depth that is at least its height
pub grown_is : (n : ℕ) (f : ℕ → Link) (r : Option ℕ) (t : Tree) → height t ≤ n → Stands f r t → grown n f r ≡ t
grown_is zero f r leaf le s = refl
grown_is zero f r (node a i b) le s = absurd (omega arith)
grown_is (suc n) f None leaf le s = refl
grown_is (suc n) f (Some j) leaf le s = let e : Some j ≡ None = s in cc
grown_is (suc n) f None (node a i b) le s = let e : None ≡ Some i = s.0 in cc
grown_is (suc n) f (Some j) (node a i b) le s =
    let same : i ≡ j = let e : Some j ≡ Some i = s.0 in cc in
    let S : ℕ → Type 0 = λ k. (Stands f (f k).left a) × (Stands f (f k).right b) in
    let both = subst S same (s.2, s.3) in
    let first = grown_is n f (f j).left a (omega arith) both.0 in
    let last = grown_is n f (f j).right b (omega arith) both.1 in
    cc
