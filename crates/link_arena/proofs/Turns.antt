-- Trees joined at a slot, with the turns that keep them balanced.
use Rattle.std.proofs.Common.{◌≡◌, ℕ, ◌+◌, ◌^◌, ◌<◌, ◌≤◌, Option, None, Some, arith, refl, ap, sym, ◌∙◌, subst, max, append_assoc}
use Rattle.link_arena.specs.declared.slot.Link.{Link}
use Rattle.link_arena.specs.Tree.{Tree, AreReady, IsWoven, Stands, times, height, size, hit}
use Rattle.link_arena.specs.Tree.Tree.{leaf, node}
use Rattle.link_arena.specs.Slots.{root_height, IsSetAt, joint}
use Rattle.link_arena.proofs.Trees.{told_height, hit_same, stands_still}
use Rattle.link_arena.proofs.Bound.{low}

pub still : (f g : ℕ → Link) (at : ℕ) (link : Link) (r : Option ℕ) (t : Tree) → IsSetAt f g at link → times at t ≡ 0 → Stands f r t → Stands g r t
still f g at link r t put none s =
    stands_still f g r t (λ k h. put.elsewhere k (λ e. let same : times k t ≡ times at t = ap (λ i. times i t) e in omega arith)) s

pub hung : (f g : ℕ → Link) (left : Option ℕ) (a : Tree) (at : ℕ) (right : Option ℕ) (b : Tree)
    → Stands f left a → Stands f right b → times at a ≡ 0 → times at b ≡ 0 → size a + size b < 2 ^ 31 → IsSetAt f g at (joint f left right) → Stands g (Some at) (node a at b)
hung f g left a at right b before after none_before none_after few put =
    let link = joint f left right in
    let tall : link.height ≡ max (height a) (height b) + 1 = omega (arith, told_height f left a before, told_height f right b after, low a, low b) in
    rw put.here (refl, tall, still f g at link left a put none_before before, still f g at link right b put none_after after)

-- no slot but one of the three parts was written
pub untouched : (f g : ℕ → Link) (at s : ℕ) (link : Link) → IsSetAt f g at link → hit s at ≡ 0 → g s ≡ f s
untouched f g at s link put none = put.elsewhere s (λ e. let same : hit s at ≡ hit at at = ap (λ i. hit i at) e in omega (arith, hit_same at))

-- no turn
pub plain : (f g : ℕ → Link) (n : ℕ) (left : Option ℕ) (a : Tree) (at : ℕ) (right : Option ℕ) (b : Tree)
    → AreReady f n left a at right b → height a ≤ height b + 1 → height b ≤ height a + 1 → IsSetAt f g at (joint f left right) → IsWoven f g (Some at) a at b
plain f g n left a at right b r ab ba put =
    let own = r.apart at in
    record {
      tree = node a at b;
      stands = hung f g left a at right b r.before r.after (omega (arith, hit_same at)) (omega (arith, hit_same at)) (omega (arith, r.few)) put;
      balanced = (ab, ba, r.balanced_before, r.balanced_after);
      same = refl;
      counts = λ s. refl;
      sized = omega arith;
      least = omega arith;
      most = omega arith;
      even = λ x y. refl;
      elsewhere = λ s none. untouched f g at s _ put (omega arith);
    }

turned_right : (f g h : ℕ → Link) (n top at : ℕ) (right : Option ℕ) (p q b : Tree)
    → AreReady f n (Some top) (node p top q) at right b → height b + 2 ≤ height (node p top q) → root_height f (f top).right ≤ root_height f (f top).left
    → IsSetAt f g at (joint f (f top).right right) → IsSetAt g h top (joint g (f top).left (Some at)) → IsWoven f h (Some top) (node p top q) at b
turned_right f g h n top at right p q b r tall lean low_put high_put =
    let own = r.apart at in
    let own_top = r.apart top in
    let lower : Stands g (Some at) (node q at b) = hung f g _ q at right b r.before.3 r.after (omega (arith, hit_same at)) (omega (arith, hit_same at)) (omega (arith, r.few)) low_put in
    let first : Stands g (f top).left p = still f g at _ _ p low_put (omega (arith, hit_same at)) r.before.2 in
    let leant : height q ≤ height p = omega (arith, told_height f _ p r.before.2, told_height f _ q r.before.3) in
    record {
      tree = node p top (node q at b);
      stands = hung g h _ p top (Some at) (node q at b) first lower (omega (arith, hit_same top)) (omega (arith, hit_same top)) (omega (arith, r.few)) high_put;
      balanced = (omega (arith, r.balanced_before.0, r.near_before), omega (arith, r.balanced_before.1, r.near_before), r.balanced_before.2, (omega (arith, r.balanced_before.0, r.near_before), omega (arith, r.balanced_before.0, r.near_before), r.balanced_before.3, r.balanced_after));
      same = simp append_assoc;
      counts = λ s. omega arith;
      sized = omega arith;
      least = omega arith;
      most = omega (arith, r.near_before);
      even = λ x y. omega arith;
      elsewhere = λ s none. untouched g h top s _ high_put (omega arith) ∙ untouched f g at s _ low_put (omega arith);
    }

turned_right_twice : (f g h k : ℕ → Link) (n top mid at : ℕ) (right : Option ℕ) (p q w b : Tree)
    → AreReady f n (Some top) (node p top (node q mid w)) at right b → height b + 2 ≤ height (node p top (node q mid w)) → height p < height (node q mid w)
    → IsSetAt f g top (joint f (f top).left (f mid).left) → IsSetAt g h at (joint g (f mid).right right) → IsSetAt h k mid (joint h (Some top) (Some at))
    → IsWoven f k (Some mid) (node p top (node q mid w)) at b
turned_right_twice f g h k n top mid at right p q w b r tall lean put_first put_last put_mid =
    let own = r.apart at in
    let own_top = r.apart top in
    let own_mid = r.apart mid in
    let inner = r.before.3 in
    let ht = hit_same top in
    let hm = hit_same mid in
    let ha = hit_same at in
    let one : Stands g (Some top) (node p top q) = hung f g _ p top _ q r.before.2 inner.2 (omega arith) (omega arith) (omega (arith, r.few)) put_first in
    let w_g : Stands g (f mid).right w = still f g top _ _ w put_first (omega arith) inner.3 in
    let b_g : Stands g right b = still f g top _ _ b put_first (omega arith) r.after in
    let two : Stands h (Some at) (node w at b) = hung g h _ w at right b w_g b_g (omega arith) (omega arith) (omega (arith, r.few)) put_last in
    let one_h : Stands h (Some top) (node p top q) = still g h at _ _ (node p top q) put_last (omega arith) one in
    let all : Stands k (Some mid) (node (node p top q) mid (node w at b)) = hung h k _ (node p top q) mid _ (node w at b) one_h two (omega arith) (omega arith) (omega (arith, r.few)) put_mid in
    let bal = r.balanced_before in
    let bal_in = r.balanced_before.3 in
    record {
      tree = node (node p top q) mid (node w at b);
      stands = all;
      balanced = (
        omega (arith, bal.0, bal.1, bal_in.0, bal_in.1, r.near_before),
        omega (arith, bal.0, bal.1, bal_in.0, bal_in.1, r.near_before),
        (omega (arith, bal.0, bal.1, bal_in.0, bal_in.1), omega (arith, bal.0, bal.1, bal_in.0, bal_in.1), bal.2, bal_in.2),
        (omega (arith, bal.0, bal.1, bal_in.0, bal_in.1, r.near_before), omega (arith, bal.0, bal.1, bal_in.0, bal_in.1, r.near_before), bal_in.3, r.balanced_after),
      );
      same = simp append_assoc;
      counts = λ s. omega arith;
      sized = omega arith;
      least = omega (arith, bal.0, bal.1, bal_in.0, bal_in.1);
      most = omega (arith, bal.0, bal.1, bal_in.0, bal_in.1, r.near_before);
      even = λ x y. omega arith;
      elsewhere = λ s none. untouched h k mid s _ put_mid (omega arith) ∙ (untouched g h at s _ put_last (omega arith) ∙ untouched f g top s _ put_first (omega arith));
    }

-- the tree below a slot
pub record IsNode (t : Tree) (top : ℕ) : Type 0 where
  pub before : Tree
  pub after : Tree
  pub is : t ≡ node before top after

pub node_at : (f : ℕ → Link) (root : Option ℕ) (t : Tree) (top : ℕ) → root ≡ Some top → Stands f root t → IsNode t top
node_at f root leaf top e s = let none : root ≡ None = s in cc
node_at f root (node a i b) top e s = let root_is : root ≡ Some i = s.0 in let same : i ≡ top = cc in record { before = a; after = b; is = ap (λ k. node a k b) same }

pub turn_right : (f g h : ℕ → Link) (n top at : ℕ) (right : Option ℕ) (a b : Tree) (link : Link) → link ≡ f top
    → AreReady f n (Some top) a at right b → height b + 2 ≤ height a → root_height f link.right ≤ root_height f link.left
    → IsSetAt f g at (joint f link.right right) → IsSetAt g h top (joint g link.left (Some at)) → IsWoven f h (Some top) a at b
turn_right f g h n top at right a b link link_is r tall lean low_put high_put =
    let o = node_at f (Some top) a top refl r.before in
    let T : Tree → Type 0 = λ t. AreReady f n (Some top) t at right b → height b + 2 ≤ height t → IsWoven f h (Some top) t at b in
    subst T (sym o.is) (λ r' tall'. turned_right f g h n top at right o.before o.after b r' tall' (rw link_is at lean) (rw link_is at low_put) (rw link_is at high_put)) r tall

pub turn_right_twice : (f g h k : ℕ → Link) (n top mid at : ℕ) (right : Option ℕ) (a b : Tree) (link inner : Link) → link ≡ f top → inner ≡ f mid
    → AreReady f n (Some top) a at right b → height b + 2 ≤ height a → link.right ≡ Some mid → root_height f link.left < root_height f link.right
    → IsSetAt f g top (joint f link.left inner.left) → IsSetAt g h at (joint g inner.right right) → IsSetAt h k mid (joint h (Some top) (Some at))
    → IsWoven f k (Some mid) a at b
turn_right_twice f g h k n top mid at right a b link inner link_is inner_is r tall mid_is lean put_first put_last put_mid =
    let o = node_at f (Some top) a top refl r.before in
    let mid_here = rw link_is at mid_is in
    let lean_here = rw link_is at lean in
    let T : Tree → Type 0 = λ t. AreReady f n (Some top) t at right b → height b + 2 ≤ height t → IsWoven f k (Some mid) t at b in
    let U : Tree → Type 0 = λ u. AreReady f n (Some top) (node o.before top u) at right b → height b + 2 ≤ height (node o.before top u) → IsWoven f k (Some mid) (node o.before top u) at b in
    subst T (sym o.is) (λ r' tall'.
    let i = node_at f (f top).right o.after mid mid_here r'.before.3 in
    subst U (sym i.is) (λ r'' tall''.
    turned_right_twice f g h k n top mid at right o.before i.before i.after b r'' tall''
    (omega (arith, lean_here, told_height f _ o.before r''.before.2, told_height f _ (node i.before mid i.after) r''.before.3))
    (rw (link_is, inner_is) at put_first) (rw inner_is at put_last) put_mid) r' tall') r tall

-- the slots of the trees are slots of the vector
pub at_below : (f : ℕ → Link) (n : ℕ) (left : Option ℕ) (a : Tree) (at : ℕ) (right : Option ℕ) (b : Tree) → AreReady f n left a at right b → at < n
at_below f n left a at right b r = r.within at (omega (arith, hit_same at))

pub top_below : (f : ℕ → Link) (n top : ℕ) (a : Tree) (at : ℕ) (right : Option ℕ) (b : Tree) → AreReady f n (Some top) a at right b → top < n
top_below f n top a at right b r =
    let o = node_at f (Some top) a top refl r.before in
    r.within top (omega (arith, ap (times top) o.is, hit_same top))

pub middle_below : (f : ℕ → Link) (n top mid : ℕ) (a : Tree) (at : ℕ) (right : Option ℕ) (b : Tree) (link : Link) → link ≡ f top → link.right ≡ Some mid → AreReady f n (Some top) a at right b → mid < n
middle_below f n top mid a at right b link link_is mid_is r =
    let o = node_at f (Some top) a top refl r.before in
    let S : Tree → Type 0 = λ t. Stands f (Some top) t in
    let s = subst S o.is r.before in
    let i = node_at f (f top).right o.after mid (rw link_is at mid_is) s.3 in
    r.within mid (omega (arith, ap (times mid) o.is, ap (times mid) i.is, hit_same mid))

turned_left : (f g h : ℕ → Link) (n top at : ℕ) (left : Option ℕ) (p q a : Tree)
    → AreReady f n left a at (Some top) (node p top q) → height a + 2 ≤ height (node p top q) → root_height f (f top).left ≤ root_height f (f top).right
    → IsSetAt f g at (joint f left (f top).left) → IsSetAt g h top (joint g (Some at) (f top).right) → IsWoven f h (Some top) a at (node p top q)
turned_left f g h n top at left p q a r tall lean low_put high_put =
    let own = r.apart at in
    let own_top = r.apart top in
    let ha = hit_same at in
    let ht = hit_same top in
    let bal = r.balanced_after in
    let lower : Stands g (Some at) (node a at p) = hung f g left a at _ p r.before r.after.2 (omega arith) (omega arith) (omega (arith, r.few)) low_put in
    let last : Stands g (f top).right q = still f g at _ _ q low_put (omega arith) r.after.3 in
    let leant : height p ≤ height q = omega (arith, told_height f _ p r.after.2, told_height f _ q r.after.3) in
    record {
      tree = node (node a at p) top q;
      stands = hung g h (Some at) (node a at p) top _ q lower last (omega arith) (omega arith) (omega (arith, r.few)) high_put;
      balanced = (omega (arith, bal.0, bal.1, r.near_after), omega (arith, bal.0, bal.1, r.near_after), (omega (arith, bal.0, bal.1, r.near_after), omega (arith, bal.0, bal.1, r.near_after), r.balanced_before, bal.2), bal.3);
      same = simp append_assoc;
      counts = λ s. omega arith;
      sized = omega arith;
      least = omega arith;
      most = omega (arith, r.near_after);
      even = λ x y. omega arith;
      elsewhere = λ s none. untouched g h top s _ high_put (omega arith) ∙ untouched f g at s _ low_put (omega arith);
    }

turned_left_twice : (f g h k : ℕ → Link) (n top mid at : ℕ) (left : Option ℕ) (a q w p : Tree)
    → AreReady f n left a at (Some top) (node (node q mid w) top p) → height a + 2 ≤ height (node (node q mid w) top p) → height p < height (node q mid w)
    → IsSetAt f g top (joint f (f mid).right (f top).right) → IsSetAt g h at (joint g left (f mid).left) → IsSetAt h k mid (joint h (Some at) (Some top))
    → IsWoven f k (Some mid) a at (node (node q mid w) top p)
turned_left_twice f g h k n top mid at left a q w p r tall lean put_last put_first put_mid =
    let own = r.apart at in
    let own_top = r.apart top in
    let own_mid = r.apart mid in
    let inner = r.after.2 in
    let ht = hit_same top in
    let hm = hit_same mid in
    let ha = hit_same at in
    let two : Stands g (Some top) (node w top p) = hung f g _ w top _ p inner.3 r.after.3 (omega arith) (omega arith) (omega (arith, r.few)) put_last in
    let q_g : Stands g (f mid).left q = still f g top _ _ q put_last (omega arith) inner.2 in
    let a_g : Stands g left a = still f g top _ _ a put_last (omega arith) r.before in
    let one : Stands h (Some at) (node a at q) = hung g h left a at _ q a_g q_g (omega arith) (omega arith) (omega (arith, r.few)) put_first in
    let two_h : Stands h (Some top) (node w top p) = still g h at _ _ (node w top p) put_first (omega arith) two in
    let all : Stands k (Some mid) (node (node a at q) mid (node w top p)) = hung h k _ (node a at q) mid _ (node w top p) one two_h (omega arith) (omega arith) (omega (arith, r.few)) put_mid in
    let bal = r.balanced_after in
    let bal_in = r.balanced_after.2 in
    record {
      tree = node (node a at q) mid (node w top p);
      stands = all;
      balanced = (
        omega (arith, bal.0, bal.1, bal_in.0, bal_in.1, r.near_after),
        omega (arith, bal.0, bal.1, bal_in.0, bal_in.1, r.near_after),
        (omega (arith, bal.0, bal.1, bal_in.0, bal_in.1, r.near_after), omega (arith, bal.0, bal.1, bal_in.0, bal_in.1, r.near_after), r.balanced_before, bal_in.2),
        (omega (arith, bal.0, bal.1, bal_in.0, bal_in.1), omega (arith, bal.0, bal.1, bal_in.0, bal_in.1), bal_in.3, bal.3),
      );
      same = simp append_assoc;
      counts = λ s. omega arith;
      sized = omega arith;
      least = omega (arith, bal.0, bal.1, bal_in.0, bal_in.1);
      most = omega (arith, bal.0, bal.1, bal_in.0, bal_in.1, r.near_after);
      even = λ x y. omega arith;
      elsewhere = λ s none. untouched h k mid s _ put_mid (omega arith) ∙ (untouched g h at s _ put_first (omega arith) ∙ untouched f g top s _ put_last (omega arith));
    }

pub turn_left : (f g h : ℕ → Link) (n top at : ℕ) (left : Option ℕ) (a b : Tree) (link : Link) → link ≡ f top
    → AreReady f n left a at (Some top) b → height a + 2 ≤ height b → root_height f link.left ≤ root_height f link.right
    → IsSetAt f g at (joint f left link.left) → IsSetAt g h top (joint g (Some at) link.right) → IsWoven f h (Some top) a at b
turn_left f g h n top at left a b link link_is r tall lean low_put high_put =
    let o = node_at f (Some top) b top refl r.after in
    let T : Tree → Type 0 = λ t. AreReady f n left a at (Some top) t → height a + 2 ≤ height t → IsWoven f h (Some top) a at t in
    subst T (sym o.is) (λ r' tall'. turned_left f g h n top at left o.before o.after a r' tall' (rw link_is at lean) (rw link_is at low_put) (rw link_is at high_put)) r tall

pub turn_left_twice : (f g h k : ℕ → Link) (n top mid at : ℕ) (left : Option ℕ) (a b : Tree) (link inner : Link) → link ≡ f top → inner ≡ f mid
    → AreReady f n left a at (Some top) b → height a + 2 ≤ height b → link.left ≡ Some mid → root_height f link.right < root_height f link.left
    → IsSetAt f g top (joint f inner.right link.right) → IsSetAt g h at (joint g left inner.left) → IsSetAt h k mid (joint h (Some at) (Some top))
    → IsWoven f k (Some mid) a at b
turn_left_twice f g h k n top mid at left a b link inner link_is inner_is r tall mid_is lean put_last put_first put_mid =
    let o = node_at f (Some top) b top refl r.after in
    let mid_here = rw link_is at mid_is in
    let lean_here = rw link_is at lean in
    let T : Tree → Type 0 = λ t. AreReady f n left a at (Some top) t → height a + 2 ≤ height t → IsWoven f k (Some mid) a at t in
    let U : Tree → Type 0 = λ u. AreReady f n left a at (Some top) (node u top o.after) → height a + 2 ≤ height (node u top o.after) → IsWoven f k (Some mid) a at (node u top o.after) in
    subst T (sym o.is) (λ r' tall'.
    let i = node_at f (f top).left o.before mid mid_here r'.after.2 in
    subst U (sym i.is) (λ r'' tall''.
    turned_left_twice f g h k n top mid at left a i.before i.after o.after r'' tall''
    (omega (arith, lean_here, told_height f _ o.after r''.after.3, told_height f _ (node i.before mid i.after) r''.after.2))
    (rw (link_is, inner_is) at put_last) (rw inner_is at put_first) put_mid) r' tall') r tall

pub top_below_after : (f : ℕ → Link) (n top : ℕ) (a : Tree) (at : ℕ) (left : Option ℕ) (b : Tree) → AreReady f n left a at (Some top) b → top < n
top_below_after f n top a at left b r =
    let o = node_at f (Some top) b top refl r.after in
    r.within top (omega (arith, ap (times top) o.is, hit_same top))

pub middle_below_after : (f : ℕ → Link) (n top mid : ℕ) (a : Tree) (at : ℕ) (left : Option ℕ) (b : Tree) (link : Link) → link ≡ f top → link.left ≡ Some mid → AreReady f n left a at (Some top) b → mid < n
middle_below_after f n top mid a at left b link link_is mid_is r =
    let o = node_at f (Some top) b top refl r.after in
    let S : Tree → Type 0 = λ t. Stands f (Some top) t in
    let s = subst S o.is r.after in
    let i = node_at f (f top).left o.before mid (rw link_is at mid_is) s.2 in
    r.within mid (omega (arith, ap (times mid) o.is, ap (times mid) i.is, hit_same mid))
