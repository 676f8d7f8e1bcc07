-- How a run of calls of a disk goes on.
use Rattle.std.proofs.Common.{inl, inr, ⊎_elim, ℕ, List, Option, arith}
use Rattle.willow_outside.specs.Disks.{Elapses, LeavesOnly, LeavesContents, Tears}
use Rattle.willow_outside.proofs.DiskSteps.{untorn}
use Rattle.log_keeper.specs.Torn.{IsTornOf}

module _ {D : Type 0} (moment : D → ℕ) (left_since : D → ℕ → List ℕ → Type 0) where
  -- before the first call
  pub started : (old : D) (P : List ℕ → Type 0) → ((c : List ℕ) → left_since old (moment old) c → P c) → LeavesOnly moment left_since old old P
  started old P here = record { later = omega arith; each = here; earlier = λ t c le left. inl left }

  -- one call more, after which a crash leaves what has P
  pub goes_on : (old mid new : D) (P images : List ℕ → Type 0) → LeavesOnly moment left_since old mid P → Elapses (moment mid) (moment new) (left_since mid) (left_since new) images
      → ((c : List ℕ) → images c → P c) → LeavesOnly moment left_since old new P
  goes_on old mid new P images so_far time here = record {
    later = omega (arith, so_far.later, time.later);
    each = λ c left. ⊎_elim (so_far.each c) (here c) (time.nothing_else (moment old) c so_far.later left);
    earlier = λ t c le left. ⊎_elim (so_far.earlier t c le) (λ now. inr (here c now)) (time.nothing_else t c (omega (arith, le, so_far.later)) left);
  }

  -- what has P has Q
  pub weaker : (old new : D) (P Q : List ℕ → Type 0) → ((c : List ℕ) → P c → Q c) → LeavesOnly moment left_since old new P → LeavesOnly moment left_since old new Q
  weaker old new P Q gives run = record {
    later = run.later;
    each = λ c left. gives c (run.each c left);
    earlier = λ t c le left. ⊎_elim (λ was. inl was) (λ p. inr (gives c p)) (run.earlier t c le left);
  }

  -- two runs, one after the other
  pub then : (old mid new : D) (P : List ℕ → Type 0) → LeavesOnly moment left_since old mid P → LeavesOnly moment left_since mid new P → LeavesOnly moment left_since old new P
  then old mid new P first second = record {
    later = omega (arith, first.later, second.later);
    each = λ c left. ⊎_elim (first.each c) (λ p. p) (second.earlier (moment old) c first.later left);
    earlier = λ t c le left. ⊎_elim (first.earlier t c le) (λ p. inr p) (second.earlier t c (omega (arith, le, first.later)) left);
  }

pub settled_torn : (contents : Option (List ℕ)) (at n : ℕ) (images : List ℕ → Type 0) → LeavesContents contents images → (c : List ℕ) → images c → IsTornOf contents at n c
settled_torn contents at n images settled c left = (c, settled c left, untorn at n c)

pub write_torn : (contents : Option (List ℕ)) (at n : ℕ) (images later : List ℕ → Type 0) → LeavesContents contents images → Tears at n images later → (c : List ℕ) → later c → IsTornOf contents at n c
write_torn contents at n images later settled tears c left = let from = tears c left in (from.0, settled from.0 from.1, from.2)
