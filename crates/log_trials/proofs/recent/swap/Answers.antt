use Rattle.std.proofs.Common.{◌≡◌, inl, inr, ℕ, zero, suc, List, [], ◌∷◌, ◌++◌, not, true, false, Contains, sym, refl, ap, ap₂, ◌∙◌, subst, arith}
use Rattle.std.specs.List.{All, IsDistinct}
use Rattle.std.specs.Ordering.{eq_by_cmp, is_eq}
use Rattle.std.proofs.lemmas.Bool.{false≢true, not-true}
use Rattle.std.proofs.lemmas.Cmp.{tied_itself}
use Rattle.willow_entry.proofs.Members.{Member, contains_from_member, filter_member, any_false, false_of_any, true_of_any}
use Rattle.recency_index.specs.declared.ranked.Ranked.{Ranked}
use Rattle.recency_index.specs.Recency.{ranked_of, recency_cmp, newest, is_at, has_at, without_at, is_among, without}
use Rattle.recency_index.proofs.Order.{recency_total}
use Rattle.recency_index.proofs.Newest.{member_newest, member_from_newest, none_at}
use Rattle.log_trials.proofs.recent.swap.Goals as goal

distinct_one : (g : Ranked) → IsDistinct (eq_by_cmp recency_cmp) (g ∷ [])
unfolding IsDistinct
distinct_one g = (tt, tt)

held_one : (g : Ranked) (l : List Ranked) → All (λ x. Contains (newest (g ∷ l)) x) (g ∷ [])
held_one g l zero d within = contains_from_member (newest (g ∷ l)) g (member_newest (g ∷ l) g (inl refl))
held_one g l (suc k) d within = absurd (omega arith)

-- the items but for the first, which is new, are none at the place
free_but_one : (g : Ranked) (subspace : List ℕ) (path : List (List ℕ)) (l : List Ranked) → has_at subspace path l ≡ false → has_at subspace path (without (g ∷ []) (newest (g ∷ l))) ≡ false
free_but_one g subspace path l none = any_false (is_at subspace path) (without (g ∷ []) (newest (g ∷ l))) (λ item m.
    let kept = filter_member (λ i. not (is_among (g ∷ []) i)) (newest (g ∷ l)) item m in
    elim (member_from_newest (g ∷ l) item kept.0) [
      | inl e ↦ absurd (false≢true (sym (not-true (is_among (g ∷ []) item) kept.1) ∙ true_of_any (λ x. eq_by_cmp recency_cmp x item) (g ∷ []) item (inl e) (ap is_eq (tied_itself recency_total item))))
      | inr k ↦ false_of_any (is_at subspace path) l none item k
    ])

none_of_both : (subspace s : List ℕ) (path p : List (List ℕ)) (items : List Ranked) → has_at subspace path (without_at s p (without_at subspace path items)) ≡ false
none_of_both subspace s path p items = any_false (is_at subspace path) (without_at s p (without_at subspace path items)) (λ item m.
    false_of_any (is_at subspace path) (without_at subspace path items) (none_at subspace path items) item (filter_member (λ i. not (is_at s p i)) (without_at subspace path items) item m).0)

pub replace-requires-clause-once : goal.replace-requires-clause-once
replace-requires-clause-once c =
    let gone : c.deref.result.now ≡ ranked_of c.args.old.now ∷ [] = c.deref.ensures.value ∙ c.in_ok-push.ensures.items ∙ ap₂ (λ l x. l ++ x ∷ []) c.new-gone.ensures.items c.in_ok-of.ensures in
    subst (IsDistinct (eq_by_cmp recency_cmp)) (sym gone) (distinct_one (ranked_of c.args.old.now))

pub replace-requires-clause-held : goal.replace-requires-clause-held
replace-requires-clause-held c =
    let old = c.args.old.now in
    let l = without_at old.subspace old.path c.remove.new.self.items in
    let gone : c.deref.result.now ≡ ranked_of old ∷ [] = c.deref.ensures.value ∙ c.in_ok-push.ensures.items ∙ ap₂ (λ k x. k ++ x ∷ []) c.new-gone.ensures.items c.in_ok-of.ensures in
    let items : c.reserve.new.self.items ≡ newest (ranked_of old ∷ l) = c.reserve.ensures.items ∙ c.in_ok-put.ensures in
    subst (λ k. All (λ x. Contains k x) c.deref.result.now) (sym items) (subst (All (λ x. Contains (newest (ranked_of old ∷ l)) x)) (sym gone) (held_one (ranked_of old) l))

pub replace-requires-clause-free : goal.replace-requires-clause-free
replace-requires-clause-free c =
    let old = c.args.old.now in
    let new = c.args.new.now in
    let l = without_at old.subspace old.path c.remove.new.self.items in
    let gone : c.deref.result.now ≡ ranked_of old ∷ [] = c.deref.ensures.value ∙ c.in_ok-push.ensures.items ∙ ap₂ (λ k x. k ++ x ∷ []) c.new-gone.ensures.items c.in_ok-of.ensures in
    let items : c.reserve.new.self.items ≡ newest (ranked_of old ∷ l) = c.reserve.ensures.items ∙ c.in_ok-put.ensures in
    let none : has_at new.subspace new.path l ≡ false = ap (λ k. has_at new.subspace new.path (without_at old.subspace old.path k)) c.in_ok-remove.ensures.items ∙ none_of_both new.subspace old.subspace new.path old.path c.args.index.now.items in
    ap (λ i. has_at i.subspace i.path (without c.deref.result.now c.reserve.new.self.items)) c.in_ok-of-2.ensures
    ∙ ap₂ (λ k i. has_at new.subspace new.path (without k i)) gone items ∙ free_but_one (ranked_of old) new.subspace new.path l none
