-- Some views put in place of others, and what of the rule that leaves.
use Rattle.std.proofs.Common.{◌≡◌, ◌≢◌, ℕ, ◌+◌, ◌<◌, ◌≤◌, Bool, false, List, [], ◌∷◌, ◌++◌, length, set, count_by, sum_by, sym, refl, ap, ◌∙◌, subst, ⊎_elim, arith}
use Rattle.std.specs.List.{AllByRecursion}
use Rattle.std.proofs.lemmas.List.Sums.{sum_by_push}
use mathlib.Core.List.{IsPrefix}
use mathlib.Core.Logic.{dite}
use mathlib.Core.Option.{some, some-injective}
use native.Mathlib.Decide.{ℕ_discrete}
use lib.ListN.{get_elem?}
use Rattle.atomic_table.proofs.Lists.{at_set, set_here, set_else}
use Rattle.willow_entry.specs.declared.row.LogRow.{LogRow}
use Rattle.log_rule.specs.declared.view.View.{View}
use Rattle.log_rule.specs.declared.view.Role.{Role}
use Rattle.log_rule.specs.declared.view.Role.TheVariants.{Idle}
use Rattle.log_rule.specs.Views.{is_queued, has_turn, has_ticket, numbered}
use Rattle.log_rule.specs.Rule.{IsQueue, books_of, AreBooks, IsSeen}
use Rattle.log_rule.proofs.Sums.{one_if, within, sum_by-set_at}
use Rattle.log_rule.proofs.Prefixes.{prefix_length, prefix_whole}

pub all_weaker : {A : Type 0} (P Q : A → Type 0) → ((x : A) → P x → Q x) → (xs : List A) → AllByRecursion P xs → AllByRecursion Q xs
all_weaker P Q h [] p = tt
all_weaker P Q h (x ∷ xs) p = (h x p.0, all_weaker P Q h xs p.1)

module _ {R : Type 0} where
  -- whatever is summed up, the sums differ by these views alone
  abbrev pub Swaps : List (View R) → List (View R) → List (View R) → List (View R) → Type 0
  Swaps views gone came after = (f : View R → ℕ) → sum_by f after + sum_by f gone ≡ sum_by f views + sum_by f came

  pub swaps_one : (views : List (View R)) (id : ℕ) (view new : View R) → get_elem? views id ≡ some view → Swaps views (view ∷ []) (new ∷ []) (set views id new)
  swaps_one views id view new at f = omega (arith, sum_by-set_at f views id view new at)

  pub swaps_split : (views : List (View R)) (id : ℕ) (view left right : View R) → get_elem? views id ≡ some view → Swaps views (view ∷ []) (left ∷ right ∷ []) (set views id left ++ right ∷ [])
  swaps_split views id view left right at f = omega (arith, sum_by-set_at f views id view left at, sum_by_push f (set views id left) right)

  pub swaps_join : (views : List (View R)) (id other : ℕ) (view taken both spent : View R) → get_elem? views id ≡ some view → get_elem? (set views id both) other ≡ some taken
      → Swaps views (view ∷ taken ∷ []) (both ∷ spent ∷ []) (set (set views id both) other spent)
  swaps_join views id other view taken both spent at there f = omega (arith, sum_by-set_at f views id view both at, sum_by-set_at f (set views id both) other taken spent there)

  pub sum_stays : (views gone came after : List (View R)) → Swaps views gone came after → (f : View R → ℕ) → sum_by f gone ≡ sum_by f came → sum_by f after ≡ sum_by f views
  sum_stays views gone came after swaps f same = let h = swaps f in omega arith

  pub sum_under : (views gone came after : List (View R)) → Swaps views gone came after → (f : View R → ℕ) (most : ℕ) → sum_by f came ≤ sum_by f gone → sum_by f views ≤ most → sum_by f after ≤ most
  sum_under views gone came after swaps f most less under = let h = swaps f in omega arith

  -- ---- tickets

  -- whatever is counted of roles and not of idle ones, the views count alike
  abbrev pub SameRoles : List (View R) → List (View R) → Type 0
  SameRoles gone came = (p : Role → Bool) → p Idle ≡ false → count_by (λ (view : View R). p view.role) gone ≡ count_by (λ (view : View R). p view.role) came

  pub turn_stays : (views gone came after : List (View R)) → Swaps views gone came after → SameRoles gone came → count_by (λ (view : View R). has_turn view.role) after ≡ count_by (λ (view : View R). has_turn view.role) views
  turn_stays views gone came after swaps same = sum_stays views gone came after swaps (λ (view : View R). one_if (has_turn view.role)) (same has_turn refl)

  pub queue_stays : (next served : ℕ) (views gone came after : List (View R)) → Swaps views gone came after → SameRoles gone came → IsQueue next served views → IsQueue next served after
  queue_stays next served views gone came after swaps same queue =
      let stays : (p : Role → Bool) → p Idle ≡ false → count_by (λ (view : View R). p view.role) after ≡ count_by (λ (view : View R). p view.role) views =
      λ p idle. sum_stays views gone came after swaps (λ (view : View R). one_if (p view.role)) (same p idle) in
      record {
        line = (let h = stays is_queued refl in let k = queue.line in omega arith);
        once = λ ticket. let h = stays (has_ticket ticket) refl in let k = queue.once ticket in omega arith;
        others = λ ticket out. stays (has_ticket ticket) refl ∙ queue.others ticket out;
      }

  -- ---- numbers

  pub books_stay : (made : ℕ) (log : List (LogRow R)) (views gone came after : List (View R)) → Swaps views gone came after → ((n : ℕ) → books_of n gone ≡ books_of n came) → AreBooks made log views → AreBooks made log after
  books_stay made log views gone came after swaps same books =
      let stays : (n : ℕ) → books_of n after ≡ books_of n views = λ n. sum_stays views gone came after swaps (λ (view : View R). numbered n view.books) (same n) in
      record {
        once = λ n. let h = stays n in let k = books.once n in omega arith;
        others = λ n out. stays n ∙ books.others n out;
        known = all_weaker (λ (row : LogRow R). 0 < books_of row.pass views) (λ (row : LogRow R). 0 < books_of row.pass after) (λ row some_book. let h = stays row.pass in omega arith) log books.known;
      }

  -- ---- what each seat knows

  pub each_set : (K : ℕ → View R → Type 0) (views : List (View R)) (id : ℕ) (new : View R) → K id new → ((seat : ℕ) (view : View R) → seat ≢ id → get_elem? views seat ≡ some view → K seat view)
      → (seat : ℕ) (view : View R) → get_elem? (set views id new) seat ≡ some view → K seat view
  each_set K views id new own others seat view at =
      ⊎_elim (λ (t : (seat ≡ id) × (new ≡ view)). subst (λ (x : ℕ × View R). K x.0 x.1) (λ i. (sym t.0 i, t.1 i)) own)
      (λ (t : (seat ≢ id) × (get_elem? views seat ≡ some view)). others seat view t.0 t.1) (at_set views id seat new view at)

  -- ---- who has seen the whole log

  pub seen_set : (views : List (View R)) (log : List (LogRow R)) (id : ℕ) (view new : View R) → get_elem? views id ≡ some view → 0 < new.parts → (view.seen ≡ log → new.seen ≡ log) → IsSeen log views → IsSeen log (set views id new)
  seen_set views log id view new at some_part still h = dite (ℕ_discrete h.0 id)
      (λ e.
      let is : h.1 ≡ view = some-injective h.1 view (sym h.2 ∙ (ap (get_elem? views) e ∙ at)) in
      (id, new, set_here views id new (within views id view at), some_part, still (ap (λ (v : View R). v.seen) (sym is) ∙ h.4)))
      (λ n. (h.0, h.1, set_else views id h.0 new n ∙ h.2, h.3, h.4))

  -- where two seats are made one, of which both lists are prefixes of what the one has seen
  pub seen_joined : (views : List (View R)) (log : List (LogRow R)) (id other : ℕ) (view taken both spent : View R) → get_elem? views id ≡ some view → get_elem? views other ≡ some taken → other ≢ id → 0 < both.parts
      → IsPrefix view.seen both.seen → IsPrefix taken.seen both.seen → IsPrefix both.seen log → IsSeen log views → IsSeen log (set (set views id both) other spent)
  seen_joined views log id other view taken both spent at there apart some_part a b c h =
      let here : get_elem? (set (set views id both) other spent) id ≡ some both = set_else (set views id both) other id spent (λ q. apart (sym q)) ∙ set_here views id both (within views id view at) in
      let whole : (v : View R) → IsPrefix v.seen both.seen → v.seen ≡ log → both.seen ≡ log =
      λ v front is. prefix_whole both.seen log c (let l = prefix_length v.seen both.seen front in let m = ap length is in omega arith) in
      dite (ℕ_discrete h.0 id)
      (λ q. let is : view ≡ h.1 = some-injective view h.1 (sym at ∙ (ap (get_elem? views) (sym q) ∙ h.2)) in (id, both, here, some_part, whole view a (ap (λ (v : View R). v.seen) is ∙ h.4)))
      (λ n. dite (ℕ_discrete h.0 other)
      (λ q. let is : taken ≡ h.1 = some-injective taken h.1 (sym there ∙ (ap (get_elem? views) (sym q) ∙ h.2)) in (id, both, here, some_part, whole taken b (ap (λ (v : View R). v.seen) is ∙ h.4)))
      (λ m. (h.0, h.1, set_else (set views id both) other h.0 spent m ∙ (set_else views id h.0 both n ∙ h.2), h.3, h.4)))
