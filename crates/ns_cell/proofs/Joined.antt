-- One seat that took in those of several passes, and what its turn tells of them.
use Rattle.std.proofs.Common.{◌≡◌, ◌⊎◌, ℕ, zero, suc, ◌+◌, ◌<◌, Bool, true, false, cond, eqb, ltb, List, [], ◌∷◌, ◌++◌, length, All, Contains, count_by, sym, refl, ap, ap₂, ◌∙◌, subst, inl, inr, ⊎_elim, arith, append_assoc, length-append, get_or}
use Rattle.std.specs.List.{AllByRecursion}
use Rattle.std.proofs.lemmas.List.Elements.{All-from_recursion}
use Rattle.std.proofs.lemmas.List.Sums.{sum_by_push, sum_by-cons}
use mathlib.Core.List.{IsPrefix}
use Rattle.spelling.proofs.Lists.{All-left, All-right}
use Rattle.willow_entry.specs.Row.{RowValue}
use Rattle.willow_entry.specs.declared.row.LogRow.{LogRow}
use Rattle.willow_entry.proofs.Members.{Member, contains_from_member, member_from_contains}
use Rattle.ns_state.specs.Log.{StateValue, IsLog}
use Rattle.log_rule.specs.declared.view.CellFacts.{CellFacts}
use Rattle.log_rule.specs.declared.view.View.{View}
use Rattle.log_rule.specs.declared.view.Book.{Book}
use Rattle.log_rule.specs.Views.{rows_of_pass, numbered, AreKept, ArePrefixes}
use Rattle.log_rule.specs.Steps.{longer, joined_view, TakesTurn}
use Rattle.log_rule.proofs.Sums.{one_if, equal}
use Rattle.ns_cell.specs.Passes.{CellValue, PassValue}
use Rattle.ns_cell.specs.Closed.{IsClosed}
use Rattle.ns_cell.specs.Seats.{content}
use Rattle.ns_cell.specs.Joined.{joined_books, IsJoined}

module _ {R : Type 0} where
  -- ---- one pass more

  -- what is among the seen and the older lists is among the older ones behind another
  seen_more : (seen taken front : List (LogRow R)) (older : List (List (LogRow R))) (passes : List (PassValue R)) → AllByRecursion (λ (p : PassValue R). Contains (seen ∷ older) p.seen) passes
      → AllByRecursion (λ (p : PassValue R). Contains (front ∷ seen ∷ taken ∷ older) p.seen) passes
  seen_more seen taken front older [] all = tt
  seen_more seen taken front older (p ∷ ps) all = (contains_from_member (front ∷ seen ∷ taken ∷ older) p.seen (further (member_from_contains (seen ∷ older) p.seen all.0)), seen_more seen taken front older ps all.1)
    where
      further : Member (seen ∷ older) p.seen → Member (front ∷ seen ∷ taken ∷ older) p.seen
      further (inl e) = inr (inl e)
      further (inr m) = inr (inr (inr m))

  longer_is : (xs ys : List (LogRow R)) (b : Bool) → longer xs ys ≡ cond b ys xs → (longer xs ys ≡ xs) ⊎ (longer xs ys ≡ ys)
  longer_is xs ys true e = inr e
  longer_is xs ys false e = inl e

  -- the longer of two lists is one of them
  longer_of : (xs ys : List (LogRow R)) → (longer xs ys ≡ xs) ⊎ (longer xs ys ≡ ys)
  longer_of xs ys = longer_is xs ys (ltb (length xs) (length ys)) refl

  pub joined_more : (value : R → RowValue) (cell : CellValue) (passes : List (PassValue R)) (pass : PassValue R) (view taken : View R) → IsJoined value cell passes view → pass.cell ≡ cell → IsJoined value pass.cell (pass ∷ []) taken
      → IsJoined value cell (pass ∷ passes) (joined_view view taken)
  joined_more value cell passes pass view taken j of k =
      let seen = longer view.seen taken.seen in
      let one : taken.seen ≡ pass.seen = sym (only_one (member_from_contains (pass ∷ []) k.longest.0 k.longest.1)) in
      record {
        cell_is = j.cell_is;
        role = j.role;
        parts = (let a = j.parts in let b = k.parts in omega arith);
        books = ap₂ (λ x y. x ++ y) j.books k.books;
        seen = (
          contains_from_member (seen ∷ view.seen ∷ taken.seen ∷ view.older) pass.seen (inr (inr (inl one))),
          seen_more view.seen taken.seen seen view.older passes j.seen,
        );
        longest = ⊎_elim (λ (q : seen ≡ view.seen). (j.longest.0, contains_from_member (pass ∷ passes) j.longest.0 (inr (member_from_contains passes j.longest.0 j.longest.1)), j.longest.2 ∙ sym q))
            (λ (q : seen ≡ taken.seen). (pass, contains_from_member (pass ∷ passes) pass (inl refl), sym one ∙ sym q)) (longer_of view.seen taken.seen);
        kept = (k.kept.0, j.kept);
        log = ⊎_elim (λ (q : seen ≡ view.seen). subst (IsLog value cell.namespace) (sym q) j.log)
            (λ (q : seen ≡ taken.seen). subst (IsLog value cell.namespace) (sym q) (subst (λ (c : CellValue). IsLog value c.namespace taken.seen) of k.log)) (longer_of view.seen taken.seen);
      }
    where
      only_one : Member (pass ∷ []) k.longest.0 → pass.seen ≡ taken.seen
      only_one (inl e) = ap (λ (p : PassValue R). p.seen) e ∙ k.longest.2
      only_one (inr m) = absurd m

  -- ---- the turn of such a seat

  each_prefix : (log seen : List (LogRow R)) (older : List (List (LogRow R))) → IsPrefix seen log → ArePrefixes older log → (list : List (LogRow R)) → Member (seen ∷ older) list → IsPrefix list log
  each_prefix log seen older a h list (inl e) = subst (λ l. IsPrefix l log) e a
  each_prefix log seen [] a h list (inr m) = absurd m
  each_prefix log seen (o ∷ os) a h list (inr m) = each_prefix log o os h.0 h.1 list m

  prefixes_of : (log seen : List (LogRow R)) (older : List (List (LogRow R))) (passes : List (PassValue R)) → IsPrefix seen log → ArePrefixes older log → AllByRecursion (λ (p : PassValue R). Contains (seen ∷ older) p.seen) passes
      → AllByRecursion (λ (p : PassValue R). IsPrefix p.seen log) passes
  prefixes_of log seen older [] a h all = tt
  prefixes_of log seen older (p ∷ ps) a h all = (each_prefix log seen older a h p.seen (member_from_contains (seen ∷ older) p.seen all.0), prefixes_of log seen older ps a h all.1)

  own_rows : (log : List (LogRow R)) (passes : List (PassValue R)) → AreKept log (joined_books passes) → AllByRecursion (λ (p : PassValue R). rows_of_pass p.number log ≡ p.own) passes
  own_rows log [] h = tt
  own_rows log (p ∷ ps) h =
      let b : Book R = record { number = p.number; rows = p.own } in
      let kept : Book R → Type 0 = λ book. rows_of_pass book.number log ≡ book.rows in
      ((All-right kept (joined_books ps) (b ∷ []) h).0, own_rows log ps (All-left kept (joined_books ps) (b ∷ []) h))

  -- there are as many books of a number as passes
  numbered_passes : (n : ℕ) (passes : List (PassValue R)) → numbered n (joined_books passes) ≡ count_by (λ (p : PassValue R). eqb n p.number) passes
  numbered_passes n [] = refl
  numbered_passes n (p ∷ ps) =
      let b : Book R = record { number = p.number; rows = p.own } in
      let rest = numbered_passes n ps in
      omega (arith, sum_by_push (λ (book : Book R). one_if (eqb n book.number)) (joined_books ps) b, sum_by-cons (λ (q : PassValue R). one_if (eqb n q.number)) p ps)

  pass_there : (n : ℕ) (passes : List (PassValue R)) → 0 < count_by (λ (p : PassValue R). eqb n p.number) passes → (p : PassValue R) × Member passes p × (p.number ≡ n)
  pass_there n [] h = absurd (omega arith)
  pass_there n (p ∷ ps) h = here_or (one_if (eqb n p.number)) refl (sum_by-cons (λ (q : PassValue R). one_if (eqb n q.number)) p ps) (λ k. pass_there n ps k)
    where
      here_or : (k : ℕ) → one_if (eqb n p.number) ≡ k → count_by (λ (q : PassValue R). eqb n q.number) (p ∷ ps) ≡ one_if (eqb n p.number) + count_by (λ (q : PassValue R). eqb n q.number) ps
          → (0 < count_by (λ (q : PassValue R). eqb n q.number) ps → (q : PassValue R) × Member ps q × (q.number ≡ n)) → (q : PassValue R) × Member (p ∷ ps) q × (q.number ≡ n)
      here_or zero e sum rest = let r = rest (omega arith) in (r.0, inr r.1, r.2)
      here_or (suc k) e sum rest = (p, inl refl, sym (equal n p.number (omega arith)))

  known_rows : (passes : List (PassValue R)) (log : List (LogRow R)) → AllByRecursion (λ (row : LogRow R). 0 < numbered row.pass (joined_books passes)) log → AllByRecursion (λ (row : LogRow R). (p : PassValue R) × Contains passes p × (p.number ≡ row.pass)) log
  known_rows passes [] h = tt
  known_rows passes (row ∷ rows) h =
      let same = numbered_passes row.pass passes in let h0 = h.0 in
      let r = pass_there row.pass passes (omega arith) in ((r.0, contains_from_member passes r.0 r.1, r.2), known_rows passes rows h.1)

  pub closes : (value : R → RowValue) (cell : CellValue) (passes : List (PassValue R)) (view after : View R) (ticket : ℕ) (state : StateValue R) → IsJoined value cell passes view → length passes ≡ cell.passes
      → TakesTurn content ticket state view after → IsClosed passes state.log
  closes value cell passes view after ticket state j all took =
      let full : view.parts ≡ view.cell.passes = j.parts ∙ (all ∙ sym (ap (λ (c : CellFacts). c.passes) j.cell_is)) in
      record {
        prefixes = All-from_recursion (λ (p : PassValue R). IsPrefix p.seen state.log) passes (prefixes_of state.log view.seen view.older passes took.seen took.older j.seen);
        longest = (j.longest.0, j.longest.1, j.longest.2 ∙ took.whole full);
        own = All-from_recursion (λ (p : PassValue R). rows_of_pass p.number state.log ≡ p.own) passes (own_rows state.log passes (subst (AreKept state.log) j.books took.kept));
        own_seen = All-from_recursion (λ (p : PassValue R). rows_of_pass p.number p.seen ≡ p.own) passes j.kept;
        known = All-from_recursion (λ (row : LogRow R). (p : PassValue R) × Contains passes p × (p.number ≡ row.pass)) state.log
            (known_rows passes state.log (subst (λ books. AllByRecursion (λ (row : LogRow R). 0 < numbered row.pass books) state.log) j.books (took.known full)));
        apart = λ n. let same = numbered_passes n passes in let once = took.once n in let e = ap (numbered n) j.books in omega arith;
      }

  -- the log of the closed cell is what the seat had seen
  pub closed_log : (value : R → RowValue) (cell : CellValue) (passes : List (PassValue R)) (view after : View R) (ticket : ℕ) (state : StateValue R) → IsJoined value cell passes view → length passes ≡ cell.passes → TakesTurn content ticket state view after
      → IsLog value cell.namespace state.log
  closed_log value cell passes view after ticket state j all took =
      subst (IsLog value cell.namespace) (took.whole (j.parts ∙ (all ∙ sym (ap (λ (c : CellFacts). c.passes) j.cell_is)))) j.log

-- ---- the passes that are left, and those that are gone

at_mid : {A : Type 0} (xs ys : List A) (p d : A) → get_or ((xs ++ p ∷ []) ++ ys) (length xs) d ≡ p
at_mid [] ys p d = refl
at_mid (x ∷ xs) ys p d = at_mid xs ys p d

-- what holds of all holds of one in the middle
pub all_mid : {A : Type 0} (P : A → Type 0) (items left xs gone : List A) (p : A) → All P items → items ≡ left ++ gone → left ≡ xs ++ p ∷ [] → P p
all_mid P items left xs gone p all e f =
    let whole : items ≡ (xs ++ p ∷ []) ++ gone = e ∙ ap (λ l. l ++ gone) f in
    let long = ap length whole in let a = length-append (xs ++ p ∷ []) gone in let b = length-append xs (p ∷ []) in
    subst P (ap (λ l. get_or l (length xs) p) whole ∙ at_mid xs gone p p) (all (length xs) p (omega arith))

pub one_more_gone : {A : Type 0} (items left xs gone : List A) (p : A) → items ≡ left ++ gone → left ≡ xs ++ p ∷ [] → items ≡ xs ++ p ∷ gone
one_more_gone items left xs gone p e f = e ∙ (ap (λ l. l ++ gone) f ∙ append_assoc xs (p ∷ []) gone)
