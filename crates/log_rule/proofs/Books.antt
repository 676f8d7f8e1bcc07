-- The rows of one number in a log, and the books that keep them.
use Rattle.std.proofs.Common.{◌≡◌, ◌≢◌, ℕ, Bool, true, false, cond, eqb, ltb, List, [], ◌∷◌, ◌++◌, length, sym, refl, ap, ◌∙◌, subst, arith, eq-eqb, ne_eqb, lt-ltb, le-ltb, append-nil, length-append}
use Rattle.std.specs.List.{AllByRecursion}
use Rattle.std.proofs.lemmas.List.Elements.{filter-append}
use Rattle.std.proofs.lemmas.List.Sums.{sum_by-cons}
use mathlib.Core.List.{IsPrefix}
use mathlib.Core.Logic.{dite}
use native.Mathlib.Decide.{dec_lt}
use Rattle.willow_entry.specs.declared.row.LogRow.{LogRow}
use Rattle.log_rule.specs.declared.view.Book.{Book}
use Rattle.log_rule.specs.Views.{rows_of_pass, AreOf, numbered, AreKept, ArePrefixes}
use Rattle.log_rule.specs.Steps.{longer, with_rows}
use Rattle.log_rule.proofs.Sums.{apart}
use Rattle.log_rule.proofs.Prefixes.{empty_from_length, prefix_self, prefix_trans, prefix_shorter}

module _ {R : Type 0} where
  -- ---- rows of one number

  pub rows_of_pass-append : (n : ℕ) (log more : List (LogRow R)) → rows_of_pass n (log ++ more) ≡ rows_of_pass n log ++ rows_of_pass n more
  rows_of_pass-append n log more = filter-append (λ (row : LogRow R). eqb n row.pass) log more

  -- one row in front
  kept_or_not : (n : ℕ) (row : LogRow R) (rows : List (LogRow R)) (b : Bool) → eqb n row.pass ≡ b → rows_of_pass n (row ∷ rows) ≡ cond b (row ∷ rows_of_pass n rows) (rows_of_pass n rows)
  kept_or_not n row rows b e = ap (λ t. cond t (row ∷ rows_of_pass n rows) (rows_of_pass n rows)) e

  pub rows_of_pass-own : (n : ℕ) (more : List (LogRow R)) → AreOf n more → rows_of_pass n more ≡ more
  rows_of_pass-own n [] own = refl
  rows_of_pass-own n (row ∷ rows) own = kept_or_not n row rows true (eq-eqb n row.pass (sym own.0)) ∙ ap (λ l. row ∷ l) (rows_of_pass-own n rows own.1)

  pub rows_of_pass-other : (n m : ℕ) (more : List (LogRow R)) → n ≢ m → AreOf m more → rows_of_pass n more ≡ []
  rows_of_pass-other n m [] other own = refl
  rows_of_pass-other n m (row ∷ rows) other own = kept_or_not n row rows false (ne_eqb n row.pass (λ e. other (e ∙ own.0))) ∙ rows_of_pass-other n m rows other own.1

  -- a number of no row
  pub rows_of_pass-none : (n : ℕ) (log : List (LogRow R)) → AllByRecursion (λ (row : LogRow R). n ≢ row.pass) log → rows_of_pass n log ≡ []
  rows_of_pass-none n [] none = refl
  rows_of_pass-none n (row ∷ rows) none = kept_or_not n row rows false (ne_eqb n row.pass none.0) ∙ rows_of_pass-none n rows none.1

  -- the rows that a prefix and a longer list have, the lists between have
  pub rows_of_pass_between : (n : ℕ) (xs ys zs rows : List (LogRow R)) → IsPrefix xs ys → IsPrefix ys zs → rows_of_pass n xs ≡ rows → rows_of_pass n zs ≡ rows → rows_of_pass n ys ≡ rows
  rows_of_pass_between n xs ys zs rows a b at_front at_end =
      let first : rows_of_pass n ys ≡ rows ++ rows_of_pass n a.0 = ap (rows_of_pass n) (sym a.1) ∙ (rows_of_pass-append n xs a.0 ∙ ap (λ l. l ++ rows_of_pass n a.0) at_front) in
      let last : rows ≡ rows_of_pass n ys ++ rows_of_pass n b.0 = sym at_end ∙ (ap (rows_of_pass n) (sym b.1) ∙ rows_of_pass-append n ys b.0) in
      let none : rows_of_pass n a.0 ≡ [] = empty_from_length (rows_of_pass n a.0) (omega (arith, ap length first, ap length last, length-append rows (rows_of_pass n a.0), length-append (rows_of_pass n ys) (rows_of_pass n b.0))) in
      first ∙ (ap (λ l. rows ++ l) none ∙ append-nil rows)

  -- a number of no row of a list is that of no row of a prefix
  pub rows_of_pass_prefix : (n : ℕ) (xs ys : List (LogRow R)) → IsPrefix xs ys → rows_of_pass n ys ≡ [] → rows_of_pass n xs ≡ []
  rows_of_pass_prefix n xs ys a none =
      let all : [] ≡ rows_of_pass n xs ++ rows_of_pass n a.0 = sym none ∙ (ap (rows_of_pass n) (sym a.1) ∙ rows_of_pass-append n xs a.0) in
      empty_from_length (rows_of_pass n xs) (omega (arith, ap length all, length-append (rows_of_pass n xs) (rows_of_pass n a.0)))

  -- ---- books

  pub kept_between : (xs ys zs : List (LogRow R)) (books : List (Book R)) → IsPrefix xs ys → IsPrefix ys zs → AreKept xs books → AreKept zs books → AreKept ys books
  kept_between xs ys zs [] a b at_front at_end = tt
  kept_between xs ys zs (k ∷ ks) a b at_front at_end = (rows_of_pass_between k.number xs ys zs k.rows a b at_front.0 at_end.0, kept_between xs ys zs ks a b at_front.1 at_end.1)

  -- rows of another number change no book
  pub kept_other : (log more : List (LogRow R)) (m : ℕ) (books : List (Book R)) → numbered m books ≡ 0 → AreOf m more → AreKept log books → AreKept (log ++ more) books
  kept_other log more m [] none own kept = tt
  kept_other log more m (k ∷ ks) none own kept =
      let split = sum_by-cons (λ (book : Book R). cond (eqb m book.number) 1 0) k ks in
      let other : m ≢ k.number = apart m k.number (omega arith) in (
        rows_of_pass-append k.number log more ∙ (ap (λ l. rows_of_pass k.number log ++ l) (rows_of_pass-other k.number m more (λ e. other (sym e)) own) ∙ (append-nil (rows_of_pass k.number log) ∙ kept.0)),
        kept_other log more m ks (omega arith) own kept.1,
      )

  -- rows of its number go into a book
  pub kept_own : (log more : List (LogRow R)) (book : Book R) → rows_of_pass book.number log ≡ book.rows → AreOf book.number more → rows_of_pass book.number (log ++ more) ≡ book.rows ++ more
  kept_own log more book is own = rows_of_pass-append book.number log more ∙ (ap (λ l. l ++ rows_of_pass book.number more) is ∙ ap (λ l. book.rows ++ l) (rows_of_pass-own book.number more own))

  pub numbered-with_rows : (n : ℕ) (more : List (LogRow R)) (books : List (Book R)) → numbered n (with_rows more books) ≡ numbered n books
  numbered-with_rows n more [] = refl
  numbered-with_rows n more (b ∷ bs) = refl

  -- ---- older prefixes, and the longer of two

  pub prefixes_of_longer : (lists : List (List (LogRow R))) (xs ys : List (LogRow R)) → IsPrefix xs ys → ArePrefixes lists xs → ArePrefixes lists ys
  prefixes_of_longer [] xs ys a h = tt
  prefixes_of_longer (list ∷ lists) xs ys a h = (prefix_trans list xs ys h.0 a, prefixes_of_longer lists xs ys a h.1)

  longer_is : (xs ys : List (LogRow R)) (b : Bool) → ltb (length xs) (length ys) ≡ b → longer xs ys ≡ cond b ys xs
  longer_is xs ys b e = ap (λ t. cond t ys xs) e

  pub longer_prefix : (xs ys log : List (LogRow R)) → IsPrefix xs log → IsPrefix ys log → IsPrefix xs (longer xs ys) × IsPrefix ys (longer xs ys) × IsPrefix (longer xs ys) log
  longer_prefix xs ys log a b = dite (dec_lt (length xs) (length ys))
      (λ l. let e = longer_is xs ys true (lt-ltb (length xs) (length ys) l) in
      subst (λ k. IsPrefix xs k × IsPrefix ys k × IsPrefix k log) (sym e) (prefix_shorter xs ys log a b (omega arith), prefix_self ys, b))
      (λ n. let e = longer_is xs ys false (le-ltb (length xs) (length ys) (omega arith)) in
      subst (λ k. IsPrefix xs k × IsPrefix ys k × IsPrefix k log) (sym e) (prefix_self xs, prefix_shorter ys xs log b a (omega arith), a))
