-- The steps of two seats keep the rule, split seat and join seat, and a new table meets it.
use Rattle.std.proofs.Common.{◌≡◌, ◌≢◌, ℕ, zero, suc, ◌+◌, ◌<◌, ◌≤◌, eqb, List, [], ◌∷◌, ◌++◌, length, set, sym, refl, ap, ◌∙◌, subst, ⊎_elim, arith, Option, Some}
use Rattle.std.specs.List.{AllByRecursion}
use Rattle.std.proofs.lemmas.List.Sums.{sum_by-append}
use Rattle.std.proofs.lemmas.Bool.{false≢true}
use mathlib.Core.Logic.{dite}
use mathlib.Core.Option.{some, some-injective, some-ne-none}
use native.Mathlib.Decide.{ℕ_discrete}
use lib.ListN.{get_elem?}
use Rattle.atomic_table.specs.Table.{State, Splits, Joins, opening}
use Rattle.atomic_table.proofs.Lists.{set_else, at_snoc, at_longer}
use Rattle.spelling.proofs.Lists.{All-append}
use Rattle.willow_entry.specs.declared.row.LogRow.{LogRow}
use Rattle.log_rule.specs.declared.view.CellFacts.{CellFacts}
use Rattle.log_rule.specs.declared.view.View.{View}
use Rattle.log_rule.specs.declared.view.Book.{Book}
use Rattle.log_rule.specs.declared.view.Role.TheVariants.{Idle}
use Rattle.log_rule.specs.Views.{rows_of_pass, AreOf, numbered}
use Rattle.log_rule.specs.Rule.{Content, HasTurn, Knows, books_of, AreBooks, Ruled}
use Rattle.log_rule.specs.Steps.{first_view, after_making, made_view, lent_view, joined_view, spent_view}
use Rattle.log_rule.proofs.Sums.{one_if, one_here, none_here, one_at_most}
use Rattle.log_rule.proofs.Prefixes.{prefix_self}
use Rattle.log_rule.proofs.Books.{rows_of_pass-own, rows_of_pass-none, rows_of_pass_prefix, kept_between, prefixes_of_longer, longer_prefix}
use Rattle.log_rule.proofs.Swaps.{all_weaker, SameRoles, swaps_split, swaps_join, sum_stays, sum_under, turn_stays, queue_stays, books_stay, each_set, seen_set, seen_joined}

module _ {S R : Type 0} (content : Content S R) (IsLawful : List ℕ → List (LogRow R) → Type 0) (cell : CellFacts) where
  abbrev Table : Type 0
  Table = State (Option S) (View R)

  abbrev Rule : Table → Type 0
  Rule = Ruled content IsLawful cell

  -- ---- split seat

  -- an idle seat beside the one that it was cut from
  same_roles : (view left right : View R) → left.role ≡ view.role → right.role ≡ Idle → SameRoles (view ∷ []) (left ∷ right ∷ [])
  same_roles view left right role idle p none =
      let a : one_if (p left.role) ≡ one_if (p view.role) = ap (λ r. one_if (p r)) role in
      let b : one_if (p right.role) ≡ 0 = ap (λ r. one_if (p r)) idle ∙ ap one_if none in omega arith

  cut : (s : Table) (r : Rule s) (id made : ℕ) (view left right : View R) → get_elem? s.views id ≡ some view → left.role ≡ view.role → right.role ≡ Idle → left.seen ≡ view.seen
      → left.parts + right.parts ≡ view.parts → length left.turns + length right.turns ≤ length view.turns → 0 < left.parts → AreBooks made r.log (set s.views id left ++ right ∷ [])
      → Knows cell r.served made r.log id left → ((seat : ℕ) → Knows cell r.served made r.log seat right)
      → ((seat : ℕ) (v : View R) → seat ≢ id → get_elem? s.views seat ≡ some v → Knows cell r.served made r.log seat v)
      → Rule record { words = s.words; homes = s.homes; views = set s.views id left ++ right ∷ [] }
  cut s r id made view left right at role idle seen parts turns some_part books own new others =
      let swaps = swaps_split s.views id view left right at in
      let same = same_roles view left right role idle in
      let whole = seen_set s.views r.log id view left at some_part (λ e. seen ∙ e) r.seen in
      record {
        log = r.log;
        next = r.next;
        served = r.served;
        made = made;
        lawful = r.lawful;
        words = r.words;
        one_slot = r.one_slot;
        at_home = λ z. r.at_home (sym (turn_stays s.views (view ∷ []) (left ∷ right ∷ []) (set s.views id left ++ right ∷ []) swaps same) ∙ z);
        each = λ seat v there. ⊎_elim (λ (h : get_elem? (set s.views id left) seat ≡ some v). each_set (Knows cell r.served made r.log) s.views id left own others seat v h)
            (λ (h : right ≡ v). subst (Knows cell r.served made r.log seat) h (new seat)) (at_snoc (set s.views id left) right v seat there);
        seen = (whole.0, whole.1, at_longer (set s.views id left) (right ∷ []) whole.0 whole.1 whole.2, whole.3, whole.4);
        parts = sum_stays s.views (view ∷ []) (left ∷ right ∷ []) (set s.views id left ++ right ∷ []) swaps (λ (v : View R). v.parts) (omega arith) ∙ r.parts;
        turns = sum_under s.views (view ∷ []) (left ∷ right ∷ []) (set s.views id left ++ right ∷ []) swaps (λ (v : View R). length v.turns) r.served (omega arith) r.turns;
        queue = queue_stays r.next r.served s.views (view ∷ []) (left ∷ right ∷ []) (set s.views id left ++ right ∷ []) swaps same r.queue;
        books = books;
      }

  -- the books with one more, whose number is the next
  books_made : (log : List (LogRow R)) (views : List (View R)) (id made : ℕ) (view left right : View R) → get_elem? views id ≡ some view → left.books ≡ view.books → right.books ≡ (record { number = made; rows = [] }) ∷ []
      → AreBooks made log views → AreBooks (made + 1) log (set views id left ++ right ∷ [])
  books_made log views id made view left right at same new books =
      let now : (n : ℕ) → books_of n (set views id left ++ right ∷ []) ≡ books_of n views + one_if (eqb n made) =
      λ n.
      let sum = swaps_split views id view left right at (λ (v : View R). numbered n v.books) in
      let a : numbered n left.books ≡ numbered n view.books = ap (numbered n) same in
      let b : numbered n right.books ≡ 0 + one_if (eqb n made) = ap (numbered n) new in omega arith in
      record {
        once = λ n. dite (ℕ_discrete n made)
            (λ e. let free = books.others n (omega arith) in let sum = now n in let one = one_here n made e in omega arith)
            (λ ne. let once = books.once n in let sum = now n in let none = none_here n made ne in omega arith);
        others = λ n out. let free = books.others n (omega arith) in let sum = now n in let none = none_here n made (λ e. omega arith) in omega arith;
        known = all_weaker (λ (row : LogRow R). 0 < books_of row.pass views) (λ (row : LogRow R). 0 < books_of row.pass (set views id left ++ right ∷ []))
            (λ row there. let sum = now row.pass in omega arith) log books.known;
      }

  pub makes : (id : ℕ) (view : View R) → view.role ≡ Idle → 1 < view.parts → 0 < view.made → Splits Rule id view (after_making view) (made_view view)
  makes id view idle parts maker s r at =
      let k = r.each id view at in let m = k.maker maker in
      let left = after_making view in let right = made_view view in
      let none : AllByRecursion (λ (row : LogRow R). view.made ≢ row.pass) r.log =
      all_weaker (λ (row : LogRow R). 0 < books_of row.pass s.views) (λ (row : LogRow R). view.made ≢ row.pass)
      (λ row there e. let free = r.books.others view.made (omega arith) in let same = ap (λ n. books_of n s.views) e in omega arith) r.log r.books.known in
      let fresh : rows_of_pass view.made r.log ≡ [] = rows_of_pass-none view.made r.log none in
      let fresh_seen : rows_of_pass view.made view.seen ≡ [] = rows_of_pass_prefix view.made view.seen r.log k.seen fresh in
      let number : right.books ≡ (record { number = r.made; rows = [] }) ∷ [] = ap (λ n. let b : Book R = record { number = n; rows = [] } in b ∷ []) m.1 in
      cut s r id (r.made + 1) view left right at refl refl refl (omega arith) (omega arith) (omega arith) (books_made r.log s.views id r.made view left right at refl number r.books)
      (record { seen = k.seen; older = k.older; kept = k.kept; kept_seen = k.kept_seen; no_books = λ z. absurd (omega arith); queues = λ _. omega arith; cell_is = λ _. k.cell_is (omega arith); turn = k.turn; maker = λ _. (m.0, ap (λ n. n + 1) m.1) })
      (λ seat. record { seen = k.seen; older = tt; kept = (fresh, tt); kept_seen = (fresh_seen, tt); no_books = λ z. absurd (omega arith); queues = λ _. omega arith; cell_is = λ _. k.cell_is (omega arith); turn = tt; maker = λ z. absurd (omega arith) })
      (λ seat v other there. let h = r.each seat v there in record { seen = h.seen; older = h.older; kept = h.kept; kept_seen = h.kept_seen; no_books = h.no_books; queues = h.queues; cell_is = h.cell_is; turn = h.turn; maker = λ z. absurd (other ((h.maker z).0 ∙ sym m.0)) })

  pub lends : (id : ℕ) (view : View R) → 0 < view.parts → Splits Rule id view view (lent_view view)
  lends id view some_part s r at =
      let k = r.each id view at in
      let right = lent_view view in
      let books = books_stay r.made r.log s.views (view ∷ []) (view ∷ right ∷ []) (set s.views id view ++ right ∷ []) (swaps_split s.views id view view right at) (λ n. omega arith) r.books in
      cut s r id r.made view view right at refl refl refl (omega arith) (omega arith) some_part books k
      (λ seat. record { seen = k.seen; older = tt; kept = tt; kept_seen = tt; no_books = λ _. refl; queues = λ z. absurd (false≢true z); cell_is = λ z. absurd (omega arith); turn = tt; maker = λ z. absurd (omega arith) })
      (λ seat v _ there. r.each seat v there)

  -- ---- join seat

  pub joins : (id : ℕ) (view : View R) (other : ℕ) (taken : View R) → 0 < view.parts → view.role ≡ Idle → taken.role ≡ Idle → Joins Rule id view other taken (joined_view view taken) spent_view
  joins id view other taken some_part idle taken_idle s r at apart there =
      let both = joined_view view taken in let spent : View R = spent_view in
      let changed = set s.views id both in
      let at_other : get_elem? s.views other ≡ some taken = sym (set_else s.views id other both apart) ∙ there in
      let k = r.each id view at in let h = r.each other taken at_other in
      let fronts = longer_prefix view.seen taken.seen r.log k.seen h.seen in
      let swaps = swaps_join s.views id other view taken both spent at there in
      let same : SameRoles (view ∷ taken ∷ []) (both ∷ spent ∷ []) =
      λ p none. let z : one_if (p taken.role) ≡ 0 = ap (λ role. one_if (p role)) taken_idle ∙ ap one_if none in let y : one_if (p Idle) ≡ 0 = ap one_if none in omega arith in
      let numbers : (n : ℕ) → books_of n (view ∷ taken ∷ []) ≡ books_of n (both ∷ spent ∷ []) =
      λ n. let z = sum_by-append (λ (book : Book R). one_if (eqb n book.number)) view.books taken.books in omega arith in
      record {
        log = r.log;
        next = r.next;
        served = r.served;
        made = r.made;
        lawful = r.lawful;
        words = r.words;
        one_slot = r.one_slot;
        at_home = λ z. r.at_home (sym (turn_stays s.views (view ∷ taken ∷ []) (both ∷ spent ∷ []) (set changed other spent) swaps same) ∙ z);
        each = each_set (Knows cell r.served r.made r.log) changed other spent
            (record { seen = (r.log, refl); older = tt; kept = tt; kept_seen = tt; no_books = λ _. refl; queues = λ z. absurd (false≢true z); cell_is = λ z. absurd (omega arith); turn = tt; maker = λ z. absurd (omega arith) })
            (λ seat v _ there. each_set (Knows cell r.served r.made r.log) s.views id both
            (record {
              seen = fronts.2;
              older = (fronts.0, (fronts.1, prefixes_of_longer view.older view.seen both.seen fronts.0 k.older));
              kept = All-append (λ (book : Book R). rows_of_pass book.number r.log ≡ book.rows) view.books taken.books k.kept h.kept;
              kept_seen = All-append (λ (book : Book R). rows_of_pass book.number both.seen ≡ book.rows) view.books taken.books
                  (kept_between view.seen both.seen r.log view.books fronts.0 fronts.2 k.kept_seen k.kept) (kept_between taken.seen both.seen r.log taken.books fronts.1 fronts.2 h.kept_seen h.kept);
              no_books = λ z. absurd (omega arith);
              queues = λ _. omega arith;
              cell_is = λ _. k.cell_is some_part;
              turn = subst (HasTurn r.served r.log both.seen) (sym idle) tt;
              maker = k.maker;
            }) (λ i u _ b. r.each i u b) seat v there);
        seen = seen_joined s.views r.log id other view taken both spent at at_other apart (omega arith) fronts.0 fronts.1 fronts.2 r.seen;
        parts = sum_stays s.views (view ∷ taken ∷ []) (both ∷ spent ∷ []) (set changed other spent) swaps (λ (v : View R). v.parts) (omega arith) ∙ r.parts;
        turns = sum_under s.views (view ∷ taken ∷ []) (both ∷ spent ∷ []) (set changed other spent) swaps (λ (v : View R). length v.turns) r.served (omega arith) r.turns;
        queue = queue_stays r.next r.served s.views (view ∷ taken ∷ []) (both ∷ spent ∷ []) (set changed other spent) swaps same r.queue;
        books = books_stay r.made r.log s.views (view ∷ taken ∷ []) (both ∷ spent ∷ []) (set changed other spent) swaps numbers r.books;
      }

  -- ---- a new table

  first_knows : (log : List (LogRow R)) → AreOf 0 log → 0 < cell.passes → (seat : ℕ) (view : View R) → get_elem? (first_view cell log ∷ []) seat ≡ some view → Knows cell 0 1 log seat view
  first_knows log own some_pass zero view at = subst (Knows cell 0 1 log 0) (some-injective (first_view cell log) view at) (record {
    seen = prefix_self log;
    older = tt;
    kept = (rows_of_pass-own 0 log own, tt);
    kept_seen = (rows_of_pass-own 0 log own, tt);
    no_books = λ z. absurd (omega arith);
    queues = λ z. absurd (false≢true z);
    cell_is = λ _. refl;
    turn = tt;
    maker = λ _. (refl, refl);
  })
  first_knows log own some_pass (suc seat) view at = absurd (some-ne-none view (sym at))

  pub begins : (state : S) → AreOf 0 (content.log state) → 0 < cell.passes → content.namespace state ≡ cell.namespace → IsLawful cell.namespace (content.log state) → Rule (opening (0 ∷ 0 ∷ []) (Some state ∷ []) (first_view cell (content.log state)))
  begins state own some_pass space lawful = record {
    log = content.log state;
    next = 0;
    served = 0;
    made = 1;
    lawful = lawful;
    words = refl;
    one_slot = refl;
    at_home = λ _. (state, refl, refl, space);
    each = first_knows (content.log state) own some_pass;
    seen = (0, first_view cell (content.log state), refl, some_pass, refl);
    parts = omega arith;
    turns = omega arith;
    queue = record { line = refl; once = λ ticket. omega arith; others = λ ticket out. refl };
    books = record {
      once = λ n. let one = one_at_most (eqb n 0) in omega arith;
      others = λ n out. let none = none_here n 0 (λ e. omega arith) in omega arith;
      known = all_weaker (λ (row : LogRow R). row.pass ≡ 0) (λ (row : LogRow R). 0 < books_of row.pass (first_view cell (content.log state) ∷ [])) (λ row e. let one = one_here row.pass 0 e in omega arith) (content.log state) own;
    };
  }
