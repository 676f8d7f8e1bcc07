-- The steps of one seat keep the rule: draw, look, hand on.
use Rattle.std.proofs.Common.{◌≡◌, ◌≢◌, ℕ, ◌+◌, ◌%◌, ◌^◌, ◌<◌, ◌≤◌, List, [], ◌∷◌, ◌++◌, length, drop, get_or, set, sum_by, sym, refl, ap, ap₂, ◌∙◌, subst, arith, Option, Some, None, length-set, length-append}
use Rattle.std.specs.List.{AllByRecursion}
use mathlib.Core.List.{IsPrefix}
use mathlib.Core.Logic.{dite}
use mathlib.Core.Option.{none, some, some-injective}
use mathlib.Core.Option as maybe
use native.Mathlib.Decide.{ℕ_discrete}
use lib.ListN.{get_elem?}
use lib.Seq.{set-get_or}
use Rattle.atomic_table.specs.Table.{State, Me, step, keeps, takes, gives, put_back, rest, stepped, Act, Valid, carried_after, Allows}
use Rattle.atomic_table.proofs.Lists.{set_here, set_again, one_turn}
use Rattle.spelling.proofs.Lists.{All-append}
use Rattle.willow_entry.specs.declared.row.LogRow.{LogRow}
use Rattle.log_rule.specs.declared.view.CellFacts.{CellFacts}
use Rattle.log_rule.specs.declared.view.View.{View}
use Rattle.log_rule.specs.declared.view.Book.{Book}
use Rattle.log_rule.specs.declared.view.Role.{Role}
use Rattle.log_rule.specs.declared.view.Role.TheVariants.{Idle, Waits, Holds}
use Rattle.log_rule.specs.Views.{is_queued, rows_of_pass, AreOf, numbered, AreKept}
use Rattle.log_rule.specs.Rule.{Content, HasTurn, Knows, IsQueue, books_of, AreBooks, IsSeen, IsAtHome, Ruled}
use Rattle.log_rule.specs.Steps.{with_rows, after_turn, Draws, TakesTurn, MeetsTicket, Looks, HandsOn}
use Rattle.log_rule.proofs.Sums.{one_here, within, sum_by-set_at, sum_by-at_le, sum_by-two_le, sum_by-alone}
use Rattle.log_rule.proofs.Prefixes.{prefix_self, prefix_more, drop-prefix}
use Rattle.log_rule.proofs.Books.{kept_other, kept_own, numbered-with_rows, prefixes_of_longer}
use Rattle.log_rule.proofs.Swaps.{all_weaker, swaps_one, sum_stays, books_stay, each_set, seen_set}
use Rattle.log_rule.proofs.Tickets.{turn, turn_other, queue_drawn, queue_waited, queue_served, in_line, no_turn, not_served, short_line}

-- a word plus 1, of a number without bound
word_more : (n : ℕ) → (n % 2 ^ 64 + 1) % 2 ^ 64 ≡ (n + 1) % 2 ^ 64
word_more n = omega arith

one_home : {A : Type 0} (homes : List A) (home : A) → length homes ≡ 1 → set homes 0 home ≡ home ∷ []
one_home [] home one = absurd (omega arith)
one_home (x ∷ []) home one = refl
one_home (x ∷ y ∷ xs) home one = absurd (omega arith)

-- the state in hand is one
module _ {S : Type 0} where
  abbrev state_or : S → Option S → S
  state_or d (Some x) = x
  state_or d None = d

  abbrev carried_or : S → List (ℕ × Option S) → S
  carried_or d [] = d
  carried_or d (p ∷ ps) = state_or d p.1

  same_hand : (x y : S) (carried : List (ℕ × Option S)) → carried ≡ (0, Some x) ∷ [] → carried ≡ (0, Some y) ∷ [] → x ≡ y
  same_hand x y carried a b = ap (carried_or x) (sym a ∙ b)

module _ {S R : Type 0} (content : Content S R) (IsLawful : List ℕ → List (LogRow R) → Type 0) (cell : CellFacts) where
  abbrev Table : Type 0
  Table = State (Option S) (View R)

  abbrev Seat : Type 0
  Seat = Me (Option S) (View R)

  abbrev Rule : Table → Type 0
  Rule = Ruled content IsLawful cell

  -- a step of one seat, which keeps its parts and its numbers
  moved : (s : Table) (r : Rule s) (id : ℕ) (view new : View R) → get_elem? s.views id ≡ some view → new.parts ≡ view.parts → ((n : ℕ) → numbered n new.books ≡ numbered n view.books)
      → (words : List ℕ) (homes : List (maybe.Option (Option S))) (log : List (LogRow R)) (next served : ℕ) → length new.turns + r.served ≤ length view.turns + served
      → IsLawful cell.namespace log → words ≡ next % 2 ^ 64 ∷ served % 2 ^ 64 ∷ [] → length homes ≡ 1 → (sum_by turn (set s.views id new) ≡ 0 → IsAtHome content IsLawful cell log homes)
      → IsQueue next served (set s.views id new)
      → Knows cell served r.made log id new → ((seat : ℕ) (v : View R) → seat ≢ id → get_elem? s.views seat ≡ some v → Knows cell served r.made log seat v)
      → AllByRecursion (λ (row : LogRow R). 0 < books_of row.pass s.views) log → IsSeen log (set s.views id new)
      → Rule record { words = words; homes = homes; views = set s.views id new }
  moved s r id view new at parts numbers words homes log next served turns lawful are_words one home queue own others known seen =
      let swaps = swaps_one s.views id view new at in
      let stays : AreBooks r.made log (set s.views id new) = books_stay r.made log s.views (view ∷ []) (new ∷ []) (set s.views id new) swaps (λ n. let e = numbers n in omega arith)
      (record { once = r.books.once; others = r.books.others; known = known }) in
      record {
        log = log;
        next = next;
        served = served;
        made = r.made;
        lawful = lawful;
        words = are_words;
        one_slot = one;
        at_home = home;
        each = each_set (Knows cell served r.made log) s.views id new own others;
        seen = seen;
        parts = sum_stays s.views (view ∷ []) (new ∷ []) (set s.views id new) swaps (λ (v : View R). v.parts) (omega arith) ∙ r.parts;
        turns = (let h = sum_by-set_at (λ (v : View R). length v.turns) s.views id view new at in let t = r.turns in omega arith);
        queue = queue;
        books = stays;
      }

  -- ---- draw

  pub draws : (slots id : ℕ) (me : Seat) → me.0.role ≡ Idle → 0 < me.0.parts → Allows Rule slots id me 0 (λ n. (n + 1) % 2 ^ 64) (Draws (step slots 0 1 0 none) me)
  draws slots id me idle some_part s r _ at _ =
      let view : View R = me.0 in let new : View R = record view { role = Waits r.next } in let k = r.each id view at in
      let found : get_or s.words 0 0 ≡ r.next % 2 ^ 64 = ap (λ l. get_or l 0 0) r.words in
      let more : (get_or s.words 0 0 + 1) % 2 ^ 64 ≡ (r.next + 1) % 2 ^ 64 = ap (λ n. (n + 1) % 2 ^ 64) found ∙ word_more r.next in
      let none_before : turn view ≡ 0 = ap (λ role. turn (record view { role = role })) idle in
      let no_turns : sum_by turn (set s.views id new) ≡ sum_by turn s.views = (let h = sum_by-set_at turn s.views id view new at in omega arith) in (
        new,
        keeps,
        tt,
        moved s r id view new at refl (λ _. refl) (set s.words 0 ((get_or s.words 0 0 + 1) % 2 ^ 64)) s.homes r.log (r.next + 1) r.served (omega arith) r.lawful
            (ap₂ (λ l n. set l 0 n) r.words more) r.one_slot (λ z. r.at_home (sym no_turns ∙ z))
            (queue_drawn r.next r.served s.views id view new at idle refl r.queue)
            (record { seen = k.seen; older = k.older; kept = k.kept; kept_seen = k.kept_seen; no_books = k.no_books; queues = λ _. some_part; cell_is = k.cell_is; turn = tt; maker = k.maker })
            (λ seat v _ there. r.each seat v there) r.books.known (seen_set s.views r.log id view new at some_part (λ e. e) r.seen),
        (r.next, found, refl),
      )

  -- ---- look

  -- nothing changes
  still : (s : Table) (r : Rule s) (id : ℕ) (view : View R) (word : ℕ) → get_elem? s.views id ≡ some view → Rule record { words = set s.words word (get_or s.words word 0); homes = s.homes; views = set s.views id view }
  still s r id view word at =
      let e : set s.views id view ≡ s.views = set_again s.views id view at in
      subst (λ vs. Rule record { words = set s.words word (get_or s.words word 0); homes = s.homes; views = vs }) (sym e)
      (subst (λ ws. Rule record { words = ws; homes = s.homes; views = s.views }) (sym (set-get_or s.words word 0)) r)

  -- who has all parts has all numbers
  all_numbers : (s : Table) (r : Rule s) (id : ℕ) (view : View R) → get_elem? s.views id ≡ some view → view.parts ≡ cell.passes → (n : ℕ) → books_of n s.views ≡ numbered n view.books
  all_numbers s r id view at all n = sum_by-alone (λ (v : View R). numbered n v.books) (λ (v : View R). v.parts) s.views id view at (r.parts ∙ sym all) (λ seat v there z. ap (numbered n) ((r.each seat v there).no_books z))

  -- and nobody else has seen more
  all_seen : (s : Table) (r : Rule s) (id : ℕ) (view : View R) → get_elem? s.views id ≡ some view → view.parts ≡ cell.passes → view.seen ≡ r.log
  all_seen s r id view at all =
      let h = r.seen in
      dite (ℕ_discrete h.0 id)
      (λ e. ap (λ (v : View R). v.seen) (some-injective view h.1 (sym at ∙ (ap (get_elem? s.views) (sym e) ∙ h.2))) ∙ h.4)
      (λ n. let two = sum_by-two_le (λ (v : View R). v.parts) s.views h.0 id h.1 view n h.2 at in let p = r.parts in let q = h.3 in absurd (omega arith))

  take_turn : (s : Table) (r : Rule s) (id own : ℕ) (me : Seat) → get_elem? s.views id ≡ some me.0 → me.0.role ≡ Waits own → own ≡ r.served
      → (new : View R) × (state : S) × (get_elem? s.homes 0 ≡ some (some (Some state))) × Rule (stepped s 1 (get_or s.words 1 0) id me.1 new (takes 0 (Some state))) × TakesTurn content own state me.0 new
  take_turn s r id own me at waits mine =
      let view : View R = me.0 in let k = r.each id view at in
      let some_part : 0 < view.parts = k.queues (ap is_queued waits) in
      let same_cell : view.cell ≡ cell = k.cell_is some_part in
      let home = r.at_home (no_turn r.next r.served own r.log s.views id view at waits mine (λ seat v there. (r.each seat v there).turn) r.queue) in
      let state : S = home.0 in let log = content.log state in let is : log ≡ r.log = home.2 in
      let new : View R = record view { role = Holds own; seen = log } in
      let front : IsPrefix view.seen log = subst (IsPrefix view.seen) (sym is) k.seen in
      let kept : AreKept log view.books = subst (λ l. AreKept l view.books) (sym is) k.kept in
      let has_turn_now : sum_by turn (set s.views id new) ≡ 0 → ⊥ = λ z. let h = sum_by-at_le turn (set s.views id new) id new (set_here s.views id new (within s.views id view at)) in absurd (omega arith) in
      let swaps = swaps_one s.views id view new at in (
        new,
        state,
        ap (λ l. get_elem? l 0) home.1,
        moved s r id view new at refl (λ _. refl) (set s.words 1 (get_or s.words 1 0)) (set s.homes 0 none) r.log r.next r.served (omega arith) r.lawful
            (set-get_or s.words 1 0 ∙ r.words) (length-set s.homes 0 none ∙ r.one_slot) (λ z. absurd (has_turn_now z))
            (queue_waited r.next r.served own s.views id view new at waits refl r.queue)
            (record {
              seen = subst (λ l. IsPrefix l r.log) (sym is) (prefix_self r.log);
              older = prefixes_of_longer view.older view.seen log front k.older;
              kept = k.kept;
              kept_seen = kept;
              no_books = k.no_books;
              queues = λ _. some_part;
              cell_is = k.cell_is;
              turn = (mine, is);
              maker = k.maker;
            })
            (λ seat v _ there. r.each seat v there) r.books.known (seen_set s.views r.log id view new at some_part (λ _. is) r.seen),
        record {
          is = refl;
          seen = front;
          older = prefixes_of_longer view.older view.seen log front k.older;
          namespace = home.3 ∙ ap (λ (c : CellFacts). c.namespace) (sym same_cell);
          kept = kept;
          once = λ n. let h = sum_by-at_le (λ (v : View R). numbered n v.books) s.views id view at in let o = r.books.once n in omega arith;
          whole = λ all. all_seen s r id view at (all ∙ ap (λ (c : CellFacts). c.passes) same_cell) ∙ sym is;
          known = λ all. subst (AllByRecursion (λ (row : LogRow R). 0 < numbered row.pass view.books)) (sym is)
              (all_weaker (λ (row : LogRow R). 0 < books_of row.pass s.views) (λ (row : LogRow R). 0 < numbered row.pass view.books)
              (λ row there. let e = all_numbers s r id view at (all ∙ ap (λ (c : CellFacts). c.passes) same_cell) row.pass in omega arith) r.log r.books.known);
        },
      )

  -- what the look tells of the ticket
  met : (s : Table) (r : Rule s) (id : ℕ) (me : Seat) → cell.passes < 2 ^ 64 → get_elem? s.views id ≡ some me.0 → (role : Role) → me.0.role ≡ role
      → (new : View R) × (a : Act (Option S)) × Valid s.homes me.1 a × Rule (stepped s 1 (get_or s.words 1 0) id me.1 new a) × MeetsTicket content me (get_or s.words 1 0) (new, carried_after me.1 a) role
  met s r id me few at Idle is = (me.0, keeps, tt, still s r id me.0 1 at, refl)
  met s r id me few at (Holds own) is = (me.0, keeps, tt, still s r id me.0 1 at, refl)
  met s r id me few at (Waits own) is =
      let found : get_or s.words 1 0 ≡ r.served % 2 ^ 64 = ap (λ l. get_or l 1 0) r.words in
      let line = in_line r.next r.served own s.views id me.0 at is r.queue in
      let short = short_line r.next r.served s.views (λ seat v there. (r.each seat v there).queues) r.queue in
      let parts = r.parts in
      dite (ℕ_discrete (get_or s.words 1 0) (own % 2 ^ 64))
      (λ hit.
      let mine : own ≡ r.served = sym (one_turn r.served own (2 ^ 64) line.0 (omega arith) (sym found ∙ hit)) in
      let took = take_turn s r id own me at is mine in
      (took.0, takes 0 (Some took.1), took.2, took.3, ((λ _. (took.1, refl, took.4)), λ miss. absurd (miss hit))))
      (λ miss. (me.0, keeps, tt, still s r id me.0 1 at, ((λ hit. absurd (miss hit)), λ _. refl)))

  pub looks : (slots id : ℕ) (me : Seat) → cell.passes < 2 ^ 64 → Allows Rule slots id me 1 (λ n. n) (Looks content (step slots 1 0 0 none) me)
  looks slots id me few s r _ at _ =
      let k = r.each id me.0 at in let m = met s r id me few at me.0.role refl in
      (m.0, m.1, m.2, m.3, record { older = k.older; kept = k.kept_seen; turn = m.4 })

  -- ---- hand on

  -- nobody else has a book of this number
  not_mine : (s : Table) (r : Rule s) (id : ℕ) (view : View R) (book : Book R) → get_elem? s.views id ≡ some view → view.books ≡ book ∷ [] → (seat : ℕ) (v : View R) → seat ≢ id → get_elem? s.views seat ≡ some v → numbered book.number v.books ≡ 0
  not_mine s r id view book at is seat v other there =
      let two = sum_by-two_le (λ (u : View R). numbered book.number u.books) s.views seat id v view other there at in
      let once = r.books.once book.number in
      let mine : numbered book.number view.books ≡ numbered book.number (book ∷ []) = ap (numbered book.number) is in
      let one = one_here book.number book.number refl in omega arith

  pub hands_on : (slots id own : ℕ) (me : Seat) (state : S) (more : List (LogRow R)) (book : Book R) → me.0.role ≡ Holds own → me.1 ≡ (0, Some state) ∷ [] → 0 < me.0.parts → me.0.books ≡ book ∷ []
      → content.log state ≡ me.0.seen ++ more → AreOf book.number more → content.namespace state ≡ me.0.cell.namespace → IsLawful me.0.cell.namespace (content.log state)
      → Allows Rule slots id me 1 (λ n. (n + 1) % 2 ^ 64) (HandsOn content (step slots 1 1 0 none) me)
  hands_on slots id own me state more book holds carried some_part books is are space lawful s r _ at _ =
      let view : View R = me.0 in let k = r.each id view at in
      let has : HasTurn r.served r.log view.seen (Holds own) = subst (HasTurn r.served r.log view.seen) holds k.turn in
      let mine : own ≡ r.served = has.0 in
      let log = content.log state in
      let longer : log ≡ r.log ++ more = is ∙ ap (λ l. l ++ more) has.1 in
      let new : View R = after_turn log view in
      let added : drop (length view.seen) log ≡ more = ap (λ l. drop (length view.seen) l) is ∙ drop-prefix view.seen more in
      let book' : Book R = record book { rows = book.rows ++ more } in
      let books' : new.books ≡ book' ∷ [] = ap₂ with_rows added books in
      let found : get_or s.words 1 0 ≡ r.served % 2 ^ 64 = ap (λ l. get_or l 1 0) r.words in
      let up : (get_or s.words 1 0 + 1) % 2 ^ 64 ≡ (r.served + 1) % 2 ^ 64 = ap (λ n. (n + 1) % 2 ^ 64) found ∙ word_more r.served in
      let kept : AreKept r.log (book ∷ []) = subst (AreKept r.log) books k.kept in
      let rows : rows_of_pass book.number log ≡ book.rows ++ more = ap (rows_of_pass book.number) longer ∙ kept_own r.log more book kept.0 are in
      let own_book : 0 < books_of book.number s.views = (
      let e : numbered book.number view.books ≡ numbered book.number (book ∷ []) = ap (numbered book.number) books in
      let one = one_here book.number book.number refl in
      let h = sum_by-at_le (λ (v : View R). numbered book.number v.books) s.views id view at in omega arith) in
      let homes' : set s.homes 0 (some (Some state)) ≡ some (Some state) ∷ [] = one_home s.homes (some (Some state)) r.one_slot in
      let back : put_back s.homes me.1 ≡ set s.homes 0 (some (Some state)) = ap (put_back s.homes) carried in (
        new,
        gives,
        tt,
        moved s r id view new at refl (λ n. numbered-with_rows n (drop (length view.seen) log) view.books) (set s.words 1 ((get_or s.words 1 0 + 1) % 2 ^ 64)) (put_back s.homes me.1) log r.next (r.served + 1) (omega (arith, length-append view.turns (log ∷ [])))
            (subst (λ (c : CellFacts). IsLawful c.namespace log) (k.cell_is some_part) lawful) (ap₂ (λ l n. set l 1 n) r.words up) (ap length (back ∙ homes')) (λ _. (state, back ∙ homes', refl, space ∙ ap (λ (c : CellFacts). c.namespace) (k.cell_is some_part)))
            (queue_served r.next r.served own s.views id view new at holds mine refl r.queue)
            (record {
              seen = prefix_self log;
              older = prefixes_of_longer view.older view.seen log (more, sym is) k.older;
              kept = subst (AreKept log) (sym books') (rows, tt);
              kept_seen = subst (AreKept log) (sym books') (rows, tt);
              no_books = λ z. absurd (omega arith);
              queues = λ _. some_part;
              cell_is = k.cell_is;
              turn = tt;
              maker = k.maker;
            })
            (λ seat v other there. let h = r.each seat v there in record {
              seen = subst (IsPrefix v.seen) (sym longer) (prefix_more v.seen r.log more h.seen);
              older = h.older;
              kept = subst (λ l. AreKept l v.books) (sym longer) (kept_other r.log more book.number v.books (not_mine s r id view book at books seat v other there) are h.kept);
              kept_seen = h.kept_seen;
              no_books = h.no_books;
              queues = h.queues;
              cell_is = h.cell_is;
              turn = turn_other r.served (r.served + 1) r.log log v.seen v.role (not_served r.next r.served own s.views id view at holds mine r.queue seat v other there) h.turn;
              maker = h.maker;
            })
            (subst (AllByRecursion (λ (row : LogRow R). 0 < books_of row.pass s.views)) (sym longer)
            (All-append (λ (row : LogRow R). 0 < books_of row.pass s.views) r.log more r.books.known
            (all_weaker (λ (row : LogRow R). row.pass ≡ book.number) (λ (row : LogRow R). 0 < books_of row.pass s.views) (λ row e. subst (λ n. 0 < books_of n s.views) (sym e) own_book) more are)))
            (id, new, set_here s.views id new (within s.views id view at), some_part, refl),
        λ other e. ap₂ (λ (v : View R) (c : List (ℕ × Option S)). (v, c)) (ap (λ z. after_turn (content.log z) view) (same_hand state other me.1 carried e)) (ap rest carried),
      )
