-- Sides that say and read whole turns take the turns of an exchange.
use Rattle.std.proofs.Common.{◌≡◌, ℕ, ◌+◌, ◌≤◌, cond, List, [], ◌∷◌, length, Option, None, Some, sym, refl, ap, ◌∙◌, subst, arith}
use Rattle.std.proofs.lemmas.Bool.{le-leb}
use Rattle.std.proofs.lemmas.List.Sums.{sum_by-cons}
use Rattle.exchange_rules.specs.Rules.{Rules}
use Rattle.exchange_rules.specs.Items.{Ask, Turn, bye, counted as count_of_items}
use Rattle.exchange_rules.specs.Answer.{turn, opened}
use Rattle.exchange_rules.specs.Exchange.{turns, enough, exchange, first_turn, first_asks}
use Rattle.exchange_rules.specs.Premises.{CanCut, CanSend}
use Rattle.exchange_rules.proofs.Meeting.{read_turn}
use Rattle.session_rules.specs.Machine.{Refuses, Machine}
use Rattle.session_rules.specs.Reading.{Waits, stepped, run}
use Rattle.session_rules.specs.Messages.{taken}
use Rattle.session_rules.specs.Talk.{Role, Caller, Answerer}
use Rattle.session_rules.specs.Turns.{Replies, GoesOn, opening_turn, opening_asks, CallerBegins, Awaits, TakeTurns}
use Rattle.session_rules.specs.WholeTurns.{TurnPlace, first_heard, turn_answered, turn_read, turn_counted, place_first, by_turns, as_turns}
use Rattle.session_rules.proofs.Runs.{then_stay}

module _ {R X C : Type 0} (rules : Rules R X C) (box : Option X) (role : Role) (begun : List R) (limit : ℕ) where
  abbrev side : Machine (TurnPlace R X) (Turn R C) (Turn R C) R (Unit {0})
  side = by_turns rules role begun box limit

  -- one turn is read
  one_read : (t : TurnPlace R X) (at : ℕ) (read : Turn R C) → t.counted + length read.items ≤ t.most
      → run (taken side (λ turn. [])) (Waits t at []) (read ∷ []) ≡ stepped (at + 0) (turn_read rules box t t.asks read)
  unfolding run
  one_read t at read few =
      then_stay (stepped (at + 0) (turn_counted rules box t read))
      ∙ ap (λ b. stepped (at + 0) (cond b (turn_read rules box t t.asks read) (Refuses tt))) (le-leb (t.counted + length read.items) t.most few)

  replies_answered : (t : TurnPlace R X) (at : ℕ) (read : Turn R C) (rows : List R) (counted most : ℕ) → t.rows ≡ rows → t.counted ≡ counted → t.most ≡ most → (opens : List (Ask R X))
      → Replies (as_turns R X C) rules rows read opens counted most (stepped at (turn_answered rules t read (Some opens)))
  replies_answered t at read rows counted most has so_many so_many_may [] = record {
    says = ap (λ l. turn rules l [] ∷ []) has;
    takes = refl;
    stands = refl;
  }
  replies_answered t at read rows counted most has so_many so_many_may (ask ∷ asks) = record {
    says = ap (λ l. turn rules l (ask ∷ asks) ∷ []) has;
    takes = refl;
    stands = record {
      has = has;
      hears = ap (λ l. Some (opened rules l (ask ∷ asks))) has;
      so_many = ap (λ l. t.counted + length read.items + length (turn rules l (ask ∷ asks)).items) has ∙ ap (λ n. n + length read.items + length (turn rules rows (ask ∷ asks)).items) so_many;
      so_many_may = so_many_may;
    };
  }

  -- by what is seen of its place
  reply_read : (t : TurnPlace R X) (at : ℕ) (read : Turn R C) (rows : List R) (counted most : ℕ) → t.rows ≡ rows → t.counted ≡ counted → t.most ≡ most
      → counted + length read.items ≤ most → (opens : List (Ask R X)) → turn_read rules box t t.asks read ≡ turn_answered rules t read (Some opens)
      → Replies (as_turns R X C) rules rows read opens counted most (run (taken side (λ turn. [])) (Waits t at []) (read ∷ []))
  reply_read t at read rows counted most has so_many so_many_may few opens is =
      let fits : t.counted + length read.items ≤ t.most = subst (λ m. t.counted + length read.items ≤ m) (sym so_many_may) (subst (λ n. n + length read.items ≤ most) (sym so_many) few) in
      subst (λ m. Replies (as_turns R X C) rules rows read opens counted most m)
      (sym (one_read t at read fits ∙ ap (stepped (at + 0)) is))
      (replies_answered t (at + 0) read rows counted most has so_many so_many_may opens)

  goes_on : (rows others : List R) → CanCut rules others → CanSend rules others → GoesOn (as_turns R X C) rules side (λ turn. []) rows others
  goes_on rows others can_cut can_send = record {
    replies = λ t at ask asks counted most h few.
        let read = turn rules others (ask ∷ asks) in
        reply_read t at read rows counted most h.has h.so_many h.so_many_may few (opened rules others (ask ∷ asks))
        (ap (λ due. turn_read rules box t due read) h.hears ∙ ap (turn_answered rules t read) (read_turn rules others can_cut can_send (ask ∷ asks)));
    parts = λ t at counted most h few.
        one_read t at bye (omega (arith, few, h.so_many, h.so_many_may))
        ∙ ap (λ due. stepped (at + 0) (turn_read rules box t due bye)) h.hears;
  }

module _ {R X C : Type 0} (rules : Rules R X C) (box : Option X) (rows others : List R) (limit : ℕ) where
  begins : CallerBegins (as_turns R X C) rules (by_turns rules Caller rows box limit) rows box limit
  begins = record { says = refl; hears = record { has = refl; hears = refl; so_many = refl; so_many_may = refl } }

  first_is_heard : (x : Option X) → first_heard x (opening_turn rules rows x) ≡ Some (opening_asks rules rows x)
  first_is_heard None = refl
  first_is_heard (Some x) = refl

  few_at_first : (x : Option X) → count_of_items (exchange rules rows others x) ≤ limit → length (opening_turn rules rows x).items ≤ limit
  few_at_first None few = omega arith
  few_at_first (Some x) few = omega (arith, sum_by-cons (λ t. length t.items) (first_turn rules rows x) (turns rules (enough rules rows others x) others rows (first_asks rules rows x)))

  awaits : count_of_items (exchange rules rows others box) ≤ limit → Awaits (as_turns R X C) rules (by_turns rules Answerer others box limit) (λ turn. []) others rows box limit
  awaits few =
      let first = opening_turn rules rows box in
      record {
        silent = refl;
        replies =
            reply_read rules box Answerer others limit (place_first rules Answerer others box limit) 0 first others 0 limit refl refl refl
            (omega (arith, few_at_first box few)) (opening_asks rules rows box)
            (ap (turn_answered rules (place_first rules Answerer others box limit) first) (first_is_heard box));
      }

  pub they_take_turns : CanCut rules rows → CanCut rules others → CanSend rules rows → CanSend rules others → count_of_items (exchange rules rows others box) ≤ limit
      → TakeTurns (as_turns R X C) rules (by_turns rules Caller rows box limit) (by_turns rules Answerer others box limit) rows others box
  they_take_turns can can' may may' few = record {
    caller_most = limit;
    answerer_most = limit;
    begins = begins;
    caller_goes_on = goes_on rules box Caller rows limit rows others can' may';
    awaits = awaits few;
    answerer_goes_on = goes_on rules box Answerer others limit others rows can may;
    few_for_caller = few;
    few_for_answerer = few;
  }
