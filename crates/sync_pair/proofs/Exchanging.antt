-- Two sides that pass their turns on to each other, and what is left of the exchange.
use Rattle.std.proofs.Common.{◌≡◌, ◌⊎◌, inl, inr, ℕ, ◌+◌, ◌≤◌, ◌<◌, List, [], ◌∷◌, ◌++◌, map, filter_map, flat_map, length, Option, Some, None, Ok, refl, sym, ap, ◌∙◌, subst, arith}
use Rattle.std.specs.Prelude.{IsOk, is_ok}
use Rattle.std.specs.List.{AllByRecursion}
use Rattle.std.proofs.lemmas.List.{append-nil, append_assoc, length-append, length-map}
use Rattle.std.proofs.lemmas.List.Sums.{sum_by-cons}
use Rattle.willow_area.specs.Boxes.{Ranges}
use Rattle.willow_entry.specs.Row.{RowValue}
use Rattle.exchange_rules.specs.Items as rules
use Rattle.exchange_rules.specs.Items.{caller_turns, answerer_turns, rows_of_turn, rows_of_turns, counted, to_left, to_right}
use Rattle.exchange_rules.proofs.Potentials.{caller_turns-cons}
use Rattle.exchange_rules.proofs.Costs.{counted_exchange}
use Rattle.sync_msg.specs.Items.{ItemValue, HasSpelling, item_spelling}
use Rattle.sync_msg.specs.declared.role.Role.TheVariants.{Caller, Answerer}
use Rattle.sync_core.specs.declared.stage.Stage.{Stage}
use Rattle.sync_core.specs.declared.stage.Stage.TheVariants as stage
use Rattle.sync_core.specs.Flat.{TurnValue, row_in, turn_items}
use Rattle.sync_core.specs.SyncRules.{sync_rules}
use Rattle.sync_core.specs.Place.{Place, first_place, stage_of}
use Rattle.sync_core.specs.Held.{to_count}
use Rattle.sync_core.specs.Runs.{says_all, hears, SayTurns}
use Rattle.sync_core.proofs.TurnItems.{rows_in_turn, turn_count}
use Rattle.sync_core.proofs.Lawful.{disjoint, can_cut_rows}
use Rattle.sync_core.proofs.Telling.{rows_in-le}
use Rattle.sync_core.proofs.TwoSides.{say_exchange}
use Rattle.sync_core.proofs.OneByOne.{says_counted, hears_counted_items, says_turn_first}
use Rattle.sync_pair.specs.Meeting.{turn_bytes, meeting}
use Rattle.sync_pair.specs.Passing.{CanPass, PassesTurn}
use Rattle.sync_pair.proofs.Plain.{IsPlain, AreSendable, plain_meeting}
use Rattle.sync_pair.proofs.Speaking.{says_in_version, hears_in_version}

-- ---- what is left

-- two sides of a version that have these turns still to say, the first of them first, with what each has got so far, what
-- it has got in the end, and the number of all items
pub record HasLeft (version : ℕ) (rest : List TurnValue) (writer reader : Place) (got_by_writer got_by_reader to_writer to_reader : List RowValue) (items : ℕ) : Type 0 where
  pub says : SayTurns rest writer reader
  pub plain : AllByRecursion (IsPlain version) rest
  pub writer_speaks : writer.version ≡ version
  pub reader_speaks : reader.version ≡ version
  pub writer_gets : got_by_writer ++ rows_of_turns (answerer_turns rest) ≡ to_writer
  pub reader_gets : got_by_reader ++ rows_of_turns (caller_turns rest) ≡ to_reader
  pub writer_counts : writer.sent + writer.read + counted rest ≡ items
  pub reader_counts : reader.sent + reader.read + counted rest ≡ items

-- the first of the turns, as the version tells it
record SaysOne (version : ℕ) (t : TurnValue) (ts : List TurnValue) (writer reader : Place) : Type 0 where
  says : (says_all writer).0 ≡ turn_items version t
  next : Place
  hears : hears reader (turn_items version t) ≡ Ok next
  rest : SayTurns ts next (says_all writer).1

says_one : (version : ℕ) (t : TurnValue) (ts : List TurnValue) (writer reader : Place) → writer.version ≡ version → SayTurns (t ∷ ts) writer reader → SaysOne version t ts writer reader
says_one version t ts writer reader speaks h =
    let first = says_turn_first t ts writer reader h in
    record {
      says = first.says ∙ ap (λ v. turn_items v t) speaks;
      next = first.next;
      hears = ap (λ v. hears reader (turn_items v t)) (sym speaks) ∙ first.hears;
      rest = first.rest;
    }

-- the first of the turns can be passed on
pub can_pass_first : (version : ℕ) (t : TurnValue) (ts : List TurnValue) (writer reader : Place) (gw gr tw tr : List RowValue) (n : ℕ) → HasLeft version (t ∷ ts) writer reader gw gr tw tr n → CanPass writer reader
can_pass_first version t ts writer reader gw gr tw tr n h =
    let first = says_one version t ts writer reader h.writer_speaks h.says in
    record {
      spelled = subst (λ l. AllByRecursion HasSpelling l) (sym first.says) h.plain.0.spelled;
      heard = subst (λ l. IsOk (hears reader l)) (sym first.says) (ap is_ok first.hears);
    }

-- and then the others are left, with the sides the other way round
pub record IsPassed (version : ℕ) (t : TurnValue) (ts : List TurnValue) (writer reader : Place) (gw gr tw tr : List RowValue) (n : ℕ) (bytes : List ℕ) : Type 0 where
  pub bytes_are : bytes ≡ turn_bytes version t
  pub rest : HasLeft version ts writer reader gw gr tw tr n

pub passes_first_turn : (version : ℕ) (t : TurnValue) (ts : List TurnValue) (writer reader : Place) (gw gr tw tr : List RowValue) (n : ℕ) → HasLeft version (t ∷ ts) writer reader gw gr tw tr n
    → (from to : Place) (bytes : List ℕ) (got : List RowValue) → PassesTurn writer reader gr from to bytes got
    → IsPassed version t ts to from got gw tr tw n bytes
passes_first_turn version t ts writer reader gw gr tw tr n h from to bytes got passed =
    let first = says_one version t ts writer reader h.writer_speaks h.says in
    let items = (says_all writer).0 in
    let now : (says_all writer).1 ≡ from = ap (λ e. e.says) passed.end in
    let heard : hears reader items ≡ Ok to = ap (λ e. e.hears) passed.end in
    let same : first.next ≡ to =
    let one : Ok first.next ≡ Ok to = sym (ap (hears reader) first.says ∙ first.hears) ∙ heard in cc in
    let new_rows : got ≡ gr ++ rows_of_turn t = sym (ap (λ e. e.got) passed.end) ∙ ap (λ l. gr ++ filter_map row_in l) first.says ∙ ap (λ l. gr ++ l) (rows_in_turn version t) in
    let count : to_count items ≡ length t.items = ap to_count first.says ∙ turn_count version t h.plain.0.told in
    let sent = says_counted writer in
    let read = hears_counted_items reader to items heard in
    let total = sum_by-cons (λ (u : TurnValue). length u.items) t ts in
    record {
      bytes_are = sym (ap (λ e. e.bytes) passed.end) ∙ ap turn_bytes_of first.says;
      rest = record {
        says = subst (λ p. SayTurns ts to p) now (subst (λ p. SayTurns ts p (says_all writer).1) same first.rest);
        plain = h.plain.1;
        writer_speaks = hears_in_version reader to items heard ∙ h.reader_speaks;
        reader_speaks = sym (ap (λ p. p.version) now) ∙ says_in_version writer ∙ h.writer_speaks;
        writer_gets =
            ap (λ l. l ++ rows_of_turns (answerer_turns ts)) new_rows ∙ append_assoc gr (rows_of_turn t) (rows_of_turns (answerer_turns ts))
            ∙ ap (λ l. gr ++ rows_of_turns l) (sym (caller_turns-cons t ts)) ∙ h.reader_gets;
        reader_gets = h.writer_gets;
        writer_counts = omega (arith, h.reader_counts, total, count, read.sent, read.read);
        reader_counts = omega (arith, h.writer_counts, total, count, sent.sent, sent.read, ap (λ p. p.sent) now, ap (λ p. p.read) now);
      };
    }
  where
    turn_bytes_of : List ItemValue → List ℕ
    turn_bytes_of items = flat_map item_spelling items

-- ---- all turns

-- So far these turns were said. The rest are left, and one of the two sides is to say the first of them.
pub record SoFar (version : ℕ) (all : List TurnValue) (said : List (List ℕ)) (left right : Place) (left_got right_got : List RowValue) : Type 0 where
  pub rest : List TurnValue
  pub turns : said ++ map (turn_bytes version) rest ≡ map (turn_bytes version) all
  pub sides : HasLeft version rest left right left_got right_got (to_left all) (to_right all) (counted all) ⊎ HasLeft version rest right left right_got left_got (to_right all) (to_left all) (counted all)

pub so_far_none : (version : ℕ) (all : List TurnValue) (left right : Place) → left.version ≡ version → right.version ≡ version → SayTurns all left right → AllByRecursion (IsPlain version) all → left.sent + left.read ≡ 0 → right.sent + right.read ≡ 0 → SoFar version all [] left right [] []
so_far_none version all left right left_speaks right_speaks says plain of_left of_right = record {
  rest = all;
  turns = refl;
  sides = inl (record {
    says = says;
    plain = plain;
    writer_speaks = left_speaks;
    reader_speaks = right_speaks;
    writer_gets = refl;
    reader_gets = refl;
    writer_counts = omega (arith, of_left);
    reader_counts = omega (arith, of_right);
  });
}

module _ (version : ℕ) (all : List TurnValue) (said : List (List ℕ)) (left right : Place) (left_got right_got : List RowValue) where
  abbrev LeftFirst : List TurnValue → Type 0
  LeftFirst rest = HasLeft version rest left right left_got right_got (to_left all) (to_right all) (counted all)

  abbrev RightFirst : List TurnValue → Type 0
  RightFirst rest = HasLeft version rest right left right_got left_got (to_right all) (to_left all) (counted all)

  -- behind the last turn both sides are done
  all_done : LeftFirst [] ⊎ RightFirst [] → stage_of left.doing ≡ stage.Done
  unfolding SayTurns
  all_done (inl h) = ap stage_of h.says.0
  all_done (inr h) = ap stage_of h.says.1

  -- before a turn neither is
  not_done : (t : TurnValue) (ts : List TurnValue) → LeftFirst (t ∷ ts) ⊎ RightFirst (t ∷ ts) → stage_of left.doing ≡ stage.Done → ⊥
  not_done t ts (inl h) done =
      let no : stage.Done ≡ stage.Writing = sym done ∙ (says_turn_first t ts left right h.says).writes in cc
  not_done t ts (inr h) done =
      let no : stage.Done ≡ stage.Reading = sym done ∙ (says_turn_first t ts right left h.says).reads in cc

  left_first : (t : TurnValue) (ts : List TurnValue) → LeftFirst (t ∷ ts) ⊎ RightFirst (t ∷ ts) → stage_of left.doing ≡ stage.Writing → LeftFirst (t ∷ ts)
  left_first t ts (inl h) writes = h
  left_first t ts (inr h) writes =
      let no : stage.Writing ≡ stage.Reading = sym writes ∙ (says_turn_first t ts right left h.says).reads in absurd (cc)

  right_first : (t : TurnValue) (ts : List TurnValue) → LeftFirst (t ∷ ts) ⊎ RightFirst (t ∷ ts) → (stage_of left.doing ≡ stage.Writing → ⊥) → RightFirst (t ∷ ts)
  right_first t ts (inl h) silent = absurd (silent (says_turn_first t ts left right h.says).writes)
  right_first t ts (inr h) silent = h

  -- a turn is left
  pub record NextTurn : Type 0 where
    pub turn : TurnValue
    pub rest : List TurnValue
    pub turns : said ++ map (turn_bytes version) (turn ∷ rest) ≡ map (turn_bytes version) all
    pub sides : LeftFirst (turn ∷ rest) ⊎ RightFirst (turn ∷ rest)

  pub turn_left : SoFar version all said left right left_got right_got → (stage_of left.doing ≡ stage.Done → ⊥) → NextTurn
  turn_left h going = by_rest h.rest h.turns h.sides
    where
      by_rest : (rest : List TurnValue) → said ++ map (turn_bytes version) rest ≡ map (turn_bytes version) all → LeftFirst rest ⊎ RightFirst rest → NextTurn
      by_rest [] turns sides = absurd (going (all_done sides))
      by_rest (t ∷ ts) turns sides = record { turn = t; rest = ts; turns = turns; sides = sides }

  module _ (next : NextTurn) where
    -- fewer turns were said than there are
    pub more_turns : length said < length all
    more_turns =
        omega (
          arith,
          ap length next.turns,
          length-append said (map (turn_bytes version) (next.turn ∷ next.rest)),
          length-map (next.turn ∷ next.rest) (turn_bytes version),
          length-map all (turn_bytes version),
        )

    one_more : (bytes : List ℕ) → bytes ≡ turn_bytes version next.turn → (said ++ bytes ∷ []) ++ map (turn_bytes version) next.rest ≡ map (turn_bytes version) all
    one_more bytes is = append_assoc said (bytes ∷ []) (map (turn_bytes version) next.rest) ∙ ap (λ b. said ++ b ∷ map (turn_bytes version) next.rest) is ∙ next.turns

    -- where the left side writes
    module _ (writes : stage_of left.doing ≡ stage.Writing) where
      now_left : LeftFirst (next.turn ∷ next.rest)
      now_left = left_first next.turn next.rest next.sides writes

      pub left_can : CanPass left right
      left_can = can_pass_first version next.turn next.rest left right left_got right_got (to_left all) (to_right all) (counted all) now_left

      pub left_passes : (from to : Place) (bytes : List ℕ) (got : List RowValue) → PassesTurn left right right_got from to bytes got → SoFar version all (said ++ bytes ∷ []) from to left_got got
      left_passes from to bytes got passed =
          let p = passes_first_turn version next.turn next.rest left right left_got right_got (to_left all) (to_right all) (counted all) now_left from to bytes got passed in
          record { rest = next.rest; turns = one_more bytes p.bytes_are; sides = inr p.rest }

    -- where it does not
    module _ (silent : stage_of left.doing ≡ stage.Writing → ⊥) where
      now_right : RightFirst (next.turn ∷ next.rest)
      now_right = right_first next.turn next.rest next.sides silent

      pub right_can : CanPass right left
      right_can = can_pass_first version next.turn next.rest right left right_got left_got (to_right all) (to_left all) (counted all) now_right

      pub right_passes : (from to : Place) (bytes : List ℕ) (got : List RowValue) → PassesTurn right left left_got from to bytes got → SoFar version all (said ++ bytes ∷ []) to from got right_got
      right_passes from to bytes got passed =
          let p = passes_first_turn version next.turn next.rest right left right_got left_got (to_right all) (to_left all) (counted all) now_right from to bytes got passed in
          record { rest = next.rest; turns = one_more bytes p.bytes_are; sides = inl p.rest }

  -- nothing is left
  pub record IsDone : Type 0 where
    pub turns : said ≡ map (turn_bytes version) all
    pub of_left : left_got ≡ to_left all
    pub of_right : right_got ≡ to_right all
    pub items : left.sent + left.read ≡ counted all

  pub all_said : SoFar version all said left right left_got right_got → stage_of left.doing ≡ stage.Done → IsDone
  all_said h done = by_rest h.rest h.turns h.sides
    where
      by_rest : (rest : List TurnValue) → said ++ map (turn_bytes version) rest ≡ map (turn_bytes version) all → LeftFirst rest ⊎ RightFirst rest → IsDone
      by_rest (t ∷ ts) turns sides = absurd (not_done t ts sides done)
      by_rest [] turns (inl k) = record {
        turns = sym (append-nil said) ∙ turns;
        of_left = sym (append-nil left_got) ∙ k.writer_gets;
        of_right = sym (append-nil right_got) ∙ k.reader_gets;
        items = omega (arith, k.writer_counts);
      }
      by_rest [] turns (inr k) = record {
        turns = sym (append-nil said) ∙ turns;
        of_left = sym (append-nil left_got) ∙ k.reader_gets;
        of_right = sym (append-nil right_got) ∙ k.writer_gets;
        items = omega (arith, k.reader_counts);
      }

-- ---- from the beginning on

pub begins : (version : ℕ) (a b : List RowValue) (x : Option Ranges) → AreSendable a → AreSendable b → (said : List (List ℕ)) (left right : Place) (left_got right_got : List RowValue)
    → said ≡ [] → left ≡ first_place version Caller a x → right ≡ first_place version Answerer b x → left_got ≡ [] → right_got ≡ [] → SoFar version (meeting version a b x) said left right left_got right_got
begins version a b x sa sb said left right left_got right_got none is_left is_right none_left none_right =
    let all = meeting version a b x in
    let first = so_far_none version all (first_place version Caller a x) (first_place version Answerer b x) refl refl (say_exchange version a b sa.rise sb.rise sa.few sb.few x) (plain_meeting version a b sa sb x) refl refl in
    subst (λ s. SoFar version all s left right left_got right_got) (sym none)
    (subst (λ g. SoFar version all [] left right g right_got) (sym none_left)
    (subst (λ g. SoFar version all [] left right [] g) (sym none_right)
    (subst (λ p. SoFar version all [] p right [] []) (sym is_left) (subst (λ p. SoFar version all [] (first_place version Caller a x) p [] []) (sym is_right) first))))

is_writing : (s : Stage) → (s ≡ stage.Writing) ⊎ (s ≡ stage.Writing → ⊥)
is_writing stage.Writing = inl refl
is_writing stage.Reading = inr (λ e. cc)
is_writing stage.Done = inr (λ e. cc)
is_writing stage.Refused = inr (λ e. cc)

-- one turn more
pub goes_on : (version : ℕ) (all : List TurnValue) (said : List (List ℕ)) (left right : Place) (left_got right_got : List RowValue) → NextTurn version all said left right left_got right_got
    → (more : List (List ℕ)) (left' right' : Place) (bytes : List ℕ) (left_got' right_got' : List RowValue) → more ≡ said ++ bytes ∷ []
    → (stage_of left.doing ≡ stage.Writing → PassesTurn left right right_got left' right' bytes right_got') → (stage_of left.doing ≡ stage.Writing → left_got' ≡ left_got)
    → ((stage_of left.doing ≡ stage.Writing → ⊥) → PassesTurn right left left_got right' left' bytes left_got') → ((stage_of left.doing ≡ stage.Writing → ⊥) → right_got' ≡ right_got)
    → SoFar version all more left' right' left_got' right_got'
goes_on version all said left right left_got right_got next more left' right' bytes left_got' right_got' is by_left left_keeps by_right right_keeps =
    subst (λ s. SoFar version all s left' right' left_got' right_got') (sym is) (by_side (is_writing (stage_of left.doing)))
  where
    by_side : (stage_of left.doing ≡ stage.Writing) ⊎ (stage_of left.doing ≡ stage.Writing → ⊥) → SoFar version all (said ++ bytes ∷ []) left' right' left_got' right_got'
    by_side (inl writes) =
        subst (λ g. SoFar version all (said ++ bytes ∷ []) left' right' g right_got') (sym (left_keeps writes))
        (left_passes version all said left right left_got right_got next writes left' right' bytes right_got' (by_left writes))
    by_side (inr silent) =
        subst (λ g. SoFar version all (said ++ bytes ∷ []) left' right' left_got' g) (sym (right_keeps silent))
        (right_passes version all said left right left_got right_got next silent right' left' bytes left_got' (by_right silent))

-- an exchange has no more items than a number of 32 bits
pub few_items : (version : ℕ) (a b : List RowValue) (x : Option Ranges) → AreSendable a → AreSendable b → counted (meeting version a b x) ≤ 393216
few_items version a b None sa sb = omega arith
few_items version a b (Some x) sa sb =
    omega (arith, counted_exchange (sync_rules version) a b x (disjoint version) (can_cut_rows version a sa.rise) (can_cut_rows version b sb.rise), rows_in-le x a, rows_in-le x b, sa.few, sb.few)
