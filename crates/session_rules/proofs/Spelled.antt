-- Messages, read by their bytes.
use Rattle.std.proofs.Common.{◌≡◌, ℕ, zero, suc, ◌+◌, ◌<◌, List, [], ◌∷◌, ◌++◌, length, flat_map, append_assoc, length-append, sym, refl, ap, ap₂, ◌∙◌, subst, arith}
use Rattle.session_rules.specs.Machine.{Seen, Whole, Step, Goes, Ends, Refuses, Machine}
use Rattle.session_rules.specs.Reading.{Stand, Waits, Over, Broken, Refused, stay, then, stepped, judged, move, run, read, start, ending_of, out, got, ending}
use Rattle.session_rules.specs.Rounds.{IsFront, IsOver, rounds, Meet}
use Rattle.session_rules.specs.Messages.{IsReadAs, taken, CanReadAll, hear, tells, dialogue, CanTalk, IsDialogue}
use Rattle.session_rules.proofs.Runs.{then_stay, run_append, run_idle, run_stays}
use Rattle.session_rules.proofs.Growing.{Grows, front_by, says_of, rows_of, judged_part}
use Rattle.session_rules.proofs.Meeting.{rounds_grow, first_over, they_meet}

-- nothing is held of the next message
abbrev IsFresh : {S E : Type 0} → Stand S E → Type 0
IsFresh (Waits s at []) = Unit {0}
IsFresh (Waits s at (byte ∷ held)) = ⊥
IsFresh Over = Unit {0}
IsFresh (Broken at) = Unit {0}
IsFresh (Refused e) = Unit {0}

fresh_stepped : {S O R E : Type 0} (at : ℕ) (step : Step S O R E) → IsFresh (stepped at step).stand
fresh_stepped at (Goes s says rows) = tt
fresh_stepped at (Ends says rows) = tt
fresh_stepped at (Refuses e) = tt

module _ {S M O R E : Type 0} (a : Machine S M O R E) where
  judged_whole : (s : S) (at : ℕ) (held : List ℕ) (seen : Seen M) (m : M) → seen ≡ Whole m → judged a s at held seen ≡ stepped (at + length held) (a.step s m)
  judged_whole s at held seen m e = ap (judged a s at held) e

  -- the bytes that are due of a message
  pub read_due : (s : S) (at : ℕ) (m : M) (bytes : List ℕ) → IsReadAs (a.sees s) bytes m → (held due : List ℕ) → bytes ≡ held ++ due → 0 < length due
      → read a (Waits s at held) due ≡ stepped (at + length bytes) (a.step s m)
  unfolding run
  read_due s at m bytes is held [] e some = absurd (omega arith)
  read_due s at m bytes is held (byte ∷ []) e some =
      let whole : a.sees s (held ++ byte ∷ []) ≡ Whole m = ap (a.sees s) (sym e) ∙ is.whole in
      ap (λ k. then k (stay k.stand)) (judged_whole s at (held ++ byte ∷ []) (a.sees s (held ++ byte ∷ [])) m whole)
      ∙ then_stay (stepped (at + length (held ++ byte ∷ [])) (a.step s m))
      ∙ ap (λ all. stepped (at + length all) (a.step s m)) (sym e)
  read_due s at m bytes is held (byte ∷ next ∷ due) e some =
      let now = held ++ byte ∷ [] in
      let later : bytes ≡ now ++ next ∷ due = e ∙ sym (append_assoc held (byte ∷ []) (next ∷ due)) in
      let part = is.part now (next ∷ due) later (omega (arith, length-append held (byte ∷ []))) (omega arith) in
      ap (λ k. then k (read a k.stand (next ∷ due))) (judged_part a s at now (a.sees s now) part)
      ∙ read_due s at m bytes is now (next ∷ due) later (omega arith)

  module _ (spelling : M → List ℕ) where
    read_idle : (q : Stand S E) → ((byte : ℕ) → move a q byte ≡ stay q) → ((m : M) → taken a spelling q m ≡ stay q)
        → (ms : List M) → read a q (flat_map spelling ms) ≡ run (taken a spelling) q ms
    read_idle q idle idle' ms = run_idle (move a) q idle (flat_map spelling ms) ∙ sym (run_idle (taken a spelling) q idle' ms)

    read_all : (q : Stand S E) (ms : List M) → IsFresh q → CanReadAll a spelling q ms → read a q (flat_map spelling ms) ≡ run (taken a spelling) q ms
    unfolding run
    read_all q [] fresh h = refl
    read_all (Waits s at []) (m ∷ ms) fresh h =
        let rest = flat_map spelling ms in
        let one = stepped (at + length (spelling m)) (a.step s m) in
        run_append (move a) (Waits s at []) (spelling m) rest
        ∙ ap (λ k. then k (read a k.stand rest)) (read_due s at m (spelling m) h.0 [] (spelling m) refl h.0.some_bytes)
        ∙ ap (then one) (read_all one.stand ms (fresh_stepped (at + length (spelling m)) (a.step s m)) h.1)
    read_all (Waits s at (byte ∷ held)) (m ∷ ms) fresh h = absurd fresh
    read_all Over (m ∷ ms) fresh h = read_idle Over (λ byte. refl) (λ k. refl) (m ∷ ms)
    read_all (Broken at) (m ∷ ms) fresh h = read_idle (Broken at) (λ byte. refl) (λ k. refl) (m ∷ ms)
    read_all (Refused e) (m ∷ ms) fresh h = read_idle (Refused e) (λ byte. refl) (λ k. refl) (m ∷ ms)

    pub read_messages : (s : S) (at : ℕ) (ms : List M) → CanReadAll a spelling (Waits s at []) ms
        → read a (Waits s at []) (flat_map spelling ms) ≡ run (taken a spelling) (Waits s at []) ms
    read_messages s at ms h = read_all (Waits s at []) ms tt h

    heard_all : (ms : List M) → CanReadAll a spelling (start a) ms → read a (start a) (flat_map spelling ms) ≡ hear a spelling ms
    heard_all ms h = read_messages a.first 0 ms h

    pub out_is : (ms : List M) → CanReadAll a spelling (start a) ms → out a (flat_map spelling ms) ≡ flat_map a.spelling (tells a spelling ms)
    out_is ms h = ap (λ m. flat_map a.spelling (a.opening ++ says_of m)) (heard_all ms h)

    pub got_is : (ms : List M) → CanReadAll a spelling (start a) ms → got a (flat_map spelling ms) ≡ (hear a spelling ms).rows
    got_is ms h = ap rows_of (heard_all ms h)

    pub ending_is : (ms : List M) → CanReadAll a spelling (start a) ms → ending a (flat_map spelling ms) ≡ ending_of (hear a spelling ms).stand
    ending_is ms h = ap (λ m. ending_of m.stand) (heard_all ms h)

    -- ---- more messages

    pub tells_grows : Grows (tells a spelling)
    tells_grows ms more =
        let first = hear a spelling ms in
        let later = run (taken a spelling) first.stand more in
        front_by (tells a spelling ms) (tells a spelling (ms ++ more)) later.says
        (ap (λ m. a.opening ++ says_of m) (run_append (taken a spelling) (start a) ms more) ∙ sym (append_assoc a.opening first.says later.says))

    read_front : (q : Stand S E) (ms more : List M) → CanReadAll a spelling q (ms ++ more) → CanReadAll a spelling q ms
    read_front q [] more h = tt
    read_front q (m ∷ ms) more h = (h.0, read_front (taken a spelling q m).stand ms more h.1)

    can_front : (front whole : List M) → IsFront front whole → CanReadAll a spelling (start a) whole → CanReadAll a spelling (start a) front
    can_front front whole h can = read_front (start a) front h.behind (subst (CanReadAll a spelling (start a)) h.joined can)

    idle_over : (q : Stand S E) → IsOver (ending_of q) → (m : M) → taken a spelling q m ≡ stay q
    idle_over (Waits s at held) over m = absurd (over refl)
    idle_over Over over m = refl
    idle_over (Broken at) over m = refl
    idle_over (Refused e) over m = refl

    can_idle : (q : Stand S E) → IsOver (ending_of q) → (ms : List M) → CanReadAll a spelling q ms
    can_idle q over [] = tt
    can_idle (Waits s at held) over (m ∷ ms) = absurd (over refl)
    can_idle Over over (m ∷ ms) = (tt, can_idle Over over ms)
    can_idle (Broken at) over (m ∷ ms) = (tt, can_idle (Broken at) over ms)
    can_idle (Refused e) over (m ∷ ms) = (tt, can_idle (Refused e) over ms)

    can_more : (q : Stand S E) (ms more : List M) → CanReadAll a spelling q ms → IsOver (ending_of (run (taken a spelling) q ms).stand) → CanReadAll a spelling q (ms ++ more)
    unfolding run
    can_more q [] more h over = can_idle q over more
    can_more q (m ∷ ms) more h over = (h.0, can_more (taken a spelling q m).stand ms more h.1 over)

    -- behind an end
    pub hear_over : (front whole : List M) → IsFront front whole → IsOver (ending_of (hear a spelling front).stand) → hear a spelling whole ≡ hear a spelling front
    hear_over front whole h over =
        ap (hear a spelling) h.joined ∙ run_stays (taken a spelling) (start a) front h.behind (idle_over (hear a spelling front).stand over)

    pub can_over : (front whole : List M) → IsFront front whole → IsOver (ending_of (hear a spelling front).stand)
        → CanReadAll a spelling (start a) front → CanReadAll a spelling (start a) whole
    can_over front whole h over can = subst (CanReadAll a spelling (start a)) (sym h.joined) (can_more (start a) front h.behind can over)

module _ {S M O R E S' R' E' : Type 0} (a : Machine S M O R E) (b : Machine S' O M R' E') where
  grow : (n : ℕ) → IsFront (dialogue a b n).0 (dialogue a b (suc n)).0 × IsFront (dialogue a b n).1 (dialogue a b (suc n)).1
  grow n = rounds_grow (tells a b.spelling) (tells b a.spelling) (tells_grows a b.spelling) (tells_grows b a.spelling) n

  earlier : (n : ℕ) → CanTalk a b (suc n) → CanTalk a b n
  earlier n can = record {
    first_reads = can_front a b.spelling (dialogue a b n).1 (dialogue a b (suc n)).1 (grow n).1 can.first_reads;
    second_reads = can_front b a.spelling (dialogue a b (suc n)).0 (dialogue a b (suc (suc n))).0 (grow (suc n)).0 can.second_reads;
  }

  -- one round more
  one_more : (n : ℕ) (told : List ℕ) → CanTalk a b n → told ≡ flat_map b.spelling (dialogue a b n).1
      → ◌≡◌ {A = List ℕ × List ℕ} (out a told, out b (out a told)) (flat_map a.spelling (dialogue a b (suc n)).0, flat_map b.spelling (dialogue a b (suc n)).1)
  unfolding rounds
  one_more n told can e =
      let first : out a told ≡ flat_map a.spelling (dialogue a b (suc n)).0 = ap (out a) e ∙ out_is a b.spelling (dialogue a b n).1 can.first_reads in
      ap₂ (λ x y. (x, y)) first (ap (out b) first ∙ out_is b a.spelling (dialogue a b (suc n)).0 can.second_reads)

  pub rounds_spelled : (n : ℕ) → CanTalk a b n
      → rounds (out a) (out b) (suc n) ≡ (flat_map a.spelling (dialogue a b (suc n)).0, flat_map b.spelling (dialogue a b (suc n)).1)
  unfolding rounds
  rounds_spelled zero can = one_more zero [] can refl
  rounds_spelled (suc n) can = one_more (suc n) (rounds (out a) (out b) (suc n)).1 can (ap (λ both. both.1) (rounds_spelled n (earlier n can)))

  pub read_spelled : (n : ℕ) → CanTalk a b n → (rounds (out a) (out b) n).1 ≡ flat_map b.spelling (dialogue a b n).1
  unfolding rounds
  read_spelled zero can = refl
  read_spelled (suc n) can = ap (λ both. both.1) (rounds_spelled n (earlier n can))

  module _ (n : ℕ) (can : CanTalk a b n) (over : IsOver (ending_of (hear a b.spelling (dialogue a b n).1).stand)) where
    pub over_in_bytes : IsOver (ending a (rounds (out a) (out b) n).1)
    over_in_bytes more =
        over (sym (ap (ending a) (read_spelled n can) ∙ ending_is a b.spelling (dialogue a b n).1 can.first_reads) ∙ more)

    pub dialogue_meets : Meet (out a) (out b) (flat_map a.spelling (dialogue a b (suc n)).0) (flat_map b.spelling (dialogue a b (suc n)).1)
    dialogue_meets = subst (λ both. Meet (out a) (out b) both.0 both.1) (rounds_spelled n can) (they_meet a b n over_in_bytes)

    pub is_dialogue : (by_a by_b : List ℕ) → Meet (out a) (out b) by_a by_b → IsDialogue a b n by_a by_b
    is_dialogue by_a by_b meet =
        let both = first_over a b by_a by_b n meet over_in_bytes ∙ rounds_spelled n can in
        let first : by_a ≡ flat_map a.spelling (dialogue a b (suc n)).0 = ap (λ p. p.0) both in
        let second : by_b ≡ flat_map b.spelling (dialogue a b (suc n)).1 = ap (λ p. p.1) both in
        let can_all = can_over a b.spelling (dialogue a b n).1 (dialogue a b (suc n)).1 (grow n).1 over can.first_reads in
        let same = hear_over a b.spelling (dialogue a b n).1 (dialogue a b (suc n)).1 (grow n).1 over in
        record {
          first_writes = first;
          second_writes = second;
          first_ends = ap (ending a) second ∙ ending_is a b.spelling (dialogue a b (suc n)).1 can_all ∙ ap (λ m. ending_of m.stand) same;
          first_got = ap (got a) second ∙ got_is a b.spelling (dialogue a b (suc n)).1 can_all ∙ ap rows_of same;
          second_ends = ap (ending b) first ∙ ending_is b a.spelling (dialogue a b (suc n)).0 can.second_reads;
          second_got = ap (got b) first ∙ got_is b a.spelling (dialogue a b (suc n)).0 can.second_reads;
        }
