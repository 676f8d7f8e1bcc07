-- What comes of the bytes of a feed, a message at a time and a piece at a time.
use Rattle.std.proofs.Common.{◌≡◌, ℕ, ◌+◌, ◌-◌, ◌<◌, ◌≤◌, ◌^◌, Bool, true, false, cond, List, [], ◌∷◌, ◌++◌, length, map, take, drop, Option, Some, None, refl, sym, ap, ◌∙◌, subst, arith, append_assoc, append-nil, length-append}
use Rattle.std.proofs.lemmas.List.{length-drop, map-append, take_all, take-append-drop}
use Rattle.std.proofs.Math.Seq.{take-add}
use Rattle.willow_area.specs.declared.area.Area.{Area}
use Rattle.willow_entry.specs.Row.{RowValue}
use Rattle.cap_codec.specs.Rows.{RawValue, row_of}
use Rattle.sync_msg.specs.declared.refusal.CoreRefusal.{CoreRefusal}
use Rattle.sync_msg.specs.declared.refusal.CoreRefusal.TheVariants.{EntryOutside}
use Rattle.session_rules.specs.Machine.{Goes, Refuses}
use Rattle.session_rules.specs.Messages.{ArePart}
use Rattle.session_rules.specs.Reading.{Stand, Waits, Broken, Move, stay, then, stepped, move, run, read}
use Rattle.session_rules.proofs.Growing.{read_part}
use Rattle.session_rules.proofs.Runs.{run_append, run_idle}
use Rattle.row_intake.specs.Found.{IsFound, GoWrong}
use Rattle.row_intake.proofs.Moves.{read_found, read_wrong, some_taken}
use Rattle.sync_follow.specs.Feeds.{has_entry}
use Rattle.sync_follow.specs.Grammar.{FeedMessage, FedRow, FeedEnd, feed_seen}
use Rattle.sync_follow.specs.Following.{feed_of}
use Rattle.sync_follow.specs.Hearing.{stand_by, stand_of, Hears, TakesRow, TakesMessage, TakesAll, TakesFront}
use Rattle.sync_follow.specs.declared.place.Due.{Due}
use Rattle.sync_follow.specs.declared.place.Due.TheVariants.{Message, Nothing, Bad, Outside}
use Rattle.sync_follow.specs.declared.place.Place.{Place}

abbrev Stands : Type 0
Stands = Stand ℕ CoreRefusal

abbrev quiet : Stands → List RowValue → Move ℕ FeedMessage RowValue CoreRefusal
quiet to rows = record { stand = to; says = []; rows = rows }

module _ (area : Area) where
  -- ---- one after the other

  pub hears_none : (q : Stands) (count : ℕ) (came : List RawValue) → Hears area q q [] count count came came
  unfolding run
  hears_none q count came = record { more = []; came = sym (append-nil came); count = omega arith; reads = refl }

  pub hears_then : (q r s : Stands) (xs ys : List ℕ) (one two three : ℕ) (c d e : List RawValue) → Hears area q r xs one two c d → Hears area r s ys two three d e → Hears area q s (xs ++ ys) one three c e
  hears_then q r s xs ys one two three c d e x y = record {
    more = x.more ++ y.more;
    came = y.came ∙ ap (λ l. l ++ y.more) x.came ∙ append_assoc c x.more y.more;
    count = omega (arith, x.count, y.count, length-append x.more y.more);
    reads =
        run_append (move (feed_of area)) q xs ys
        ∙ ap (λ m. then m (read (feed_of area) m.stand ys)) x.reads
        ∙ ap (then (quiet r (map row_of x.more))) y.reads
        ∙ ap (quiet s) (sym (map-append row_of x.more y.more));
  }

  -- ---- where nothing is due

  idle : (due : Due) → (due ≡ Message → ⊥) → (count at : ℕ) (held bytes then_held : List ℕ) → read (feed_of area) (stand_by due count at held) bytes ≡ stay (stand_by due count at then_held)
  idle Message none count at held bytes then_held = absurd (none refl)
  idle Nothing none count at held bytes then_held = run_idle (move (feed_of area)) (stand_by Nothing count at held) (λ b. refl) bytes
  idle Bad none count at held bytes then_held = run_idle (move (feed_of area)) (stand_by Bad count at held) (λ b. refl) bytes
  idle Outside none count at held bytes then_held = run_idle (move (feed_of area)) (stand_by Outside count at held) (λ b. refl) bytes

  -- ---- a message

  module _ (old new : Place) (bytes : List ℕ) (came : List RawValue) (due : old.due ≡ Message) where
    waits : (at : ℕ) (held : List ℕ) → stand_of old at held ≡ Waits old.count at held
    waits at held = ap (λ d. stand_by d old.count at held) due

    same_count : (n : ℕ) → n ≡ old.count → n ≡ old.count + 0
    same_count n e = omega (arith, e)

    pub takes_part : new ≡ old → ArePart (feed_seen old.count) [] bytes → TakesMessage area old new bytes None came came
    takes_part same part at =
        let there : stand_of new at bytes ≡ Waits old.count at bytes = ap (λ p. stand_of p at bytes) same ∙ waits at bytes in
        let reads : read (feed_of area) (stand_of old at []) bytes ≡ quiet (stand_of new at bytes) [] =
        ap (λ q. read (feed_of area) q bytes) (waits at []) ∙ read_part (feed_of area) old.count at [] bytes part ∙ ap (λ q. quiet q []) (sym there) in (
          record { more = []; came = sym (append-nil came); count = same_count new.count (ap (λ p. p.count) same); reads = reads },
          ap (λ p. read (feed_of area) (stand_of p at []) bytes) same ∙ reads,
        )

    pub takes_wrong : new ≡ record old { due = Bad } → GoWrong (feed_seen old.count) [] bytes → TakesMessage area old new bytes None came came
    takes_wrong same wrong at =
        let there : (held : List ℕ) → stand_of new at held ≡ Broken at = λ held. ap (λ p. stand_of p at held) same in
        let reads : read (feed_of area) (stand_of old at []) bytes ≡ quiet (stand_of new at bytes) [] =
        ap (λ q. read (feed_of area) q bytes) (waits at []) ∙ read_wrong (feed_of area) old.count at [] bytes wrong ∙ ap (λ q. quiet q []) (sym (there bytes)) in (
          record { more = []; came = sym (append-nil came); count = same_count new.count (ap (λ p. p.count) same); reads = reads },
          ap (λ q. read (feed_of area) q bytes) (there []) ∙ run_idle (move (feed_of area)) (Broken at) (λ b. refl) bytes ∙ ap (λ q. quiet q []) (sym (there bytes)),
        )

    pub takes_stop : (taken : ℕ) → new ≡ record old { due = Nothing } → IsFound (feed_seen old.count) bytes FeedEnd taken → TakesMessage area old new bytes (Some taken) came came
    takes_stop taken same found = (
      some_taken (feed_seen old.count) bytes FeedEnd taken found,
      (
        found.within,
        λ at. record {
          more = [];
          came = sym (append-nil came);
          count = same_count new.count (ap (λ p. p.count) same);
          reads =
              ap (λ q. read (feed_of area) q (take taken bytes)) (waits at [])
              ∙ read_found (feed_of area) old.count at bytes FeedEnd taken found
              ∙ ap (λ p. quiet (stand_of p (at + taken) []) []) (sym same);
        },
      ),
    )

    module _ (taken : ℕ) (row : RawValue) (then_came : List RawValue) (found : IsFound (feed_seen old.count) bytes (FedRow (row_of row)) taken) (takes : TakesRow area old new row came then_came) where
      hears_row : (b : Bool) → has_entry area (row_of row) ≡ b → (at : ℕ) → Hears area (stand_of old at []) (stand_of new (at + taken) []) (take taken bytes) old.count new.count came then_came
      hears_row true is at =
          let t = takes.inside is in
          let there : stand_of new (at + taken) [] ≡ Waits (old.count + 1) (at + taken) [] = ap (λ p. stand_of p (at + taken) []) t.place ∙ ap (λ d. stand_by d (old.count + 1) (at + taken) []) due in
          record {
            more = row ∷ [];
            came = t.came;
            count = ap (λ p. p.count) t.place;
            reads =
                ap (λ q. read (feed_of area) q (take taken bytes)) (waits at [])
                ∙ read_found (feed_of area) old.count at bytes (FedRow (row_of row)) taken found
                ∙ ap (λ b. stepped (at + taken) (cond b (Goes (old.count + 1) [] (row_of row ∷ [])) (Refuses EntryOutside))) is
                ∙ ap (λ q. quiet q (row_of row ∷ [])) (sym there);
          }
      hears_row false is at =
          let t = takes.outside is in
          record {
            more = [];
            came = t.came ∙ sym (append-nil came);
            count = same_count new.count (ap (λ p. p.count) t.place);
            reads =
                ap (λ q. read (feed_of area) q (take taken bytes)) (waits at [])
                ∙ read_found (feed_of area) old.count at bytes (FedRow (row_of row)) taken found
                ∙ ap (λ b. stepped (at + taken) (cond b (Goes (old.count + 1) [] (row_of row ∷ [])) (Refuses EntryOutside))) is
                ∙ ap (λ p. quiet (stand_of p (at + taken) []) []) (sym t.place);
          }

      pub takes_row : TakesMessage area old new bytes (Some taken) came then_came
      takes_row = (some_taken (feed_seen old.count) bytes (FedRow (row_of row)) taken found, (found.within, hears_row (has_entry area (row_of row)) refl))

  -- ---- messages

  pub front_none : (place : Place) (bytes : List ℕ) (came : List RawValue) → TakesFront area place place bytes 0 came came
  front_none place bytes came = record {
    within = omega arith;
    hears = λ at. subst (λ n. Hears area (stand_of place at []) (stand_of place n []) [] place.count place.count came came) (same at) (hears_none (stand_of place at []) place.count came);
  }
    where
      same : (at : ℕ) → at ≡ at + 0
      same at = omega arith

  module _ (first old new : Place) (bytes : List ℕ) (taken : ℕ) (c d e : List RawValue) (front : TakesFront area first old bytes taken c d) where
    there : (at more : ℕ) → at + taken + more ≡ at + (taken + more)
    there at more = omega arith

    module _ (rest : List ℕ) (left : rest ≡ drop taken bytes) where
      -- one more
      front_on : (more : ℕ) → TakesMessage area old new rest (Some more) d e → TakesFront area first new bytes (taken + more) c e
      front_on more t = record {
        within = omega (arith, front.within, t.1.0, ap length left, length-drop taken bytes);
        hears = λ at.
            subst (λ n. Hears area (stand_of first at []) (stand_of new n []) (take (taken + more) bytes) first.count new.count c e) (there at more)
            (subst (λ l. Hears area (stand_of first at []) (stand_of new (at + taken + more) []) l first.count new.count c e) (ap (λ l. take taken bytes ++ take more l) left ∙ sym (take-add taken more bytes))
            (hears_then (stand_of first at []) (stand_of old (at + taken) []) (stand_of new (at + taken + more) []) (take taken bytes) (take more rest) first.count old.count new.count c d e (front.hears at) (t.1.1 (at + taken))));
      }

      more_taken : (more : ℕ) → TakesMessage area old new rest (Some more) d e → (0 < more) × (taken + more ≤ length bytes)
      more_taken more t = (t.0, omega (arith, front.within, t.1.0, ap length left, length-drop taken bytes))

      -- a part of a message is left, or what is none
      front_last : TakesMessage area old new rest None d e → TakesAll area first new bytes taken c e
      front_last t = record {
        within = front.within;
        hears = λ at.
            subst (λ l. Hears area (stand_of first at []) (stand_of new (at + taken) l) bytes first.count new.count c e) left
            (subst (λ l. Hears area (stand_of first at []) (stand_of new (at + taken) rest) l first.count new.count c e) (ap (λ l. take taken bytes ++ l) left ∙ take-append-drop taken bytes)
            (hears_then (stand_of first at []) (stand_of old (at + taken) []) (stand_of new (at + taken) rest) (take taken bytes) rest first.count old.count new.count c d e (front.hears at) (t (at + taken)).0));
        holds = λ at. subst (λ l. read (feed_of area) (stand_of new at []) l ≡ stay (stand_of new at l)) left (t at).1;
      }

      -- by what is answered
      pub front_by : (answer : Option ℕ) (more : ℕ) → answer ≡ Some more → TakesMessage area old new rest answer d e → TakesFront area first new bytes (taken + more) c e
      front_by answer more is t = front_on more (subst (λ o. TakesMessage area old new rest o d e) is t)

      pub taken_by : (answer : Option ℕ) (more : ℕ) → answer ≡ Some more → TakesMessage area old new rest answer d e → (0 < more) × (taken + more ≤ length bytes)
      taken_by answer more is t = more_taken more (subst (λ o. TakesMessage area old new rest o d e) is t)

      pub last_by : (answer : Option ℕ) → answer ≡ None → TakesMessage area old new rest answer d e → TakesAll area first new bytes taken c e
      last_by answer is t = front_last (subst (λ o. TakesMessage area old new rest o d e) is t)

  -- nothing is due
  pub front_over : (first old : Place) (bytes : List ℕ) (taken : ℕ) (c d : List RawValue) → TakesFront area first old bytes taken c d → (old.due ≡ Message → ⊥) → TakesAll area first old bytes taken c d
  front_over first old bytes taken c d front none = record {
    within = front.within;
    hears = λ at.
        let rest : Hears area (stand_of old (at + taken) []) (stand_of old (at + taken) (drop taken bytes)) (drop taken bytes) old.count old.count d d = record {
          more = [];
          came = sym (append-nil d);
          count = omega arith;
          reads = idle old.due none old.count (at + taken) [] (drop taken bytes) (drop taken bytes);
        } in
        subst (λ l. Hears area (stand_of first at []) (stand_of old (at + taken) (drop taken bytes)) l first.count old.count c d) (take-append-drop taken bytes)
        (hears_then (stand_of first at []) (stand_of old (at + taken) []) (stand_of old (at + taken) (drop taken bytes)) (take taken bytes) (drop taken bytes) first.count old.count old.count c d d (front.hears at) rest);
    holds = λ at. idle old.due none old.count at [] (drop taken bytes) (drop taken bytes);
  }

  -- ---- a piece behind the bytes that are held

  module _ (old new : Place) (at then_at : ℕ) (held piece bytes rest : List ℕ) (taken : ℕ) (c d : List RawValue)
      (holds : (at : ℕ) → read (feed_of area) (stand_of old at []) held ≡ stay (stand_of old at held)) (all : bytes ≡ held ++ piece) (moved : then_at ≡ at + taken) (left : rest ≡ drop taken bytes)
      (takes : TakesAll area old new bytes taken c d) where
    pub hears_on : Hears area (stand_of old at held) (stand_of new then_at rest) piece old.count new.count c d
    hears_on =
        let h = takes.hears at in
        let whole = run_append (move (feed_of area)) (stand_of old at []) held piece ∙ ap (λ m. then m (read (feed_of area) m.stand piece)) (holds at) in
        record {
          more = h.more;
          came = h.came;
          count = h.count;
          reads =
              sym whole
              ∙ ap (read (feed_of area) (stand_of old at [])) (sym all)
              ∙ h.reads
              ∙ ap (λ n. quiet (stand_of new n (drop taken bytes)) (map row_of h.more)) (sym moved)
              ∙ ap (λ l. quiet (stand_of new then_at l) (map row_of h.more)) (sym left);
        }

    pub holds_on : (at : ℕ) → read (feed_of area) (stand_of new at []) rest ≡ stay (stand_of new at rest)
    holds_on at = subst (λ l. read (feed_of area) (stand_of new at []) l ≡ stay (stand_of new at l)) (sym left) (takes.holds at)

    pub counted_on : at + length bytes < 2 ^ 64 → then_at + length rest < 2 ^ 64
    counted_on few = omega (arith, few, moved, ap length left, takes.within, length-drop taken bytes)

-- all the bytes behind so many
pub all_behind : (taken : ℕ) (bytes : List ℕ) → take (length bytes - taken) (drop taken bytes) ≡ drop taken bytes
all_behind taken bytes = take_all (length bytes - taken) (drop taken bytes) (omega (arith, length-drop taken bytes))
