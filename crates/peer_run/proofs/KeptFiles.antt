-- How a log file goes on, slice by slice.
use Rattle.std.proofs.Common.{◌≡◌, ◌∙◌, ℕ, ◌+◌, ◌≤◌, Bool, true, false, List, [], ◌++◌, length, Option, Some, None, inl, inr, refl, sym, ap, subst, arith, append_assoc, append-nil, length-append}
use Rattle.std.specs.Prelude.{IfSome}
use Rattle.willow_outside.specs.Counts.{Rose}
use Rattle.willow_outside.specs.Facts.{DiskFacts}
use Rattle.willow_entry.specs.Row.{RowValue}
use Rattle.cap_codec.specs.Rows.{IsRawRow}
use Rattle.log_keeper.specs.LogFile.{HoldsRows, HoldsRowsTo}
use Rattle.ns_state.specs.declared.live_log.TheConstants.{LOG_LIMIT}
use Rattle.peer_run.specs.LogFiles.{FileState, HasFailed, HasKept, HasRoom, HoldsFile, HoldsFirst, IsAtIf, Keeps, KeepsOn, KeepsOnIf, LeavesRoom}

pub not_both : (b : Bool) → b ≡ true → b ≡ false → ⊥
not_both true is other = absurd cc
not_both false is other = absurd cc

-- ---- where a write failed

-- of nothing that was to be kept something is there
pub first_none : (n : List ℕ) (before rows : List RowValue) (contents : Option (List ℕ)) (end : ℕ) → IfSome contents (λ bytes. HoldsRowsTo IsRawRow n bytes before end) → IfSome contents (HoldsFirst n before [] rows)
first_none n before rows None end holds = tt
first_none n before rows (Some bytes) end holds = record {
  held = [];
  front = (rows, refl);
  behind = ([], refl);
  few = omega arith;
  holds = subst (λ (all : List RowValue). HoldsRows IsRawRow n bytes all) (sym (append-nil before)) (record { end = end; to = holds });
}

-- behind rows that were kept
first_behind : (n : List ℕ) (before rows first more : List RowValue) (contents : Option (List ℕ)) → IfSome contents (HoldsFirst n (before ++ rows) first more) → IfSome contents (HoldsFirst n before (rows ++ first) (rows ++ more))
first_behind n before rows first more None holds = tt
first_behind n before rows first more (Some bytes) holds = record {
  held = rows ++ holds.held;
  front = (holds.front.0, append_assoc rows holds.held holds.front.0 ∙ ap (λ (l : List RowValue). rows ++ l) holds.front.1);
  behind = (holds.behind.0, append_assoc rows first holds.behind.0 ∙ ap (λ (l : List RowValue). rows ++ l) holds.behind.1);
  few = omega (arith, holds.few, length-append rows holds.held, length-append rows first);
  holds = subst (λ (all : List RowValue). HoldsRows IsRawRow n bytes all) (append_assoc before rows holds.held) holds.holds;
}

-- with more that was to be kept
first_before : (n : List ℕ) (before first rows more : List RowValue) (contents : Option (List ℕ)) → IfSome contents (HoldsFirst n before first rows) → IfSome contents (HoldsFirst n before first (rows ++ more))
first_before n before first rows more None holds = tt
first_before n before first rows more (Some bytes) holds = record {
  held = holds.held;
  front = (holds.front.0 ++ more, sym (append_assoc holds.held holds.front.0 more) ∙ ap (λ (l : List RowValue). l ++ more) holds.front.1);
  behind = holds.behind;
  few = holds.few;
  holds = holds.holds;
}

-- ---- no rows

none_kept : (f : FileState) (broken : Bool) → f.broken ≡ broken → (broken ≡ false → f.kept ≡ f.count) → Keeps [] f f
none_kept f false is known = inl (record {
  began = is;
  unbroken = is;
  holds = λ n before holds. subst (λ (rows : List RowValue). HoldsFile n rows f) (sym (append-nil before)) holds;
  counted = omega arith;
  known = known refl;
  end = omega arith;
  faults = record { reads = refl; writes = refl };
  told = refl;
})
none_kept f true is known = inr (record {
  broken = is;
  first = [];
  front = ([], refl);
  holds = λ n before holds. first_none n before [] f.disk.contents f.end holds.held;
  told = refl;
  counted = omega arith;
  reads = refl;
  never_falls = omega arith;
  rose = λ unbroken. absurd (not_both f.broken is unbroken);
  stays = λ broken. (refl, refl);
})

pub keeps_none : (front : ℕ) (f : FileState) → LeavesRoom front f → KeepsOn [] f f
keeps_none front f room = record { front = omega arith; kept = none_kept f f.broken refl (λ is. (room is).1) }

-- ---- one behind the other

rose_further : (a b c : ℕ) → Rose a b → b ≤ c → Rose a c
rose_further a b c rose up = omega (arith, rose, up)

module _ (rows more : List RowValue) (a b c : FileState) where
  kept_both : HasKept rows a b → HasKept more b c → HasKept (rows ++ more) a c
  kept_both one two = record {
    began = one.began;
    unbroken = two.unbroken;
    holds = λ n before holds. subst (λ (all : List RowValue). HoldsFile n all c) (append_assoc before rows more) (two.holds n (before ++ rows) (one.holds n before holds));
    counted = omega (arith, one.counted, two.counted, length-append rows more);
    known = two.known;
    end = omega (arith, one.end, two.end, length-append rows more);
    faults = record { reads = two.faults.reads ∙ one.faults.reads; writes = two.faults.writes ∙ one.faults.writes };
    told = two.told ∙ one.told;
  }

  failed_behind : HasKept rows a b → HasFailed more b c → HasFailed (rows ++ more) a c
  failed_behind one two = record {
    broken = two.broken;
    first = rows ++ two.first;
    front = (two.front.0, append_assoc rows two.first two.front.0 ∙ ap (λ (l : List RowValue). rows ++ l) two.front.1);
    holds = λ n before holds. first_behind n before rows two.first more c.disk.contents (two.holds n (before ++ rows) (one.holds n before holds));
    told = two.told ∙ one.told;
    counted = omega (arith, one.counted, two.counted, length-append rows two.first);
    reads = two.reads ∙ one.faults.reads;
    never_falls = omega (arith, two.never_falls, one.faults.writes);
    rose = λ unbroken. subst (λ (n : ℕ). Rose n c.disk.write_faults) one.faults.writes (two.rose one.unbroken);
    stays = λ broken. absurd (not_both a.broken broken one.began);
  }

  failed_before : HasFailed rows a b → HasFailed more b c → HasFailed (rows ++ more) a c
  failed_before one two = record {
    broken = two.broken;
    first = one.first;
    front = (one.front.0 ++ more, sym (append_assoc one.first one.front.0 more) ∙ ap (λ (l : List RowValue). l ++ more) one.front.1);
    holds = λ n before holds.
        subst (λ (d : DiskFacts). IfSome d.contents (HoldsFirst n before one.first (rows ++ more))) (sym (two.stays one.broken).1) (first_before n before one.first rows more b.disk.contents (one.holds n before holds));
    told = two.told ∙ one.told;
    counted = omega (arith, one.counted, two.counted, ap length (two.stays one.broken).0);
    reads = two.reads ∙ one.reads;
    never_falls = omega (arith, one.never_falls, two.never_falls);
    rose = λ unbroken. rose_further a.disk.write_faults b.disk.write_faults c.disk.write_faults (one.rose unbroken) two.never_falls;
    stays = λ broken. ((one.stays broken).0, (two.stays one.broken).1 ∙ (one.stays broken).1);
  }

  pub both : Keeps rows a b → Keeps more b c → Keeps (rows ++ more) a c
  both (inl one) (inl two) = inl (kept_both one two)
  both (inl one) (inr two) = inr (failed_behind one two)
  both (inr one) (inl two) = absurd (not_both b.broken one.broken two.began)
  both (inr one) (inr two) = inr (failed_before one two)

  pub keeps_both : KeepsOn rows a b → KeepsOn more b c → KeepsOn (rows ++ more) a c
  keeps_both one two = record { front = omega (arith, one.front, two.front, length-append rows more); kept = both one.kept two.kept }

-- unless a write failed all is kept
pub unfailed : (rows : List RowValue) (a b : FileState) → Keeps rows a b → b.broken ≡ false → HasKept rows a b
unfailed rows a b (inl k) is = k
unfailed rows a b (inr k) is = absurd (not_both b.broken k.broken is)

-- ---- where there is a file

pub keeps_if_none : (k : ℕ) (f : Option FileState) → IsAtIf k f → KeepsOnIf [] f f
keeps_if_none k None at = tt
keeps_if_none k (Some f) at = keeps_none k f at.room

pub keeps_if_both : (rows more : List RowValue) (a b c : Option FileState) → KeepsOnIf rows a b → KeepsOnIf more b c → KeepsOnIf (rows ++ more) a c
keeps_if_both rows more None None None one two = tt
keeps_if_both rows more (Some a) (Some b) (Some c) one two = keeps_both rows more a b c one two
keeps_if_both rows more (Some a) (Some b) None one two = absurd two
keeps_if_both rows more (Some a) None c one two = absurd one
keeps_if_both rows more None (Some b) c one two = absurd one
keeps_if_both rows more None None (Some c) one two = absurd two

-- ---- up to which row

room_further : (k : ℕ) (rows : List RowValue) (a b : FileState) → LeavesRoom k a → Keeps rows a b → LeavesRoom (k + length rows) b
room_further k rows a b room (inl kept) unbroken = (omega (arith, kept.end, (room kept.began).0), kept.known)
room_further k rows a b room (inr kept) unbroken = absurd (not_both b.broken kept.broken unbroken)

-- the same, told by its own front
pub room_on : (rows : List RowValue) (a b : FileState) → LeavesRoom a.front a → KeepsOn rows a b → LeavesRoom b.front b
room_on rows a b room on = subst (λ (k : ℕ). LeavesRoom k b) (sym on.front) (room_further a.front rows a b room on.kept)

pub at_further : (k : ℕ) (rows : List RowValue) (a b : Option FileState) → IsAtIf k a → KeepsOnIf rows a b → IsAtIf (k + length rows) b
at_further k rows None None at on = tt
at_further k rows (Some a) (Some b) at on = record { at = omega (arith, on.front, at.at); room = room_further k rows a b at.room on.kept }
at_further k rows (Some a) None at on = absurd on
at_further k rows None (Some b) at on = absurd on

pub room_of : (k count : ℕ) (f : Option FileState) → IsAtIf k f → k + count ≤ LOG_LIMIT → IfSome f (HasRoom count)
room_of k count None at few = tt
room_of k count (Some f) at few = record { few = omega (arith, at.at, few); room = subst (λ (front : ℕ). LeavesRoom front f) (sym at.at) at.room }
