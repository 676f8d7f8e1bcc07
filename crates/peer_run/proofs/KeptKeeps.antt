-- What a keep of a keeper makes of a log file.
use Rattle.std.proofs.Common.{◌≡◌, ◌∙◌, ◌<◌, ◌≤◌, ◌+◌, ◌^◌, ℕ, true, false, List, [], length, Option, Some, None, inl, inr, refl, sym, subst, arith, append-nil}
use Rattle.std.specs.Prelude.{IfSome, is_some, option_map}
use Rattle.std.specs.List.{AllByRecursion}
use Rattle.willow_outside.specs.Counts.{HasRisen}
use Rattle.willow_outside.specs.Disks.{LeavesContents, written}
use Rattle.willow_outside.specs.Facts.{DiskFacts}
use Rattle.willow_entry.specs.Row.{RowValue}
use Rattle.cap_codec.specs.Rows.{IsRawRow}
use Rattle.row_stream.specs.Streams.{IsStreamRow}
use Rattle.log_keeper.specs.Causes.{CountsNoFault}
use Rattle.log_keeper.specs.Crashes.{HoldsBeforeOrAfter, LeavesBeforeOrAfter}
use Rattle.log_keeper.specs.KeeperState.{KeeperState}
use Rattle.log_keeper.specs.LogFile.{HoldsRows, last_record, record_body}
use Rattle.peer_run.specs.LogFiles.{FileState, HoldsFirst, KeepsOn}
use Rattle.peer_run.proofs.KeptFiles.{first_none, not_both}
use Rattle.log_keeper.proofs.Keeping.{is_record, keeps_more}

-- what is there behind a write that failed holds what was held before, or the slice too
first_left : (n : List ℕ) (before rows : List RowValue) (contents : Option (List ℕ)) → length rows ≤ 256 → ((c : List ℕ) → contents ≡ Some c → HoldsBeforeOrAfter IsRawRow n before rows c) → IfSome contents (HoldsFirst n before [] rows)
first_left n before rows None few either = tt
first_left n before rows (Some c) few either = by (either c refl) where
  by : HoldsBeforeOrAfter IsRawRow n before rows c → HoldsFirst n before [] rows c
  by (inl holds) = record { held = []; front = (rows, refl); behind = ([], refl); few = omega arith; holds = subst (λ (all : List RowValue). HoldsRows IsRawRow n c all) (sym (append-nil before)) holds }
  by (inr holds) = record { held = rows; front = ([], append-nil rows); behind = (rows, refl); few = omega (arith, few); holds = holds }

module _ {K : Type 0} (facts : K → DiskFacts) where
  -- the file of a keeper
  abbrev pub state : KeeperState K → ℕ → ℕ → FileState
  state keeper kept front = record { disk = facts keeper.disk; end = keeper.end; count = keeper.count; kept = kept; front = front; broken = keeper.broken }

  module _ (old new : KeeperState K) (kept front kept' front' : ℕ) (rows : List RowValue) where
    abbrev before : FileState
    before = state old kept front

    abbrev after : FileState
    after = state new kept' front'

    -- a keep that did its work
    pub keep_done : AllByRecursion (IsStreamRow IsRawRow) rows → length rows ≤ 256 → old.broken ≡ false → kept ≡ old.count → (facts new.disk).contents ≡ option_map (written old.end (last_record rows)) (facts old.disk).contents
        → new.broken ≡ false → kept' ≡ new.count → kept' ≡ old.count + length rows → new.end ≡ old.end + 1 + length (record_body rows) → length (record_body rows) < 2 ^ 26 → 1 ≤ length rows
        → CountsNoFault (facts old.disk) (facts new.disk) → is_some (facts new.disk).contents ≡ is_some (facts old.disk).contents → front' ≡ front + length rows → KeepsOn rows before after
    keep_done fit few whole known contents unbroken counted many place short some faults told moved =
        record {
          front = moved;
          kept = inl (record {
            began = whole;
            unbroken = unbroken;
            holds = λ n rows_before holds.
                let keeps =
                keeps_more IsRawRow (λ image. ⊥) old.end old.count n rows_before rows (is_record IsRawRow rows fit few) (last_record rows) refl (facts old.disk).contents (facts new.disk).contents (λ image. ⊥) new.end new.count
                (record { file = holds.held; counted = sym known ∙ holds.counted; settled = λ image none. absurd none }) contents (λ image none. absurd none) place (sym counted ∙ many) in
                record { held = keeps.file; counted = counted ∙ keeps.counted };
            counted = omega (arith, many, known);
            known = counted;
            end = omega (arith, place, short, some);
            faults = faults;
            told = told;
          });
        }

  -- a keeper of which a write failed before keeps nothing more
  pub keep_none : (keeper : KeeperState K) (kept front front' : ℕ) (rows : List RowValue) → keeper.broken ≡ true → front' ≡ front + length rows → KeepsOn rows (state keeper kept front) (state keeper kept front')
  keep_none keeper kept front front' rows broken moved =
      record {
        front = moved;
        kept = inr (record {
          broken = broken;
          first = [];
          front = (rows, refl);
          holds = λ n before holds. first_none n before rows (facts keeper.disk).contents keeper.end holds.held;
          told = refl;
          counted = omega arith;
          reads = refl;
          never_falls = omega arith;
          rose = λ unbroken. absurd (not_both keeper.broken broken unbroken);
          stays = λ was. (refl, refl);
        });
      }

  module _ (may_leave : K → List ℕ → Type 0) (moment : K → ℕ) (left_since : K → ℕ → List ℕ → Type 0)
      (contents_left : (disk : K) (c : List ℕ) → (facts disk).contents ≡ Some c → may_leave disk c)
      (counts_now : (disk : K) (t : ℕ) (c : List ℕ) → t ≤ moment disk → may_leave disk c → left_since disk t c)
      (old new : KeeperState K) (kept front front' : ℕ) (rows : List RowValue) where
    -- a keep whose write failed
    pub keep_lost : LeavesBeforeOrAfter IsRawRow facts may_leave moment left_since old new rows → LeavesContents (facts old.disk).contents (may_leave old.disk) → old.broken ≡ false → kept ≡ old.count → length rows ≤ 256
        → new.broken ≡ true → (facts new.disk).read_faults ≡ (facts old.disk).read_faults → HasRisen (facts old.disk).write_faults (facts new.disk).write_faults → is_some (facts new.disk).contents ≡ is_some (facts old.disk).contents → front' ≡ front + length rows
        → KeepsOn rows (state old kept front) (state new kept front')
    keep_lost moments settled whole known few broken reads risen told moved =
        record {
          front = moved;
          kept = inr (record {
            broken = broken;
            first = [];
            front = (rows, refl);
            holds = λ n before holds.
                let only = moments n before (record { file = holds.held; counted = sym known ∙ holds.counted; settled = settled }) in
                first_left n before rows (facts new.disk).contents few (λ c is. only.each c (counts_now new.disk (moment old.disk) c only.later (contents_left new.disk c is)));
            told = told;
            counted = omega arith;
            reads = reads;
            never_falls = risen.never_falls;
            rose = λ unbroken. risen.rose;
            stays = λ was. absurd (not_both old.broken was whole);
          });
        }
