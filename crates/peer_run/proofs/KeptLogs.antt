-- What the log file of a server holds behind a run that tells of sessions.
use Rattle.std.proofs.Common.{◌≡◌, ◌∙◌, ℕ, ◌+◌, ◌-◌, true, false, List, ◌++◌, map, Option, Some, None, inl, inr, refl, ap, subst, arith, length-append}
use Rattle.std.specs.Prelude.{IfSome, is_some}
use Rattle.std.specs.String.{string_bytes}
use Rattle.std.specs.declared.string.String.{String}
use Rattle.std.specs.declared.alloc.Global.{Global}
use Rattle.willow_outside.specs.Facts.{BayFacts, Names}
use Rattle.willow_outside.specs.Links.{list_with}
use Rattle.willow_entry.specs.Row.{RowValue}
use Rattle.cap_codec.specs.Rows.{RawValue, IsRawRow, row_of}
use Rattle.log_keeper.specs.LogFile.{HoldsRowsTo}
use Rattle.peer_stage.specs.declared.outcome.Hosted.{Hosted}
use Rattle.peer_run.specs.LogClosing.{GivesBack, kept_told}
use Rattle.peer_run.specs.LogFiles.{FileState, HasFailed, HasKept, HoldsFirst, Keeps}
use Rattle.peer_run.specs.LogKept.{HasKeptLog, HoldsOldAndNew, KeepsLog}
use Rattle.peer_run.specs.LogOpening.{HasOpened, IsBack}
use Rattle.peer_run.proofs.FiledDeeds.{lost_rose}
use Rattle.peer_run.proofs.KeptFiles.{not_both, unfailed}
use Rattle.peer_run.proofs.SideBegun.{FiledBy}

-- a disk that is out once more is back
out_again : (out : ℕ) → (out + 1) - 1 ≡ out
out_again out = omega arith

-- contents that are told to be some are some
some_of : (told : Option (List ℕ)) → is_some told ≡ true → (bytes : List ℕ) × (told ≡ Some bytes)
some_of (Some bytes) is = (bytes, refl)
some_of None is = absurd cc

module _ (name n : List ℕ) (rows : List RowValue) (filed : List RawValue) (bay opened_bay left_bay : BayFacts) (f f' : FileState) (told : Hosted) (opened : HasOpened name n bay opened_bay f filed) (kept : Keeps rows f f') (back : GivesBack (Some f') opened_bay left_bay) where
  abbrev before : List RowValue
  before = map row_of filed

  back_is : IsBack name bay left_bay f'.disk
  back_is =
      back
      ∙ ap (λ (b : BayFacts). record b { out = b.out - 1; back = list_with f'.disk b.back }) opened.bay_is
      ∙ ap (λ (out : ℕ). record bay { out = out; asked = list_with name bay.asked; back = list_with f'.disk bay.back }) (out_again bay.out)

  -- ---- where no write failed

  was_kept : f'.broken ≡ false → HasKept rows f f'
  was_kept is = unfailed rows f f' kept is

  held_all : (told : Option Names) → IfSome told (λ names. is_some f.disk.contents ≡ true) → HasKept rows f f' → IfSome told (λ names. HoldsOldAndNew n before rows f'.disk f'.kept)
  held_all None tells k = tt
  held_all (Some names) tells k =
      let some = some_of f'.disk.contents (k.told ∙ tells) in
      let holds = k.holds n before opened.holds in
      record {
        after = some.0;
        told = some.1;
        holds = record { end = f'.end; to = subst (λ (contents : Option (List ℕ)). IfSome contents (λ bytes. HoldsRowsTo IsRawRow n bytes (before ++ rows) f'.end)) some.1 holds.held };
        counted = holds.counted;
      }

  -- ---- where one failed

  was_lost : f'.broken ≡ true → HasFailed rows f f'
  was_lost is = by kept where
    by : Keeps rows f f' → HasFailed rows f f'
    by (inl k) = absurd (not_both f'.broken is k.unbroken)
    by (inr k) = k

  held_first : (told : Option Names) → IfSome told (λ names. is_some f.disk.contents ≡ true) → (k : HasFailed rows f f') → IfSome told (λ names. (after : List ℕ) × (f'.disk.contents ≡ Some after) × HoldsFirst n before k.first rows after)
  held_first None tells k = tt
  held_first (Some names) tells k =
      let some = some_of f'.disk.contents (k.told ∙ tells) in
      (some.0, some.1, subst (λ (contents : Option (List ℕ)). IfSome contents (HoldsFirst n before k.first rows)) some.1 (k.holds n before opened.holds))

  reads_are : f'.disk.read_faults ≡ 0
  reads_are = by kept where
    by : Keeps rows f f' → f'.disk.read_faults ≡ 0
    by (inl k) = k.faults.reads ∙ opened.reads
    by (inr k) = k.reads ∙ opened.reads

  pub kept_log : HasKeptLog name n rows bay left_bay told (kept_told f' told)
  kept_log =
      record {
        disk = f'.disk;
        back = back_is;
        before = before;
        held = opened.held;
        failed = f'.broken;
        kept = f'.kept;
        reads = reads_are;
        unfailed = λ is. let k = was_kept is in (k.faults.writes ∙ opened.writes, omega (arith, k.counted, opened.holds.counted, length-append before rows));
        holds = λ is. held_all bay.names opened.told (was_kept is);
        rose = λ is. lost_rose rows f f' opened.unbroken opened.writes is kept;
        first = λ is. let k = was_lost is in
            record {
              first = k.first;
              front = k.front;
              counted = omega (arith, k.counted, opened.holds.counted, length-append before k.first);
              holds = held_first bay.names opened.told k;
            };
        tells = refl;
      }

-- ---- as the words tell it

pub keeps_none : (log : Option (String Global)) (n : List ℕ) (rows : List RowValue) (filed : List RawValue) (bay opened_bay left_bay : BayFacts) (told : Hosted) → FiledBy log None n bay opened_bay filed → left_bay ≡ opened_bay → KeepsLog log n rows bay left_bay told told
keeps_none None n rows filed bay opened_bay left_bay told by same = (same ∙ by.1, refl)
keeps_none (Some name) n rows filed bay opened_bay left_bay told by same = absurd by

pub keeps_some : (log : Option (String Global)) (n : List ℕ) (rows : List RowValue) (filed : List RawValue) (bay opened_bay left_bay : BayFacts) (f f' : FileState) (told : Hosted) → FiledBy log (Some f) n bay opened_bay filed → Keeps rows f f' → GivesBack (Some f') opened_bay left_bay
    → KeepsLog log n rows bay left_bay told (kept_told f' told)
keeps_some None n rows filed bay opened_bay left_bay f f' told by kept back = absurd by
keeps_some (Some name) n rows filed bay opened_bay left_bay f f' told by kept back = kept_log (string_bytes name) n rows filed bay opened_bay left_bay f f' told by kept back
