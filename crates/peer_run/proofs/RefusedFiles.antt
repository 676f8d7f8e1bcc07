-- A log file that was refused.
use Rattle.std.proofs.Common.{◌≡◌, ◌∙◌, ◌≤◌, ◌+◌, ◌-◌, ℕ, List, Option, Some, None, inl, inr, refl, sym, ap, subst, arith}
use Rattle.std.specs.Prelude.{IfSome, is_some}
use Rattle.std.specs.String.{string_bytes}
use Rattle.std.specs.declared.string.String.{String}
use Rattle.std.specs.declared.alloc.Global.{Global}
use Rattle.spelling.specs.declared.ending.End.{End}
use Rattle.spelling.specs.declared.ending.End.TheVariants as ends
use Rattle.willow_outside.specs.Bays.{OpensDisk, bytes_under}
use Rattle.willow_outside.specs.Disks.{LeavesContents, LeavesOnly}
use Rattle.willow_outside.specs.Facts.{BayFacts, DiskFacts, Names}
use Rattle.willow_outside.specs.Links.{list_with}
use Rattle.cap_codec.specs.Rows.{IsRawRow}
use Rattle.log_keeper.specs.BadLogs.{IsBadFile}
use Rattle.log_keeper.specs.Causes.{CountsNoFault, HasCause, IfUnwritten}
use Rattle.log_keeper.specs.Crashes.{HoldsNoRow}
use Rattle.log_keeper.specs.LogFile.{HoldsNoLog}
use Rattle.log_keeper.specs.Opening.{IsReadWell, IsUnchanged, WasOnlyRead}
use Rattle.log_keeper.specs.declared.refusal.KeepRefusal.{KeepRefusal}
use Rattle.log_keeper.specs.declared.refusal.KeepRefusal.TheVariants as refusals
use Rattle.peer_run.specs.LogOpening.{HasRefused, HoldsAsBefore, IsBack, StopsOpening, refused_stop}

-- ---- on a disk

-- what tells as much as before, and only what was there, is as before
same_told : (old new : Option (List ℕ)) → is_some new ≡ is_some old → ((c : List ℕ) → new ≡ Some c → old ≡ Some c) → new ≡ old
same_told None None told had = refl
same_told (Some before) None told had = absurd cc
same_told old (Some after) told had = sym (had after refl)

-- the same bytes hold as before
unwritten_holds : (n : List ℕ) (old new : Option (List ℕ)) → new ≡ old → IfSome old (λ before. (after : List ℕ) × (new ≡ Some after) × HoldsAsBefore n before after)
unwritten_holds n None new same = tt
unwritten_holds n (Some before) new same = (before, same, inl refl)

-- and so do any without a row where there was no log
rowless_holds : (n : List ℕ) (old new : Option (List ℕ)) → is_some new ≡ is_some old → IfSome old HoldsNoLog → ((c : List ℕ) → new ≡ Some c → HoldsNoRow IsRawRow n c)
    → IfSome old (λ before. (after : List ℕ) × (new ≡ Some after) × HoldsAsBefore n before after)
rowless_holds n None new told no_log holds = tt
rowless_holds n (Some before) None told no_log holds = absurd cc
rowless_holds n (Some before) (Some after) told no_log holds = (after, refl, inr (no_log, holds after refl))

-- a cause among which there is no bad log
never_bad : (bad : ℕ → Type 0) (old new : DiskFacts) (why : End KeepRefusal) → HasCause (λ at. ⊥) old new why → HasCause bad old new why
never_bad bad old new (ends.Refused refusals.ReadFailed) cause = cause
never_bad bad old new (ends.Refused refusals.WriteFailed) cause = cause
never_bad bad old new (ends.Refused (refusals.BadLog at)) cause = absurd cause.0
never_bad bad old new ends.NoMemory cause = cause

if_unwritten : (why : End KeepRefusal) (P Q : Type 0) → (P → Q) → IfUnwritten why P → IfUnwritten why Q
if_unwritten (ends.Refused refusals.ReadFailed) P Q gives p = gives p
if_unwritten (ends.Refused refusals.WriteFailed) P Q gives p = p
if_unwritten (ends.Refused (refusals.BadLog at)) P Q gives p = gives p
if_unwritten ends.NoMemory P Q gives p = gives p

-- the same contents and no fault more are the same facts
same_facts : (old new : DiskFacts) → new.contents ≡ old.contents → CountsNoFault old new → new ≡ old
same_facts old new contents faults =
    ap (λ (c : Option (List ℕ)). record new { contents = c }) contents
    ∙ ap (λ (reads : ℕ). record { contents = old.contents; read_faults = reads; write_faults = new.write_faults }) faults.reads
    ∙ ap (λ (writes : ℕ). record old { write_faults = writes }) faults.writes

module _ {K : Type 0} (facts : K → DiskFacts) (may_leave : K → List ℕ → Type 0) (moment : K → ℕ) (left_since : K → ℕ → List ℕ → Type 0) where
  -- a disk that was read well tells what it told
  pub read_well : (old new : K) → IsReadWell facts may_leave moment left_since old new → facts new ≡ facts old
  read_well old new well = same_facts (facts old) (facts new) well.unchanged.contents well.faults

  module _ (contents_left : (disk : K) (c : List ℕ) → (facts disk).contents ≡ Some c → may_leave disk c) (n : List ℕ) (disk back : K) (why : End KeepRefusal)
      (settled : LeavesContents (facts disk).contents (may_leave disk)) where
    -- one that could not be opened
    pub refused_opening : WasOnlyRead facts may_leave moment left_since disk back → IfUnwritten why ((facts back).contents ≡ (facts disk).contents) → HasCause (λ at. IfSome (facts disk).contents (IsBadFile IsRawRow n at)) (facts disk) (facts back) why
        → HasRefused n (facts disk) (facts back) why
    refused_opening read unwritten cause =
        let same = same_told (facts disk).contents (facts back).contents read.told (λ c is. settled c (read.images c (contents_left back c is))) in
        record { cause = cause; unwritten = unwritten; holds = unwritten_holds n (facts disk).contents (facts back).contents same }

    -- one that held no log, in which none could be begun
    pub refused_beginning : ((disk : K) (t : ℕ) (c : List ℕ) → t ≤ moment disk → may_leave disk c → left_since disk t c) → IfSome (facts disk).contents HoldsNoLog → LeavesOnly moment left_since disk back (HoldsNoRow IsRawRow n)
        → is_some (facts back).contents ≡ is_some (facts disk).contents → IfUnwritten why (IsUnchanged facts may_leave disk back) → HasCause (λ at. ⊥) (facts disk) (facts back) why → HasRefused n (facts disk) (facts back) why
    refused_beginning counts_now no_log only told unwritten cause =
        record {
          cause = never_bad (λ at. IfSome (facts disk).contents (IsBadFile IsRawRow n at)) (facts disk) (facts back) why cause;
          unwritten = if_unwritten why (IsUnchanged facts may_leave disk back) ((facts back).contents ≡ (facts disk).contents) (λ unchanged. unchanged.contents) unwritten;
          holds = rowless_holds n (facts disk).contents (facts back).contents told no_log (λ c is. only.each c (counts_now back (moment disk) c only.later (contents_left back c is)));
        }

-- ---- at a bay

-- what is known of the disk of a name is known of the name
of_name : (names : Option Names) (name : List ℕ) (contents : Option (List ℕ)) (P : List ℕ → Type 0) → IfSome names (λ held. contents ≡ Some (bytes_under held name)) → IfSome contents P → IfSome names (λ held. P (bytes_under held name))
of_name None name contents P told known = tt
of_name (Some held) name contents P told known = subst (λ (c : Option (List ℕ)). IfSome c P) told known

-- the same contents are still those of the name
same_name : (names : Option Names) (name : List ℕ) (contents contents' : Option (List ℕ)) → contents' ≡ contents → IfSome names (λ held. contents ≡ Some (bytes_under held name)) → IfSome names (λ held. contents' ≡ Some (bytes_under held name))
same_name names name contents contents' same told = subst (λ (c : Option (List ℕ)). IfSome names (λ held. c ≡ Some (bytes_under held name))) (sym same) told

-- ---- a name

-- What a bay was asked for by these bytes was asked for by the name that has them.
module _ (bytes name : List ℕ) (named : bytes ≡ name) where
  -- a disk that was handed out for a name, and taken back
  pub back_again : (old between new : BayFacts) (disk : DiskFacts) → between.out ≡ old.out + 1 → between.asked ≡ list_with bytes old.asked → between.names ≡ old.names → between.back ≡ old.back → between.faults ≡ old.faults
      → new.out ≡ between.out - 1 → new.asked ≡ between.asked → new.names ≡ between.names → new.back ≡ list_with disk between.back → new.faults ≡ between.faults → IsBack name old new disk
  back_again old between new disk out asked names back faults out' asked' names' back' faults' =
      let left : new.out ≡ old.out = omega (arith, out, out') in
      let asked_name = ap (λ (b : List ℕ). list_with b old.asked) named in
      let with_disk = ap (λ (told : Option (List DiskFacts)). list_with disk told) back in
      ap (λ (x : ℕ). record new { faults = x }) (faults' ∙ faults)
      ∙ ap (λ (x : ℕ). record new { faults = old.faults; out = x }) left
      ∙ ap (λ (x : Option Names). record new { faults = old.faults; out = old.out; names = x }) (names' ∙ names)
      ∙ ap (λ (x : Option (List (List ℕ))). record old { asked = x; back = new.back }) (asked' ∙ (asked ∙ asked_name))
      ∙ ap (λ (x : Option (List DiskFacts)). record old { asked = list_with name old.asked; back = x }) (back' ∙ with_disk)

  pub disk_of_name : (names : Option Names) (disk : DiskFacts) → OpensDisk names bytes disk → OpensDisk names name disk
  disk_of_name names disk opened = subst (λ (b : List ℕ). OpensDisk names b disk) named opened

-- a name whose disk was refused, and is back
pub refused_name : (name : String Global) (n : List ℕ) (old new : BayFacts) (disk back : DiskFacts) (why : End KeepRefusal) → OpensDisk old.names (string_bytes name) disk → HasRefused n disk back why → IsBack (string_bytes name) old new back
    → StopsOpening name n old new (refused_stop why name)
refused_name name n old new disk back (ends.Refused refusals.ReadFailed) opened refused is =
    let risen = refused.cause.0 in
    inr (back, record { back = is; contents = same_name old.names (string_bytes name) disk.contents back.contents refused.unwritten opened.2; writes = refused.cause.1 ∙ opened.1 }, omega (arith, risen.rose, opened.0))
refused_name name n old new disk back (ends.Refused refusals.WriteFailed) opened refused is =
    let risen = refused.cause.1 in
    (back, record { back = is; holds = of_name old.names (string_bytes name) disk.contents _ opened.2 refused.holds; reads = refused.cause.0 ∙ opened.0 }, omega (arith, risen.rose, opened.1))
refused_name name n old new disk back (ends.Refused (refusals.BadLog at)) opened refused is =
    let faults = refused.cause.1 in
    (refl, (back, record { back = is; contents = same_name old.names (string_bytes name) disk.contents back.contents refused.unwritten opened.2; writes = faults.writes ∙ opened.1 }, faults.reads ∙ opened.0), of_name old.names (string_bytes name) disk.contents (IsBadFile IsRawRow n at) opened.2 refused.cause.0)
refused_name name n old new disk back ends.NoMemory opened refused is =
    inr (back, record { back = is; contents = same_name old.names (string_bytes name) disk.contents back.contents refused.unwritten opened.2; writes = refused.cause.writes ∙ opened.1 }, refused.cause.reads ∙ opened.0)
