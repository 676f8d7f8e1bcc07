-- What a server with a log file owes as a command, but for its completeness.
use Rattle.std.proofs.Common.{◌≡◌, ◌≢◌, ◌⊎◌, ◌∙◌, ℕ, true, false, List, [], ◌∷◌, ◌++◌, Option, Some, None, inl, inr, refl, sym, ap, subst, arith}
use Rattle.std.specs.Prelude.{Result, Ok, Err}
use Rattle.std.proofs.lemmas.List.Elements.{Contains-append_left}
use Rattle.willow_outside.specs.Counts.{Rose}
use Rattle.willow_outside.specs.Facts.{BayFacts, DiskFacts}
use Rattle.link_host.specs.Hosted.{list_with_all}
use Rattle.peer_stage.specs.Status.{status_of}
use Rattle.peer_stage.specs.World.{World, NeverFall, Unfailed}
use Rattle.peer_stage.specs.declared.outcome.Done.{Done}
use Rattle.peer_stage.specs.declared.outcome.Stop.{Stop}
use Rattle.peer_stage.proofs.Closing.{Closes}
use Rattle.peer_stage.proofs.Owing.{onward, unfailed_on}
use Rattle.peer_run.specs.HostDeed.{WantsLater}
use Rattle.peer_run.specs.Hosting.{BayReads, BayWrites, DoesHost, HasFailedDisk, HasFiled, HostReads, HostWrites, KeepsIn, HostsWith, way_of}
use Rattle.peer_run.specs.LogClosing.{filed_end}
use Rattle.peer_run.specs.LogFiles.{FileState, Keeps}
use Rattle.peer_run.specs.declared.sessions.HostWords.{HostWords}
use Rattle.willow_entry.specs.Row.{RowValue}
use Rattle.peer_run.proofs.FileDeeds.{Either, at_bay, bay_stood}
use Rattle.peer_run.proofs.FiledEnds.{HasLost, four_filed, known_filed, seven_filed, three_filed}
use Rattle.peer_run.proofs.KeptFiles.{not_both}
use Rattle.peer_run.proofs.HostDeeds.{with_closes}
use Rattle.peer_run.proofs.HostRules.{more_and_more}

-- a file that was lost was written in vain
pub lost_rose : (rows : List RowValue) (f f' : FileState) → f.broken ≡ false → f.disk.write_faults ≡ 0 → f'.broken ≡ true → Keeps rows f f' → Rose 0 f'.disk.write_faults
lost_rose rows f f' began none lost (inl k) = absurd (not_both f'.broken lost k.unbroken)
lost_rose rows f f' began none lost (inr k) = subst (λ (n : ℕ). Rose n f'.disk.write_faults) none (k.rose began)

module _ (words : HostWords) (old new : World) (end : Result Done Stop) (x : HasFiled words old new end) where
  abbrev between : World
  between = x.between

  abbrev closes : Closes (Either HostReads BayReads) (Either HostWrites BayWrites) (WantsLater (way_of words)) (HostsWith words (Some x.opened))
  closes = with_closes words (Some x.opened)

  abbrev told_end : Result Done Stop
  told_end = filed_end x.left x.reached

  status : status_of told_end ≡ status_of end
  status = ap status_of (sym x.told)

  faults : new.bay.faults ≡ between.bay.faults
  faults = ap (λ (b : BayFacts). b.faults) x.back

  -- the disk that came back behind all else
  back_is : new.bay.back ≡ list_with_all (x.left.disk ∷ []) between.bay.back
  back_is = ap (λ (b : BayFacts). b.back) x.back

  filed_counts : NeverFall old new
  filed_counts = onward old between new (closes.counts old between x.reached x.hosts) (at_bay between new (omega (arith, faults)) x.others)

  filed_unfailed : status_of end ≢ 3 → status_of end ≢ 4 → status_of end ≢ 7 → Unfailed old new
  filed_unfailed three four seven =
      let same = known_filed x.left x.reached (λ e. three (sym status ∙ e)) (λ e. four (sym status ∙ e)) (λ e. seven (sym status ∙ e)) ∙ status in
      unfailed_on old between new (closes.unfailed old between x.reached x.hosts (λ e. three (sym same ∙ e)) (λ e. four (sym same ∙ e)) (λ e. seven (sym same ∙ e))) (bay_stood between new faults x.others)

  later_still : WantsLater (way_of words) old between → WantsLater (way_of words) old new
  later_still later =
      let same = x.others in
      record {
        awaited = later.awaited;
        inside = record {
          shelf_reads = ap (λ (w : World). w.shelf.read_faults) same ∙ later.inside.shelf_reads;
          shelf_writes = ap (λ (w : World). w.shelf.write_faults) same ∙ later.inside.shelf_writes;
          input = ap (λ (w : World). w.input.faults) same ∙ later.inside.input;
          output = ap (λ (w : World). w.output.faults) same ∙ later.inside.output;
          report = ap (λ (w : World). w.report.faults) same ∙ later.inside.report;
          door = omega (arith, later.inside.door, ap (λ (w : World). w.door.faults) same);
          noise = ap (λ (w : World). w.noise.faults) same ∙ later.inside.noise;
          bay = faults ∙ later.inside.bay;
        };
        asked = ap (λ (w : World). w.door.asked) same ∙ later.asked;
      }

  filed_want : status_of end ≡ 7 → Unfailed old new ⊎ WantsLater (way_of words) old new
  filed_want seven = elim (closes.want old between x.reached x.hosts (seven_filed x.left x.reached (status ∙ seven))) [
    | inl stood ↦ inl (unfailed_on old between new stood (bay_stood between new faults x.others))
    | inr later ↦ inr (later_still later)
  ]

  filed_usage : status_of end ≡ 2 → ⊥
  filed_usage two =
      let same = known_filed x.left x.reached (λ e. omega (arith, e, status, two)) (λ e. omega (arith, e, status, two)) (λ e. omega (arith, e, status, two)) ∙ status in
      closes.usage old between x.reached x.hosts (same ∙ two)

  -- ---- what rose before the disk was given back

  disk_still : (count : DiskFacts → ℕ) → HasFailedDisk count old.bay between.bay → HasFailedDisk count old.bay new.bay
  disk_still count failed = record {
    disks = failed.disks ++ x.left.disk ∷ [];
    back = back_is ∙ ap (λ (told : Option (List DiskFacts)). list_with_all (x.left.disk ∷ []) told) failed.back ∙ more_and_more failed.disks (x.left.disk ∷ []) old.bay.back;
    disk = failed.disk;
    among = Contains-append_left failed.disks (x.left.disk ∷ []) failed.disk failed.among;
    rose = failed.rose;
  }

  pub reads_still : Either HostReads BayReads old between → Either HostReads BayReads old new
  reads_still (inl rose) = inl (subst (λ (w : World). HostReads old w) (sym x.others) rose)
  reads_still (inr (inl rose)) = inr (inl (subst (λ (n : ℕ). Rose old.bay.faults n) (sym faults) rose))
  reads_still (inr (inr failed)) = inr (inr (disk_still (λ disk. disk.read_faults) failed))

  pub writes_still : Either HostWrites BayWrites old between → Either HostWrites BayWrites old new
  writes_still (inl rose) = inl (subst (λ (w : World). HostWrites old w) (sym x.others) rose)
  writes_still (inr failed) = inr (disk_still (λ disk. disk.write_faults) failed)

  -- ---- a file that was lost

  has_rose : (reached : Result Done Stop) (hosts : HostsWith words (Some x.opened) old between reached) → KeepsIn words x.opened x.left old between reached hosts → HasLost x.left reached → Rose 0 x.left.disk.write_faults
  has_rose (Ok d) hosts keeps lost = let opened = x.is_opened.4 in lost_rose _ x.opened x.left opened.unbroken opened.writes lost.0 keeps
  has_rose (Err e) hosts keeps lost = absurd (no_end lost.1 lost.2) where
    no_end : (d : Done) → Err e ≡ Ok d → ⊥
    no_end d is = absurd cc

  lost_writes : HasLost x.left x.reached → BayWrites old new
  lost_writes lost = record {
    disks = x.left.disk ∷ [];
    back = back_is ∙ ap (λ (b : BayFacts). list_with_all (x.left.disk ∷ []) b.back) x.is_opened.4.bay_is;
    disk = x.left.disk;
    among = (0, omega arith, refl);
    rose = has_rose x.reached x.hosts x.keeps lost;
  }

  filed_read : status_of end ≡ 3 → Either HostReads BayReads old new
  filed_read three = reads_still (closes.read_fault old between x.reached x.hosts (three_filed x.left x.reached (status ∙ three)))

  filed_write : status_of end ≡ 4 → Either HostWrites BayWrites old new
  filed_write four = elim (four_filed x.left x.reached (status ∙ four)) [
    | inl is ↦ writes_still (closes.write_fault old between x.reached x.hosts is)
    | inr lost ↦ inr (lost_writes lost)
  ]

-- ---- with a log file or without

pub host_closes : (words : HostWords) → Closes (Either HostReads BayReads) (Either HostWrites BayWrites) (WantsLater (way_of words)) (DoesHost words)
host_closes words =
    let none = with_closes words None in
    record {
      counts = λ old new end does. elim does [ inl hosts ↦ none.counts old new end hosts | inr x ↦ filed_counts words old new end x ];
      unfailed = λ old new end does three four seven. elim does [ inl hosts ↦ none.unfailed old new end hosts three four seven | inr x ↦ filed_unfailed words old new end x three four seven ];
      want = λ old new end does seven. elim does [ inl hosts ↦ none.want old new end hosts seven | inr x ↦ filed_want words old new end x seven ];
      usage = λ old new end does two. elim does [ inl hosts ↦ none.usage old new end hosts two | inr x ↦ filed_usage words old new end x two ];
      read_fault = λ old new end does three. elim does [ inl hosts ↦ none.read_fault old new end hosts three | inr x ↦ filed_read words old new end x three ];
      write_fault = λ old new end does four. elim does [ inl hosts ↦ none.write_fault old new end hosts four | inr x ↦ filed_write words old new end x four ];
    }
