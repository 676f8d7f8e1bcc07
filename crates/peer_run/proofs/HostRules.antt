-- The objects of a run go on, and what rose in a part of it rose in all.
use Rattle.std.proofs.Common.{◌≡◌, ◌∙◌, ℕ, List, [], ◌++◌, Option, Some, None, inl, inr, refl, sym, ap, arith, ◌≤◌}
use Rattle.std.proofs.lemmas.List.{append_assoc, append-nil}
use Rattle.std.proofs.lemmas.List.Elements.{Contains-append_left, Contains-append_right}
use Rattle.willow_outside.specs.Counts.{Rose}
use Rattle.willow_outside.specs.Facts.{LinkFacts}
use Rattle.link_host.specs.Hosted.{list_with_all}
use Rattle.peer_stage.specs.World.{World, NeverFall}
use Rattle.peer_stage.proofs.Owing.{stands, onward, unfailed_same, unfailed_on, rose_behind}
use Rattle.call_rules.specs.Parts.{AreRules}
use Rattle.peer_run.specs.Hosting.{GoesOn, HasFailedAmong, HostReads, HostWrites, host_rules}

-- ---- lists of links

pub none_more : {A : Type 0} (told : Option (List A)) → told ≡ list_with_all [] told
none_more None = refl
none_more (Some xs) = ap (λ (l : List _). Some l) (sym (append-nil xs))

pub more_and_more : {A : Type 0} (one two : List A) (told : Option (List A)) → list_with_all two (list_with_all one told) ≡ list_with_all (one ++ two) told
more_and_more one two None = refl
more_and_more one two (Some xs) = ap (λ (l : List _). Some l) (append_assoc xs one two)

-- a step that leaves what is back
pub back_same : (old new : World) → NeverFall old new → new.door.back ≡ old.door.back → GoesOn old new
back_same old new counts same = record { counts = counts; links = []; back = same ∙ none_more old.door.back }

stays : (w : World) → GoesOn w w
stays w = back_same w w (stands w) refl

further : (old between new : World) → GoesOn old between → GoesOn between new → GoesOn old new
further old between new a b =
    record {
      counts = onward old between new a.counts b.counts;
      links = a.links ++ b.links;
      back = b.back ∙ ap (λ (told : Option (List LinkFacts)). list_with_all b.links told) a.back ∙ more_and_more a.links b.links old.door.back;
    }

-- ---- a link of which a count rose

module _ (count : LinkFacts → ℕ) where
  failed_before : (old between new : World) → GoesOn old between → HasFailedAmong count between.door new.door → HasFailedAmong count old.door new.door
  failed_before old between new on failed =
      record {
        links = on.links ++ failed.links;
        back = failed.back ∙ ap (λ (told : Option (List LinkFacts)). list_with_all failed.links told) on.back ∙ more_and_more on.links failed.links old.door.back;
        link = failed.link;
        among = Contains-append_right on.links failed.links failed.link failed.among;
        rose = failed.rose;
      }

  failed_behind : (old between new : World) → HasFailedAmong count old.door between.door → GoesOn between new → HasFailedAmong count old.door new.door
  failed_behind old between new failed on =
      record {
        links = failed.links ++ on.links;
        back = on.back ∙ ap (λ (told : Option (List LinkFacts)). list_with_all on.links told) failed.back ∙ more_and_more failed.links on.links old.door.back;
        link = failed.link;
        among = Contains-append_left failed.links on.links failed.link failed.among;
        rose = failed.rose;
      }

reads_before : (old between new : World) → GoesOn old between → HostReads between new → HostReads old new
reads_before old between new on (inl rose) = inl (rose_behind _ _ _ on.counts.shelf_reads rose)
reads_before old between new on (inr (inl rose)) = inr (inl (rose_behind _ _ _ on.counts.noise_faults rose))
reads_before old between new on (inr (inr (inl rose))) = inr (inr (inl (rose_behind _ _ _ on.counts.door_faults rose)))
reads_before old between new on (inr (inr (inr failed))) = inr (inr (inr (failed_before (λ link. link.read_faults) old between new on failed)))

-- a count that rose and then did not fall has risen
pub rose_before : (before mid now : ℕ) → Rose before mid → mid ≤ now → Rose before now
rose_before before mid now rose up = omega (arith, rose, up)

reads_behind : (old between new : World) → HostReads old between → GoesOn between new → HostReads old new
reads_behind old between new (inl rose) on = inl (rose_before _ _ _ rose on.counts.shelf_reads)
reads_behind old between new (inr (inl rose)) on = inr (inl (rose_before _ _ _ rose on.counts.noise_faults))
reads_behind old between new (inr (inr (inl rose))) on = inr (inr (inl (rose_before _ _ _ rose on.counts.door_faults)))
reads_behind old between new (inr (inr (inr failed))) on = inr (inr (inr (failed_behind (λ link. link.read_faults) old between new failed on)))

writes_before : (old between new : World) → GoesOn old between → HostWrites between new → HostWrites old new
writes_before old between new on (inl rose) = inl (rose_behind _ _ _ on.counts.shelf_writes rose)
writes_before old between new on (inr failed) = inr (failed_before (λ link. link.write_faults) old between new on failed)

writes_behind : (old between new : World) → HostWrites old between → GoesOn between new → HostWrites old new
writes_behind old between new (inl rose) on = inl (rose_before _ _ _ rose on.counts.shelf_writes)
writes_behind old between new (inr failed) on = inr (failed_behind (λ link. link.write_faults) old between new failed on)

pub are_rules : AreRules host_rules
are_rules =
    record {
      stays = stays;
      goes_further = further;
      unfailed_there = unfailed_same;
      unfailed_further = unfailed_on;
      reads_before = reads_before;
      reads_behind = reads_behind;
      writes_before = writes_before;
      writes_behind = writes_behind;
    }
