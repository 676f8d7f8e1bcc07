-- How what followed a session ended: its causes over the link, and where it came to its end.
use Rattle.std.proofs.Common.{◌≡◌, ◌∙◌, ◌⊎◌, inl, inr, ℕ, Bool, true, false, List, ◌++◌, length, option_map, Option, Some, None, refl, sym, ap, subst, arith}
use Rattle.std.specs.Prelude.{Result, Ok, Err}
use Rattle.std.proofs.lemmas.List.{append_cancel_left}
use Rattle.scheme_core.specs.Rules.{Rules}
use Rattle.willow_outside.specs.Counts.{Rose}
use Rattle.willow_outside.specs.Facts.{LinkFacts}
use Rattle.willow_outside.specs.Told.{Extends}
use Rattle.willow_area.specs.declared.area.Area.{Area}
use Rattle.willow_entry.specs.declared.row.LogRow.{LogRow}
use Rattle.willow_entry.specs.Row.{RowValue}
use Rattle.auth_entry.specs.Authorised.{AuthorisedValue}
use Rattle.ns_cell.specs.Passes.{PassValue}
use Rattle.session_end.specs.declared.end.SessionEnd.{SessionEnd}
use Rattle.session_end.specs.declared.end.SessionEnd.TheVariants as ending
use Rattle.session_rules.specs.Reading.{Ending, Done, More, BadMessage, Refusal}
use Rattle.session_rules.specs.Rounds.{IsFront, IsOver}
use Rattle.session_rules.proofs.Growing.{same_over}
use Rattle.sync_msg.specs.declared.refusal.CoreRefusal.{CoreRefusal}
use Rattle.row_intake.specs.Answers.{CountsEnds, CountsReads}
use Rattle.sync_follow.specs.Feeding.{WritesFeed}
use Rattle.sync_follow.specs.Feeds.{feed_spelling}
use Rattle.sync_follow.specs.Following.{EndsFeed, feed_ending, feed_of}
use Rattle.sync_follow.specs.Follows.{FollowAnswer}
use Rattle.sync_follow.specs.declared.feeding.Fed.{Fed as FedCounts}
use Rattle.sync_follow.proofs.Feeds.{feeds_are_read}
use Rattle.sync_link.specs.Run.{Answer}
use Rattle.peer_stage.specs.Status.{tail_status}
use Rattle.peer_run.specs.Answered.{GivesFeed}
use Rattle.peer_run.specs.Feeding.{FeedsArea, FeedsBehind}
use Rattle.peer_run.specs.Following.{FollowsBehind, area_to_follow}
use Rattle.peer_run.specs.Telling.{IsTailForWant, told_tail}
use Rattle.peer_run.specs.Visiting.{Visit, IsFollowedUp}
use Rattle.peer_run.specs.declared.tails.Tail.{Tail}
use Rattle.peer_run.specs.declared.tails.Tail.TheVariants.{Nothing, Fed, Followed}

-- what is told of it, as a status
abbrev pub tail_met : Tail → ℕ
tail_met tail = tail_status (told_tail tail)

-- a count that rose from any number rose from 0
rose_any : (before now : ℕ) → Rose before now → Rose 0 now
rose_any before now rose = omega (arith, rose)

-- ---- a feed that was written

module _ (rows : List RowValue) (seen : ℕ) (old new : LinkFacts) where
  written_few : (answer : Result FedCounts SessionEnd) → WritesFeed rows seen old new answer → (k : ℕ) → tail_met (Fed answer) ≡ k → (k ≡ 0) ⊎ (((k ≡ 4) × Rose 0 new.write_faults) ⊎ ((k ≡ 7) × IsTailForWant (Fed answer)))
  written_few (Ok fed) did k is = inl (sym is)
  written_few (Err ending.LinkWrite) did k is = inr (inl (sym is, rose_any _ _ did.1.rose))
  written_few (Err ending.NoMemory) did k is = inr (inr (sym is, tt))
  written_few (Err end) did k is = absurd did

  -- and it did not fail to sign
  written_signs : (answer : Result FedCounts SessionEnd) → WritesFeed rows seen old new answer → told_tail (Fed answer) ≡ Some (Err ending.SignFault) → ⊥
  written_signs (Err ending.SignFault) did is = did
  written_signs (Err end) did is = absurd cc
  written_signs (Ok fed) did is = absurd cc

-- its status is 0, or it has its cause
abbrev pub FedSo : LinkFacts → Tail → ℕ → Type 0
FedSo new tail k = (k ≡ 0) ⊎ (((k ≡ 4) × Rose 0 new.write_faults) ⊎ ((k ≡ 7) × IsTailForWant tail))

area_fed : (log : List (LogRow AuthorisedValue)) (number from : ℕ) (area : Option Area) (old new : LinkFacts) (tail : Tail) → FeedsArea log number from area old new tail → (k : ℕ) → tail_met tail ≡ k → FedSo new tail k
area_fed log number from None old new Nothing did k is = inl (sym is)
area_fed log number from (Some area) old new (Fed answer) did k is = written_few _ _ old new answer did.0 k is
area_fed log number from None old new tail did k is = absurd did
area_fed log number from (Some area) old new tail did k is = absurd did

pub fed_so : (feeds : Bool) (log : List (LogRow AuthorisedValue)) (number : ℕ) (answer : Answer) (old new : LinkFacts) (tail : Tail) → FeedsBehind feeds log number answer old new tail → (k : ℕ) → tail_met tail ≡ k → FedSo new tail k
fed_so true log number (Ok report) old new tail did k is = area_fed log number report.opened report.area old new tail did k is
fed_so true log number (Err end) old new tail did k is = area_fed log number 0 None old new tail did k is
fed_so false log number answer old new tail did k is = area_fed log number 0 None old new tail did k is

-- ---- a feed that was read

-- it ended so, of what was read or of what is stored
abbrev pub IsRefused : Tail → Type 0
IsRefused (Followed (Err (ending.ClosedEarly at))) = Unit {0}
IsRefused (Followed (Err (ending.BadMessage at))) = Unit {0}
IsRefused (Followed (Err (ending.Core cause))) = Unit {0}
IsRefused tail = ⊥

abbrev pub IsFull : Tail → Type 0
IsFull (Followed (Err (ending.LogFull missed))) = Unit {0}
IsFull tail = ⊥

-- its status is 0, or it has its cause
abbrev pub FollowedSo : LinkFacts → Tail → ℕ → Type 0
FollowedSo new tail k = (k ≡ 0) ⊎ (((k ≡ 3) × Rose 0 new.read_faults) ⊎ (((k ≡ 6) × IsRefused tail) ⊎ (((k ≡ 7) × IsTailForWant tail) ⊎ ((k ≡ 8) × IsFull tail))))

read_few : (end : Ending CoreRefusal) (read : ℕ) (old new : LinkFacts) (answer : FollowAnswer) → EndsFeed end read answer → CountsReads old.read_faults new.read_faults answer → (k : ℕ) → tail_met (Followed answer) ≡ k → FollowedSo new (Followed answer) k
read_few end read old new (Ok report) ended counts k is = inl (sym is)
read_few end read old new (Err ending.LinkRead) ended counts k is = inr (inl (sym is, rose_any _ _ counts.rose))
read_few end read old new (Err (ending.ClosedEarly at)) ended counts k is = inr (inr (inl (sym is, tt)))
read_few end read old new (Err (ending.BadMessage at)) ended counts k is = inr (inr (inl (sym is, tt)))
read_few end read old new (Err (ending.Core cause)) ended counts k is = inr (inr (inl (sym is, tt)))
read_few end read old new (Err ending.NoMemory) ended counts k is = inr (inr (inr (inl (sym is, tt))))
read_few end read old new (Err (ending.LogFull missed)) ended counts k is = inr (inr (inr (inr (sym is, tt))))
read_few end read old new (Err e) ended counts k is = absurd ended

pub follows_so : (rules : Rules) (namespace : List ℕ) (area : Option Area) (before after : PassValue AuthorisedValue) (old new : LinkFacts) (tail : Tail) → FollowsBehind rules namespace area before after old new tail → (k : ℕ) → tail_met tail ≡ k → FollowedSo new tail k
follows_so rules namespace None before after old new Nothing did k is = inl (sym is)
follows_so rules namespace (Some area) before after old new (Followed answer) did k is = read_few _ _ old new answer did.follows.ended did.follows.reads k is
follows_so rules namespace None before after old new tail did k is = absurd did
follows_so rules namespace (Some area) before after old new tail did k is = absurd did

-- ---- either

-- its status is 0, or it has its cause over the link
abbrev pub EndedSo : LinkFacts → Tail → ℕ → Type 0
EndedSo new tail k = (k ≡ 0) ⊎ (((k ≡ 3) × Rose 0 new.read_faults) ⊎ (((k ≡ 4) × Rose 0 new.write_faults) ⊎ (((k ≡ 6) × IsRefused tail) ⊎ (((k ≡ 7) × IsTailForWant tail) ⊎ ((k ≡ 8) × IsFull tail)))))

from_fed : (new : LinkFacts) (tail : Tail) (k : ℕ) → FedSo new tail k → EndedSo new tail k
from_fed new tail k (inl none) = inl none
from_fed new tail k (inr (inl four)) = inr (inr (inl four))
from_fed new tail k (inr (inr seven)) = inr (inr (inr (inr (inl seven))))

from_followed : (new : LinkFacts) (tail : Tail) (k : ℕ) → FollowedSo new tail k → EndedSo new tail k
from_followed new tail k (inl none) = inl none
from_followed new tail k (inr (inl three)) = inr (inl three)
from_followed new tail k (inr (inr (inl six))) = inr (inr (inr (inl six)))
from_followed new tail k (inr (inr (inr (inl seven)))) = inr (inr (inr (inr (inl seven))))
from_followed new tail k (inr (inr (inr (inr eight)))) = inr (inr (inr (inr (inr eight))))

pub ended_so : (awaited follows : Bool) (rules : Rules) (namespace : List ℕ) (log : List (LogRow AuthorisedValue)) (number : ℕ) (visit : Visit) → IsFollowedUp awaited follows rules namespace log number visit → (k : ℕ) → tail_met visit.tail ≡ k → EndedSo visit.link visit.tail k
ended_so true follows rules namespace log number visit did k is = from_fed visit.link visit.tail k (fed_so follows log number visit.answer visit.behind visit.link visit.tail did.fed k is)
ended_so false follows rules namespace log number visit did k is =
    from_followed visit.link visit.tail k (follows_so rules namespace (area_to_follow follows visit.answer) visit.between visit.after visit.behind visit.link visit.tail did k is)

-- ---- nothing failed to sign

area_signs : (log : List (LogRow AuthorisedValue)) (number from : ℕ) (area : Option Area) (old new : LinkFacts) (tail : Tail) → FeedsArea log number from area old new tail → told_tail tail ≡ Some (Err ending.SignFault) → ⊥
area_signs log number from None old new Nothing did is = absurd cc
area_signs log number from (Some area) old new (Fed answer) did is = written_signs _ _ old new answer did.0 is
area_signs log number from None old new tail did is = absurd did
area_signs log number from (Some area) old new tail did is = absurd did

fed_signs : (feeds : Bool) (log : List (LogRow AuthorisedValue)) (number : ℕ) (answer : Answer) (old new : LinkFacts) (tail : Tail) → FeedsBehind feeds log number answer old new tail → told_tail tail ≡ Some (Err ending.SignFault) → ⊥
fed_signs true log number (Ok report) old new tail did is = area_signs log number report.opened report.area old new tail did is
fed_signs true log number (Err end) old new tail did is = area_signs log number 0 None old new tail did is
fed_signs false log number answer old new tail did is = area_signs log number 0 None old new tail did is

read_signs : (end : Ending CoreRefusal) (read : ℕ) (answer : FollowAnswer) → EndsFeed end read answer → told_tail (Followed answer) ≡ Some (Err ending.SignFault) → ⊥
read_signs end read (Err ending.SignFault) ended is = ended
read_signs end read (Err e) ended is = absurd cc
read_signs end read (Ok report) ended is = absurd cc

follows_signs : (rules : Rules) (namespace : List ℕ) (area : Option Area) (before after : PassValue AuthorisedValue) (old new : LinkFacts) (tail : Tail) → FollowsBehind rules namespace area before after old new tail → told_tail tail ≡ Some (Err ending.SignFault) → ⊥
follows_signs rules namespace None before after old new Nothing did is = absurd cc
follows_signs rules namespace (Some area) before after old new (Followed answer) did is = read_signs _ _ answer did.follows.ended is
follows_signs rules namespace None before after old new tail did is = absurd did
follows_signs rules namespace (Some area) before after old new tail did is = absurd did

pub tail_signs : (awaited follows : Bool) (rules : Rules) (namespace : List ℕ) (log : List (LogRow AuthorisedValue)) (number : ℕ) (visit : Visit) → IsFollowedUp awaited follows rules namespace log number visit → told_tail visit.tail ≡ Some (Err ending.SignFault) → ⊥
tail_signs true follows rules namespace log number visit did is = fed_signs follows log number visit.answer visit.behind visit.link visit.tail did.fed is
tail_signs false follows rules namespace log number visit did is = follows_signs rules namespace (area_to_follow follows visit.answer) visit.between visit.after visit.behind visit.link visit.tail did is

-- ---- a feed that came whole, or a front of it

module _ (area : Area) (old new : LinkFacts) (gives : GivesFeed area old new) where
  whole_done : feed_ending area (feed_spelling gives.rows) ≡ Done
  whole_done = (feeds_are_read area gives.rows gives.fit).2

  -- just these bytes were read
  read_so : (bytes : List ℕ) → Extends old.taken new.taken bytes → gives.bytes ≡ bytes
  read_so bytes took =
      let all : Some (gives.before ++ gives.bytes) ≡ Some (gives.before ++ bytes) = sym gives.took ∙ (took ∙ ap (λ (told : Option (List ℕ)). option_map (λ xs. xs ++ bytes) told) gives.had) in
      let same : gives.before ++ gives.bytes ≡ gives.before ++ bytes = cc in
      append_cancel_left gives.before gives.bytes bytes same

  -- a front that has come to an end is the end of all
  front_over : (bytes : List ℕ) → gives.bytes ≡ bytes → IsOver (feed_ending area bytes) → feed_ending area bytes ≡ Done
  front_over bytes same over =
      let front = subst (λ (b : List ℕ). IsFront b (feed_spelling gives.rows)) same gives.hears in
      sym (same_over (feed_of area) bytes front.behind over).2 ∙ (ap (feed_ending area) (sym front.joined) ∙ whole_done)

  -- so it is not refused
  pub not_refused : (bytes : List ℕ) → Extends old.taken new.taken bytes → (answer : FollowAnswer) → EndsFeed (feed_ending area bytes) (length bytes) answer → CountsEnds old.ends new.ends answer → IsRefused (Followed answer) → ⊥
  not_refused bytes took (Err (ending.ClosedEarly at)) ended counts is =
      let whole : feed_ending area bytes ≡ Done = ap (feed_ending area) (sym (read_so bytes took) ∙ gives.hears_all counts) ∙ whole_done in
      let apart : More ≡ Done = sym ended.0 ∙ whole in
      absurd cc
  not_refused bytes took (Err (ending.BadMessage at)) ended counts is =
      let apart : BadMessage at ≡ Done = sym ended ∙ front_over bytes (read_so bytes took) (λ more. let never : BadMessage at ≡ More = sym ended ∙ more in absurd cc) in
      absurd cc
  not_refused bytes took (Err (ending.Core cause)) ended counts is =
      let apart : Refusal cause ≡ Done = sym ended ∙ front_over bytes (read_so bytes took) (λ more. let never : Refusal cause ≡ More = sym ended ∙ more in absurd cc) in
      absurd cc
  not_refused bytes took (Err end) ended counts is = absurd is
  not_refused bytes took (Ok report) ended counts is = absurd is

-- the same of what followed a session, where each area had such a feed
follow_fed : (rules : Rules) (namespace : List ℕ) (area : Option Area) (before after : PassValue AuthorisedValue) (old new : LinkFacts) (tail : Tail) → FollowsBehind rules namespace area before after old new tail → ((a : Area) → area ≡ Some a → GivesFeed a old new) → IsRefused tail → ⊥
follow_fed rules namespace None before after old new Nothing did gives is = is
follow_fed rules namespace (Some area) before after old new (Followed answer) did gives is =
    not_refused area old new (gives area refl) did.follows.bytes did.follows.taken.1 answer did.follows.ended did.follows.ends is
follow_fed rules namespace None before after old new tail did gives is = absurd did
follow_fed rules namespace (Some area) before after old new tail did gives is = absurd did

fed_refused : (new : LinkFacts) (log : List (LogRow AuthorisedValue)) (number from : ℕ) (area : Option Area) (old : LinkFacts) (tail : Tail) → FeedsArea log number from area old new tail → IsRefused tail → ⊥
fed_refused new log number from None old Nothing did is = is
fed_refused new log number from (Some area) old (Fed answer) did is = is
fed_refused new log number from None old tail did is = absurd did
fed_refused new log number from (Some area) old tail did is = absurd did

feeds_refused : (feeds : Bool) (log : List (LogRow AuthorisedValue)) (number : ℕ) (answer : Answer) (old new : LinkFacts) (tail : Tail) → FeedsBehind feeds log number answer old new tail → IsRefused tail → ⊥
feeds_refused true log number (Ok report) old new tail did is = fed_refused new log number report.opened report.area old tail did is
feeds_refused true log number (Err end) old new tail did is = fed_refused new log number 0 None old tail did is
feeds_refused false log number answer old new tail did is = fed_refused new log number 0 None old tail did is

pub never_refused : (awaited follows : Bool) (rules : Rules) (namespace : List ℕ) (log : List (LogRow AuthorisedValue)) (number : ℕ) (visit : Visit) → IsFollowedUp awaited follows rules namespace log number visit
    → (awaited ≡ false → (area : Area) → area_to_follow follows visit.answer ≡ Some area → GivesFeed area visit.behind visit.link) → IsRefused visit.tail → ⊥
never_refused true follows rules namespace log number visit did gives is = feeds_refused follows log number visit.answer visit.behind visit.link visit.tail did.fed is
never_refused false follows rules namespace log number visit did gives is =
    follow_fed rules namespace (area_to_follow follows visit.answer) visit.between visit.after visit.behind visit.link visit.tail did (gives refl) is
