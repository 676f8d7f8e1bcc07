-- What a feed that is written does, by what its rows are.
use Rattle.std.proofs.Common.{◌≡◌, ℕ, ◌<◌, List, [], length, take, Ok, Err, refl, ap, ◌∙◌, subst}
use Rattle.willow_outside.specs.Counts.{CountsCause}
use Rattle.willow_outside.specs.Facts.{LinkFacts}
use Rattle.willow_outside.specs.Told.{Extends}
use Rattle.willow_outside.specs.declared.fault.Fault.{Fault}
use Rattle.willow_outside.specs.declared.fault.Fault.TheVariants.{Failed, NoMemory}
use Rattle.willow_outside.proofs.Extended.{extends-none}
use Rattle.willow_entry.specs.Row.{RowValue}
use Rattle.session_end.specs.declared.end.SessionEnd.TheVariants as ends
use Rattle.session_rules.specs.Rounds.{IsFront}
use Rattle.session_rules.proofs.Growing.{front_none}
use Rattle.sync_follow.specs.Feeds.{feed_spelling}
use Rattle.sync_follow.specs.Feeding.{HoldsFront, WritesFeed, WritesRows, HasWritten}
use Rattle.sync_follow.specs.declared.feeding.Fed.{Fed}
use Rattle.sync_follow.proofs.Written.{front_taken, holds_more, holds_written, cause_from, whole_written}

module _ (rows rows' : List RowValue) (same : rows ≡ rows') (seen : ℕ) (old new : LinkFacts) where
  pub feeds_whole : (count : ℕ) → WritesRows rows old new (Ok count) → (fed : Fed) → fed.count ≡ count → fed.to ≡ seen → WritesFeed rows' seen old new (Ok fed)
  feeds_whole count w fed counts to = record {
    held = subst (λ l. Extends old.held new.held (feed_spelling l)) same w.0;
    faults = w.1;
    count = counts ∙ w.2 ∙ ap length same;
    to = to;
  }

  module _ (fault : Fault) (w : WritesRows rows old new (Err fault)) where
    front_held : HoldsFront old new (feed_spelling rows')
    front_held = subst (λ l. HoldsFront old new (feed_spelling l)) same w.0

    pub feeds_failed : fault ≡ Failed → WritesFeed rows' seen old new (Err ends.LinkWrite)
    feeds_failed is = (front_held, subst (CountsCause old.write_faults new.write_faults) is w.1)

    pub feeds_wanting : fault ≡ NoMemory → WritesFeed rows' seen old new (Err ends.NoMemory)
    feeds_wanting is = (front_held, subst (CountsCause old.write_faults new.write_faults) is w.1)

-- nothing was written
pub feeds_nothing : (rows : List RowValue) (seen : ℕ) (link : LinkFacts) → WritesFeed rows seen link link (Err ends.NoMemory)
feeds_nothing rows seen link = (([], front_none (feed_spelling rows), extends-none link.held), refl)

-- ---- rows

module _ (rows : List RowValue) (old mid : LinkFacts) (bytes left : List ℕ) (h : HasWritten old mid bytes left) (front : IsFront bytes (feed_spelling rows)) where
  -- memory was wanting
  pub rows_wanting : HoldsFront old mid (feed_spelling rows) × CountsCause old.write_faults mid.write_faults NoMemory
  rows_wanting = (holds_written old mid bytes left (feed_spelling rows) h front, h.faults)

  -- a piece was not written
  pub rows_failed : (new : LinkFacts) (fault : Fault) → HoldsFront mid new left × CountsCause mid.write_faults new.write_faults fault → HoldsFront old new (feed_spelling rows) × CountsCause old.write_faults new.write_faults fault
  rows_failed new fault w = (holds_more old mid new bytes left (feed_spelling rows) h front w.0, cause_from old.write_faults mid.write_faults new.write_faults fault h.faults w.1)

-- the last bytes are written, or not
pub last_failed : (mid new : LinkFacts) (out sent : List ℕ) (fault : Fault) → sent ≡ out → ((k : ℕ) × (k < length sent) × Extends mid.held new.held (take k sent)) → CountsCause mid.write_faults new.write_faults fault → HoldsFront mid new out × CountsCause mid.write_faults new.write_faults fault
last_failed mid new out sent fault is w cause = (subst (HoldsFront mid new) is (take w.0 sent, front_taken w.0 sent, w.2), cause)

pub rows_whole : (rows : List RowValue) (old mid new : LinkFacts) (bytes left sent : List ℕ) (count : ℕ) → HasWritten old mid bytes left → bytes ≡ feed_spelling rows → sent ≡ left → Extends mid.held new.held sent → new.write_faults ≡ mid.write_faults → count ≡ length rows → WritesRows rows old new (Ok count)
rows_whole rows old mid new bytes left sent count h is same extends faults counts = (
  whole_written old mid new bytes left (feed_spelling rows) is h (subst (Extends mid.held new.held) same extends),
  faults ∙ h.faults,
  counts,
)
