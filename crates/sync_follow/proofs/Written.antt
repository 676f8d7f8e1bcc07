-- Bytes that are gathered and written a piece at a time.
use Rattle.std.proofs.Common.{◌≡◌, ℕ, List, [], ◌++◌, take, drop, refl, sym, ap, ◌∙◌, subst, append_assoc}
use Rattle.std.proofs.lemmas.List.{take-append-drop}
use Rattle.willow_outside.specs.Counts.{CountsCause}
use Rattle.willow_outside.specs.Facts.{LinkFacts}
use Rattle.willow_outside.specs.Told.{Extends}
use Rattle.willow_outside.specs.declared.fault.Fault.{Fault}
use Rattle.willow_outside.proofs.Extended.{extends-none, extends-trans}
use Rattle.session_rules.specs.Rounds.{IsFront}
use Rattle.session_rules.proofs.Growing.{front_by}
use Rattle.row_intake.specs.Links.{ReadsNothing}
use Rattle.sync_follow.specs.Feeding.{HoldsFront, HasWritten}

pub unread_self : (l : LinkFacts) → ReadsNothing l l
unread_self l = record { left = refl; taken = refl; faults = refl; ends = refl }

pub unread_trans : (a b c : LinkFacts) → ReadsNothing a b → ReadsNothing b c → ReadsNothing a c
unread_trans a b c x y = record { left = y.left ∙ x.left; taken = y.taken ∙ x.taken; faults = y.faults ∙ x.faults; ends = y.ends ∙ x.ends }

-- nothing was gathered and nothing written
pub written_none : (l : LinkFacts) (out : List ℕ) → out ≡ [] → HasWritten l l [] out
written_none l out none = record { written = []; joined = sym none; held = extends-none l.held; faults = refl; unread = unread_self l }

pub written_self : (l : LinkFacts) (out : List ℕ) → HasWritten l l out out
written_self l out = record { written = []; joined = refl; held = extends-none l.held; faults = refl; unread = unread_self l }

-- more is gathered
pub written_more : (a b : LinkFacts) (bytes left more bytes' left' : List ℕ) → bytes' ≡ bytes ++ more → left' ≡ left ++ more → HasWritten a b bytes left → HasWritten a b bytes' left'
written_more a b bytes left more bytes' left' e f h = record {
  written = h.written;
  joined = e ∙ ap (λ (l : List ℕ). l ++ more) h.joined ∙ append_assoc h.written left more ∙ ap (λ (l : List ℕ). h.written ++ l) (sym f);
  held = h.held;
  faults = h.faults;
  unread = h.unread;
}

-- some of it is written
pub written_on : (a b c : LinkFacts) (bytes left left' : List ℕ) → HasWritten a b bytes left → HasWritten b c left left' → HasWritten a c bytes left'
written_on a b c bytes left left' h k = record {
  written = h.written ++ k.written;
  joined = h.joined ∙ ap (λ (l : List ℕ). h.written ++ l) k.joined ∙ sym (append_assoc h.written k.written left');
  held = extends-trans a.held b.held c.held h.written k.written h.held k.held;
  faults = k.faults ∙ h.faults;
  unread = unread_trans a b c h.unread k.unread;
}

-- ---- fronts of a whole

front_trans : (xs ys zs : List ℕ) → IsFront xs ys → IsFront ys zs → IsFront xs zs
front_trans xs ys zs a b = front_by xs zs (a.behind ++ b.behind) (b.joined ∙ ap (λ (l : List ℕ). l ++ b.behind) a.joined ∙ append_assoc xs a.behind b.behind)

pub front_taken : (k : ℕ) (bytes : List ℕ) → IsFront (take k bytes) bytes
front_taken k bytes = front_by (take k bytes) bytes (drop k bytes) (sym (take-append-drop k bytes))

-- what was written is a front
pub holds_written : (a b : LinkFacts) (bytes left whole : List ℕ) → HasWritten a b bytes left → IsFront bytes whole → HoldsFront a b whole
holds_written a b bytes left whole h front = (h.written, front_trans h.written bytes whole (front_by h.written bytes left h.joined) front, h.held)

-- and so is what was written of the rest before a write failed
pub holds_more : (a b c : LinkFacts) (bytes left whole : List ℕ) → HasWritten a b bytes left → IsFront bytes whole → HoldsFront b c left → HoldsFront a c whole
holds_more a b c bytes left whole h front k = (
  h.written ++ k.0,
  front_trans (h.written ++ k.0) bytes whole (front_by (h.written ++ k.0) bytes k.1.behind (h.joined ∙ ap (λ (l : List ℕ). h.written ++ l) k.1.joined ∙ sym (append_assoc h.written k.0 k.1.behind))) front,
  extends-trans a.held b.held c.held h.written k.0 h.held k.2,
)

-- a count that stood still before a call that failed
pub cause_from : (before mid now : ℕ) (fault : Fault) → mid ≡ before → CountsCause mid now fault → CountsCause before now fault
cause_from before mid now fault same cause = subst (λ (n : ℕ). CountsCause n now fault) same cause

-- all of it is written
pub whole_written : (a b c : LinkFacts) (bytes left whole : List ℕ) → bytes ≡ whole → HasWritten a b bytes left → Extends b.held c.held left → Extends a.held c.held whole
whole_written a b c bytes left whole is h sent = subst (λ (l : List ℕ). Extends a.held c.held l) (sym h.joined ∙ is) (extends-trans a.held b.held c.held h.written left h.held sent)
