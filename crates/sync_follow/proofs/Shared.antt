-- The same by equal rules, in equal namespaces and in equal areas; and the loop over the link.
use Rattle.std.proofs.Common.{◌≡◌, ℕ, ◌+◌, ◌<◌, ◌≤◌, ◌^◌, List, [], ◌++◌, map, length, Option, Some, None, refl, sym, ap, ◌∙◌, subst, arith}
use Rattle.std.specs.Prelude.{IfSome}
use Rattle.scheme_core.specs.Rules.{Rules}
use Rattle.willow_area.specs.declared.area.Area.{Area}
use Rattle.mc_cap.specs.declared.refusal.RefusedRow.{RefusedRow}
use Rattle.cap_codec.specs.Rows.{RawValue, row_of}
use Rattle.auth_entry.specs.Authorised.{AuthorisedValue}
use Rattle.ns_cell.specs.Passes.{PassValue}
use Rattle.sync_msg.specs.declared.refusal.CoreRefusal.{CoreRefusal}
use Rattle.session_rules.specs.Reading.{Stand, Waits, read, run, stay}
use Rattle.row_intake.specs.Tallies.{IsFirstOf, IsSum}
use Rattle.row_intake.specs.declared.tally.Tally.{Tally}
use Rattle.sync_follow.specs.Following.{feed_of}
use Rattle.sync_follow.specs.Hearing.{Hears, stand_of}
use Rattle.sync_follow.specs.Tallies.{HasGrown, IsTally}
use Rattle.sync_follow.specs.UnderWay.{Start, IsBy, IsCounted, IsNew, Now, now_of, first_now, IsUnderWay}
use Rattle.sync_follow.specs.declared.piece.Course.{Course}
use Rattle.sync_follow.specs.declared.place.Place.{Place}

pub tally_as : (r r' : Rules) (n n' : List ℕ) (start : PassValue AuthorisedValue) (rows : List RawValue) (pass : PassValue AuthorisedValue) (tally : Tally) → r ≡ r' → n ≡ n' → IsTally r n start rows pass tally → IsTally r' n' start rows pass tally
tally_as r r' n n' start rows pass tally e f t = subst (λ x. IsTally x n' start rows pass tally) e (subst (λ y. IsTally r y start rows pass tally) f t)

pub grown_as : (r r' : Rules) (n n' : List ℕ) (start : PassValue AuthorisedValue) (rows : List RawValue) (pass : PassValue AuthorisedValue) → r ≡ r' → n ≡ n' → HasGrown r n start rows pass → HasGrown r' n' start rows pass
grown_as r r' n n' start rows pass e f t = subst (λ x. HasGrown x n' start rows pass) e (subst (λ y. HasGrown r y start rows pass) f t)

-- the rows that come with a piece, where none had come
pub hears_alone : (area : Area) (from to : Stand ℕ CoreRefusal) (piece : List ℕ) (count_old count_new : ℕ) (none came : List RawValue) → none ≡ [] → Hears area from to piece count_old count_new none came
    → (count_new ≡ count_old + length came) × (read (feed_of area) from piece ≡ record { stand = to; says = []; rows = map row_of came })
hears_alone area from to piece count_old count_new none came e h =
    let same : came ≡ h.more = h.came ∙ ap (λ l. l ++ h.more) e in (
      h.count ∙ ap (λ l. count_old + length l) (sym same),
      h.reads ∙ ap (λ l. record { stand = to; says = []; rows = map row_of l }) (sym same),
    )

pub reads_in : (area area' : Area) (from to : Stand ℕ CoreRefusal) (piece : List ℕ) (came : List RawValue) → area ≡ area' → read (feed_of area) from piece ≡ record { stand = to; says = []; rows = map row_of came } → read (feed_of area') from piece ≡ record { stand = to; says = []; rows = map row_of came }
reads_in area area' from to piece came e h = subst (λ a. read (feed_of a) from piece ≡ record { stand = to; says = []; rows = map row_of came }) e h

-- nothing was read yet
pub begun_counted : (area : Area) (course : Course) → IsNew course → IsCounted area course
unfolding run
begun_counted area course new = record {
  held = record {
    holds = λ n. subst (λ l. read (feed_of area) (stand_of course.ear.place n []) l ≡ stay (stand_of course.ear.place n l)) (sym new.held) refl;
    counted = omega (arith, new.at, ap length new.held);
  };
  rows = ap (λ (t : Tally). t.rows) new.tally ∙ sym (ap (λ (p : Place). p.count) new.place);
  sums = subst IsSum (sym new.tally) refl;
  first = subst IsFirstOf (sym new.tally) tt;
}

abbrev now_at : Start → Stand ℕ CoreRefusal → Tally → ℕ → Now
now_at start q tally count = record { stand = q; tally = tally; count = count; pass = start.pass; link = start.link }

pub begun_now : (course : Course) (start : Start) → IsNew course → now_of course start.pass start.link ≡ first_now start
begun_now course start new =
    let ear = course.ear in
    ap (λ (p : Place). now_at start (stand_of p ear.at ear.held.items) course.tally course.count) new.place
    ∙ ap (λ (at : ℕ). now_at start (Waits 0 at ear.held.items) course.tally course.count) new.at
    ∙ ap (λ (held : List ℕ). now_at start (Waits 0 0 held) course.tally course.count) new.held
    ∙ ap (λ (tally : Tally). now_at start (Waits 0 0 []) tally course.count) new.tally
    ∙ ap (λ (count : ℕ). now_at start (Waits 0 0 []) (record { rows = 0; stored = 0; kept = 0; missed = 0; refused = 0; first = None }) count) new.count

-- the first row that is refused is one of those that came
pub told_few : (tally : Tally) → IsFirstOf tally → tally.rows < 2 ^ 32 → IfSome tally.first (λ refused. refused.row < 2 ^ 32)
told_few tally first few = by_first tally.first first
  where
    by_first : (o : Option RefusedRow) → IfSome o (λ refused. refused.row ≤ tally.rows) → IfSome o (λ refused. refused.row < 2 ^ 32)
    by_first None h = tt
    by_first (Some refused) h = omega (arith, h, few)

-- ---- whatever it began with

-- a feed that was so under way is so now
unfoldable pub Keeps : Rules → List ℕ → Area → ℕ → Now → Now → Type 0
Keeps rules namespace area most old now = (start : Start) → IsBy start rules namespace area most → IsUnderWay start old → IsUnderWay start now

pub keeps_self : (rules : Rules) (namespace : List ℕ) (area : Area) (most : ℕ) (now : Now) → Keeps rules namespace area most now now
unfolding Keeps
keeps_self rules namespace area most now start is u = u

-- the same by the link as it is now
pub is_now : (start : Start) (rules : Rules) (namespace : List ℕ) (area : Area) (most most' : ℕ) → most' ≡ most → IsBy start rules namespace area most → IsBy start rules namespace area most'
is_now start rules namespace area most most' same is = record { by_rules = is.by_rules; in_namespace = is.in_namespace; in_area = is.in_area; at_once = is.at_once ∙ sym same }

pub keeps_on : (rules : Rules) (namespace : List ℕ) (area : Area) (most most' : ℕ) (old now next : Now) → most' ≡ most → Keeps rules namespace area most old now
    → ((start : Start) → IsBy start rules namespace area most' → IsUnderWay start now → IsUnderWay start next) → Keeps rules namespace area most old next
unfolding Keeps
keeps_on rules namespace area most most' old now next same k step start is u = step start (is_now start rules namespace area most most' same is) (k start is u)
