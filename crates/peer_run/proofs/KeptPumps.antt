-- A log file goes on while links come, and behind them.
use Rattle.std.proofs.Common.{◌≡◌, ◌≤◌, ℕ, ◌+◌, ◌-◌, List, [], ◌∷◌, ◌++◌, drop, length, Option, Some, None, inl, inr, refl, sym, subst, arith, append-nil}
use Rattle.std.specs.Prelude.{IfSome, IfOk, IfErr, Result, Ok, Err, option_map}
use Rattle.std.proofs.lemmas.List.{length-drop, length-map}
use mathlib.Core.List.{IsPrefix}
use Rattle.willow_outside.specs.declared.fault.Fault.{Fault}
use Rattle.willow_outside.specs.declared.fault.Fault.TheVariants as fault
use Rattle.willow_entry.specs.Row.{RowValue}
use Rattle.willow_entry.specs.declared.row.LogRow.{LogRow}
use Rattle.auth_entry.specs.Authorised.{AuthorisedValue}
use Rattle.auth_entry.specs.Rows.{entry_row}
use Rattle.log_rule.proofs.Prefixes.{prefix_length}
use Rattle.ns_state.specs.declared.live_log.TheConstants.{LOG_LIMIT}
use Rattle.sync_link.specs.Kept.{log_rows}
use Rattle.peer_stage.specs.declared.outcome.Stop.{Stop}
use Rattle.peer_stage.specs.declared.outcome.Stop.TheVariants as stop
use Rattle.ns_cell.specs.Closed.{IsClosed}
use Rattle.ns_cell.specs.Passes.{PassValue}
use Rattle.peer_run.specs.Hall.{IsAccepted, Leaves}
use Rattle.peer_run.specs.declared.behind.Behind.{Behind}
use Rattle.peer_run.specs.declared.hall.Hall.{Hall}
use Rattle.peer_run.specs.declared.hosting.Attended.{Attended}
use Rattle.peer_run.specs.Hearing.{rows_behind}
use Rattle.peer_run.specs.LogFiles.{EndsKeeping, FileState, HasRoom, IsAtIf, IsLowIf, Keeps, KeepsOnIf, KeepsRest, KeepsSeenIf, LeavesRoom, StopsFile, StopsKeeping, WantsMemoryIf, begun_at}
use Rattle.peer_run.specs.LogPumping.{KeepsUpTo}
use Rattle.peer_run.proofs.HeardBehind.{Log, rows_further, unwanted}
use Rattle.peer_run.proofs.KeptFiles.{at_further, both, keeps_if_both, keeps_if_none}

-- ---- what was seen

-- so many rows stand behind a front
many_behind : (opening seen : Log) → IsPrefix opening seen → length opening + length (rows_behind opening seen) ≡ length seen
many_behind opening seen front =
    omega (arith, length-map (drop (length opening) seen) (λ (l : LogRow AuthorisedValue). entry_row l.row), length-drop (length opening) seen, prefix_length opening seen front)

pub at_seen : (opening seen : Log) (f f' : Option FileState) → IsPrefix opening seen → IsAtIf (length opening) f → KeepsOnIf (rows_behind opening seen) f f' → IsAtIf (length seen) f'
at_seen opening seen f f' front at kept = subst (λ (k : ℕ). IsAtIf k f') (many_behind opening seen front) (at_further (length opening) (rows_behind opening seen) f f' at kept)

pub kept_none : (opening : Log) (f : Option FileState) → IsAtIf (length opening) f → KeepsOnIf (rows_behind opening opening) f f
kept_none opening f at = subst (λ (rows : List RowValue). KeepsOnIf rows f f) (no_rows opening) (keeps_if_none (length opening) f at) where
  no_rows : (opening : Log) → [] ≡ rows_behind opening opening
  no_rows opening = sym (nothing (rows_behind opening opening) (omega (arith, many_behind opening opening ([], append-nil opening)))) where
    nothing : (rows : List RowValue) → length rows ≡ 0 → rows ≡ []
    nothing [] none = refl
    nothing (r ∷ rows) none = absurd (omega (arith, none))

pub kept_further : (opening seen log : Log) (a b c : Option FileState) → IsPrefix opening seen → IsPrefix seen log → KeepsOnIf (rows_behind opening seen) a b → KeepsOnIf (rows_behind seen log) b c → KeepsOnIf (rows_behind opening log) a c
kept_further opening seen log a b c front further one two =
    subst (λ (rows : List RowValue). KeepsOnIf rows a c) (rows_further opening seen log front further) (keeps_if_both (rows_behind opening seen) (rows_behind seen log) a b c one two)

-- where all that was seen is kept
pub kept_so : (opening seen : Log) (stopped : Option Fault) (f f' : Option FileState) → IsPrefix opening seen → KeepsOnIf (rows_behind opening seen) f f' → KeepsUpTo opening seen stopped f f'
kept_so opening seen None f f' behind kept = kept
kept_so opening seen (Some fault.Failed) f f' behind kept = kept
kept_so opening seen (Some fault.NoMemory) f f' behind kept = record { before = seen; behind = behind; front = ([], append-nil seen); between = f'; kept = kept; stops = inl refl }

-- where memory was wanting
pub kept_some : (opening before seen : Log) (a b c : Option FileState) → IsPrefix opening before → IsPrefix before seen → KeepsOnIf (rows_behind opening before) a b → StopsKeeping (rows_behind before seen) b c → KeepsUpTo opening seen (Some fault.NoMemory) a c
kept_some opening before seen a b c behind front kept stops = record { before = before; behind = behind; front = front; between = b; kept = kept; stops = stops }

-- where it was not
kept_seen : (opening seen : Log) (stopped : Option Fault) (f f' : Option FileState) → KeepsUpTo opening seen stopped f f' → (stopped ≡ Some fault.NoMemory → ⊥) → KeepsOnIf (rows_behind opening seen) f f'
kept_seen opening seen None f f' kept unwanted = kept
kept_seen opening seen (Some fault.Failed) f f' kept unwanted = kept
kept_seen opening seen (Some fault.NoMemory) f f' kept unwanted = absurd (unwanted refl)

-- ---- from the opening rows on

-- it makes no difference from which row on it was kept
begun_keeps : (front : ℕ) (rows : List RowValue) (f f' : FileState) → Keeps rows (begun_at front f) f' → Keeps rows f f'
begun_keeps front rows f f' (inl k) = inl (record {
  began = k.began;
  unbroken = k.unbroken;
  holds = λ n before holds. k.holds n before (record { held = holds.held; counted = holds.counted });
  counted = k.counted;
  known = k.known;
  end = k.end;
  faults = record { reads = k.faults.reads; writes = k.faults.writes };
  told = k.told;
})
begun_keeps front rows f f' (inr k) = inr (record {
  broken = k.broken;
  first = k.first;
  front = k.front;
  holds = λ n before holds. k.holds n before (record { held = holds.held; counted = holds.counted });
  told = k.told;
  counted = k.counted;
  reads = k.reads;
  never_falls = k.never_falls;
  rose = k.rose;
  stays = k.stays;
})

pub begun_at_if : (front : ℕ) (f : Option FileState) → IsLowIf f → IsAtIf front (option_map (begun_at front) f)
begun_at_if front None low = tt
begun_at_if front (Some f) low = record { at = refl; room = λ unbroken. (omega (arith, low.low), low.known) }

pub seen_kept : (opening seen log : Log) (front : ℕ) (stopped : Option Fault) (f f' : Option FileState) → front ≡ length opening → IsPrefix opening seen → IsPrefix seen log → IsLowIf f
    → KeepsUpTo opening seen stopped (option_map (begun_at front) f) f' → (stopped ≡ Some fault.NoMemory → ⊥) → KeepsSeenIf opening log f f'
seen_kept opening seen log front stopped f f' is behind further low kept unwanted = by f f' low (kept_seen opening seen stopped (option_map (begun_at front) f) f' kept unwanted) where
  by : (f f' : Option FileState) → IsLowIf f → KeepsOnIf (rows_behind opening seen) (option_map (begun_at front) f) f' → KeepsSeenIf opening log f f'
  by None None low on = tt
  by None (Some f') low on = absurd on
  by (Some f) None low on = absurd on
  by (Some f) (Some f') low on =
      let at = at_seen opening seen (Some (begun_at front f)) (Some f') behind (subst (λ (k : ℕ). IsAtIf k (Some (begun_at front f))) is (begun_at_if front (Some f) low)) on in
      record { seen = seen; behind = behind; front = further; at = at; kept = begun_keeps front (rows_behind opening seen) f f' on.kept }

-- ---- where a run stops

pub stops_self : (e : Stop) (f : Option FileState) → StopsFile e f f
stops_self stop.NoMemory f = inl refl
stops_self e f = refl

pub stops_further : (a b c : Option FileState) → StopsFile stop.NoMemory a b → StopsFile stop.NoMemory b c → StopsFile stop.NoMemory a c
stops_further a b c (inl same) two = subst (λ (f : Option FileState). StopsFile stop.NoMemory f c) same two
stops_further a b c (inr one) (inl same) = subst (λ (f : Option FileState). StopsFile stop.NoMemory a f) (sym same) (inr one)
stops_further (Some a) (Some b) (Some c) (inr one) (inr two) = inr (record { rows = one.rows ++ two.rows; kept = both one.rows two.rows a b c one.kept two.kept })
stops_further (Some a) (Some b) None (inr one) (inr two) = absurd two
stops_further (Some a) None c (inr one) (inr two) = absurd one
stops_further None b c (inr one) (inr two) = absurd one

-- where memory was wanting among these rows
wants_stops : (rows : List RowValue) (f f' : Option FileState) → WantsMemoryIf rows f f' → StopsFile stop.NoMemory f f'
wants_stops rows (Some f) (Some f') wants = inr (record { rows = wants.first; kept = inl wants.kept })
wants_stops rows (Some f) None wants = absurd wants
wants_stops rows None f' wants = absurd wants

keeping_stops : (rows : List RowValue) (f f' : Option FileState) → StopsKeeping rows f f' → StopsFile stop.NoMemory f f'
keeping_stops rows f f' (inl same) = inl same
keeping_stops rows f f' (inr wants) = wants_stops rows f f' wants

begun_stops : (front : ℕ) (rows : List RowValue) (f f' : Option FileState) → KeepsOnIf rows (option_map (begun_at front) f) f' → StopsFile stop.NoMemory f f'
begun_stops front rows None None on = inl refl
begun_stops front rows None (Some f') on = absurd on
begun_stops front rows (Some f) None on = absurd on
begun_stops front rows (Some f) (Some f') on = inr (record { rows = rows; kept = begun_keeps front rows f f' on.kept })

pub stops_begun : (opening seen : Log) (front : ℕ) (stopped : Option Fault) (f f' : Option FileState) → KeepsUpTo opening seen stopped (option_map (begun_at front) f) f' → StopsFile stop.NoMemory f f'
stops_begun opening seen front None f f' kept = begun_stops front (rows_behind opening seen) f f' kept
stops_begun opening seen front (Some fault.Failed) f f' kept = begun_stops front (rows_behind opening seen) f f' kept
stops_begun opening seen front (Some fault.NoMemory) f f' kept =
    stops_further f kept.between f' (begun_stops front (rows_behind opening kept.before) f kept.between kept.kept) (keeping_stops (rows_behind kept.before seen) kept.between f' kept.stops)

-- ---- up to the end of the log

abbrev pub KeepsAll : Log → Log → Option FileState → Option FileState → Type 0
KeepsAll opening log None None = Unit {0}
KeepsAll opening log (Some f) (Some f') = Keeps (rows_behind opening log) f f'
KeepsAll opening log f f' = ⊥

pub rest_room : (opening log : Log) (f f' : Option FileState) → length log ≤ LOG_LIMIT → KeepsSeenIf opening log f f' → IfSome f' (λ g. HasRoom (length log - g.front) g × (g.front ≤ length log))
rest_room opening log None None few seen = tt
rest_room opening log None (Some f') few seen = absurd seen
rest_room opening log (Some f) None few seen = absurd seen
rest_room opening log (Some f) (Some f') few seen =
    let within = prefix_length seen.seen log seen.front in
    (record { few = omega (arith, seen.at.at, within, few); room = subst (λ (front : ℕ). LeavesRoom front f') (sym seen.at.at) seen.at.room }, omega (arith, seen.at.at, within))

pub keeps_all : (opening log : Log) (a b c : Option FileState) → KeepsSeenIf opening log a b → KeepsRest log b c → KeepsAll opening log a c
keeps_all opening log None None None seen rest = tt
keeps_all opening log None None (Some c) seen rest = absurd rest
keeps_all opening log None (Some b) c seen rest = absurd seen
keeps_all opening log (Some a) None c seen rest = absurd seen
keeps_all opening log (Some a) (Some b) None seen rest = absurd rest
keeps_all opening log (Some a) (Some b) (Some c) seen rest =
    let more = subst (λ (k : ℕ). Keeps (log_rows (drop k log)) b c) seen.at.at rest.kept in
    subst (λ (rows : List RowValue). Keeps rows a c) (rows_further opening seen.seen log seen.behind seen.front) (both (rows_behind opening seen.seen) (rows_behind seen.seen log) a b c seen.kept more)

seen_stops : (opening log : Log) (f f' : Option FileState) → KeepsSeenIf opening log f f' → StopsFile stop.NoMemory f f'
seen_stops opening log None None seen = inl refl
seen_stops opening log None (Some f') seen = absurd seen
seen_stops opening log (Some f) None seen = absurd seen
seen_stops opening log (Some f) (Some f') seen = inr (record { rows = rows_behind opening seen.seen; kept = seen.kept })

rest_stops : (log : Log) (f f' : Option FileState) → EndsKeeping log f f' → StopsFile stop.NoMemory f f'
rest_stops log f f' (inr (inl same)) = inl same
rest_stops log (Some f) (Some f') (inr (inr wants)) = wants_stops (log_rows (drop f.front log)) (Some f) (Some f') wants
rest_stops log (Some f) None (inr (inr wants)) = absurd wants
rest_stops log None f' (inr (inr wants)) = absurd wants
rest_stops log (Some f) (Some f') (inl kept) = inr (record { rows = log_rows (drop f.front log); kept = kept.kept })
rest_stops log (Some f) None (inl kept) = absurd kept
rest_stops log None (Some f') (inl kept) = absurd kept
rest_stops log None None (inl kept) = inl refl

pub all_stops : (opening log : Log) (a b c : Option FileState) → KeepsSeenIf opening log a b → EndsKeeping log b c → StopsFile stop.NoMemory a c
all_stops opening log a b c seen ends = stops_further a b c (seen_stops opening log a b seen) (rest_stops log b c ends)

-- ---- behind all sessions

pub left_kept : (hall : Hall) (own : PassValue AuthorisedValue) (behind : Behind) (end : Result Attended Stop) → ((log : Log) → IsClosed behind.passes.items log → IsPrefix own.seen log)
    → (opening : Log) (front : ℕ) (stopped : Option Fault) (f f' : Option FileState) → behind.stopped ≡ stopped → Leaves hall behind end → front ≡ length opening → IsPrefix opening own.seen
    → IsLowIf f → KeepsUpTo opening own.seen stopped (option_map (begun_at front) f) f' → IfOk end (λ x. KeepsSeenIf opening x.state.log f f')
left_kept hall own behind (Ok x) seen opening front stopped f f' same left is before low kept =
    seen_kept opening own.seen x.state.log front stopped f f' is before (seen x.state.log left.closed) low kept (unwanted stopped x.all_came (subst (λ (s : Option Fault). IsAccepted s x.all_came) same left.accepts))
left_kept hall own behind (Err e) seen opening front stopped f f' same left is before low kept = tt

pub left_stops : (hall : Hall) (own : PassValue AuthorisedValue) (behind : Behind) (end : Result Attended Stop) (opening : Log) (front : ℕ) (stopped : Option Fault) (f f' : Option FileState) → Leaves hall behind end
    → KeepsUpTo opening own.seen stopped (option_map (begun_at front) f) f' → IfErr end (λ e. StopsFile e f f')
left_stops hall own behind (Ok x) opening front stopped f f' left kept = tt
left_stops hall own behind (Err stop.NoMemory) opening front stopped f f' left kept = stops_begun opening own.seen front stopped f f' kept
left_stops hall own behind (Err e) opening front stopped f f' left kept = absurd left

-- the same, from the log with which the own pass began
pub kept_as : (first opening seen : Log) (stopped : Option Fault) (f g h : Option FileState) → first ≡ opening → f ≡ g → KeepsUpTo first seen stopped f h → KeepsUpTo opening seen stopped g h
kept_as first opening seen stopped f g h same files kept = subst (λ (file : Option FileState). KeepsUpTo opening seen stopped file h) files (subst (λ (l : Log). KeepsUpTo l seen stopped f h) same kept)

-- ---- without a file

pub no_file_kept : (opening : Log) (f : Option FileState) (end : Result Attended Stop) → f ≡ None → IfOk end (λ x. KeepsSeenIf opening x.state.log f f)
no_file_kept opening None (Ok x) none = tt
no_file_kept opening (Some f) (Ok x) none = absurd cc
no_file_kept opening f (Err e) none = tt

pub no_file_stops : (f : Option FileState) (end : Result Attended Stop) → IfErr end (λ e. StopsFile e f f)
no_file_stops f (Ok x) = tt
no_file_stops f (Err e) = stops_self e f
