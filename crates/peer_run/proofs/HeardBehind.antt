-- What those who watch have heard of a log goes on with the log.
use Rattle.std.proofs.Common.{◌≡◌, ℕ, ◌+◌, ◌≤◌, ◌<◌, ◌^◌, Bool, true, false, List, [], ◌∷◌, ◌++◌, length, map, take, drop, Option, Some, None, inr, refl, sym, ap, ◌∙◌, subst, arith, append_assoc, append-nil, length-append}
use Rattle.std.specs.Prelude.{slice_get}
use Rattle.std.proofs.lemmas.List.{drop_all, length-drop, length-map, map-append, take_all}
use Rattle.std.proofs.lemmas.Simd.{map-map}
use Rattle.std.specs.declared.sync.Arc.{Arc}
use Rattle.std.specs.declared.alloc.Global.{Global}
use mathlib.Core.List.{IsPrefix}
use Rattle.willow_outside.specs.declared.fault.Fault.{Fault}
use Rattle.willow_outside.specs.declared.fault.Fault.TheVariants as fault
use Rattle.willow_area.specs.declared.area.Area.{Area}
use Rattle.willow_entry.specs.Row.{RowValue}
use Rattle.willow_entry.specs.declared.row.LogRow.{LogRow}
use Rattle.log_rule.proofs.Prefixes.{drop-prefix, prefix_length, prefix_self, prefix_trans}
use Rattle.range_split.proofs.Pointing.{drop_one}
use Rattle.auth_entry.specs.Authorised.{AuthorisedValue}
use Rattle.auth_entry.specs.Rows.{entry_row}
use Rattle.ns_state.specs.Log.{IsLog, plain_row}
use Rattle.ns_state.specs.declared.live_log.TheConstants.{LOG_LIMIT}
use Rattle.sync_link.specs.Kept.{log_rows}
use Rattle.sub_hub.specs.Heard.{slice_rows}
use Rattle.sub_hub.specs.Hubs.{HubValue, IsPumped, begun_at, count_left}
use Rattle.sub_hub.proofs.Pumps.{pumped_nothing, pumped_twice}
use Rattle.peer_run.specs.Hall.{IsAccepted}
use Rattle.peer_run.specs.Hearing.{HasHeardSome, HaveHeardBehind, HaveHeardSeen, HearsSessions, hub_opened, rows_behind}

abbrev pub Log : Type 0
Log = List (LogRow AuthorisedValue)

-- ---- rows behind others

-- what is dropped with a front is the rest
behind_is : (xs ys : Log) (front : IsPrefix xs ys) → drop (length xs) ys ≡ front.0
behind_is xs ys front = ap (drop (length xs)) (sym front.1) ∙ drop-prefix xs front.0

rows_both : (xs ys : Log) → log_rows (xs ++ ys) ≡ log_rows xs ++ log_rows ys
rows_both xs ys = map-append (λ (l : LogRow AuthorisedValue). entry_row l.row) xs ys

-- the rows behind a front are those of a longer one and those behind that
pub rows_further : (opening seen log : Log) → IsPrefix opening seen → IsPrefix seen log → rows_behind opening seen ++ rows_behind seen log ≡ rows_behind opening log
rows_further opening seen log a b =
    let all : IsPrefix opening log = (a.0 ++ b.0, sym (append_assoc opening a.0 b.0) ∙ (ap (λ (l : Log). l ++ b.0) a.1 ∙ b.1)) in
    ap (λ (l : Log). log_rows l ++ rows_behind seen log) (behind_is opening seen a)
    ∙ (ap (λ (l : Log). log_rows a.0 ++ log_rows l) (behind_is seen log b)
    ∙ (sym (rows_both a.0 b.0) ∙ ap log_rows (sym (behind_is opening log all))))

-- ---- what was heard

pub heard_none : (n : List ℕ) (opening : Log) (h : HubValue) → IsLog entry_row n opening → HaveHeardBehind n opening opening h h 0
heard_none n opening h is_log = record {
  front = prefix_self opening;
  is_log = is_log;
  told = subst (λ (rows : List RowValue). IsPumped h h rows 0) (sym (ap log_rows (behind_is opening opening ([], append-nil opening)))) (pumped_nothing h);
}

-- they are told of what came since
pub heard_on : (n : List ℕ) (opening seen log : Log) (h h' h'' : HubValue) (left more : ℕ) → HaveHeardBehind n opening seen h h' left → IsPrefix seen log → IsLog entry_row n log → IsPumped h' h'' (rows_behind seen log) more
    → HaveHeardBehind n opening log h h'' (left + more)
heard_on n opening seen log h h' h'' left more heard further is_log told = record {
  front = prefix_trans opening seen log heard.front further;
  is_log = is_log;
  told = subst (λ (rows : List RowValue). IsPumped h h'' rows (left + more)) (rows_further opening seen log heard.front further)
      (pumped_twice h h' h'' (rows_behind opening seen) (rows_behind seen log) left more heard.told told);
}

-- the hub's front is the end of what they heard
pub front_is : (n : List ℕ) (opening log : Log) (h h' : HubValue) (left : ℕ) → HaveHeardBehind n opening log h h' left → h.front ≡ length opening → h'.front ≡ length log
front_is n opening log h h' left heard began =
    omega (arith, heard.told.front, began, length-map (drop (length opening) log) (λ (l : LogRow AuthorisedValue). entry_row l.row), ap length (behind_is opening log heard.front), ap length heard.front.1, length-append opening heard.front.0)

-- so many that left can be counted
pub left_most : (n : List ℕ) (opening log : Log) (h h' : HubValue) (left : ℕ) → HaveHeardBehind n opening log h h' left → left ≤ count_left h'.members
left_most n opening log h h' left heard = omega (arith, heard.told.counted)

-- of a server
pub heard_front : (awaited : Bool) (area : Area) (n : List ℕ) (opening log : Log) (u u' : HubValue) (left : ℕ) → awaited ≡ true → HearsSessions awaited area n opening log u u' left → u'.front ≡ length log
heard_front true area n opening log u u' left served heard = front_is n opening log (hub_opened area opening u) u' left heard refl
heard_front false area n opening log u u' left served heard = absurd cc

-- ---- a slice of a log

-- the rows that are shared are those that contracts see
pub slice_is : (slice : List (LogRow (Arc AuthorisedValue Global))) (rows : Log) → map plain_row slice ≡ rows → slice_rows (λ (shared : Arc AuthorisedValue Global). entry_row shared.value) slice ≡ log_rows rows
slice_is slice rows same = sym (map-map (λ (l : LogRow AuthorisedValue). entry_row l.row) plain_row slice) ∙ ap log_rows same

pub told_slice : (h h' : HubValue) (slice : List (LogRow (Arc AuthorisedValue Global))) (rows : Log) (left : ℕ) → map plain_row slice ≡ rows
    → IsPumped h h' (slice_rows (λ (shared : Arc AuthorisedValue Global). entry_row shared.value) slice) left → IsPumped h h' (log_rows rows) left
told_slice h h' slice rows left same told = subst (λ (values : List RowValue). IsPumped h h' values left) (slice_is slice rows same) told

-- all rows behind those that were seen are read
pub read_all : (slice : List (LogRow (Arc AuthorisedValue Global))) (n : List ℕ) (before seen : Log) (from most : ℕ) → from ≡ length before → IsLog entry_row n seen → LOG_LIMIT ≤ most → map plain_row slice ≡ take most (drop from seen)
    → map plain_row slice ≡ drop (length before) seen
read_all slice n before seen from most is is_log room same =
    same ∙ (take_all most (drop from seen) (omega (arith, is_log.few, room, length-drop from seen)) ∙ ap (λ (k : ℕ). drop k seen) is)

-- they are so few that positions fit a u32
pub read_few : (slice : List (LogRow (Arc AuthorisedValue Global))) (n : List ℕ) (before seen : Log) → IsPrefix before seen → IsLog entry_row n seen → map plain_row slice ≡ drop (length before) seen → length before + length slice < 2 ^ 32
read_few slice n before seen further is_log same =
    omega (arith, ap length same, length-map slice (λ (l : LogRow (Arc AuthorisedValue Global)). plain_row l), length-drop (length before) seen, prefix_length before seen further, is_log.few)

-- and the log file has room for them
pub slice_room : (slice : List (LogRow (Arc AuthorisedValue Global))) (n : List ℕ) (before seen : Log) → IsPrefix before seen → IsLog entry_row n seen → map plain_row slice ≡ drop (length before) seen → length before + length slice ≤ LOG_LIMIT
slice_room slice n before seen further is_log same =
    omega (arith, ap length same, length-map slice (λ (l : LogRow (Arc AuthorisedValue Global)). plain_row l), length-drop (length before) seen, prefix_length before seen further, is_log.few)

-- one row
pub one_row : (slice : List (LogRow (Arc AuthorisedValue Global))) (row : LogRow (Arc AuthorisedValue Global)) → slice ≡ row ∷ [] → map plain_row slice ≡ plain_row row ∷ []
one_row slice row one = ap (map plain_row) one

-- ---- row by row

-- they heard of the rows of a log from one position up to another
pub record HaveHeardUpTo (log : Log) (from at : ℕ) (h h' : HubValue) (left : ℕ) : Type 0 where
  pub heard : Log
  pub parts : heard ++ drop at log ≡ drop from log
  pub front : h'.front ≡ at
  pub told : IsPumped h h' (log_rows heard) left

pub up_to_none : (log : Log) (h : HubValue) → HaveHeardUpTo log h.front h.front h h 0
up_to_none log h = record { heard = []; parts = refl; front = refl; told = pumped_nothing h }

module _ (log : Log) (from at : ℕ) (h h' : HubValue) (left : ℕ) (so_far : HaveHeardUpTo log from at h h' left) where
  -- and of the next one
  pub up_to_next : (row : LogRow AuthorisedValue) (h'' : HubValue) (more : ℕ) → slice_get log at ≡ Some row → IsPumped h' h'' (log_rows (row ∷ [])) more → HaveHeardUpTo log from (at + 1) h h'' (left + more)
  up_to_next row h'' more here told = record {
    heard = so_far.heard ++ row ∷ [];
    parts = append_assoc so_far.heard (row ∷ []) (drop (at + 1) log) ∙ (ap (λ (l : Log). so_far.heard ++ l) (sym (drop_one log at row here)) ∙ so_far.parts);
    front = omega (arith, told.front, so_far.front);
    told = subst (λ (rows : List RowValue). IsPumped h h'' rows (left + more)) (sym (rows_both so_far.heard (row ∷ [])))
        (pumped_twice h h' h'' (log_rows so_far.heard) (log_rows (row ∷ [])) left more so_far.told told);
  }

  -- up to the end
  pub up_to_end : length log ≤ at → IsPumped h h' (log_rows (drop from log)) left
  up_to_end past =
      let all : so_far.heard ≡ drop from log = sym (append-nil so_far.heard) ∙ (ap (λ (l : Log). so_far.heard ++ l) (sym (drop_all at log past)) ∙ so_far.parts) in
      subst (λ (l : Log). IsPumped h h' (log_rows l) left) all so_far.told

  pub up_to_most : left ≤ count_left h'.members
  up_to_most = omega (arith, so_far.told.counted)

-- ---- a server

-- where a server goes on memory was not wanting
pub unwanted : (stopped : Option Fault) (all_came : Bool) → IsAccepted stopped all_came → stopped ≡ Some fault.NoMemory → ⊥
unwanted None all_came is wants = absurd cc
unwanted (Some fault.Failed) all_came is wants = absurd cc
unwanted (Some fault.NoMemory) all_came is wants = is

-- the hub as it was begun
pub begun_is : (area own : Area) (log : Log) (at : ℕ) (u h : HubValue) → h ≡ begun_at u at own → at ≡ length log → own ≡ area → h ≡ hub_opened area log u
begun_is area own log at u h begun is same = begun ∙ (ap (λ (k : ℕ). begun_at u k own) is ∙ ap (λ (a : Area). begun_at u (length log) a) same)

-- the same of the log with which the own pass began
pub heard_as : (area : Area) (named n : List ℕ) (first log seen : Log) (stopped : Option Fault) (u h h' : HubValue) (left : ℕ) → named ≡ n → first ≡ log → h ≡ hub_opened area log u → HaveHeardSeen named first seen stopped h h' left
    → HaveHeardSeen n log seen stopped (hub_opened area log u) h' left
heard_as area named n first log seen stopped u h h' left is same begun heard =
    subst (λ (m : List ℕ). HaveHeardSeen m log seen stopped (hub_opened area log u) h' left) is
    (subst (λ (l : Log). HaveHeardSeen named l seen stopped (hub_opened area log u) h' left) same (subst (λ (b : HubValue). HaveHeardSeen named first seen stopped b h' left) begun heard))

module _ (area : Area) (n : List ℕ) (opening seen : Log) (stopped : Option Fault) (u u1 : HubValue) (left : ℕ) (heard : HaveHeardSeen n opening seen stopped (hub_opened area opening u) u1 left) where
  -- the hub's front is the end of what was seen
  pub seen_front : (stopped ≡ Some fault.NoMemory → ⊥) → u1.front ≡ length seen
  seen_front unwanted = front_is n opening heard.log (hub_opened area opening u) u1 left heard.heard refl ∙ ap length (heard.all unwanted)

  pub seen_most : left ≤ count_left u1.members
  seen_most = left_most n opening heard.log (hub_opened area opening u) u1 left heard.heard

  -- they were told of what was seen, and then of the rest of the log
  pub server_heard : (all_came : Bool) (log : Log) (u2 : HubValue) (more all : ℕ) → IsAccepted stopped all_came → IsPrefix seen log → IsLog entry_row n log → all ≡ left + more → IsPumped u1 u2 (rows_behind seen log) more
      → HearsSessions true area n opening log u u2 all
  server_heard all_came log u2 more all accepted further is_log added told =
      let before = subst (λ (l : Log). HaveHeardBehind n opening l (hub_opened area opening u) u1 left) (heard.all (unwanted stopped all_came accepted)) heard.heard in
      subst (λ (k : ℕ). HaveHeardBehind n opening log (hub_opened area opening u) u2 k) (sym added) (heard_on n opening seen log (hub_opened area opening u) u1 u2 left more before further is_log told)

  -- for want of memory they were told of some
  pub server_stops : (u2 : HubValue) → u2 ≡ u1 → HasHeardSome area n opening u u2
  server_stops u2 same = inr (heard.log, left, subst (λ (h : HubValue). HaveHeardBehind n opening heard.log (hub_opened area opening u) h left) (sym same) heard.heard)
