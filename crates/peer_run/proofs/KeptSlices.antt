-- Slices of a log as a log file takes them.
use Rattle.std.proofs.Common.{◌≡◌, ◌∙◌, ◌≤◌, ◌<◌, ℕ, zero, suc, ◌-◌, false, List, [], ◌∷◌, ◌++◌, take, drop, map, length, get_or, Option, Some, refl, sym, ap, subst, arith, append_assoc, append-nil, length-append, take-append-drop}
use Rattle.std.specs.Prelude.{IfSome, OnErr, Result, Ok, Err}
use Rattle.std.specs.List.{AllByRecursion}
use Rattle.std.specs.declared.sync.Arc.{Arc}
use Rattle.std.specs.declared.alloc.Global.{Global}
use Rattle.std.proofs.lemmas.List.{length-drop, length-map, map-append, take_all}
use Rattle.std.proofs.lemmas.Simd.{map-map}
use Rattle.willow_outside.specs.Facts.{DiskFacts}
use Rattle.willow_entry.specs.Row.{RowValue}
use Rattle.willow_entry.specs.declared.row.LogRow.{LogRow}
use Rattle.cap_codec.specs.Rows.{IsRawRow}
use Rattle.row_stream.specs.Streams.{IsStreamRow}
use Rattle.auth_entry.specs.Authorised.{AuthorisedValue}
use Rattle.auth_entry.specs.Rows.{entry_row}
use Rattle.ns_state.specs.Log.{plain_row}
use Rattle.sync_link.specs.Kept.{log_rows}
use Rattle.sync_link.proofs.Openings.{CanTell}
use Rattle.peer_run.specs.LogFiles.{FileState, HasRoom, KeepsOn, WantsMemory, file_state, file_states, slice_values}
use Rattle.peer_run.specs.declared.log_file.LogFile.{LogFile}
use Rattle.peer_run.proofs.KeptFiles.{keeps_both, keeps_none, room_on, unfailed}

abbrev pub Slice : Type 0
Slice = List (LogRow (Arc AuthorisedValue Global))

-- ---- rows that a log file can hold

abbrev pub CanHold : List RowValue → Type 0
CanHold rows = AllByRecursion (IsStreamRow IsRawRow) rows

pub hold_more : (slice : Slice) (at : ℕ) (d : LogRow (Arc AuthorisedValue Global)) → at < length slice → CanTell (get_or slice at d).row.value → CanHold (slice_values (take at slice)) → CanHold (slice_values (take (suc at) slice))
hold_more [] at d within can all = absurd (omega (arith, within))
hold_more (x ∷ xs) zero d within can all = (record { fits = can.0; framed = can.1 }, tt)
hold_more (x ∷ xs) (suc at) d within can all = (all.0, hold_more xs at d (omega (arith, within)) can all.1)

pub hold_all : (slice : Slice) (at : ℕ) → length slice ≤ at → CanHold (slice_values (take at slice)) → CanHold (slice_values slice)
hold_all slice at whole all = subst (λ (rows : Slice). CanHold (slice_values rows)) (take_all at slice whole) all

-- ---- one slice behind the others

pub many_values : (slice : Slice) → length (slice_values slice) ≡ length slice
many_values slice = length-map slice (λ (l : LogRow (Arc AuthorisedValue Global)). entry_row l.row.value)

values_both : (one two : Slice) → slice_values (one ++ two) ≡ slice_values one ++ slice_values two
values_both one two = map-append (λ (l : LogRow (Arc AuthorisedValue Global)). entry_row l.row.value) one two

none_left : (slice : Slice) → length slice ≡ 0 → slice ≡ []
none_left [] none = refl
none_left (x ∷ xs) none = absurd (omega (arith, none))

-- cut in two
pub cut : (n : ℕ) (left slice others : Slice) → slice ≡ take n left → others ≡ drop n left → left ≡ slice ++ others
cut n left slice others front back = sym (take-append-drop n left) ∙ (ap (λ (l : Slice). l ++ drop n left) (sym front) ∙ ap (λ (l : Slice). slice ++ l) (sym back))

-- the first of some rows are kept, and those that are left have room
pub record KeepsFront (rows left : Slice) (old new : FileState) : Type 0 where
  pub first : List RowValue
  pub parts : first ++ slice_values left ≡ slice_values rows
  pub kept : KeepsOn first old new
  pub room : HasRoom (length left) new

pub front_none : (rows : Slice) (f : FileState) → HasRoom (length rows) f → KeepsFront rows rows f f
front_none rows f room = record { first = []; parts = refl; kept = keeps_none f.front f room.room; room = room }

module _ (rows left slice others : Slice) (a b c : FileState) (so_far : KeepsFront rows left a b) (parts : left ≡ slice ++ others) where
  pub front_room : HasRoom (length slice) b
  front_room = record { few = omega (arith, so_far.room.few, ap length parts, length-append slice others); room = so_far.room.room }

  pub front_more : KeepsOn (slice_values slice) b c → KeepsFront rows others a c
  front_more on = record {
    first = so_far.first ++ slice_values slice;
    parts = append_assoc so_far.first (slice_values slice) (slice_values others)
        ∙ (ap (λ (l : List RowValue). so_far.first ++ l) (sym (values_both slice others) ∙ ap slice_values (sym parts)) ∙ so_far.parts);
    kept = keeps_both so_far.first (slice_values slice) a b c so_far.kept on;
    room = record {
      few = omega (arith, so_far.room.few, ap length parts, length-append slice others, on.front, many_values slice);
      room = room_on (slice_values slice) b c so_far.room.room on;
    };
  }

-- what holds at each end holds at an error
pub at_err : {A E P : Type 0} (end : Result A E) → P → OnErr end P
at_err (Ok x) holds = tt
at_err (Err e) holds = holds

-- and what follows from what holds there
pub on_err : {A E P Q : Type 0} (end : Result A E) → (P → Q) → OnErr end P → OnErr end Q
on_err (Ok x) so holds = tt
on_err (Err e) so holds = so holds

-- where memory was wanting for the slices that are left
pub front_wants : (rows left : Slice) (a b c : FileState) → KeepsFront rows left a b → c ≡ b → b.broken ≡ false → WantsMemory (slice_values rows) a c
front_wants rows left a b c so_far same unbroken =
    subst (λ (f : FileState). WantsMemory (slice_values rows) a f) (sym same)
    (record { first = so_far.first; front = (slice_values left, so_far.parts); kept = unfailed so_far.first a b so_far.kept.kept unbroken; at = so_far.kept.front })

pub front_all : (rows left : Slice) (a b : FileState) → KeepsFront rows left a b → length left ≡ 0 → KeepsOn (slice_values rows) a b
front_all rows left a b so_far none =
    subst (λ (all : List RowValue). KeepsOn all a b)
    (sym (append-nil so_far.first) ∙ (ap (λ (l : Slice). so_far.first ++ slice_values l) (sym (none_left left none)) ∙ so_far.parts)) so_far.kept

-- ---- the rows that a file does not hold yet

-- a file that is there
pub of_file : {K : Type 0} (facts : K → DiskFacts) (file : Option (LogFile K)) (f : LogFile K) (P : FileState → Type 0) → file ≡ Some f → IfSome (file_states facts file) P → P (file_state facts f)
of_file facts file f P is all = subst (λ (x : Option (LogFile _)). IfSome (file_states facts x) P) is all

module _ (slice : Slice) (log : List (LogRow AuthorisedValue)) (f : FileState) (room : HasRoom (length log - f.front) f × (f.front ≤ length log)) (is : map plain_row slice ≡ take 4294967295 (drop f.front log)) where
  rest_all : map plain_row slice ≡ drop f.front log
  rest_all = is ∙ take_all 4294967295 (drop f.front log) (omega (arith, room.0.few, room.1, length-drop f.front log))

  pub slice_has_room : HasRoom (length slice) f
  slice_has_room = record { few = omega (arith, room.0.few, room.1, ap length rest_all, length-map slice (λ (l : LogRow (Arc AuthorisedValue Global)). plain_row l), length-drop f.front log); room = room.0.room }

  pub rest_is : slice_values slice ≡ log_rows (drop f.front log)
  rest_is = sym (map-map (λ (l : LogRow AuthorisedValue). entry_row l.row) plain_row slice) ∙ ap log_rows rest_all
