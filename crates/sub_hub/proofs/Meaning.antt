-- What is heard of a log is just what is to be heard, in order, whatever pieces it comes in.
use Rattle.std.proofs.Common.{◌≡◌, ◌<◌, ◌≤◌, ◌↔◌, ℕ, zero, suc, ◌+◌, ◌-◌, Bool, true, false, cond, List, [], ◌∷◌, ◌++◌, length, take, drop, get_or, slice_get, Option, Some, None, AllPairs, Contains, refl, sym, ap, subst, ◌∙◌, inl, inr, arith, length-take, length-drop, take-append-drop}
use Rattle.std.proofs.lemmas.Bool.{cases_lt}
use Rattle.std.proofs.lemmas.List.{take-take, take_all, drop-take, drop-drop, drop_all}
use Rattle.std.proofs.lemmas.List.Elements.{Contains-append_left, Contains-append_right, Contains-append_cases, Contains-get_or}
use Rattle.std.proofs.lemmas.List.Kept.{AllPairs-cons}
use Rattle.willow_entry.specs.declared.entry.Entry.{Entry}
use Rattle.willow_entry.specs.Row.{RowValue}
use Rattle.willow_area.specs.declared.area.Area.{Area}
use Rattle.sub_hub.specs.Heard.{Note, in_both, note_of, notes_from, rows_between, heard, IsHeardOf}
use Rattle.sub_hub.proofs.Hearing.{heard_behind}

-- ---- a row of a part of a log

get_from_drop : (n : ℕ) (rows : List RowValue) (k : ℕ) → slice_get (drop n rows) k ≡ slice_get rows (n + k)
get_from_drop zero rows k =
    let same : k ≡ 0 + k = omega arith in
    ap (slice_get rows) same
get_from_drop (suc n) [] k = refl
get_from_drop (suc n) (r ∷ rows) k =
    let same : suc (n + k) ≡ suc n + k = omega arith in
    get_from_drop n rows k ∙ ap (slice_get (r ∷ rows)) same

get_from_take : (n : ℕ) (rows : List RowValue) (k : ℕ) (row : RowValue) → slice_get (take n rows) k ≡ Some row → (k < n) × (slice_get rows k ≡ Some row)
get_from_take zero rows k row is = absurd (cc is)
get_from_take (suc n) [] k row is = absurd (cc is)
get_from_take (suc n) (r ∷ rows) zero row is = (omega arith, is)
get_from_take (suc n) (r ∷ rows) (suc k) row is =
    let rest = get_from_take n rows k row is in
    (omega (arith, rest.0), rest.1)

get_in_take : (n : ℕ) (rows : List RowValue) (k : ℕ) → k < n → slice_get (take n rows) k ≡ slice_get rows k
get_in_take zero rows k within = absurd (omega (arith, within))
get_in_take (suc n) [] k within = refl
get_in_take (suc n) (r ∷ rows) zero within = refl
get_in_take (suc n) (r ∷ rows) (suc k) within = get_in_take n rows k (omega (arith, within))

row_is : {r s : RowValue} → Some r ≡ Some s → r ≡ s
row_is {r} e = ap or_r e
  where
    or_r : Option RowValue → RowValue
    or_r None = r
    or_r (Some x) = x

-- ---- rows of which the first stands at a position

module _ (own served : Area) where
  -- one of the rows stands at the note's position, and has its entry, which both areas include
  record StandsFrom (rows : List RowValue) (at : ℕ) (note : Note) : Type 0 where
    place : ℕ
    position : note.at ≡ at + place
    row : RowValue
    stands : slice_get rows place ≡ Some row
    entry : row.entry ≡ note.entry
    included : in_both own served note.entry ≡ true

  only_one : (x note : Note) (k : ℕ) → k < 1 → get_or (x ∷ []) k note ≡ note → x ≡ note
  only_one x note zero within is = is
  only_one x note (suc k) within is = absurd (omega (arith, within))

  of_one : (b : Bool) (x note : Note) → Contains (cond b (x ∷ []) []) note → (x ≡ note) × (b ≡ true)
  of_one true x note h = (only_one x note h.0 h.1 h.2, refl)
  of_one false x note h = absurd (omega (arith, h.1))

  heard_stands : (rows : List RowValue) (at : ℕ) (note : Note) → Contains (notes_from own served at rows) note → StandsFrom rows at note
  heard_stands [] at note h = absurd (omega (arith, h.1))
  heard_stands (r ∷ rows) at note h =
      elim (Contains-append_cases (note_of own served at r.entry) (notes_from own served (at + 1) rows) note h) [
        | inl here ↦
            let one = of_one (in_both own served r.entry) (record { at = at; entry = r.entry }) note here in
            record {
              place = 0;
              position = sym (ap {B = ℕ} (λ (n : Note). n.at) one.0) ∙ omega arith;
              row = r;
              stands = refl;
              entry = ap (λ (n : Note). n.entry) one.0;
              included = subst (λ (n : Note). in_both own served n.entry ≡ true) one.0 one.1;
            }
        | inr later ↦
            let rest = heard_stands rows (at + 1) note later in
            record { place = suc rest.place; position = omega (arith, rest.position); row = rest.row; stands = rest.stands; entry = rest.entry; included = rest.included }
      ]

  stands_heard : (rows : List RowValue) (at k : ℕ) (row : RowValue) → slice_get rows k ≡ Some row → in_both own served row.entry ≡ true → Contains (notes_from own served at rows) (record { at = at + k; entry = row.entry })
  stands_heard [] at k row is included = absurd (cc is)
  stands_heard (r ∷ rows) at zero row is included =
      let one : note_of own served at row.entry ≡ record { at = at; entry = row.entry } ∷ [] = ap (λ (b : Bool). cond b (record { at = at; entry = row.entry } ∷ []) []) included in
      let position : at ≡ at + 0 = omega arith in
      let first : Contains (record { at = at; entry = row.entry } ∷ []) (record { at = at + 0; entry = row.entry }) = (0, omega arith, ap (λ (n : ℕ). record { at = n; entry = row.entry }) position) in
      subst (λ (x : RowValue). Contains (notes_from own served at (x ∷ rows)) (record { at = at + 0; entry = row.entry })) (sym (row_is is))
      (Contains-append_left (note_of own served at row.entry) (notes_from own served (at + 1) rows) _ (subst (λ (l : List Note). Contains l (record { at = at + 0; entry = row.entry })) (sym one) first))
  stands_heard (r ∷ rows) at (suc k) row is included =
      let position : at + 1 + k ≡ at + suc k = omega arith in
      Contains-append_right (note_of own served at r.entry) (notes_from own served (at + 1) rows) _
      (subst (λ (n : ℕ). Contains (notes_from own served (at + 1) rows) (record { at = n; entry = row.entry })) position (stands_heard rows (at + 1) k row is included))

  rises_behind : (b : Bool) (x : Note) (rest : List Note) → ((note : Note) → Contains rest note → x.at < note.at) → AllPairs (λ n m. n.at < m.at) rest → AllPairs (λ n m. n.at < m.at) (cond b (x ∷ []) [] ++ rest)
  rises_behind true x rest above rises = AllPairs-cons (λ n m. n.at < m.at) x rest (λ k d within. above (get_or rest k d) (Contains-get_or rest k d within)) rises
  rises_behind false x rest above rises = rises

  rises_from : (rows : List RowValue) (at : ℕ) → AllPairs (λ n m. n.at < m.at) (notes_from own served at rows)
  rises_from [] at = λ i j d below within. absurd (omega (arith, within))
  rises_from (r ∷ rows) at =
      rises_behind (in_both own served r.entry) (record { at = at; entry = r.entry }) (notes_from own served (at + 1) rows) (λ note h. omega (arith, (heard_stands rows (at + 1) note h).position)) (rises_from rows (at + 1))

-- ---- a part of a log

module _ (log : List RowValue) (own served : Area) (from to : ℕ) where
  heard_is : (note : Note) → Contains (heard log own served from to) note → IsHeardOf log own served from to note
  heard_is note h =
      let one = heard_stands own served (rows_between log from to) from note h in
      let within = get_from_take (to - from) (drop from log) one.place one.row one.stands in
      record {
        not_before = omega (arith, one.position);
        below = omega (arith, one.position, within.0);
        row = one.row;
        stands = ap (slice_get log) one.position ∙ sym (get_from_drop from log one.place) ∙ within.1;
        entry = one.entry;
        included = one.included;
      }

  -- a note of this position and this entry
  same_note : (notes : List Note) (note : Note) (at : ℕ) (e : Entry) → at ≡ note.at → e ≡ note.entry → Contains notes (record { at = at; entry = e }) → Contains notes note
  same_note notes note at e position same h =
      subst (λ (n : Note). Contains notes n) (ap (λ (a : ℕ). record { at = a; entry = e }) position ∙ ap (λ (x : Entry). record { at = note.at; entry = x }) same) h

  is_heard : (note : Note) → IsHeardOf log own served from to note → Contains (heard log own served from to) note
  is_heard note h =
      let position : from + (note.at - from) ≡ note.at = omega (arith, h.not_before) in
      let within : note.at - from < to - from = omega (arith, h.not_before, h.below) in
      let stands : slice_get (rows_between log from to) (note.at - from) ≡ Some h.row =
      get_in_take (to - from) (drop from log) (note.at - from) within ∙ get_from_drop from log (note.at - from) ∙ ap (slice_get log) position ∙ h.stands in
      same_note (heard log own served from to) note (from + (note.at - from)) h.row.entry position h.entry
      (stands_heard own served (rows_between log from to) from (note.at - from) h.row stands (ap (in_both own served) h.entry ∙ h.included))

pub heard_members : (log : List RowValue) (own served : Area) (from to : ℕ) (note : Note) → Contains (heard log own served from to) note ↔ IsHeardOf log own served from to note
heard_members log own served from to note = (heard_is log own served from to note, is_heard log own served from to note)

pub heard_rises : (log : List RowValue) (own served : Area) (from to : ℕ) → AllPairs (λ n m. n.at < m.at) (heard log own served from to)
heard_rises log own served from to = rises_from own served (rows_between log from to) from

-- ---- in pieces

rows_in_pieces : (log : List RowValue) (from n m : ℕ) → take (n + m) (drop from log) ≡ take n (drop from log) ++ take m (drop (from + n) log)
rows_in_pieces log from n m =
    sym (take-append-drop n (take (n + m) (drop from log)))
    ∙ ap (λ (l : List RowValue). l ++ drop n (take (n + m) (drop from log))) (take-take n (n + m) (drop from log) (omega arith))
    ∙ ap (λ (l : List RowValue). take n (drop from log) ++ l) (drop-take n m (drop from log) ∙ ap (take m) (drop-drop n from log))

-- where the log ends before a position, it has no rows from there on; else as many as are between two positions
from_middle : (log : List RowValue) (own served : Area) (from n m : ℕ) → notes_from own served (from + length (take n (drop from log))) (take m (drop (from + n) log)) ≡ notes_from own served (from + n) (take m (drop (from + n) log))
from_middle log own served from n m =
    elim (cases_lt (length log) (from + n)) [
      | inl short ↦
          let none : take m (drop (from + n) log) ≡ [] = ap (take m) (drop_all (from + n) log (omega (arith, short))) ∙ take_all m [] (omega arith) in
          ap (notes_from own served (from + length (take n (drop from log)))) none ∙ sym (ap (notes_from own served (from + n)) none)
      | inr long ↦
          let many : from + length (take n (drop from log)) ≡ from + n = omega (arith, long, length-take n (drop from log), length-drop from log) in
          ap (λ (k : ℕ). notes_from own served k (take m (drop (from + n) log))) many
    ]

pub heard_in_pieces : (log : List RowValue) (own served : Area) (from middle to : ℕ) → from ≤ middle → middle ≤ to → heard log own served from to ≡ heard log own served from middle ++ heard log own served middle to
heard_in_pieces log own served from middle to before after =
    let whole : to - from ≡ middle - from + (to - middle) = omega (arith, before, after) in
    let there : from + (middle - from) ≡ middle = omega (arith, before) in
    ap (λ (n : ℕ). notes_from own served from (take n (drop from log))) whole
    ∙ ap (notes_from own served from) (rows_in_pieces log from (middle - from) (to - middle))
    ∙ heard_behind own served from (take (middle - from) (drop from log)) (take (to - middle) (drop (from + (middle - from)) log))
    ∙ ap (λ (l : List Note). heard log own served from middle ++ l) (from_middle log own served from (middle - from) (to - middle))
    ∙ ap (λ (k : ℕ). heard log own served from middle ++ notes_from own served k (take (to - middle) (drop k log))) there
