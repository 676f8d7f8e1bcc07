-- A side that tells no more rows than a place of it weighs: what it says takes as much from the weight, and what it reads adds
-- nothing.
use Rattle.std.proofs.Common.{◌≡◌, ℕ, zero, suc, ◌+◌, ◌≤◌, Bool, true, false, cond, List, [], ◌∷◌, ◌++◌, filter_map, count_by, length, Option, None, Some, Result, Ok, Err, option_to_list, refl, arith}
use Rattle.std.specs.List.{cons_option}
use Rattle.std.proofs.lemmas.List.Elements.{filter_map-append}
use Rattle.std.proofs.lemmas.List.Sums.{sum_by-append, sum_by-cons}
use Rattle.session_rules.specs.Machine.{Seen, Whole, Part, Wrong, Machine}
use Rattle.session_rules.specs.Reading.{Stand, Waits, Over, Broken, Refused, Move, stepped, judged, run, read, start, said}
use Rattle.session_rules.specs.Talk.{Role, Talk, speaks_from, speaks, spoken, answered, item_heard, talk}

module _ {R A T I G : Type 0} (k : Talk R A T I G) (passes : R → Bool) where
  -- how many of the rows that are told by some items pass
  abbrev pub rows_passing : List I → ℕ
  rows_passing items = count_by passes (filter_map k.row_in items)

  -- the same of one item
  abbrev pub row_passing : I → ℕ
  row_passing item = count_by passes (option_to_list (k.row_in item))

  passing_first : (item : I) (items : List I) → rows_passing (item ∷ items) ≡ row_passing item + rows_passing items
  passing_first item items = by_row (k.row_in item)
    where
      by_row : (o : Option R) → count_by passes (cons_option o (filter_map k.row_in items)) ≡ count_by passes (option_to_list o) + rows_passing items
      by_row None = omega arith
      by_row (Some row) = omega (arith, sum_by-cons (λ r. cond (passes r) 1 0) row (filter_map k.row_in items), sum_by-cons (λ r. cond (passes r) 1 0) row [])

  passing_append : (items more : List I) → rows_passing (items ++ more) ≡ rows_passing items + rows_passing more
  passing_append items more = rw (filter_map-append k.row_in items more) (sum_by-append (λ r. cond (passes r) 1 0) (filter_map k.row_in items) (filter_map k.row_in more))

  module _ (weight : T → ℕ)
      (says : (t next : T) (item : I) → k.said t ≡ Some (item, next) → row_passing item + weight next ≤ weight t)
      (hears : (t next : T) (item : I) → k.heard t item ≡ Ok next → weight next ≤ weight t) where
    abbrev Within : ℕ → List I × T → Type 0
    Within most told = rows_passing told.0 + weight told.1 ≤ most

    within_from : (behind : T → List I × T) → ((t : T) → Within (weight t) (behind t)) → (t : T) (next : Option (I × T)) → k.said t ≡ next → Within (weight t) (speaks_from behind t next)
    within_from behind within t None is = omega arith
    within_from behind within t (Some next) is =
        omega (arith, says t next.1 next.0 is, within next.1, passing_first next.0 (behind next.1).0)

    within_speaking : (most : ℕ) (t : T) → Within (weight t) (speaks k most t)
    unfolding speaks
    within_speaking zero t = omega arith
    within_speaking (suc most) t = within_from (speaks k most) (within_speaking most) t (k.said t) refl

    -- of the rows that a side may still tell
    abbrev weight_at : Stand T G → ℕ
    weight_at (Waits t at held) = weight t
    weight_at Over = 0
    weight_at (Broken at) = 0
    weight_at (Refused cause) = 0

    abbrev Keeps : ℕ → Move T I R G → Type 0
    Keeps most m = rows_passing m.says + weight_at m.stand ≤ most

    keeps_answered : (at most : ℕ) (is_done : Bool) (told : List I × T) (taken : List R) → Within most told → Keeps most (stepped at (answered is_done told taken))
    keeps_answered at most true told taken h = omega (arith, h)
    keeps_answered at most false told taken h = h

    keeps_heard : (at : ℕ) (t : T) (item : I) (heard : Result T G) → k.heard t item ≡ heard → Keeps (weight t) (stepped at (item_heard k item heard))
    keeps_heard at t item (Ok next) is =
        keeps_answered at (weight t) (k.is_done (spoken k next).1) (spoken k next) (option_to_list (k.row_in item))
        (omega (arith, within_speaking (k.to_say next) next, hears t next item is))
    keeps_heard at t item (Err cause) is = omega arith

    module _ (role : Role) (begun : List R) (agreed : A) where
      abbrev side : Machine T I I R G
      side = talk k role begun agreed

      keeps_judged : (t : T) (at : ℕ) (held : List ℕ) (seen : Seen I) → Keeps (weight t) (judged side t at held seen)
      keeps_judged t at held (Whole item) = keeps_heard (at + length held) t item (k.heard t item) refl
      keeps_judged t at held Part = omega arith
      keeps_judged t at held Wrong = omega arith

      keeps_reading : (q : Stand T G) (bytes : List ℕ) → Keeps (weight_at q) (read side q bytes)
      unfolding run
      keeps_reading q [] = omega arith
      keeps_reading (Waits t at held) (byte ∷ bytes) =
          let now = held ++ byte ∷ [] in
          let m = judged side t at now (k.sees t now) in
          omega (arith, keeps_judged t at now (k.sees t now), keeps_reading m.stand bytes, passing_append m.says (read side m.stand bytes).says)
      keeps_reading Over (byte ∷ bytes) = keeps_reading Over bytes
      keeps_reading (Broken at) (byte ∷ bytes) = keeps_reading (Broken at) bytes
      keeps_reading (Refused cause) (byte ∷ bytes) = keeps_reading (Refused cause) bytes

      -- all that it tells weighs no more than its first place
      pub told_within : (bytes : List ℕ) → count_by passes (filter_map k.row_in (said side bytes)) ≤ weight (k.begin role begun agreed)
      told_within bytes =
          let first = within_speaking (k.to_say (k.begin role begun agreed)) (k.begin role begun agreed) in
          omega (arith, first, keeps_reading (start side) bytes, passing_append side.opening (read side (start side) bytes).says)
