-- A side that tells only rows that it began with: what it holds at each of its places keeps that.
use Rattle.std.proofs.Common.{◌≡◌, ℕ, zero, suc, ◌+◌, Bool, true, false, List, [], ◌∷◌, ◌++◌, length, Contains, Option, None, Some, Result, Ok, Err, option_to_list, refl, ap, ◌∙◌, ⊎_elim}
use Rattle.std.proofs.lemmas.List.Elements.{Contains-append_cases}
use Rattle.session_rules.specs.Machine.{Seen, Whole, Part, Wrong, Machine}
use Rattle.session_rules.specs.Reading.{Stand, Waits, Over, Broken, Refused, Move, stepped, judged, run, read, start}
use Rattle.session_rules.specs.Talk.{Role, Talk, speaks_from, speaks, spoken, answered, item_heard, talk}
use Rattle.session_rules.proofs.Members.{none_in, in_one}

-- each row that is told by these items is one of the rows
abbrev pub AreOwn : {R A T I G : Type 0} → Talk R A T I G → List R → List I → Type 0
AreOwn {R} {I = I} k rows items = (item : I) (row : R) → Contains items item → k.row_in item ≡ Some row → Contains rows row

-- its first row is its own, if it is one
abbrev pub IsOwn : {R A T I G : Type 0} → Talk R A T I G → List R → I → Type 0
IsOwn {R} k rows item = (row : R) → k.row_in item ≡ Some row → Contains rows row

module _ {R A T I G : Type 0} (k : Talk R A T I G) (rows : List R) where
  own_none : AreOwn k rows []
  own_none item row c = absurd (none_in item c)

  own_more : (first : I) (items : List I) → IsOwn k rows first → AreOwn k rows items → AreOwn k rows (first ∷ items)
  own_more first items own later item row c is =
      ⊎_elim
      (λ here. own row (ap k.row_in (in_one first item here) ∙ is))
      (λ there. later item row there is)
      (Contains-append_cases (first ∷ []) items item c)

  own_append : (items more : List I) → AreOwn k rows items → AreOwn k rows more → AreOwn k rows (items ++ more)
  own_append items more own later item row c is =
      ⊎_elim (λ here. own item row here is) (λ there. later item row there is) (Contains-append_cases items more item c)

  module _ (Holds : T → Type 0)
      (says : (t next : T) (item : I) → Holds t → k.said t ≡ Some (item, next) → Holds next × IsOwn k rows item)
      (hears : (t next : T) (item : I) → Holds t → k.heard t item ≡ Ok next → Holds next) where
    abbrev Kept : List I × T → Type 0
    Kept spoken = AreOwn k rows spoken.0 × Holds spoken.1

    kept_from : (behind : T → List I × T) → ((t : T) → Holds t → Kept (behind t)) → (t : T) → Holds t → (next : Option (I × T)) → k.said t ≡ next → Kept (speaks_from behind t next)
    kept_from behind kept t holds None is = (own_none, holds)
    kept_from behind kept t holds (Some next) is =
        let told = says t next.1 next.0 holds is in
        let later = kept next.1 told.0 in
        (own_more next.0 (behind next.1).0 told.1 later.0, later.1)

    kept_speaking : (most : ℕ) (t : T) → Holds t → Kept (speaks k most t)
    unfolding speaks
    kept_speaking zero t holds = (own_none, holds)
    kept_speaking (suc most) t holds = kept_from (speaks k most) (kept_speaking most) t holds (k.said t) refl

    abbrev HoldsAt : Stand T G → Type 0
    HoldsAt (Waits t at held) = Holds t
    HoldsAt Over = Unit {0}
    HoldsAt (Broken at) = Unit {0}
    HoldsAt (Refused cause) = Unit {0}

    abbrev Keeps : Move T I R G → Type 0
    Keeps m = AreOwn k rows m.says × HoldsAt m.stand

    kept_answered : (at : ℕ) (is_done : Bool) (told : List I × T) (taken : List R) → Kept told → Keeps (stepped at (answered is_done told taken))
    kept_answered at true told taken kept = (kept.0, tt)
    kept_answered at false told taken kept = kept

    kept_heard : (at : ℕ) (t : T) (item : I) → Holds t → (heard : Result T G) → k.heard t item ≡ heard → Keeps (stepped at (item_heard k item heard))
    kept_heard at t item holds (Ok next) is =
        kept_answered at (k.is_done (spoken k next).1) (spoken k next) (option_to_list (k.row_in item)) (kept_speaking (k.to_say next) next (hears t next item holds is))
    kept_heard at t item holds (Err cause) is = (own_none, tt)

    module _ (role : Role) (begun : List R) (agreed : A) where
      abbrev side : Machine T I I R G
      side = talk k role begun agreed

      kept_judged : (t : T) (at : ℕ) (held : List ℕ) → Holds t → (seen : Seen I) → Keeps (judged side t at held seen)
      kept_judged t at held holds (Whole item) = kept_heard (at + length held) t item holds (k.heard t item) refl
      kept_judged t at held holds Part = (own_none, holds)
      kept_judged t at held holds Wrong = (own_none, tt)

      kept_reading : (q : Stand T G) (bytes : List ℕ) → HoldsAt q → Keeps (read side q bytes)
      unfolding run
      kept_reading q [] holds = (own_none, holds)
      kept_reading (Waits t at held) (byte ∷ bytes) holds =
          let now = held ++ byte ∷ [] in
          let m = judged side t at now (k.sees t now) in
          let first = kept_judged t at now holds (k.sees t now) in
          let later = kept_reading m.stand bytes first.1 in
          (own_append m.says (read side m.stand bytes).says first.0 later.0, later.1)
      kept_reading Over (byte ∷ bytes) holds = kept_reading Over bytes holds
      kept_reading (Broken at) (byte ∷ bytes) holds = kept_reading (Broken at) bytes holds
      kept_reading (Refused cause) (byte ∷ bytes) holds = kept_reading (Refused cause) bytes holds

      pub own_told : Holds (k.begin role begun agreed) → (bytes : List ℕ) → AreOwn k rows (side.opening ++ (read side (start side) bytes).says)
      own_told holds bytes =
          let first = kept_speaking (k.to_say (k.begin role begun agreed)) (k.begin role begun agreed) holds in
          own_append side.opening (read side (start side) bytes).says first.0 (kept_reading (start side) bytes first.1).0
