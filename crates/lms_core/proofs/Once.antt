-- Over every list of calls the indices handed out rise.
use Rattle.std.proofs.Common.{◌≡◌, ℕ, zero, suc, ◌+◌, ◌<◌, ◌≤◌, inl, inr, cond, true, bytes_eq, List, [], ◌∷◌, ◌++◌, map, length, get_or, Option, Some, None, Result, Ok, Err, refl, sym, ap, ◌∙◌, arith}
use Rattle.std.specs.List.{AllPairs}
use Rattle.std.specs.Option.{option_map}
use Rattle.std.specs.declared.vec.Vec.{Vec}
use Rattle.std.specs.declared.alloc.Global.{Global}
use Rattle.std.proofs.lemmas.Slice.Eq.{bytes_eq-Decides}
use Rattle.spelling.specs.declared.ending.End.{End}
use Rattle.spelling.specs.declared.ending.End.TheVariants.{Refused, NoMemory}
use Rattle.willow_outside.specs.Facts.{ShelfFacts, Names}
use Rattle.willow_outside.specs.Names.{GetsName, name_put}
use Rattle.lms_core.specs.declared.reserve.KeyRefusal.{KeyRefusal}
use Rattle.lms_core.specs.declared.reserve.KeyRefusal.TheVariants.{ShelfRead, Missing, BadKeyFile, KeySpent, ShelfWrite}
use Rattle.lms_core.specs.Accepts.{leaves}
use Rattle.lms_core.specs.Key.{Key, IsKey, key_file, raised}
use Rattle.lms_core.specs.Use.{Use, uses_from}
use Rattle.lms_core.specs.Reserve.{Reserves}
use Rattle.lms_core.specs.Calls.{Call, AreCalls, told_under, indices_of, handed_out}
use Rattle.lms_core.proofs.Files.{file_once}

-- ---- lists that rise

-- the list rises, and is n or above from the start
abbrev RisesFrom : ℕ → List ℕ → Type 0
RisesFrom n [] = Unit {0}
RisesFrom n (i ∷ more) = (n ≤ i) × RisesFrom (i + 1) more

rises_weaker : (m n : ℕ) (xs : List ℕ) → m ≤ n → RisesFrom n xs → RisesFrom m xs
rises_weaker m n [] h r = tt
rises_weaker m n (i ∷ more) h r = (omega (arith, r.0), r.1)

rises_at : (n : ℕ) (xs : List ℕ) (j d : ℕ) → RisesFrom n xs → j < length xs → n ≤ get_or xs j d
rises_at n [] j d r h = absurd (omega arith)
rises_at n (i ∷ more) zero d r h = r.0
rises_at n (i ∷ more) (suc j) d r h =
    let t = rises_at (i + 1) more j d r.1 (omega arith) in
    omega (arith, r.0, t)

rises_pairs : (n : ℕ) (xs : List ℕ) → RisesFrom n xs → AllPairs (λ x y. x < y) xs
rises_pairs n [] r i j d p q = absurd (omega arith)
rises_pairs n (x ∷ xs) r zero zero d p q = absurd (omega arith)
rises_pairs n (x ∷ xs) r (suc i) zero d p q = absurd (omega arith)
rises_pairs n (x ∷ xs) r zero (suc j) d p q =
    let t = rises_at (x + 1) xs j d r.1 (omega arith) in
    omega (arith, t)
rises_pairs n (x ∷ xs) r (suc i) (suc j) d p q = rises_pairs (x + 1) xs r.1 i j d (omega arith) (omega arith)

-- the indices of a key's signers, and a list that rises behind them
rises_uses : (k : Key) (i n : ℕ) (more : List ℕ) → RisesFrom (i + n) more → RisesFrom i (map (λ s. s.index) (uses_from k i n) ++ more)
unfolding uses_from
rises_uses k i zero more r =
    let e : i + 0 ≡ i = omega arith in
    rw e at r
rises_uses k i (suc n) more r =
    let e : i + suc n ≡ suc i + n = omega arith in
    let f : i + 1 ≡ suc i = omega arith in
    (omega arith, rw f (rises_uses k (suc i) n more (rw e at r)))

-- ---- the key under the name

-- a key that is held has used every index below n
abbrev UsesBelow : ℕ → Option (List ℕ) → Type 0
UsesBelow n held = (k : Key) → IsKey k → held ≡ Some (key_file k) → n ≤ k.next

some_same : {A : Type 0} (x y : A) → Some x ≡ Some y → x ≡ y
some_same x y e = cc

-- what a told get found is what was held
got_held : (names : Option Names) (name : List ℕ) (held found : Option (List ℕ)) → option_map (λ n. n name) names ≡ Some held → GetsName names name found → held ≡ found
got_held None name held found t g = absurd cc
got_held (Some names) name held found t g = sym (some_same (names name) held t) ∙ g

kept_held : (old new : Option Names) (name : List ℕ) (held after : Option (List ℕ)) → option_map (λ n. n name) old ≡ Some held → option_map (λ n. n name) new ≡ Some after → new ≡ old → after ≡ held
kept_held old new name held after t u e =
    some_same after held (sym u ∙ ap (λ o. option_map (λ n. n name) o) e ∙ t)

put_held : (old new : Option Names) (name bytes : List ℕ) (held after : Option (List ℕ)) → option_map (λ n. n name) old ≡ Some held → option_map (λ n. n name) new ≡ Some after → new ≡ option_map (name_put name bytes) old → after ≡ Some bytes
put_held None new name bytes held after t u e = absurd cc
put_held (Some names) new name bytes held after t u e =
    let here : bytes_eq name name ≡ true = (bytes_eq-Decides name name).1 refl in
    let v : Some (cond (bytes_eq name name) (Some bytes) (names name)) ≡ Some after = sym (ap (λ o. option_map (λ n. n name) o) e) ∙ u in
    some_same after (Some bytes) (sym (rw here at v))

raised_is : (n : ℕ) (k : Key) → IsKey k → k.next + n ≤ leaves k.height → IsKey (raised n k)
raised_is n k h room = record { identifier = h.identifier; seed = h.seed; next = room }

below_raised : (n count : ℕ) (held after : Option (List ℕ)) (k : Key) → IsKey k → k.next + count ≤ leaves k.height → after ≡ Some (key_file (raised count k)) → UsesBelow (k.next + count) after
below_raised n count held after k h room e = λ l hl f.
    let files = some_same (key_file l) (key_file (raised count k)) (sym f ∙ e) in
    let same = file_once l (raised count k) hl (raised_is count k h room) files in
    let next = ap (λ (x : Key). x.next) same in
    omega (arith, next)

-- ---- the calls

-- a call that handed out nothing leaves a key that has used what was used before
idle : (n : ℕ) (held after : Option (List ℕ)) → after ≡ held → UsesBelow n held → UsesBelow n after
idle n held after e u = λ k h f. u k h (sym e ∙ f)

put_idle : (n count : ℕ) (held after : Option (List ℕ)) (k : Key) → IsKey k → k.next + count ≤ leaves k.height → held ≡ Some (key_file k) → after ≡ Some (key_file (raised count k)) → UsesBelow n held → UsesBelow n after
put_idle n count held after k h room e f u = λ l hl g.
    let t = below_raised n count held after k h room f l hl g in
    omega (arith, t, u k h e)

-- What a call hands out rises from the indices used before, if what later calls hand out does from those used after.
call_rises : (name : List ℕ) (n count : ℕ) (held after : Option (List ℕ)) (before behind : ShelfFacts) (r : Result (Vec Use Global) (End KeyRefusal)) (rest : List ℕ) → told_under name before ≡ Some held → Reserves name count before behind r → told_under name behind ≡ Some after → UsesBelow n held → ((m : ℕ) → UsesBelow m after → RisesFrom m rest) → RisesFrom n (indices_of r ++ rest)
call_rises name n count held after before behind (Ok signers) rest t h v u f =
    let k = h.0 in
    let was = got_held before.names name held _ t h.1.held.file in
    let is = put_held before.names behind.names name _ held after t v h.1.put in
    let behind_all = f (k.next + count) (below_raised n count held after k h.1.held.key h.1.room is) in
    let all = rises_uses k k.next count rest behind_all in
    let low : n ≤ k.next = u k h.1.held.key was in
    rises_weaker n k.next (map (λ s. s.index) signers.items ++ rest) low (rw (← h.1.signers_are) at all)
call_rises name n count held after before behind (Err (Refused ShelfRead)) rest t h v u f = f n (idle n held after (kept_held before.names behind.names name held after t v h.1.names) u)
call_rises name n count held after before behind (Err (Refused Missing)) rest t h v u f = f n (idle n held after (kept_held before.names behind.names name held after t v h.1.names) u)
call_rises name n count held after before behind (Err (Refused BadKeyFile)) rest t h v u f = f n (idle n held after (kept_held before.names behind.names name held after t v h.1.names) u)
call_rises name n count held after before behind (Err (Refused (KeySpent next))) rest t h v u f = f n (idle n held after (kept_held before.names behind.names name held after t v h.1.kept.names) u)
call_rises name n count held after before behind (Err (Refused ShelfWrite)) rest t h v u f =
    let k = h.0 in
    let was = got_held before.names name held _ t h.1.held.file in
    f n (elim h.1.kept_or_put [
      | inl kept ↦ idle n held after (kept_held before.names behind.names name held after t v kept) u
      | inr put ↦ put_idle n count held after k h.1.held.key h.1.room was (put_held before.names behind.names name _ held after t v put) u
    ])
call_rises name n count held after before behind (Err NoMemory) rest t h v u f = f n (idle n held after (kept_held before.names behind.names name held after t v h) u)

pub calls_rise : (name : List ℕ) (n : ℕ) (held : Option (List ℕ)) (calls : List Call) → UsesBelow n held → AreCalls name held calls → RisesFrom n (handed_out calls)
calls_rise name n held [] u a = tt
calls_rise name n held (c ∷ more) u a = call_rises name n c.count held a.0 c.before c.after c.answer (handed_out more) a.1.told_before a.1.reserves a.1.told_after u (λ m w. calls_rise name m a.0 more w a.2)

from_zero : (held : Option (List ℕ)) → UsesBelow 0 held
from_zero held = λ k h e. omega arith

pub indices_rise : (name : List ℕ) (held : Option (List ℕ)) (calls : List Call) → AreCalls name held calls → AllPairs (λ i j. i < j) (handed_out calls)
indices_rise name held calls a = rises_pairs 0 (handed_out calls) (calls_rise name 0 held calls (from_zero held) a)
