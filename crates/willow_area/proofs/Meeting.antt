-- The intersection of two areas has exactly the triples that both have.
use Rattle.std.proofs.Common.{◌≡◌, ℕ, ◌^◌, ◌<◌, ◌≤◌, Bool, true, false, if◌then◌else◌, List, Option, Some, None, nat_eq, max, min, refl, sym, ap, subst, ◌∙◌, ◌↔◌, IsTrue, arith}
use Rattle.std.specs.Prelude.{IfOk, IfSome, Result, Ok, Err}
use Rattle.std.specs.Cmp.Lexicographic.{pointwise}
use Rattle.willow_path.specs.Key.{IsKey}
use Rattle.willow_path.specs.Path.{is_prefix, IsPath}
use Rattle.willow_area.specs.Times.{Times, in_times, IsTimes, meet_times, earlier_end, ends_by}
use Rattle.willow_area.specs.Area.{in_area, meet_area, area_of, fits_subspace, meet_subspace, meet_path, IsArea, IsTriple}
use Rattle.willow_area.specs.AreaMeaning.{AreApart, HasTriplesOfBoth}
use Rattle.willow_area.specs.declared.area.Area.{Area}
use Rattle.willow_area.proofs.Membership.{is_key, key_is, prefix_on, prefixes_of_one, time_in, in_time, IsBefore, below, below_holds, not_later, later, passes_area, area_passes}
use Rattle.willow_area.proofs.Including.{least_key, least_fits, first_time, prefix_itself}

some_is : {A : Type 0} (x y : A) → Some x ≡ Some y → x ≡ y
some_is x y e = cc

-- what is both in the one and in the other, and what is in what they have in common
abbrev IsMeet : Type 0 → Type 0 → Type 0 → Type 0
IsMeet Both One Other = (Both → One × Other) × (One → Other → Both)

-- ---- subspaces

chosen : {A : Type 0} (test : Bool) (x y : A) → (if test then Some x else None) ≡ Some y → (test ≡ true) × (x ≡ y)
chosen true x y h = (refl, cc)
chosen false x y h = absurd cc

not_chosen : {A : Type 0} (test : Bool) (x : A) → (if test then Some x else None) ≡ None → test ≡ false
not_chosen true x h = absurd cc
not_chosen false x h = refl

clash : (test : Bool) → test ≡ true → test ≡ false → ⊥
clash test h k = cc

abbrev Fits : Option (List ℕ) → List ℕ → Type 0
Fits own subspace = fits_subspace own subspace ≡ true

subspaces_meet : (own other both : Option (List ℕ)) (subspace : List ℕ) → meet_subspace own other ≡ Some both → IsMeet (Fits both subspace) (Fits own subspace) (Fits other subspace)
subspaces_meet None other both subspace h =
    let e : other ≡ both = some_is other both h in
    subst (λ (b : Option (List ℕ)). IsMeet (Fits b subspace) (Fits None subspace) (Fits other subspace)) e ((λ f. (refl, f)), (λ _ f. f))
subspaces_meet (Some key) None both subspace h =
    let e : Some key ≡ both = some_is (Some key) both h in
    subst (λ (b : Option (List ℕ)). IsMeet (Fits b subspace) (Fits (Some key) subspace) (Fits None subspace)) e ((λ f. (f, refl)), (λ f _. f))
subspaces_meet (Some key) (Some same) both subspace h =
    let c = chosen (pointwise nat_eq key same) (Some key) both h in
    let k = key_is key same c.0 in
    subst (λ (b : Option (List ℕ)). IsMeet (Fits b subspace) (Fits (Some key) subspace) (Fits (Some same) subspace)) c.1
    ((λ f. (f, subst (λ (l : List ℕ). Fits (Some l) subspace) k f)), (λ f _. f))

no_subspace : (own other : Option (List ℕ)) (subspace : List ℕ) → meet_subspace own other ≡ None → Fits own subspace → Fits other subspace → ⊥
no_subspace None other subspace h f g = cc
no_subspace (Some key) None subspace h f g = cc
no_subspace (Some key) (Some same) subspace h f g =
    let k = not_chosen (pointwise nat_eq key same) (Some key) h in
    let p = key_is key subspace f in
    let q = key_is same subspace g in
    let e : key ≡ same = p ∙ sym q in
    clash (pointwise nat_eq key same) (subst (λ (l : List ℕ). pointwise nat_eq key l ≡ true) e (is_key key)) k

subspace_fits : (own other both : Option (List ℕ)) → meet_subspace own other ≡ Some both → IfSome own IsKey → IfSome other IsKey → IfSome both IsKey
subspace_fits None other both h f g = subst (λ (b : Option (List ℕ)). IfSome b IsKey) (some_is other both h) g
subspace_fits (Some key) None both h f g = subst (λ (b : Option (List ℕ)). IfSome b IsKey) (some_is (Some key) both h) f
subspace_fits (Some key) (Some same) both h f g = subst (λ (b : Option (List ℕ)). IfSome b IsKey) (chosen (pointwise nat_eq key same) (Some key) both h).1 f

-- ---- paths

choices : {A G : Type 0} (first second : Bool) (x y z : A) → (if first then Some x else if second then Some y else None) ≡ Some z → (first ≡ true → x ≡ z → G) → (second ≡ true → y ≡ z → G) → G
choices true second x y z h one two = one refl cc
choices false true x y z h one two = two refl cc
choices false false x y z h one two = absurd cc

no_choices : {A : Type 0} (first second : Bool) (x y : A) → (if first then Some x else if second then Some y else None) ≡ None → (first ≡ false) × (second ≡ false)
no_choices true second x y h = absurd cc
no_choices false true x y h = absurd cc
no_choices false false x y h = (refl, refl)

abbrev Begins : List (List ℕ) → List (List ℕ) → Type 0
Begins path longer = is_prefix path longer ≡ true

paths_meet : (path other both longer : List (List ℕ)) → meet_path path other ≡ Some both → IsMeet (Begins both longer) (Begins path longer) (Begins other longer)
paths_meet path other both longer h =
    choices {G = IsMeet (Begins both longer) (Begins path longer) (Begins other longer)} (is_prefix path other) (is_prefix other path) other path both h
    (λ p e. subst (λ (b : List (List ℕ)). IsMeet (Begins b longer) (Begins path longer) (Begins other longer)) e ((λ f. (prefix_on path other longer p f, f)), (λ _ f. f)))
    (λ p e. subst (λ (b : List (List ℕ)). IsMeet (Begins b longer) (Begins path longer) (Begins other longer)) e ((λ f. (f, prefix_on other path longer p f)), (λ f _. f)))

no_path : (path other longer : List (List ℕ)) → meet_path path other ≡ None → Begins path longer → Begins other longer → ⊥
no_path path other longer h f g =
    let c = no_choices (is_prefix path other) (is_prefix other path) other path h in
    clash (is_prefix other path) (prefixes_of_one path other longer f g c.0) c.1

path_fits : (path other both : List (List ℕ)) → meet_path path other ≡ Some both → IsPath path → IsPath other → IsPath both
path_fits path other both h f g =
    choices {G = IsPath both} (is_prefix path other) (is_prefix other path) other path both h
    (λ _ e. subst (λ (b : List (List ℕ)). IsPath b) e g) (λ _ e. subst (λ (b : List (List ℕ)). IsPath b) e f)

-- ---- times

ends_meet : (own other : Option ℕ) (time : ℕ) → IsMeet (IsBefore time (earlier_end own other)) (IsBefore time own) (IsBefore time other)
ends_meet None other time = ((λ f. (refl, f)), (λ _ f. f))
ends_meet (Some end) None time = ((λ f. (f, refl)), (λ f _. f))
ends_meet (Some end) (Some e) time = (
  (λ f. let p = below time (min end e) f in (below_holds time end (omega arith), below_holds time e (omega arith))),
  (λ f g. let p = below time end f in let q = below time e g in below_holds time (min end e) (omega arith)),
)

not_empty : (empty : Bool) (x y : Times) → (if empty then None else Some x) ≡ Some y → (empty ≡ false) × (x ≡ y)
not_empty true x y h = absurd cc
not_empty false x y h = (refl, cc)

is_empty : (empty : Bool) (x : Times) → (if empty then None else Some x) ≡ None → empty ≡ true
is_empty true x h = refl
is_empty false x h = absurd cc

abbrev raw_meet : Times → Times → Times
raw_meet times other = record { start = max times.start other.start; end = earlier_end times.end other.end }

raw_meets : (times other : Times) (time : ℕ) → IsMeet (in_times (raw_meet times other) time ≡ true) (in_times times time ≡ true) (in_times other time ≡ true)
raw_meets times other time =
    let m = ends_meet times.end other.end time in (
      (λ f.
          let p = time_in (raw_meet times other) time f in
          let q = m.0 p.1 in
          let first : max times.start other.start ≤ time = p.0 in
          (in_time times time (omega arith) q.0, in_time other time (omega arith) q.1)),
      (λ f g.
          let p = time_in times time f in
          let q = time_in other time g in
          in_time (raw_meet times other) time (omega (arith, p.0, q.0)) (m.1 p.1 q.1)),
    )

times_meet : (times other both : Times) (time : ℕ) → meet_times times other ≡ Some both → IsMeet (in_times both time ≡ true) (in_times times time ≡ true) (in_times other time ≡ true)
times_meet times other both time h =
    subst (λ (b : Times). IsMeet (in_times b time ≡ true) (in_times times time ≡ true) (in_times other time ≡ true))
    (not_empty (ends_by (earlier_end times.end other.end) (max times.start other.start)) (raw_meet times other) both h).1 (raw_meets times other time)

nothing_before : (end : Option ℕ) (start time : ℕ) → ends_by end start ≡ true → start ≤ time → IsBefore time end → ⊥
nothing_before None start time h k f = cc
nothing_before (Some end) start time h k f = let p = not_later end start h in let q = below time end f in omega arith

no_time : (times other : Times) (time : ℕ) → meet_times times other ≡ None → in_times times time ≡ true → in_times other time ≡ true → ⊥
no_time times other time h f g =
    let p = time_in (raw_meet times other) time ((raw_meets times other time).1 f g) in
    nothing_before (earlier_end times.end other.end) (max times.start other.start) time (is_empty (ends_by (earlier_end times.end other.end) (max times.start other.start)) (raw_meet times other) h) p.0 p.1

end_fits : (own other : Option ℕ) (a b start : ℕ) → IfSome own (λ e. (a < e) × (e < 2 ^ 64)) → IfSome other (λ e. (b < e) × (e < 2 ^ 64)) → ends_by (earlier_end own other) start ≡ false
    → IfSome (earlier_end own other) (λ e. (start < e) × (e < 2 ^ 64))
end_fits None None a b start f g h = tt
end_fits None (Some e) a b start f g h = (later e start h, g.1)
end_fits (Some end) None a b start f g h = (later end start h, f.1)
end_fits (Some end) (Some e) a b start f g h = (later (min end e) start h, omega (arith, f.1))

times_fit : (times other both : Times) → meet_times times other ≡ Some both → IsTimes times → IsTimes other → IsTimes both
times_fit times other both h f g =
    let c = not_empty (ends_by (earlier_end times.end other.end) (max times.start other.start)) (raw_meet times other) both h in
    let ends = end_fits times.end other.end times.start other.start (max times.start other.start) f.ends g.ends c.0 in
    subst IsTimes c.1 (record { starts = omega (arith, f.starts, g.starts); ends = ends })

-- ---- areas

-- what the fields of an intersection are
record Parts (area other both : Area) : Type 0 where
  subspace_is : meet_subspace area.subspace other.subspace ≡ Some both.subspace
  path_is : meet_path area.path other.path ≡ Some both.path
  times_are : meet_times area.times other.times ≡ Some both.times

fields : (subspace : Option (Option (List ℕ))) (path : Option (List (List ℕ))) (times : Option Times) (both : Area) → area_of subspace path times ≡ Some both
    → (subspace ≡ Some both.subspace) × (path ≡ Some both.path) × (times ≡ Some both.times)
fields (Some s) (Some p) (Some t) both h =
    let e = some_is (record { subspace = s; path = p; times = t }) both h in
    (ap (λ (a : Area). Some a.subspace) e, ap (λ (a : Area). Some a.path) e, ap (λ (a : Area). Some a.times) e)
fields (Some s) (Some p) None both h = absurd cc
fields (Some s) None times both h = absurd cc
fields None path times both h = absurd cc

no_fields : {G : Type 0} (subspace : Option (Option (List ℕ))) (path : Option (List (List ℕ))) (times : Option Times) → area_of subspace path times ≡ None
    → (subspace ≡ None → G) → (path ≡ None → G) → (times ≡ None → G) → G
no_fields (Some s) (Some p) (Some t) h a b c = absurd cc
no_fields (Some s) (Some p) None h a b c = c refl
no_fields (Some s) None times h a b c = b refl
no_fields None path times h a b c = a refl

parts : (area other both : Area) → meet_area area other ≡ Some both → Parts area other both
unfolding meet_area
parts area other both h =
    let f = fields (meet_subspace area.subspace other.subspace) (meet_path area.path other.path) (meet_times area.times other.times) both h in
    record { subspace_is = f.0; path_is = f.1; times_are = f.2 }

pub meet_area-some : (area other both : Area) → meet_area area other ≡ Some both → HasTriplesOfBoth both area other
meet_area-some area other both h subspace path time =
    let p = parts area other both h in
    let s = subspaces_meet area.subspace other.subspace both.subspace subspace p.subspace_is in
    let q = paths_meet area.path other.path both.path path p.path_is in
    let t = times_meet area.times other.times both.times time p.times_are in (
      (λ f.
          let a = passes_area both subspace path time f in
          let s' = s.0 a.subspace_fits in
          let q' = q.0 a.path_fits in
          let t' = t.0 a.time_fits in (
            area_passes area subspace path time (record { subspace_fits = s'.0; path_fits = q'.0; time_fits = t'.0 }),
            area_passes other subspace path time (record { subspace_fits = s'.1; path_fits = q'.1; time_fits = t'.1 }),
          )),
      (λ f.
          let a = passes_area area subspace path time f.0 in
          let b = passes_area other subspace path time f.1 in
          area_passes both subspace path time (record {
            subspace_fits = s.1 a.subspace_fits b.subspace_fits;
            path_fits = q.1 a.path_fits b.path_fits;
            time_fits = t.1 a.time_fits b.time_fits;
          })),
    )

apart : (area other : Area) → meet_area area other ≡ None → AreApart area other
unfolding meet_area
apart area other h subspace path time t f g =
    let a = passes_area area subspace path time f in
    let b = passes_area other subspace path time g in
    no_fields {G = ⊥} (meet_subspace area.subspace other.subspace) (meet_path area.path other.path) (meet_times area.times other.times) h
    (λ e. no_subspace area.subspace other.subspace subspace e a.subspace_fits b.subspace_fits)
    (λ e. no_path area.path other.path path e a.path_fits b.path_fits)
    (λ e. no_time area.times other.times time e a.time_fits b.time_fits)

-- the intersection of areas within the limits is within them
pub meet_area-fits : (area other both : Area) → meet_area area other ≡ Some both → IsArea area → IsArea other → IsArea both
meet_area-fits area other both h f g =
    let p = parts area other both h in
    record {
      subspace_fits = subspace_fits area.subspace other.subspace both.subspace p.subspace_is f.subspace_fits g.subspace_fits;
      path_fits = path_fits area.path other.path both.path p.path_is f.path_fits g.path_fits;
      times_fit = times_fit area.times other.times both.times p.times_are f.times_fit g.times_fit;
    }

some_key : Option (List ℕ) → List ℕ
some_key None = least_key
some_key (Some key) = key

some_key-fits : (own : Option (List ℕ)) → IfSome own IsKey → IsKey (some_key own) × Fits own (some_key own)
unfolding some_key
some_key-fits None f = (least_fits, refl)
some_key-fits (Some key) f = (f, is_key key)

-- an area within the limits has a triple
pub inhabited : (area : Area) → IsArea area → (subspace : List ℕ) × (path : List (List ℕ)) × (time : ℕ) × IsTriple subspace path time × IsTrue (in_area area subspace path time)
inhabited area f =
    let k = some_key-fits area.subspace f.subspace_fits in (
      some_key area.subspace,
      area.path,
      area.times.start,
      record { key = k.0; path_fits = f.path_fits; time_fits = f.times_fit.starts },
      area_passes area (some_key area.subspace) area.path area.times.start (record { subspace_fits = k.1; path_fits = prefix_itself area.path; time_fits = first_time area.times f.times_fit }),
    )

nothing : (area other : Area) → IsArea area → IsArea other → AreApart area other → (meet : Option Area) → meet_area area other ≡ meet → meet ≡ None
nothing area other f g no_triple None h = refl
nothing area other f g no_triple (Some both) h =
    let i = inhabited both (meet_area-fits area other both h f g) in
    let b = (meet_area-some area other both h i.0 i.1 i.2).0 i.4 in
    absurd (no_triple i.0 i.1 i.2 i.3 b.0 b.1)

pub meet_area-none : (area other : Area) → IsArea area → IsArea other → (meet_area area other ≡ None) ↔ AreApart area other
meet_area-none area other f g = (apart area other, λ n. nothing area other f g n (meet_area area other) refl)

-- ---- the same of what a call answers

both_of_some : (area other : Area) (meet : Option Area) → meet ≡ meet_area area other → IfSome meet (λ both. HasTriplesOfBoth both area other)
both_of_some area other None e = tt
both_of_some area other (Some both) e = meet_area-some area other both (sym e)

pub answers_both : {E : Type 0} (area other : Area) (answer : Result (Option Area) E) → IfOk answer (λ meet. meet ≡ meet_area area other)
    → IfOk answer (λ meet. IfSome meet (λ both. HasTriplesOfBoth both area other))
answers_both area other (Ok meet) h = both_of_some area other meet h
answers_both area other (Err e) h = tt

pub answers_none : {E : Type 0} (area other : Area) (answer : Result (Option Area) E) → IsArea area → IsArea other → IfOk answer (λ meet. meet ≡ meet_area area other)
    → IfOk answer (λ meet. (meet ≡ None) ↔ AreApart area other)
answers_none area other (Ok meet) f g h = rw h (meet_area-none area other f g)
answers_none area other (Err e) f g h = tt
