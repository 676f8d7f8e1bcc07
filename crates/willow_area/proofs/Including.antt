-- An area includes another exactly where each triple of the other is in it.
use Rattle.std.proofs.Common.{◌≡◌, ℕ, ◌-◌, ◌^◌, ◌<◌, ◌≤◌, Bool, true, false, ◌&&◌, cond, List, [], ◌∷◌, Option, Some, None, nat_eq, nat_le, refl, sym, ◌∙◌, ◌↔◌, IsTrue, arith, replicate, append-nil}
use Rattle.std.specs.Prelude.{IfSome}
use Rattle.std.specs.Cmp.Lexicographic.{pointwise}
use Rattle.willow_path.specs.Key.{IsKey}
use Rattle.willow_path.specs.Path.{is_prefix}
use Rattle.willow_path.proofs.PathOrder.{is_prefix_decides}
use Rattle.willow_area.specs.Times.{Times, in_times, IsTimes, includes_times, ends_later}
use Rattle.willow_area.specs.Area.{includes_area, fits_subspace, includes_subspace, IsArea}
use Rattle.willow_area.specs.AreaMeaning.{Includes}
use Rattle.willow_area.specs.declared.area.Area.{Area}
use Rattle.willow_area.proofs.Membership.{both_of, and_of, is_key, key_is, subspace_every, prefix_on, times_every, time_in, in_time, IsBefore, below, below_holds, not_later_holds, PassesArea, passes_area, area_passes}

-- ---- a triple of an area

pub least_key : List ℕ
least_key = replicate 33 0

second_key : List ℕ
second_key = 1 ∷ replicate 32 0

pub least_fits : IsKey least_key
unfolding least_key
least_fits = record { whole = refl; kind = omega arith; bytes_fit = Prim.search arith }

second_fits : IsKey second_key
unfolding second_key
second_fits = record { whole = refl; kind = omega arith; bytes_fit = Prim.search arith }

-- a key that is not the one that an area asks for
another : Bool → List ℕ
another is_least = cond is_least second_key least_key

another_fits : (is_least : Bool) → IsKey (another is_least)
unfolding another
another_fits true = second_fits
another_fits false = least_fits

differs : (key : List ℕ) (is_least : Bool) → pointwise nat_eq key least_key ≡ is_least → pointwise nat_eq key (another is_least) ≡ true → ⊥
unfolding another least_key second_key
differs key true h k = let p = key_is key least_key h in let q = key_is key second_key k in let e : least_key ≡ second_key = sym p ∙ q in cc
differs key false h k = cc

-- a key of the second subspaces, by which it shows whether the first are all of them
telling_key : Option (List ℕ) → Option (List ℕ) → List ℕ
telling_key own (Some key) = key
telling_key None None = least_key
telling_key (Some key) None = another (pointwise nat_eq key least_key)

telling_fits : (own other : Option (List ℕ)) → IfSome other IsKey → IsKey (telling_key own other)
unfolding telling_key
telling_fits own (Some key) h = h
telling_fits None None h = least_fits
telling_fits (Some key) None h = another_fits (pointwise nat_eq key least_key)

telling_in : (own other : Option (List ℕ)) → fits_subspace other (telling_key own other) ≡ true
unfolding telling_key
telling_in own (Some key) = is_key key
telling_in None None = refl
telling_in (Some key) None = refl

telling : (own other : Option (List ℕ)) → fits_subspace own (telling_key own other) ≡ true → includes_subspace own other ≡ true
unfolding telling_key
telling None other h = refl
telling (Some key) (Some same) h = h
telling (Some key) None h = absurd (differs key (pointwise nat_eq key least_key) refl h)

-- the last time before an end
last_before : Option ℕ → ℕ
last_before None = 2 ^ 64 - 1
last_before (Some end) = end - 1

last_in : (end : Option ℕ) (start : ℕ) → start < 2 ^ 64 → IfSome end (λ e. (start < e) × (e < 2 ^ 64)) → (start ≤ last_before end) × IsBefore (last_before end) end × (last_before end < 2 ^ 64) × IsBefore start end
unfolding last_before
last_in None start h k = (omega arith, refl, omega arith, refl)
last_in (Some end) start h k = (omega (arith, k.0), below_holds (end - 1) end (omega (arith, k.0)), omega (arith, k.1), below_holds start end k.0)

ends_tell : (own other : Option ℕ) → IfSome own (λ e. e < 2 ^ 64) → IsBefore (last_before other) own → ends_later own other ≡ true
unfolding last_before
ends_tell None other h k = refl
ends_tell (Some end) None h k = absurd (omega (arith, h, below (2 ^ 64 - 1) end k))
ends_tell (Some end) (Some e) h k = not_later_holds e end (omega (arith, below (e - 1) end k))

end_limit : (end : Option ℕ) (start : ℕ) → IfSome end (λ e. (start < e) × (e < 2 ^ 64)) → IfSome end (λ e. e < 2 ^ 64)
end_limit None start h = tt
end_limit (Some end) start h = h.1

pub first_time : (times : Times) → IsTimes times → in_times times times.start ≡ true
first_time times t = in_time times times.start (omega arith) (last_in times.end times.start t.starts t.ends).3

last_time : (times : Times) → IsTimes times → in_times times (last_before times.end) ≡ true
last_time times t = let l = last_in times.end times.start t.starts t.ends in in_time times (last_before times.end) l.0 l.1

times_tell : (own other : Times) → IsTimes own → in_times own other.start ≡ true → in_times own (last_before other.end) ≡ true → includes_times own other ≡ true
times_tell own other o h k =
    and_of (nat_le own.start other.start) (ends_later own.end other.end) (not_later_holds own.start other.start (time_in own other.start h).0)
    (ends_tell own.end other.end (end_limit own.end own.start o.ends) (time_in own (last_before other.end) k).1)

-- ---- inclusion

pub prefix_itself : (path : List (List ℕ)) → is_prefix path path ≡ true
prefix_itself path = (is_prefix_decides path path).1 ([], sym (append-nil path))

every : (area other : Area) → includes_area area other ≡ true → Includes area other
unfolding includes_area
every area other h subspace path time t k =
    let p = both_of (includes_subspace area.subspace other.subspace) (is_prefix area.path other.path && includes_times area.times other.times) h in
    let q = both_of (is_prefix area.path other.path) (includes_times area.times other.times) p.1 in
    let passes = passes_area other subspace path time k in
    area_passes area subspace path time (record {
      subspace_fits = subspace_every area.subspace other.subspace subspace p.0 passes.subspace_fits;
      path_fits = prefix_on area.path other.path path q.0 passes.path_fits;
      time_fits = times_every area.times other.times time q.1 passes.time_fits;
    })

-- a triple of the other area at this time is in the area
tried : (area other : Area) (time : ℕ) → Includes area other → IsArea other → time < 2 ^ 64 → in_times other.times time ≡ true → PassesArea area (telling_key area.subspace other.subspace) other.path time
tried area other time inc fits lt h =
    let key = telling_key area.subspace other.subspace in
    passes_area area key other.path time (inc key other.path time
    (record { key = telling_fits area.subspace other.subspace fits.subspace_fits; path_fits = fits.path_fits; time_fits = lt })
    (area_passes other key other.path time (record { subspace_fits = telling_in area.subspace other.subspace; path_fits = prefix_itself other.path; time_fits = h })))

only : (area other : Area) → IsArea area → IsArea other → Includes area other → includes_area area other ≡ true
unfolding includes_area
only area other own fits inc =
    let last = last_in other.times.end other.times.start fits.times_fit.starts fits.times_fit.ends in
    let a = tried area other other.times.start inc fits fits.times_fit.starts (first_time other.times fits.times_fit) in
    let b = tried area other (last_before other.times.end) inc fits last.2 (last_time other.times fits.times_fit) in
    and_of (includes_subspace area.subspace other.subspace) (is_prefix area.path other.path && includes_times area.times other.times) (telling area.subspace other.subspace a.subspace_fits)
    (and_of (is_prefix area.path other.path) (includes_times area.times other.times) a.path_fits (times_tell area.times other.times own.times_fit a.time_fits b.time_fits))

pub includes_area-means : (area other : Area) → IsArea area → IsArea other → IsTrue (includes_area area other) ↔ Includes area other
includes_area-means area other own fits = (every area other, only area other own fits)

-- the same of a test that answers for it
pub includes_area-by : (test : Bool) (area other : Area) → IsArea area → IsArea other → test ≡ includes_area area other → IsTrue test ↔ Includes area other
includes_area-by test area other own fits e = rw e (includes_area-means area other own fits)
