-- Honest parts are so one behind the other, and owe what a command owes.
use Rattle.std.proofs.Common.{◌≡◌, ◌≢◌, ◌⊎◌, inl, inr, ℕ, ◌≤◌, List, [], ◌∷◌, Contains, Option, Some, None, refl, sym, subst, arith}
use Rattle.std.specs.Prelude.{Result, Ok, Err}
use Rattle.call_rules.specs.Told.{IsUnmet, told_order}
use Rattle.call_rules.specs.Parts.{Rules, AreRules, Part, Nothing, IsPassed, Behind, Where, Each, IsStop, IsHonest, IsQuiet, IsWriting, Owes, status_told}
use Rattle.call_rules.proofs.Told.{told_met, three_told, four_told, seven_told, told_known}

module _ {W T E : Type 0} (r : Rules W T E) (are : AreRules r) where
  -- ---- nothing

  nothing_counts : (old new : W) (told : T) (end : Result T E) → Nothing {E = E} old told new end → r.goes_on old new
  nothing_counts old new told (Ok t) is = subst (λ (w : W). r.goes_on old w) (sym is.0) (are.stays old)
  nothing_counts old new told (Err e) is = absurd is

  pub nothing_honest : IsHonest r Nothing
  nothing_honest =
      record {
        counts = nothing_counts;
        keeps = λ old new told t is status some at. subst (λ (x : T). Contains (r.met x) status) (sym is.1) at;
        unfailed = λ old new told t is three four seven. subst (λ (w : W). r.unfailed old w) (sym is.0) (are.unfailed_there old);
        read_fault = λ old new told t is at. inl (subst (λ (x : T). Contains (r.met x) 3) is.1 at);
        write_fault = λ old new told t is at. inl (subst (λ (x : T). Contains (r.met x) 4) is.1 at);
        stops = λ old new told e is. absurd is;
      }

  -- ---- one behind the other

  module _ (first next : Part W T E) (one : IsHonest r first) (two : IsHonest r next) where
    passed_counts : (old new : W) (told : T) (end : Result T E) → IsPassed first next old told new end → r.goes_on old new
    passed_counts old new told end p = are.goes_further old p.between new (one.counts old p.between told (Ok p.so_far) p.given) (two.counts p.between new p.so_far end p.rest)

    counts : (old new : W) (told : T) (end : Result T E) → Behind first next old told new end → r.goes_on old new
    counts old new told (Ok t) p = passed_counts old new told (Ok t) p
    counts old new told (Err e) (inl s) = one.counts old new told (Err e) s
    counts old new told (Err e) (inr p) = passed_counts old new told (Err e) p

    -- what is not met in all is not met in the first
    unmet : (old new : W) (told t : T) (p : IsPassed first next old told new (Ok t)) (status : ℕ) → 1 ≤ status → IsUnmet (r.met t) status → IsUnmet (r.met p.so_far) status
    unmet old new told t p status some not at = not (two.keeps p.between new p.so_far t p.rest status some at)

    unfailed : (old new : W) (told t : T) → IsPassed first next old told new (Ok t) → IsUnmet (r.met t) 3 → IsUnmet (r.met t) 4 → IsUnmet (r.met t) 7 → r.unfailed old new
    unfailed old new told t p three four seven =
        are.unfailed_further old p.between new
        (one.unfailed old p.between told p.so_far p.given (unmet old new told t p 3 (omega arith) three) (unmet old new told t p 4 (omega arith) four) (unmet old new told t p 7 (omega arith) seven))
        (two.unfailed p.between new p.so_far t p.rest three four seven)

    read_fault : (old new : W) (told t : T) → IsPassed first next old told new (Ok t) → Contains (r.met t) 3 → Contains (r.met told) 3 ⊎ r.reads old new
    read_fault old new told t p at = elim (two.read_fault p.between new p.so_far t p.rest at) [
      | inr rose ↦ inr (are.reads_before old p.between new (one.counts old p.between told (Ok p.so_far) p.given) rose)
      | inl had ↦ elim (one.read_fault old p.between told p.so_far p.given had) [
        | inl before ↦ inl before
        | inr rose ↦ inr (are.reads_behind old p.between new rose (two.counts p.between new p.so_far (Ok t) p.rest))
      ]
    ]

    write_fault : (old new : W) (told t : T) → IsPassed first next old told new (Ok t) → Contains (r.met t) 4 → Contains (r.met told) 4 ⊎ r.writes old new
    write_fault old new told t p at = elim (two.write_fault p.between new p.so_far t p.rest at) [
      | inr rose ↦ inr (are.writes_before old p.between new (one.counts old p.between told (Ok p.so_far) p.given) rose)
      | inl had ↦ elim (one.write_fault old p.between told p.so_far p.given had) [
        | inl before ↦ inl before
        | inr rose ↦ inr (are.writes_behind old p.between new rose (two.counts p.between new p.so_far (Ok t) p.rest))
      ]
    ]

    stops : (old new : W) (told : T) (e : E) → Behind first next old told new (Err e) → IsStop r old new e
    stops old new told e (inl s) = one.stops old new told e s
    stops old new told e (inr p) =
        let up = one.counts old p.between told (Ok p.so_far) p.given in
        elim (two.stops p.between new p.so_far e p.rest) [
          | inl memory ↦ inl memory
          | inr (inl read) ↦ inr (inl (read.0, are.reads_before old p.between new up read.1))
          | inr (inr write) ↦ inr (inr (write.0, are.writes_before old p.between new up write.1))
        ]

    pub behind_honest : IsHonest r (Behind first next)
    behind_honest =
        record {
          counts = counts;
          keeps = λ old new told t p status some at. two.keeps p.between new p.so_far t p.rest status some (one.keeps old p.between told p.so_far p.given status some at);
          unfailed = unfailed;
          read_fault = read_fault;
          write_fault = write_fault;
          stops = stops;
        }

  -- ---- one that there may be, and one for each

  pub where_honest : {A : Type 0} (may : Option A) (part : A → Part W T E) → ((a : A) → IsHonest r (part a)) → IsHonest r (Where may part)
  where_honest None part honest = nothing_honest
  where_honest (Some a) part honest = honest a

  pub each_honest : {A : Type 0} (all : List A) (part : A → Part W T E) → ((a : A) → IsHonest r (part a)) → IsHonest r (Each all part)
  each_honest [] part honest = nothing_honest
  each_honest (a ∷ rest) part honest = behind_honest (part a) (Each rest part) (honest a) (each_honest rest part honest)

  -- ---- the simple kinds

  pub quiet_honest : (part : Part W T E) → IsQuiet r part → IsHonest r part
  quiet_honest part is =
      record {
        counts = is.counts;
        keeps = λ old new told t did status some at. subst (λ (met : List ℕ). Contains met status) (sym (is.same old new told t did)) at;
        unfailed = λ old new told t did three four seven. is.unfailed old new told t did;
        read_fault = λ old new told t did at. inl (subst (λ (met : List ℕ). Contains met 3) (is.same old new told t did) at);
        write_fault = λ old new told t did at. inl (subst (λ (met : List ℕ). Contains met 4) (is.same old new told t did) at);
        stops = λ old new told e did. inl (is.stops old new told e did);
      }

  module _ (part : Part W T E) (is : IsWriting r part) where
    writing_keeps : (old new : W) (told t : T) → part old told new (Ok t) → (status : ℕ) → 1 ≤ status → Contains (r.met told) status → Contains (r.met t) status
    writing_keeps old new told t did status some at = elim (is.told_so old new told t did) [
      | inl same ↦ subst (λ (met : List ℕ). Contains met status) (sym same.0) at
      | inr failed ↦ failed.2 status some at
    ]

    writing_unfailed : (old new : W) (told t : T) → part old told new (Ok t) → IsUnmet (r.met t) 3 → IsUnmet (r.met t) 4 → IsUnmet (r.met t) 7 → r.unfailed old new
    writing_unfailed old new told t did three four seven = elim (is.told_so old new told t did) [
      | inl same ↦ same.1
      | inr failed ↦ absurd (four failed.1)
    ]

    writing_read : (old new : W) (told t : T) → part old told new (Ok t) → Contains (r.met t) 3 → Contains (r.met told) 3 ⊎ r.reads old new
    writing_read old new told t did at = elim (is.told_so old new told t did) [
      | inl same ↦ inl (subst (λ (met : List ℕ). Contains met 3) same.0 at)
      | inr failed ↦ elim (failed.3 3 at) [
        | inl none ↦ absurd (omega (arith, none))
        | inr (inl four) ↦ absurd (omega (arith, four))
        | inr (inr had) ↦ inl had
      ]
    ]

    writing_write : (old new : W) (told t : T) → part old told new (Ok t) → Contains (r.met t) 4 → Contains (r.met told) 4 ⊎ r.writes old new
    writing_write old new told t did at = elim (is.told_so old new told t did) [
      | inl same ↦ inl (subst (λ (met : List ℕ). Contains met 4) same.0 at)
      | inr failed ↦ inr failed.0
    ]

    pub writing_honest : IsHonest r part
    writing_honest =
        record { counts = is.counts; keeps = writing_keeps; unfailed = writing_unfailed; read_fault = writing_read; write_fault = writing_write; stops = λ old new told e did. inl (is.stops old new told e did) }

  -- ---- by the status

  module _ (part : Part W T E) (is : IsHonest r part) (start : T) (no_three : IsUnmet (r.met start) 3) (no_four : IsUnmet (r.met start) 4) where
    -- the status that is told was met
    was_met : (t : T) (status : ℕ) → status_told r (Ok t) ≡ status → 1 ≤ status → Contains (r.met t) status
    was_met t status told some = elim (told_met told_order (r.met t)) [
      | inl none ↦ absurd (omega (arith, none, told, some))
      | inr at ↦ subst (λ (k : ℕ). Contains (r.met t) k) told at
    ]

    read_met : (old new : W) (t : T) → part old start new (Ok t) → Contains (r.met t) 3 → r.reads old new
    read_met old new t did at = elim (is.read_fault old new start t did at) [ inl before ↦ absurd (no_three before) | inr rose ↦ rose ]

    write_met : (old new : W) (t : T) → part old start new (Ok t) → Contains (r.met t) 4 → r.writes old new
    write_met old new t did at = elim (is.write_fault old new start t did at) [ inl before ↦ absurd (no_four before) | inr rose ↦ rose ]

    by_status : (old new : W) (end : Result T E) → part old start new end → status_told r end ≢ 3 → status_told r end ≢ 4 → status_told r end ≢ 7 → r.unfailed old new
    by_status old new (Ok t) did three four seven = is.unfailed old new start t did (three_told (r.met t) three seven) (four_told (r.met t) three four seven) (seven_told (r.met t) seven)
    by_status old new (Err e) did three four seven = elim (is.stops old new start e did) [
      | inl memory ↦ absurd (seven memory)
      | inr (inl read) ↦ absurd (three read.0)
      | inr (inr write) ↦ absurd (four write.0)
    ]

    -- no other status comes of a stop
    other : (old new : W) (e : E) → part old start new (Err e) → (status : ℕ) → r.stop e ≡ status → (status ≡ 7) ⊎ ((status ≡ 3) ⊎ (status ≡ 4))
    other old new e did status told = elim (is.stops old new start e did) [
      | inl memory ↦ inl (omega (arith, memory, told))
      | inr (inl read) ↦ let three = read.0 in inr (inl (omega (arith, three, told)))
      | inr (inr write) ↦ let four = write.0 in inr (inr (omega (arith, four, told)))
    ]

    not_told : (old new : W) (e : E) → part old start new (Err e) → (status : ℕ) → r.stop e ≡ status → status ≢ 7 → status ≢ 3 → status ≢ 4 → ⊥
    not_told old new e did status told seven three four = elim (other old new e did status told) [ inl is ↦ seven is | inr (inl is) ↦ three is | inr (inr is) ↦ four is ]

    usage : (old new : W) (end : Result T E) → part old start new end → status_told r end ≡ 2 → ⊥
    usage old new (Ok t) did told = (told_known (r.met t)).no_usage told
    usage old new (Err e) did told = not_told old new e did 2 told (λ e. omega (arith, e)) (λ e. omega (arith, e)) (λ e. omega (arith, e))

    no_input : (old new : W) (end : Result T E) → part old start new end → status_told r end ≡ 5 → ⊥
    no_input old new (Ok t) did told = (told_known (r.met t)).no_input told
    no_input old new (Err e) did told = not_told old new e did 5 told (λ e. omega (arith, e)) (λ e. omega (arith, e)) (λ e. omega (arith, e))

    read_fault_told : (old new : W) (end : Result T E) → part old start new end → status_told r end ≡ 3 → r.reads old new
    read_fault_told old new (Ok t) did told = read_met old new t did (was_met t 3 told (omega arith))
    read_fault_told old new (Err e) did told = elim (is.stops old new start e did) [
      | inl memory ↦ absurd (omega (arith, memory, told))
      | inr (inl read) ↦ read.1
      | inr (inr write) ↦ let four = write.0 in absurd (omega (arith, four, told))
    ]

    write_fault_told : (old new : W) (end : Result T E) → part old start new end → status_told r end ≡ 4 → r.writes old new
    write_fault_told old new (Ok t) did told = write_met old new t did (was_met t 4 told (omega arith))
    write_fault_told old new (Err e) did told = elim (is.stops old new start e did) [
      | inl memory ↦ absurd (omega (arith, memory, told))
      | inr (inl read) ↦ let three = read.0 in absurd (omega (arith, three, told))
      | inr (inr write) ↦ write.1
    ]

    complete : (old new : W) (end : Result T E) → part old start new end → (r.reads old new → ⊥) → (r.writes old new → ⊥)
        → ((t : T) → end ≡ Ok t → IsUnmet (r.met t) 6 × IsUnmet (r.met t) 8) → status_told r end ≢ 7 → status_told r end ≤ 1
    complete old new (Ok t) did no_read no_write none seven =
        let no = none t refl in
        (told_known (r.met t)).above
        (λ told. no_read (read_met old new t did (was_met t 3 told (omega arith))))
        (λ told. no_write (write_met old new t did (was_met t 4 told (omega arith))))
        (λ told. no.0 (was_met t 6 told (omega arith)))
        (λ told. no.1 (was_met t 8 told (omega arith)))
        seven
    complete old new (Err e) did no_read no_write none seven = elim (is.stops old new start e did) [
      | inl memory ↦ absurd (seven memory)
      | inr (inl read) ↦ absurd (no_read read.1)
      | inr (inr write) ↦ absurd (no_write write.1)
    ]

    pub owes : Owes r part start
    owes =
        record {
          counts = λ old new end did. is.counts old new start end did;
          unfailed = by_status;
          usage = usage;
          no_input = no_input;
          read_fault = read_fault_told;
          write_fault = write_fault_told;
          was_met = was_met;
          complete = complete;
        }
