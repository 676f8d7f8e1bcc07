-- One more call joins the record of a disk.
use Rattle.std.proofs.Common.{◌≡◌, ◌⊎◌, inl, inr, ℕ, ◌+◌, ◌<◌, ◌≤◌, max, Bool, true, false, not, cond, IsTrue, Result, Ok, Err, is_err, List, [], ◌∷◌, ◌++◌, length, take, drop, Vec, Some, refl, sym, ◌∙◌, ap, subst, arith, length-append, length-take, length-drop}
use Rattle.std.specs.declared.alloc.Global.{Global}
use Rattle.std.proofs.lemmas.Bool.{cases_eq}
use Rattle.std.proofs.lemmas.List.{take-append-le, take_all, take_at, drop_at, drop-drop}
use Rattle.willow_outside.specs.declared.disk_tape.DiskCall.{DiskCall}
use Rattle.willow_outside.specs.declared.disk_tape.DiskCall.TheVariants.{WriteAt}
use Rattle.willow_outside.specs.DiskRecord.{DiskState, at_rest, after_call, after_calls, state_now, state_at, MayLeave, LeftSince, RecordsWrite, RecordsFault}
use Rattle.willow_outside.specs.Disks.{written, IsTorn, Tears, LeavesNoMore, LeavesContents, Elapses}
use Rattle.willow_outside.specs.Plan.{Plan, fails_next}

pub pushed : (s : DiskState) (calls : List DiskCall) (x : DiskCall) → after_calls s (calls ++ x ∷ []) ≡ after_call (after_calls s calls) x
pushed s [] x = refl
pushed s (call ∷ calls) x = pushed (after_call s call) calls x

pub now_pushed : (first : List ℕ) (calls later : List DiskCall) (x : DiskCall) → later ≡ calls ++ x ∷ [] → state_now first later ≡ after_call (state_now first calls) x
now_pushed first calls later x e = ap (λ (l : List DiskCall). state_now first l) e ∙ pushed (at_rest first) calls x

pub elapses_none : (first : List ℕ) (calls later : List DiskCall) → later ≡ calls → Elapses (length calls) (length later) (LeftSince first calls) (LeftSince first later) (MayLeave (state_now first later))
elapses_none first calls later e =
    subst (λ (l : List DiskCall). Elapses (length calls) (length l) (LeftSince first calls) (LeftSince first l) (MayLeave (state_now first l))) (sym e) (record { later = omega arith; nothing_else = λ t c le left. inl left; keeps = λ t c le left. left })

module _ (first : List ℕ) (calls : List DiskCall) (x : DiskCall) where
  abbrev more : List DiskCall
  more = calls ++ x ∷ []

  same : (k : ℕ) → k ≤ length calls → state_at first more k ≡ state_at first calls k
  same k le = ap (λ (l : List DiskCall). after_calls (at_rest first) l) (take-append-le k calls (x ∷ []) le)

  last : state_at first more (length calls) ≡ state_now first calls
  last = same (length calls) (omega arith) ∙ ap (λ (l : List DiskCall). after_calls (at_rest first) l) (take_all (length calls) calls (omega arith))

  nothing_else : (t : ℕ) (c : List ℕ) → t ≤ length calls → LeftSince first more t c → LeftSince first calls t c ⊎ MayLeave (state_now first more) c
  nothing_else t c le (inl now) = inr now
  nothing_else t c le (inr (k, since, before, left)) = elim (cases_eq k (length calls)) [
    | inl is ↦ inl (inl (subst (λ (s : DiskState). MayLeave s c) (ap (λ (n : ℕ). state_at first more n) is ∙ last) left))
    | inr not ↦
        let earlier : k < length calls = omega (arith, not, before, length-append calls (x ∷ [])) in
        let le : k ≤ length calls = omega (arith, earlier) in
        inl (inr (k, since, earlier, subst (λ (s : DiskState). MayLeave s c) (same k le) left))
  ]

  keeps : (t : ℕ) (c : List ℕ) → t ≤ length calls → LeftSince first calls t c → LeftSince first more t c
  keeps t c le (inl now) = inr (length calls, le, omega (arith, length-append calls (x ∷ [])), subst (λ (s : DiskState). MayLeave s c) (sym last) now)
  keeps t c le (inr (k, since, before, left)) =
      let within : k ≤ length calls = omega (arith, before) in
      inr (k, since, omega (arith, before, length-append calls (x ∷ [])), subst (λ (s : DiskState). MayLeave s c) (sym (same k within)) left)

  elapses_more : Elapses (length calls) (length more) (LeftSince first calls) (LeftSince first more) (MayLeave (state_now first more))
  elapses_more = record { later = omega (arith, length-append calls (x ∷ [])); nothing_else = nothing_else; keeps = keeps }

pub elapses_one : (first : List ℕ) (calls later : List DiskCall) (x : DiskCall) → later ≡ calls ++ x ∷ [] → Elapses (length calls) (length later) (LeftSince first calls) (LeftSince first later) (MayLeave (state_now first later))
elapses_one first calls later x e =
    subst (λ (l : List DiskCall). Elapses (length calls) (length l) (LeftSince first calls) (LeftSince first l) (MayLeave (state_now first l))) (sym e) (elapses_more first calls x)

-- ---- what each call does

pub looked : (first : List ℕ) (calls later : List DiskCall) (x : DiskCall) → later ≡ calls ++ x ∷ [] → ((s : DiskState) → after_call s x ≡ s) → state_now first later ≡ state_now first calls
looked first calls later x e nothing = now_pushed first calls later x e ∙ nothing (state_now first calls)

pub no_more : (s t : DiskState) → t ≡ s → LeavesNoMore (MayLeave s) (MayLeave t)
no_more s t e c left = subst (λ (u : DiskState). MayLeave u c) e left

rested : (contents c : List ℕ) → MayLeave (at_rest contents) c → c ≡ contents
rested contents c (inl e) = e
rested contents c (inr e) = e

pub synced_leaves : (s t : DiskState) → t ≡ at_rest s.contents → LeavesContents (Some s.contents) (MayLeave t)
synced_leaves s t e c left = ap (λ (l : List ℕ). Some l) (sym (rested s.contents c (subst (λ (u : DiskState). MayLeave u c) e left)))

pub synced_no_more : (s t : DiskState) → t ≡ at_rest s.contents → LeavesNoMore (MayLeave s) (MayLeave t)
synced_no_more s t e c left = inl (rested s.contents c (subst (λ (u : DiskState). MayLeave u c) e left))

-- ---- writes

-- nothing torn is torn
pub untorn : (at n : ℕ) (c : List ℕ) → IsTorn at n c c
untorn at n c = record { before = refl; after = refl; no_shorter = omega arith; no_longer = omega arith }

pub tears_none : (at n : ℕ) (s t : DiskState) → t ≡ s → Tears at n (MayLeave s) (MayLeave t)
tears_none at n s t e c left = (c, subst (λ (u : DiskState). MayLeave u c) e left, untorn at n c)

pub length-written : (at : ℕ) (bytes old : List ℕ) → at ≤ length old → length (written at bytes old) ≡ max (length old) (at + length bytes)
length-written at bytes old within =
    omega (arith, length-append (take at old) (bytes ++ drop (at + length bytes) old), length-append bytes (drop (at + length bytes) old), length-take at old, length-drop (at + length bytes) old)

pub written_torn : (at : ℕ) (bytes old : List ℕ) → at ≤ length old → IsTorn at (length bytes) old (written at bytes old)
written_torn at bytes old within =
    let front : length (take at old) ≡ at = omega (arith, length-take at old) in
    let size = length-written at bytes old within in
    record {
      before = take_at (take at old) (bytes ++ drop (at + length bytes) old) at front;
      after =
          sym (drop-drop (length bytes) at (written at bytes old)) ∙ ap (λ (l : List ℕ). drop (length bytes) l) (drop_at (take at old) (bytes ++ drop (at + length bytes) old) at front) ∙ drop_at bytes (drop (at + length bytes) old) (length bytes) refl;
      no_shorter = omega (arith, size);
      no_longer = omega (arith, size);
    }

-- a write, and one that failed
pub tears_one : (at : ℕ) (bytes : Vec ℕ Global) (done : Bool) (s t : DiskState) → at ≤ length s.contents → t ≡ after_call s (WriteAt at bytes done) → Tears at (length bytes.items) (MayLeave s) (MayLeave t)
tears_one at bytes done s t within e c left = torn done (subst (λ (u : DiskState). MayLeave u c) e left)
  where
    torn : (done : Bool) → MayLeave (after_call s (WriteAt at bytes done)) c → (d : List ℕ) × MayLeave s d × IsTorn at (length bytes.items) d c
    torn true (inl now) = (s.contents, inl refl, subst (λ (l : List ℕ). IsTorn at (length bytes.items) s.contents l) (sym now) (written_torn at bytes.items s.contents within))
    torn false (inl now) = (s.contents, inl refl, subst (λ (l : List ℕ). IsTorn at (length bytes.items) s.contents l) (sym now) (untorn at (length bytes.items) s.contents))
    torn true (inr (d, was, tear)) = (d, inr was, tear)
    torn false (inr (d, was, tear)) = (d, inr was, tear)

pub write_contents : (at : ℕ) (bytes : Vec ℕ Global) (piece : List ℕ) (done : Bool) (s t : DiskState) → bytes.items ≡ piece → t ≡ after_call s (WriteAt at bytes done) → t.contents ≡ cond done (written at piece s.contents) s.contents
write_contents at bytes piece true s t is e = ap (λ (u : DiskState). u.contents) e ∙ ap (λ (l : List ℕ). written at l s.contents) is
write_contents at bytes piece false s t is e = ap (λ (u : DiskState). u.contents) e

pub if_done : (done : Bool) (xs ys zs : List ℕ) → IsTrue done → xs ≡ cond done ys zs → xs ≡ ys
if_done true xs ys zs is e = e
if_done false xs ys zs is e = absurd (cc is)

pub write_kept : (at : ℕ) (copy : Vec ℕ Global) (piece old new : List ℕ) (done : Bool) (s t : DiskState) → copy.items ≡ piece → old ≡ s.contents → new ≡ cond done (written at piece old) old → t ≡ after_call s (WriteAt at copy done) → new ≡ t.contents
write_kept at copy piece old new done s t is was made e =
    made ∙ ap (λ (l : List ℕ). cond done (written at piece l) l) was ∙ sym (write_contents at copy piece done s t is e)

-- ---- what a write records

-- one that succeeds
pub wrote : {A E : Type 0} (r : Result A E) (old new : List DiskCall) (at : ℕ) (bytes : List ℕ) (fails : Bool) → is_err r ≡ false → fails ≡ false → RecordsWrite old new at bytes (not fails) r → (copy : Vec ℕ Global) × (copy.items ≡ bytes) × (new ≡ old ++ WriteAt at copy true ∷ [])
wrote (Ok x) old new at bytes false well goes (copy, same, e) = (copy, same, e)
wrote (Ok x) old new at bytes true well goes w = absurd (cc goes)
wrote (Err e) old new at bytes fails well goes w = absurd (cc well)

-- and one that does not, since it is to fail or memory is wanting
pub wrote_not : {A E : Type 0} (r : Result A E) (plan : Plan) (old new : List DiskCall) (at : ℕ) (bytes : List ℕ) (fails : Bool) → fails ≡ fails_next plan → (fails ≡ true) ⊎ (is_err r ≡ true) → RecordsWrite old new at bytes (not fails) r → ((copy : Vec ℕ Global) × (copy.items ≡ bytes) × RecordsFault plan old new (WriteAt at copy false)) ⊎ (new ≡ old)
wrote_not (Ok x) plan old new at bytes true planned ill (copy, same, e) = inl (copy, same, inl (sym planned, e))
wrote_not (Ok x) plan old new at bytes false planned (inl fails) w = absurd (cc fails)
wrote_not (Ok x) plan old new at bytes false planned (inr ill) w = absurd (cc ill)
wrote_not (Err e) plan old new at bytes fails planned ill w = inr w
