-- From the status of an end back to the end.
use Rattle.std.proofs.Common.{◌≡◌, ◌⊎◌, inl, inr, ℕ, ◌≤◌, ◌<◌, Bool, true, false, cond, eqb, List, [], ◌∷◌, ◌++◌, map, Contains, Option, Some, None, refl, sym, subst, arith}
use Rattle.std.specs.Prelude.{Result, Ok, Err}
use Rattle.std.proofs.lemmas.Bool.{eqb-true}
use Rattle.std.proofs.lemmas.Bool.Decides.{nat_tests}
use Rattle.std.proofs.lemmas.List.Elements.{Contains-append_cases}
use Rattle.mc_cap.specs.declared.refusal.RefusedRow.{RefusedRow}
use Rattle.session_end.specs.declared.end.SessionEnd.{SessionEnd}
use Rattle.call_rules.specs.Told.{IsTold, first_met, told_order}
use Rattle.call_rules.proofs.Elements.{contains_from_map, one_of_three}
use Rattle.call_rules.proofs.Told.{told_met, told_known}
use Rattle.peer_stage.specs.Status.{status_of, stop_status, refused_status, first_status, session_status, tail_status, accept_status, put_status, statuses_met}
use Rattle.peer_stage.specs.declared.outcome.FollowCounts.{FollowCounts}
use Rattle.peer_stage.specs.declared.outcome.SessionCounts.{SessionCounts}
use Rattle.peer_stage.specs.declared.outcome.Hosted.{Hosted}
use Rattle.peer_stage.specs.declared.outcome.Done.{Done}
use Rattle.peer_stage.specs.declared.outcome.Done.TheVariants as done
use Rattle.peer_stage.specs.declared.outcome.Stop.{Stop}
use Rattle.peer_stage.specs.declared.outcome.Stop.TheVariants as stop

-- ---- refused rows

-- of one thing that was met the status is its own
pub refused_only : (refused : ℕ) → first_met told_order (refused_status refused ∷ []) ≡ refused_status refused
unfolding first_met
refused_only refused = one (eqb refused 0) where
  one : (b : Bool) → first_met told_order (cond b 0 1 ∷ []) ≡ cond b 0 1
  one true = refl
  one false = refl

refused_small : (refused : ℕ) → refused_status refused ≤ 1
refused_small refused = small (eqb refused 0) where
  small : (b : Bool) → cond b 0 1 ≤ 1
  small true = omega arith
  small false = omega arith

pub refused_none : (refused : ℕ) → refused_status refused ≡ 0 → refused ≡ 0
refused_none refused e = eqb-true _ _ (test (eqb refused 0) 0 (sym e) refl) where
  test : (b : Bool) (s : ℕ) → s ≡ cond b 0 1 → s ≡ 0 → b ≡ true
  test true s h zero_is = refl
  test false s h zero_is = absurd (omega (arith, h, zero_is))

pub refused_some : (refused : ℕ) → refused_status refused ≡ 1 → 0 < refused
refused_some refused e = above (eqb refused 0) 1 refl (sym e) refl where
  above : (b : Bool) (s : ℕ) → eqb refused 0 ≡ b → s ≡ cond b 0 1 → s ≡ 1 → 0 < refused
  above true s t h one_is = absurd (omega (arith, h, one_is))
  above false s t h one_is = grind (arith, nat_tests)

-- ---- a first refused row

-- of one thing that was met the status is its own
pub first_only : (first : Option RefusedRow) → first_met told_order (first_status first ∷ []) ≡ first_status first
unfolding first_met
first_only None = refl
first_only (Some first) = refl

pub first_small : (first : Option RefusedRow) → first_status first ≤ 1
first_small None = omega arith
first_small (Some first) = omega arith

-- ---- all ends

pub none_met : first_met told_order [] ≡ 0
unfolding first_met
none_met = refl

-- no session was run
abbrev pub IsLocal : Done → Type 0
IsLocal (done.Hosted s) = ⊥
IsLocal (done.Stopped s) = ⊥
IsLocal d = Unit {0}

-- what is done without one gives 0 or 1
pub done_small : (d : Done) → IsLocal d → status_of (Ok d) ≤ 1
done_small (done.Joined counts) is = rw (refused_only counts.refused) (refused_small counts.refused)
done_small (done.Shown counts) is = rw (refused_only counts.refused) (refused_small counts.refused)
done_small (done.Met counts) is = rw (first_only counts.first) (first_small counts.first)
done_small (done.Hosted s) is = absurd is
done_small (done.Stopped s) is = absurd is
done_small (done.Watched counts) is = rw (first_only counts.first) (first_small counts.first)
done_small done.Made is = rw none_met (omega arith)

-- ---- sessions

pub accept_few : (all_came : Bool) (status : ℕ) → accept_status all_came ≡ status → (status ≡ 0) ⊎ (status ≡ 3)
accept_few true status is = inl (sym is)
accept_few false status is = inr (sym is)

pub put_few : (put : Bool) (status : ℕ) → put_status put ≡ status → (status ≡ 0) ⊎ (status ≡ 4)
put_few true status is = inl (sym is)
put_few false status is = inr (sym is)

-- what came of sessions has no other status than what was met on the way
pub hosted_known : (s : Hosted) → IsTold (status_of (Ok (done.Hosted s)))
hosted_known s = told_known (statuses_met (done.Hosted s))

-- a session has this status
abbrev pub HasSession : Hosted → ℕ → Type 0
HasSession s status = (session : Result SessionCounts SessionEnd) × Contains s.sessions.items session × (session_status session ≡ status)

-- what followed one has it
abbrev pub HasTail : Hosted → ℕ → Type 0
HasTail s status = (tail : Option (Result FollowCounts SessionEnd)) × Contains s.tails.items tail × (tail_status tail ≡ status)

-- above 4 a session has it, or what followed one
pub above_gave : (s : Hosted) (status : ℕ) → status_of (Ok (done.Hosted s)) ≡ status → 4 < status → HasSession s status ⊎ HasTail s status
above_gave s status is large = elim (subst (λ (k : ℕ). (k ≡ 0) ⊎ Contains (statuses_met (done.Hosted s)) k) is (told_met told_order (statuses_met (done.Hosted s)))) [
  | inl none ↦ absurd (omega (arith, none, large))
  | inr at ↦ elim (Contains-append_cases (map session_status s.sessions.items) (map tail_status s.tails.items ++ last) status at) [
    | inl session ↦ inl (contains_from_map session_status s.sessions.items status session)
    | inr beside ↦ inr (elim (Contains-append_cases (map tail_status s.tails.items) last status beside) [
      | inl tail ↦ contains_from_map tail_status s.tails.items status tail
      | inr other ↦ absurd (elim (one_of_three (accept_status s.all_came) (put_status s.put) (first_status s.first) status other) [
        | inl accept ↦ elim (accept_few s.all_came status accept) [ inl none ↦ omega (arith, none, large) | inr three ↦ omega (arith, three, large) ]
        | inr (inl put) ↦ elim (put_few s.put status put) [ inl none ↦ omega (arith, none, large) | inr four ↦ omega (arith, four, large) ]
        | inr (inr first) ↦ let small = first_small s.first in omega (arith, first, small, large)
      ])
    ])
  ]
]
  where
    last : List ℕ
    last = accept_status s.all_came ∷ (put_status s.put ∷ (first_status s.first ∷ []))

-- no stop has another status
pub stop_known : (e : Stop) → stop_status e ≤ 9
stop_known stop.NoMemory = omega arith
stop_known e = omega arith

-- no end has another status
pub known : (end : Result Done Stop) → status_of end ≤ 9
known (Ok (done.Hosted s)) = omega (arith, (hosted_known s).small)
known (Ok (done.Stopped s)) = stop_known s.stop
known (Ok (done.Joined counts)) = omega (arith, done_small (done.Joined counts) tt)
known (Ok (done.Shown counts)) = omega (arith, done_small (done.Shown counts) tt)
known (Ok (done.Met counts)) = omega (arith, done_small (done.Met counts) tt)
known (Ok (done.Watched counts)) = omega (arith, done_small (done.Watched counts) tt)
known (Ok done.Made) = omega (arith, done_small done.Made tt)
known (Err e) = stop_known e

-- ---- stops

-- what may keep a command from its end, but for faults, want of memory and a refusal of what is made
abbrev pub IsCondition : Stop → Type 0
IsCondition (stop.Refused refusal) = ⊥
IsCondition stop.ReadFault = ⊥
IsCondition stop.WriteFault = ⊥
IsCondition stop.NoMemory = ⊥
IsCondition e = Unit {0}
