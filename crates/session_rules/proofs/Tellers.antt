-- The small session meets what the laws ask.
use Rattle.std.proofs.Common.{◌≡◌, ℕ, suc, Bool, true, false, cond, not, nat_eq, List, [], ◌∷◌, ◌++◌, length, filter, Contains, None, Some, Result, Ok, Err, length-append, refl, ap, subst, ⊎_elim, arith}
use Rattle.std.specs.List.{list_any}
use Rattle.std.proofs.lemmas.List.Elements.{Contains-append_cases, Contains-append_left, Contains-append_right, Contains-push}
use Rattle.session_rules.specs.Machine.{Seen, Whole}
use Rattle.session_rules.specs.Reading.{run}
use Rattle.session_rules.specs.Rounds.{rounds}
use Rattle.session_rules.specs.Messages.{IsReadAs, CanTalk}
use Rattle.session_rules.specs.Talk.{Role, Caller, Answerer, speaks, TellsOwn}
use Rattle.session_rules.specs.Pairs.{GreetEachOther, caller_side, answerer_side}
use Rattle.session_rules.specs.Telling.{NumberTold, Row, All, Teller, Begins, Listens, Compares, Answers, IsDone, told_first, next_told, listened, told_seen, told_spelling, by_telling, tellers}
use Rattle.session_rules.proofs.Holding.{IsOwn, own_told}

one_byte : {M : Type 0} (sees : List ℕ → Seen M) (byte : ℕ) (m : M) → sees (byte ∷ []) ≡ Whole m → IsReadAs sees (byte ∷ []) m
one_byte sees byte m e = record {
  some_bytes = omega arith;
  whole = e;
  part = λ held due joined some more. absurd (omega (arith, ap length joined, length-append held due));
}

pub they_greet : GreetEachOther tellers
they_greet = record {
  calls = refl;
  answers = refl;
  caller_hears = record { hello_read = one_byte tellers.greeting.sees_hello 6 6 refl; hello_passes = refl; proof_read = one_byte tellers.greeting.sees_proof 16 16 refl; proof_passes = refl };
  answerer_hears = record { hello_read = one_byte tellers.greeting.sees_hello 9 9 refl; hello_passes = refl; proof_read = one_byte tellers.greeting.sees_proof 15 15 refl; proof_passes = refl };
}

row_read : (n : ℕ) → told_seen (suc n ∷ []) ≡ Whole (Row n) → IsReadAs told_seen (told_spelling (Row n)) (Row n)
row_read n e = one_byte told_seen (suc n) (Row n) e

pub they_talk : CanTalk (caller_side tellers) (answerer_side tellers) 1
unfolding run rounds speaks
they_talk = record {
  first_reads = (row_read 2 refl, (one_byte told_seen 0 All refl, tt));
  second_reads = (row_read 1 refl, (row_read 3 refl, (row_read 5 refl, (one_byte told_seen 0 All refl, tt))));
}

-- ---- they tell only rows that they began with

-- what is held is among these rows
abbrev Within : List ℕ → List ℕ → Type 0
Within rows held = (row : ℕ) → Contains held row → Contains rows row

abbrev HoldsOf : List ℕ → Teller → Type 0
HoldsOf rows (Begins own) = Within rows own
HoldsOf rows Listens = Unit {0}
HoldsOf rows (Compares own told) = Within rows own
HoldsOf rows (Answers own) = Within rows own
HoldsOf rows IsDone = Unit {0}

within_rest : (rows own : List ℕ) (n : ℕ) → Within rows (n ∷ own) → Within rows own
within_rest rows own n h row c = h row (Contains-append_right (n ∷ []) own row c)

within_first : (rows own : List ℕ) (n : ℕ) → Within rows (n ∷ own) → Contains rows n
within_first rows own n h = h n (Contains-append_left (n ∷ []) own n (Contains-push [] n))

filter_one : (b : Bool) (n : ℕ) (rest own : List ℕ) → Within own rest → Within (n ∷ own) (cond b (n ∷ rest) rest)
filter_one true n rest own h row c =
    ⊎_elim (λ here. Contains-append_left (n ∷ []) own row here) (λ there. Contains-append_right (n ∷ []) own row (h row there)) (Contains-append_cases (n ∷ []) rest row c)
filter_one false n rest own h row c = Contains-append_right (n ∷ []) own row (h row c)

filter_within : (p : ℕ → Bool) (own : List ℕ) → Within own (filter p own)
filter_within p [] row c = c
filter_within p (n ∷ own) row c = filter_one (p n) n (filter p own) own (filter_within p own) row c

same_some : {A : Type 0} (x y : A) → Some x ≡ Some y → x ≡ y
same_some x y e = cc

same_ok : {A E : Type 0} (x y : A) → ◌≡◌ {A = Result A E} (Ok x) (Ok y) → x ≡ y
same_ok x y e = cc

not_none : {A : Type 0} (x : A) → None ≡ Some x → ⊥
not_none x e = cc

not_err : {A E : Type 0} (x : A) (e : E) → ◌≡◌ {A = Result A E} (Err e) (Ok x) → ⊥
not_err x e h = cc

abbrev Kept : List ℕ → NumberTold × Teller → Type 0
Kept rows step = HoldsOf rows step.1 × IsOwn by_telling rows step.0

no_row : (rows : List ℕ) → IsOwn by_telling rows All
no_row rows row e = absurd (not_none row e)

own_row : (rows : List ℕ) (n : ℕ) → Contains rows n → IsOwn by_telling rows (Row n)
own_row rows n c row e = subst (Contains rows) (same_some n row e) c

kept_said : (rows : List ℕ) (t : Teller) (step : NumberTold × Teller) → HoldsOf rows t → next_told t ≡ Some step → Kept rows step
kept_said rows (Begins []) step holds e = subst (Kept rows) (same_some (All, Listens) step e) (tt, no_row rows)
kept_said rows (Begins (n ∷ own)) step holds e =
    subst (Kept rows) (same_some (Row n, Begins own) step e) (within_rest rows own n holds, own_row rows n (within_first rows own n holds))
kept_said rows Listens step holds e = absurd (not_none step e)
kept_said rows (Compares own told) step holds e = absurd (not_none step e)
kept_said rows (Answers []) step holds e = subst (Kept rows) (same_some (All, IsDone) step e) (tt, no_row rows)
kept_said rows (Answers (n ∷ own)) step holds e =
    subst (Kept rows) (same_some (Row n, Answers own) step e) (within_rest rows own n holds, own_row rows n (within_first rows own n holds))
kept_said rows IsDone step holds e = absurd (not_none step e)

kept_heard : (rows : List ℕ) (t next : Teller) (item : NumberTold) → HoldsOf rows t → listened t item ≡ Ok next → HoldsOf rows next
kept_heard rows (Begins own) next item holds e = absurd (not_err next 2 e)
kept_heard rows Listens next (Row n) holds e = subst (HoldsOf rows) (same_ok Listens next e) tt
kept_heard rows Listens next All holds e = subst (HoldsOf rows) (same_ok IsDone next e) tt
kept_heard rows (Compares own told) next (Row n) holds e = subst (HoldsOf rows) (same_ok (Compares own (told ++ n ∷ [])) next e) holds
kept_heard rows (Compares own told) next All holds e =
    let left = filter (λ r. not (list_any (nat_eq r) told)) own in
    subst (HoldsOf rows) (same_ok (Answers left) next e) (λ row c. holds row (filter_within (λ r. not (list_any (nat_eq r) told)) own row c))
kept_heard rows (Answers own) next item holds e = absurd (not_err next 2 e)
kept_heard rows IsDone next item holds e = absurd (not_err next 2 e)

first_holds : (role : Role) (rows : List ℕ) → HoldsOf rows (told_first role rows)
first_holds Caller rows = λ row c. c
first_holds Answerer rows = λ row c. c

pub they_tell_own : TellsOwn by_telling
they_tell_own role rows agreed bytes item row c is =
    own_told by_telling rows (HoldsOf rows) (λ t next item holds e. kept_said rows t (item, next) holds e) (λ t next item holds e. kept_heard rows t next item holds e)
    role rows agreed (first_holds role rows) bytes item row c is
