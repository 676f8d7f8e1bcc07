-- What the end of a run with a log file says of what it came to.
use Rattle.std.proofs.Common.{◌≡◌, ◌≢◌, ◌⊎◌, ◌∙◌, ℕ, ◌≤◌, Bool, true, false, ◌&&◌, not, eqb, List, [], ◌∷◌, ◌++◌, map, Contains, inl, inr, refl, sym, ap, subst, arith, eqb-true, eq-eqb}
use Rattle.std.specs.Prelude.{Result, Ok, Err}
use Rattle.std.proofs.lemmas.List.Elements.{Contains-append_cases, Contains-append_left, Contains-append_right}
use Rattle.call_rules.specs.Told.{first_met, told_order}
use Rattle.call_rules.proofs.Elements.{one_of_three}
use Rattle.call_rules.proofs.Told.{four_told, seven_told, three_told, told_met}
use Rattle.peer_stage.specs.Status.{accept_status, first_status, put_status, session_status, status_of, tail_status}
use Rattle.peer_stage.specs.declared.outcome.Done.{Done}
use Rattle.peer_stage.specs.declared.outcome.Done.TheVariants as done
use Rattle.peer_stage.specs.declared.outcome.Hosted.{Hosted}
use Rattle.peer_stage.specs.declared.outcome.Stop.{Stop}
use Rattle.peer_run.specs.LogClosing.{filed_end, kept_told}
use Rattle.peer_run.specs.LogFiles.{FileState}

-- a number that is not another than some other is that one
stable : (x k : ℕ) → ((x ≡ k → ⊥) → ⊥) → x ≡ k
stable x k same = by (eqb x k) refl where
  by : (b : Bool) → eqb x k ≡ b → x ≡ k
  by true is = eqb-true x k is
  by false is = absurd (same (λ e. let yes : true ≡ false = sym (eq-eqb x k e) ∙ is in absurd cc))

-- ---- lists of statuses of which one is another

-- the statuses of sessions and what is behind them, with this one of the put
abbrev with_one : List ℕ → List ℕ → ℕ → ℕ → ℕ → List ℕ
with_one sessions tails accept first put = sessions ++ (tails ++ (accept ∷ (put ∷ (first ∷ []))))

module _ (sessions tails : List ℕ) (accept first : ℕ) where
  abbrev met : ℕ → List ℕ
  met put = with_one sessions tails accept first put

  last_at : (put status : ℕ) → Contains (accept ∷ (put ∷ (first ∷ []))) status → Contains (met put) status
  last_at put status at = Contains-append_right sessions _ status (Contains-append_right tails _ status at)

  -- what is met with one is met with the other
  moved : (put other status : ℕ) → status ≢ put → Contains (met put) status → Contains (met other) status
  moved put other status unlike at = elim (Contains-append_cases sessions (tails ++ (accept ∷ (put ∷ (first ∷ [])))) status at) [
    | inl here ↦ Contains-append_left sessions _ status here
    | inr later ↦ elim (Contains-append_cases tails (accept ∷ (put ∷ (first ∷ []))) status later) [
      | inl here ↦ Contains-append_right sessions _ status (Contains-append_left tails _ status here)
      | inr behind ↦ elim (one_of_three accept put first status behind) [
        | inl is ↦ last_at other status (0, omega arith, is)
        | inr (inl is) ↦ absurd (unlike (sym is))
        | inr (inr is) ↦ last_at other status (2, omega arith, is)
      ]
    ]
  ]

  put_at : (put : ℕ) → Contains (met put) put
  put_at put = last_at put put (1, omega arith, refl)

-- a status that is told, and is not 0, was met
met_told : (met : List ℕ) (status : ℕ) → 1 ≤ status → first_met told_order met ≡ status → Contains met status
met_told met status some is = elim (told_met told_order met) [ inl none ↦ absurd (omega (arith, none, is, some)) | inr at ↦ subst (λ (k : ℕ). Contains met k) is at ]

-- where 7 is met with one it is told with both
seven_moved : (one other : List ℕ) → (Contains one 7 → Contains other 7) → first_met told_order one ≡ 7 → first_met told_order other ≡ 7
seven_moved one other moves is = stable (first_met told_order other) 7 (λ none. seven_told other none (moves (met_told one 7 (omega arith) is)))

three_moved : (one other : List ℕ) → (Contains one 3 → Contains other 3) → (Contains other 7 → Contains one 7) → first_met told_order one ≡ 3 → first_met told_order other ≡ 3
three_moved one other moves back is =
    let no_seven : first_met told_order one ≢ 7 = λ e. omega (arith, e, is) in
    stable (first_met told_order other) 3 (λ none. three_told other none (λ seven. seven_told one no_seven (back (met_told other 7 (omega arith) seven))) (moves (met_told one 3 (omega arith) is)))

-- ---- of sessions

pub put_stays : (put broken : Bool) → broken ≡ false → (put && not broken) ≡ put
put_stays true false is = refl
put_stays false false is = refl
put_stays put true is = absurd cc

put_lost : (put broken : Bool) → broken ≡ true → (put && not broken) ≡ false
put_lost true true is = refl
put_lost false true is = refl
put_lost put false is = absurd cc

put_small : (put : Bool) (status : ℕ) → status ≢ 0 → status ≢ 4 → status ≢ put_status put
put_small true status zero_no four_no is = zero_no is
put_small false status zero_no four_no is = four_no is

module _ (f : FileState) (s : Hosted) where
  abbrev told : Hosted
  told = kept_told f s

  abbrev by_put : ℕ → List ℕ
  by_put put = with_one (map session_status s.sessions.items) (map tail_status s.tails.items) (accept_status s.all_came) (first_status s.first) put

  -- a file that was kept changes no status
  pub kept_same : f.broken ≡ false → status_of (Ok (done.Hosted told)) ≡ status_of (Ok (done.Hosted s))
  kept_same is = ap (λ (put : Bool). first_met told_order (by_put (put_status put))) (put_stays s.put f.broken is)

  no_put : (status : ℕ) → status ≢ 0 → status ≢ 4 → status ≢ put_status told.put
  no_put status zero_no four_no = put_small told.put status zero_no four_no

  from_told : (status : ℕ) → status ≢ 0 → status ≢ 4 → Contains (by_put (put_status told.put)) status → Contains (by_put (put_status s.put)) status
  from_told status zero_no four_no at = moved (map session_status s.sessions.items) (map tail_status s.tails.items) (accept_status s.all_came) (first_status s.first) (put_status told.put) (put_status s.put) status (put_small told.put status zero_no four_no) at

  to_told : (status : ℕ) → status ≢ 0 → status ≢ 4 → Contains (by_put (put_status s.put)) status → Contains (by_put (put_status told.put)) status
  to_told status zero_no four_no at = moved (map session_status s.sessions.items) (map tail_status s.tails.items) (accept_status s.all_came) (first_status s.first) (put_status s.put) (put_status told.put) status (put_small s.put status zero_no four_no) at

  hosted_seven : status_of (Ok (done.Hosted s)) ≡ 7 → status_of (Ok (done.Hosted told)) ≡ 7
  hosted_seven is = seven_moved (by_put (put_status s.put)) (by_put (put_status told.put)) (to_told 7 (λ e. omega (arith, e)) (λ e. omega (arith, e))) is

  seven_hosted : status_of (Ok (done.Hosted told)) ≡ 7 → status_of (Ok (done.Hosted s)) ≡ 7
  seven_hosted is = seven_moved (by_put (put_status told.put)) (by_put (put_status s.put)) (from_told 7 (λ e. omega (arith, e)) (λ e. omega (arith, e))) is

  three_hosted : status_of (Ok (done.Hosted told)) ≡ 3 → status_of (Ok (done.Hosted s)) ≡ 3
  three_hosted is =
      three_moved (by_put (put_status told.put)) (by_put (put_status s.put)) (from_told 3 (λ e. omega (arith, e)) (λ e. omega (arith, e)))
      (to_told 7 (λ e. omega (arith, e)) (λ e. omega (arith, e))) is

  -- one that was lost is told as a failed put
  four_at : f.broken ≡ true → Contains (by_put (put_status told.put)) 4
  four_at is =
      subst (λ (k : ℕ). Contains (by_put (put_status told.put)) k) (ap put_status (put_lost s.put f.broken is))
      (put_at (map session_status s.sessions.items) (map tail_status s.tails.items) (accept_status s.all_came) (first_status s.first) (put_status told.put))

  hosted_known : (broken : Bool) → f.broken ≡ broken → status_of (Ok (done.Hosted told)) ≢ 3 → status_of (Ok (done.Hosted told)) ≢ 4 → status_of (Ok (done.Hosted told)) ≢ 7 → status_of (Ok (done.Hosted s)) ≡ status_of (Ok (done.Hosted told))
  hosted_known false is three four seven = sym (kept_same is)
  hosted_known true is three four seven = absurd (four_told (by_put (put_status told.put)) three four seven (four_at is))

  hosted_four : (broken : Bool) → f.broken ≡ broken → status_of (Ok (done.Hosted told)) ≡ 4 → (status_of (Ok (done.Hosted s)) ≡ 4) ⊎ (f.broken ≡ true)
  hosted_four false is four = inl (sym (kept_same is) ∙ four)
  hosted_four true is four = inr is

  -- at 0 and 1 it was kept
  pub hosted_small : (broken : Bool) → f.broken ≡ broken → status_of (Ok (done.Hosted told)) ≤ 1 → broken ≡ false
  hosted_small false is small = refl
  hosted_small true is small = absurd (four_told (by_put (put_status told.put)) (λ e. omega (arith, e, small)) (λ e. omega (arith, e, small)) (λ e. omega (arith, e, small)) (four_at is))

-- ---- of any end

pub filed_seven : (f : FileState) (end : Result Done Stop) → status_of end ≡ 7 → status_of (filed_end f end) ≡ 7
filed_seven f (Ok (done.Hosted s)) is = hosted_seven f s is
filed_seven f (Ok d) is = is
filed_seven f (Err e) is = is

pub seven_filed : (f : FileState) (end : Result Done Stop) → status_of (filed_end f end) ≡ 7 → status_of end ≡ 7
seven_filed f (Ok (done.Hosted s)) is = seven_hosted f s is
seven_filed f (Ok d) is = is
seven_filed f (Err e) is = is

pub three_filed : (f : FileState) (end : Result Done Stop) → status_of (filed_end f end) ≡ 3 → status_of end ≡ 3
three_filed f (Ok (done.Hosted s)) is = three_hosted f s is
three_filed f (Ok d) is = is
three_filed f (Err e) is = is

-- the file was lost in sessions
abbrev pub HasLost : FileState → Result Done Stop → Type 0
HasLost f end = (f.broken ≡ true) × (d : Done) × (end ≡ Ok d)

pub four_filed : (f : FileState) (end : Result Done Stop) → status_of (filed_end f end) ≡ 4 → (status_of end ≡ 4) ⊎ HasLost f end
four_filed f (Ok (done.Hosted s)) is = elim (hosted_four f s f.broken refl is) [ inl four ↦ inl four | inr lost ↦ inr (lost, done.Hosted s, refl) ]
four_filed f (Ok d) is = inl is
four_filed f (Err e) is = inl is

pub known_filed : (f : FileState) (end : Result Done Stop) → status_of (filed_end f end) ≢ 3 → status_of (filed_end f end) ≢ 4 → status_of (filed_end f end) ≢ 7 → status_of end ≡ status_of (filed_end f end)
known_filed f (Ok (done.Hosted s)) three four seven = hosted_known f s f.broken refl three four seven
known_filed f (Ok d) three four seven = refl
known_filed f (Err e) three four seven = refl
