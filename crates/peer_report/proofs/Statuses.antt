-- The status of what is done, by what was met on the way.
use Rattle.std.proofs.Common.{◌≡◌, ◌∙◌, ℕ, Bool, true, false, ◌+◌, ◌<◌, ◌≤◌, ◌||◌, ◌==◌, if◌then◌else◌, List, [], ◌∷◌, ◌++◌, map, length, get_or, drop, refl, sym, ap, add-one, drop-cons}
use Rattle.std.specs.Prelude.{Ok}
use Rattle.std.specs.List.{list_any}
use Rattle.std.proofs.lemmas.List.{drop_all}
use Rattle.std.proofs.lemmas.List.Folds.{list_any-append}
use Rattle.call_rules.specs.Told.{first_met, told_order}
use Rattle.peer_stage.specs.Status.{status_of, refused_status, first_status, stop_status}
use Rattle.peer_stage.specs.declared.outcome.Stopped.{Stopped}
use Rattle.peer_stage.specs.declared.outcome.Done.{Done}
use Rattle.peer_stage.specs.declared.outcome.Done.TheVariants as done
use Rattle.peer_stage.specs.declared.outcome.Hosted.{Hosted}
use Rattle.peer_stage.specs.declared.outcome.JoinCounts.{JoinCounts}
use Rattle.peer_stage.specs.declared.outcome.ShowCounts.{ShowCounts}
use Rattle.peer_stage.specs.declared.outcome.MeetCounts.{MeetCounts}
use Rattle.peer_stage.specs.declared.outcome.WatchCounts.{WatchCounts}
use Rattle.peer_stage.proofs.Ends.{refused_only, first_only, none_met}

pub joined_status : (d : Done) (counts : JoinCounts) (s : ℕ) → d ≡ done.Joined counts → s ≡ refused_status counts.refused → s ≡ status_of (Ok d)
joined_status d counts s is status = status ∙ sym (refused_only counts.refused) ∙ ap (λ (x : Done). status_of (Ok x)) (sym is)

pub shown_status : (d : Done) (counts : ShowCounts) (s : ℕ) → d ≡ done.Shown counts → s ≡ refused_status counts.refused → s ≡ status_of (Ok d)
shown_status d counts s is status = status ∙ sym (refused_only counts.refused) ∙ ap (λ (x : Done). status_of (Ok x)) (sym is)

pub met_status : (d : Done) (counts : MeetCounts) (s : ℕ) → d ≡ done.Met counts → s ≡ first_status counts.first → s ≡ status_of (Ok d)
met_status d counts s is status = status ∙ sym (first_only counts.first) ∙ ap (λ (x : Done). status_of (Ok x)) (sym is)

pub watched_status : (d : Done) (counts : WatchCounts) (s : ℕ) → d ≡ done.Watched counts → s ≡ first_status counts.first → s ≡ status_of (Ok d)
watched_status d counts s is status = status ∙ sym (first_only counts.first) ∙ ap (λ (x : Done). status_of (Ok x)) (sym is)

pub made_status : (d : Done) → d ≡ done.Made → 0 ≡ status_of (Ok d)
made_status d is = sym none_met ∙ ap (λ (x : Done). status_of (Ok x)) (sym is)

pub stopped_status : (d : Done) (x : Stopped) (s : ℕ) → d ≡ done.Stopped x → s ≡ stop_status x.stop → s ≡ status_of (Ok d)
stopped_status d x s is status = status ∙ ap (λ (y : Done). status_of (Ok y)) (sym is)

-- of sessions
pub hosted_told : (d : Done) (s : Hosted) (status : ℕ) → d ≡ done.Hosted s → status ≡ status_of (Ok (done.Hosted s)) → status ≡ status_of (Ok d)
hosted_told d s status is given = given ∙ ap (λ (x : Done). status_of (Ok x)) (sym is)

-- ---- the status of sessions

any_of_map : {A : Type 0} (status : ℕ) (f : A → ℕ) (xs : List A) → list_any (λ met. met == status) (map f xs) ≡ list_any (λ x. f x == status) xs
any_of_map status f [] = refl
any_of_map status f (x ∷ xs) = ap (λ b. (f x == status) || b) (any_of_map status f xs)

-- one of these has it, or one of the others
any_behind : {A : Type 0} (status : ℕ) (f : A → ℕ) (xs : List A) (others : List ℕ) → list_any (λ met. met == status) (map f xs ++ others) ≡ (list_any (λ x. f x == status) xs || list_any (λ met. met == status) others)
any_behind status f xs others = list_any-append (λ met. met == status) (map f xs) others ∙ ap (λ b. b || list_any (λ met. met == status) others) (any_of_map status f xs)

-- one of these has it
pub by_these : {A : Type 0} (status : ℕ) (f : A → ℕ) (xs ys : List A) (others : List ℕ) (found : Bool) → ys ≡ xs → found ≡ list_any (λ x. f x == status) ys → found ≡ true → found ≡ list_any (λ met. met == status) (map f xs ++ others)
by_these status f xs ys others found are is holds =
    let here : list_any (λ x. f x == status) xs ≡ true = ap (list_any (λ x. f x == status)) (sym are) ∙ sym is ∙ holds in
    holds ∙ sym (any_behind status f xs others ∙ ap (λ b. b || list_any (λ met. met == status) others) here)

-- none of these has it: it is by the others
pub by_others : {A : Type 0} (status : ℕ) (f : A → ℕ) (xs ys : List A) (others : List ℕ) (found other : Bool) → ys ≡ xs → found ≡ list_any (λ x. f x == status) ys → found ≡ false → other ≡ list_any (λ met. met == status) others
    → other ≡ list_any (λ met. met == status) (map f xs ++ others)
by_others status f xs ys others found other are is fails beside =
    let none : list_any (λ x. f x == status) xs ≡ false = ap (list_any (λ x. f x == status)) (sym are) ∙ sym is ∙ fails in
    beside ∙ sym (any_behind status f xs others ∙ ap (λ b. b || list_any (λ met. met == status) others) none)

-- ---- in which order they are told

-- the statuses that are told from one on
from_at : (i status : ℕ) → i < length told_order → status ≡ get_or told_order i 0 → drop i told_order ≡ status ∷ drop (i + 1) told_order
from_at i status within is = sym (ap (λ (first : ℕ). first ∷ drop (i + 1) told_order) is ∙ sym (cut told_order i within)) where
  cut : (xs : List ℕ) (k : ℕ) → k < length xs → drop k xs ≡ get_or xs k 0 ∷ drop (k + 1) xs
  cut xs k lt = rw (add-one, drop-cons xs k 0) refl

-- the one of these that was met is told
told_here : (status : ℕ) (later met : List ℕ) → list_any (λ m. m == status) met ≡ true → first_met (status ∷ later) met ≡ status
unfolding first_met
told_here status later met is = ap (λ (b : Bool). if b then status else first_met later met) is

-- one that was not is passed over
told_later : (status : ℕ) (later met : List ℕ) → list_any (λ m. m == status) met ≡ false → first_met (status ∷ later) met ≡ first_met later met
unfolding first_met
told_later status later met is = ap (λ (b : Bool). if b then status else first_met later met) is

pub told_at : (i status : ℕ) (met : List ℕ) → i < length told_order → status ≡ get_or told_order i 0 → list_any (λ m. m == status) met ≡ true
    → first_met told_order met ≡ first_met (drop i told_order) met → status ≡ first_met told_order met
told_at i status met within is here before =
    sym (before ∙ ap (λ order. first_met order met) (from_at i status within is) ∙ told_here status (drop (i + 1) told_order) met here)

pub told_behind : (i status : ℕ) (met : List ℕ) → i < length told_order → status ≡ get_or told_order i 0 → list_any (λ m. m == status) met ≡ false
    → first_met told_order met ≡ first_met (drop i told_order) met → first_met told_order met ≡ first_met (drop (i + 1) told_order) met
told_behind i status met within is none before =
    before ∙ ap (λ order. first_met order met) (from_at i status within is) ∙ told_later status (drop (i + 1) told_order) met none

-- where all were passed over it is 0
pub told_none : (i : ℕ) (met : List ℕ) → length told_order ≤ i → first_met told_order met ≡ first_met (drop i told_order) met → 0 ≡ first_met told_order met
unfolding first_met
told_none i met past before = sym (before ∙ ap (λ order. first_met order met) (drop_all i told_order past))
