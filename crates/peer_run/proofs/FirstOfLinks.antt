-- The first refused row of all sessions, numbered over a count that stops at the last number of a u64.
use Rattle.std.proofs.Common.{◌≡◌, ◌∙◌, ℕ, suc, ◌+◌, ◌-◌, ◌^◌, ◌<◌, min, List, [], ◌∷◌, drop, get_or, length, Option, Some, None, refl, sym, ap, ap₂, arith, add-one, drop-cons}
use Rattle.spelling.specs.Answers.{or_else}
use Rattle.mc_cap.specs.declared.refusal.RefusedRow.{RefusedRow}
use Rattle.sync_link.specs.Run.{Answer}
use Rattle.peer_run.specs.Closing.{refused_after}
use Rattle.peer_run.specs.Telling.{first_of_links, refused_in, rows_told}

-- a sum that stops there is the same where one of its numbers has stopped there
stops_once : (a b most : ℕ) → min (min a most + b) most ≡ min (a + b) most
stops_once a b most = omega arith

refused_stops : (a : ℕ) (first : Option RefusedRow) → refused_after (min a (2 ^ 64 - 1)) first ≡ refused_after a first
refused_stops a None = refl
refused_stops a (Some first) = ap (λ (n : ℕ). Some (record { row = n; refusal = first.refusal })) (stops_once a first.row (2 ^ 64 - 1))

-- the count before them may have stopped there
pub first_stops : (a : ℕ) (answers : List Answer) → first_of_links (min a (2 ^ 64 - 1)) answers ≡ first_of_links a answers
first_stops a [] = refl
first_stops a (answer ∷ answers) =
    let n = rows_told answer in
    let m = 2 ^ 64 - 1 in
    ap₂ or_else (refused_stops a (refused_in answer))
    (sym (first_stops (min a m + n) answers) ∙ ap (λ (k : ℕ). first_of_links k answers) (stops_once a n m) ∙ first_stops (a + n) answers)

-- where the session at a place refused no row, the first of all is that of those behind it
pub first_behind : (rows before at : ℕ) (answers : List Answer) (d here : Answer) → at < length answers → get_or answers at d ≡ here → refused_in here ≡ None
    → first_of_links rows answers ≡ first_of_links before (drop at answers) → first_of_links rows answers ≡ first_of_links (before + rows_told here) (drop (at + 1) answers)
first_behind rows before at answers d here within is none so_far =
    let n = before + rows_told here in
    so_far
    ∙ ap (λ (xs : List Answer). first_of_links before xs) (drop-cons answers at d within)
    ∙ ap (λ (x : Answer). first_of_links before (x ∷ drop (suc at) answers)) is
    ∙ ap (λ (o : Option RefusedRow). or_else (refused_after before o) (first_of_links n (drop (suc at) answers))) none
    ∙ ap (λ (k : ℕ). first_of_links n (drop k answers)) (sym (add-one at))
