-- What an offer in a cell says of the pass that made it.
use Rattle.std.proofs.Common.{◌≡◌, ℕ, ◌+◌, ◌≤◌, List, [], ◌∷◌, ◌++◌, length, take, slice_get, Ok, Err, Some, sym, refl, ap, ◌∙◌, subst, arith, append-nil, length-append}
use Rattle.spelling.specs.declared.ending.End.TheVariants.{Refused, NoMemory}
use Rattle.willow_entry.specs.Row.{RowValue, HasCovering, IsCoveringAt}
use Rattle.ns_state.specs.Log.{values}
use Rattle.ns_state.specs.Answer.{IsFull}
use Rattle.ns_state.specs.declared.live_log.LogFull.{LogFull}
use Rattle.ns_state.specs.declared.state.Told.TheVariants.{Stored, Kept}
use Rattle.log_rule.proofs.Prefixes.{prefix_length}
use Rattle.ns_cell.specs.Passes.{PassValue, IsLater}
use Rattle.ns_cell.specs.Answers.{IsOffered, Call, Offers, Reads, Makes, stored_by, offered, place}

take-front : {A : Type 0} (xs ys : List A) → take (length xs) (xs ++ ys) ≡ xs
take-front [] ys = refl
take-front (x ∷ xs) ys = ap (λ l. x ∷ l) (take-front xs ys)

get-behind : {A : Type 0} (xs : List A) (x : A) → slice_get (xs ++ x ∷ []) (length xs) ≡ Some x
get-behind [] x = refl
get-behind (y ∷ xs) x = get-behind xs x

module _ {R : Type 0} (value : R → RowValue) where
  pub stored_is : (before after : PassValue R) (row : R) (at : ℕ) → IsOffered value before row after (Ok (Stored at))
      → (slice_get after.seen at ≡ Some (offered before row)) × (length after.seen ≡ at + 1) × (HasCovering (values value (take at after.seen)) (value row) → ⊥) × (after.own ≡ before.own ++ offered before row ∷ [])
  stored_is before after row at h =
      let a = h.answer in let new = offered before row in
      let front : take at after.seen ≡ h.log = ap (λ n. take n after.seen) a.at_is ∙ (ap (take (length h.log)) a.log_is ∙ take-front h.log (new ∷ [])) in (
        ap (λ n. slice_get after.seen n) a.at_is ∙ (ap (λ l. slice_get l (length h.log)) a.log_is ∙ get-behind h.log new),
        omega (arith, a.at_is, ap length a.log_is, length-append h.log (new ∷ [])),
        subst (λ l. HasCovering (values value l) (value row) → ⊥) (sym front) a.uncovered,
        h.own,
      )

  pub kept_is : (before after : PassValue R) (row : R) (at : ℕ) → IsOffered value before row after (Ok (Kept at)) → IsCoveringAt (values value after.seen) at (value row) × (after.own ≡ before.own)
  kept_is before after row at h = (subst (λ l. IsCoveringAt (values value l) at (value row)) (sym h.answer.log_is) h.answer.covers, h.own ∙ append-nil before.own)

  pub full_is : (before after : PassValue R) (row : R) (full : LogFull) → IsOffered value before row after (Err (Refused full)) → IsFull value after.seen row full.front × (after.own ≡ before.own)
  full_is before after row full h = (subst (λ l. IsFull value l row full.front) (sym h.answer.1) h.answer.0, h.own ∙ append-nil before.own)

  pub unanswered : (before after : PassValue R) (row : R) → IsOffered value before row after (Err NoMemory) → after.own ≡ before.own
  unanswered before after row h = h.own ∙ append-nil before.own

  -- ---- places

  pub place_between : (before after : PassValue R) (call : Call R) → Makes value before call after → (length before.seen ≤ place call after) × (place call after ≤ length after.seen)
  place_between before after (Offers row (Ok (Stored at))) h =
      let long = stored_is before after row at h.1 in let front = prefix_length before.seen h.1.log h.1.seen in let is = h.1.answer.at_is in
      (omega arith, (let l = long.1 in omega arith))
  place_between before after (Offers row (Ok (Kept at))) h = (prefix_length before.seen after.seen h.0.seen, omega arith)
  place_between before after (Offers row (Err e)) h = (prefix_length before.seen after.seen h.0.seen, omega arith)
  place_between before after Reads h = (prefix_length before.seen after.seen h.0.seen, omega arith)

  pub place_rises : (first then next last : PassValue R) (call later_call : Call R) → Makes value first call then → IsLater then next → Makes value next later_call last → place call then ≤ place later_call last
  place_rises first then next last call later_call a between b =
      let x = place_between first then call a in let y = place_between next last later_call b in
      let z = prefix_length then.seen next.seen between.seen in let x1 = x.1 in let y0 = y.0 in omega arith

  -- ---- what stays

  pub call_later : (before after : PassValue R) (call : Call R) → Makes value before call after → IsLater before after
  call_later before after (Offers row result) h = h.0
  call_later before after Reads h = h.0

  pub own_grows : (before after : PassValue R) (call : Call R) → Makes value before call after → after.own ≡ before.own ++ stored_by before call
  own_grows before after (Offers row result) h = h.1.own
  own_grows before after Reads h = h.1 ∙ sym (append-nil before.own)
