-- Links that one pass feeds in order.
use Rattle.std.proofs.Common.{◌≡◌, ℕ, Bool, ◌+◌, ◌<◌, List, ◌∷◌, [], ◌++◌, length, get_or, set, sym, ap, ◌∙◌, subst, arith}
use Rattle.std.specs.Prelude.{Ok, Err}
use Rattle.log_rule.proofs.Prefixes.{prefix_length, prefix_whole}
use Rattle.willow_outside.specs.Facts.{LinkFacts}
use Rattle.willow_entry.specs.declared.row.LogRow.{LogRow}
use Rattle.auth_entry.specs.Authorised.{AuthorisedValue}
use Rattle.ns_cell.specs.Passes.{PassValue, IsLater}
use Rattle.sync_link.specs.Run.{Answer}
use Rattle.peer_run.specs.Feeding.{FeedsBehind, HasSeenOpening}
use Rattle.peer_run.specs.declared.tails.Tail.{Tail}
use Rattle.peer_run.proofs.FedPlaces.{AsBefore, DoneBelow, done_on}

-- a pass that has seen the opening log has seen it later too
pub seen_later : (before after : PassValue AuthorisedValue) (answer : Answer) → IsLater before after → HasSeenOpening before answer → HasSeenOpening after answer
seen_later before after (Ok report) later seen = omega (arith, seen, prefix_length before.seen after.seen later.seen)
seen_later before after (Err end) later seen = tt

-- and so of the one at a place
pub seen_at : (before after : PassValue AuthorisedValue) (answers : List Answer) (at : ℕ) (answer : Answer) → IsLater before after → ((d : Answer) → get_or answers at d ≡ answer) → HasSeenOpening before (get_or answers at answer) → HasSeenOpening after answer
seen_at before after answers at answer later is seen = seen_later before after answer later (subst (HasSeenOpening before) (is answer) seen)

-- where nothing came to the log up to now, nothing had come before
same_between : (before own own' : PassValue AuthorisedValue) → IsLater before own → IsLater own own' → own'.seen ≡ before.seen → own.seen ≡ before.seen
same_between before own own' first second same =
    sym (prefix_whole before.seen own.seen first.seen (omega (arith, prefix_length own.seen own'.seen second.seen, ap length same)))

module _ {L : Type 0} (facts : L → LinkFacts) (feeds : Bool) (from : ℕ) (before : PassValue AuthorisedValue) (answers : List Answer) (olds : List L) where
  -- at the places below this one, where nothing came to the log meanwhile
  abbrev pub FedBelow : ℕ → PassValue AuthorisedValue → List L → List Tail → Type 0
  FedBelow at own links tails = own.seen ≡ before.seen → DoneBelow facts (FeedsBehind feeds before.seen) from answers olds at links tails

  -- one more is fed
  pub fed_on : (at number : ℕ) (own own' : PassValue AuthorisedValue) (links : List L) (tails : List Tail) (answer : Answer) (old new : L) (tail : Tail) → IsLater before own → IsLater own own' → at < length links → length tails ≡ at
      → AsBefore olds at links → ((d : Answer) → get_or answers at d ≡ answer) → ((d : L) → get_or links at d ≡ old) → number ≡ from + at → FeedsBehind feeds own'.seen number answer (facts old) (facts new) tail
      → FedBelow at own links tails → FedBelow (at + 1) own' (set links at new) (tails ++ tail ∷ [])
  fed_on at number own own' links tails answer old new tail first second within as_many ahead is_answer is_old is_number fed so_far same =
      let by_number : FeedsBehind feeds own'.seen (from + at) answer (facts old) (facts new) tail = subst (λ (n : ℕ). FeedsBehind feeds own'.seen n answer (facts old) (facts new) tail) is_number fed in
      let of_log : FeedsBehind feeds before.seen (from + at) answer (facts old) (facts new) tail = subst (λ (log : List (LogRow AuthorisedValue)). FeedsBehind feeds log (from + at) answer (facts old) (facts new) tail) same by_number in
      let one : (d : L) → FeedsBehind feeds before.seen (from + at) answer (facts (get_or olds at d)) (facts new) tail =
      λ d. subst (λ (x : L). FeedsBehind feeds before.seen (from + at) answer (facts x) (facts new) tail) (sym (is_old d) ∙ ahead at d (omega arith)) of_log in
      done_on facts (FeedsBehind feeds before.seen) from answers olds at links tails within as_many answer new tail (so_far (same_between before own own' first second same)) is_answer one
