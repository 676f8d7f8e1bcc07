-- A pass that meets others one by one.
use Rattle.std.proofs.Common.{◌≡◌, ◌≢◌, ℕ, ◌+◌, ◌<◌, List, length, get_or, set, sym, subst, arith}
use Rattle.std.proofs.lemmas.List.{get_or-set_same, get_or-set_other}
use mathlib.Core.List.{IsPrefix}
use mathlib.Core.Logic.{dite}
use native.Mathlib.Decide.{dec_lt}
use Rattle.log_rule.proofs.Prefixes.{prefix_self, prefix_trans}
use Rattle.ns_cell.specs.Passes.{PassValue, IsLater}
use Rattle.peer_run.specs.MetPasses.{IsMet}

module _ {R : Type 0} (olds : List (PassValue R)) where
  -- those below this place are met
  abbrev pub MetBelow : PassValue R → ℕ → List (PassValue R) → Type 0
  MetBelow own at news = (k : ℕ) (old new : PassValue R) → k < at → IsMet own (get_or olds k old) (get_or news k new)

  pub none_met : (own : PassValue R) (at : ℕ) (news : List (PassValue R)) → at ≡ 0 → MetBelow own at news
  none_met own at news none k old new below = absurd (omega (arith, none, below))

  -- one more is met, at the next place
  pub met_on : (at : ℕ) (news : List (PassValue R)) (own own' one one' : PassValue R) → at < length news → IsPrefix own.seen own'.seen → ((d : PassValue R) → get_or olds at d ≡ one) → IsMet own' one one'
      → MetBelow own at news → MetBelow own' (at + 1) (set news at one')
  met_on at news own own' one one' within more is_one met so_far k old new below = dite (dec_lt k at) earlier last
    where
      earlier : k < at → IsMet own' (get_or olds k old) (get_or (set news at one') k new)
      earlier less =
          let apart : k ≢ at = λ e. absurd (omega (arith, e, less)) in
          let was = so_far k old new less in
          subst (λ (p : PassValue R). IsMet own' (get_or olds k old) p) (sym (get_or-set_other news at k one' new apart))
          (record { later = was.later; same_own = was.same_own; seen = prefix_trans (get_or news k new).seen own.seen own'.seen was.seen more })

      here : k ≡ at → IsMet own' (get_or olds k old) (get_or (set news at one') k new)
      here same =
          subst (λ (i : ℕ). IsMet own' (get_or olds i old) (get_or (set news at one') i new)) (sym same)
          (subst (λ (p : PassValue R). IsMet own' (get_or olds at old) p) (sym (get_or-set_same news at one' new within))
          (subst (λ (p : PassValue R). IsMet own' p one') (sym (is_one old)) met))

      last : (k < at → ⊥) → IsMet own' (get_or olds k old) (get_or (set news at one') k new)
      last more_than = here (omega (arith, below, more_than))

-- a pass that saw just what the other then had is met by that
pub is_met : {R : Type 0} (own before after : PassValue R) → IsLater before after → after.own ≡ before.own → own.seen ≡ after.seen → IsMet own before after
is_met own before after later same seen = record { later = later; same_own = same; seen = subst (IsPrefix after.seen) (sym seen) (prefix_self after.seen) }
