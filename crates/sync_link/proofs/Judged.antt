-- Lists of rows that are judged one after the other.
use Rattle.std.proofs.Common.{◌≡◌, ℕ, List, ◌++◌, refl, sym, ap, ◌∙◌, subst, append_assoc}
use Rattle.scheme_core.specs.Rules.{Rules}
use Rattle.cap_codec.specs.Rows.{RawValue}
use Rattle.auth_entry.specs.Authorised.{AuthorisedValue}
use Rattle.ns_cell.specs.Passes.{PassValue}
use Rattle.sync_link.specs.Tallies.{HasGrown, IsTally}
use Rattle.row_intake.specs.declared.tally.Tally.{Tally}
use Rattle.sync_link.proofs.Offered.{grown_on, later_self}

module _ (rules : Rules) (n : List ℕ) where
  -- Of the rows the first are taken and these wait, whatever rows came before.
  unfoldable pub HasJudged : List RawValue → PassValue AuthorisedValue → Tally → List RawValue → PassValue AuthorisedValue → Tally → Type 0
  HasJudged rows pass tally waiting pass' tally' =
      (start : PassValue AuthorisedValue) (before : List RawValue) → IsTally rules n start before pass tally
      → (judged : List RawValue) × (before ++ rows ≡ judged ++ waiting) × IsTally rules n start judged pass' tally'

  pub judges_self : (rows : List RawValue) (pass : PassValue AuthorisedValue) (tally : Tally) → HasJudged rows pass tally rows pass tally
  unfolding HasJudged
  judges_self rows pass tally start before t = (before, refl, t)

  module _ (rows : List RawValue) (pass : PassValue AuthorisedValue) (tally : Tally) (waiting : List RawValue) (pass' : PassValue AuthorisedValue) (tally' : Tally) (so_far : HasJudged rows pass tally waiting pass' tally') where
    -- what waits stays behind
    pub judges_grown : (start : PassValue AuthorisedValue) (before : List RawValue) → IsTally rules n start before pass tally → HasGrown rules n start (before ++ rows) pass'
    unfolding HasJudged
    judges_grown start before t =
        let k = so_far start before t in
        subst (λ l. HasGrown rules n start l pass') (sym k.1) (grown_on rules n start k.0 waiting pass' pass' k.2.has_grown (later_self pass') refl)

    module _ (list rest : List RawValue) (whole : waiting ≡ list ++ rest) (pass'' : PassValue AuthorisedValue) (tally'' : Tally) where
      joined_on : (all judged : List RawValue) → all ≡ judged ++ waiting → all ≡ (judged ++ list) ++ rest
      joined_on all judged e = e ∙ ap (λ l. judged ++ l) whole ∙ sym (append_assoc judged list rest)

      pub judges_on : ((start : PassValue AuthorisedValue) (before : List RawValue) → IsTally rules n start before pass' tally' → IsTally rules n start (before ++ list) pass'' tally'') → HasJudged rows pass tally rest pass'' tally''
      unfolding HasJudged
      judges_on next start before t =
          let k = so_far start before t in
          (k.0 ++ list, joined_on (before ++ rows) k.0 k.1, next start k.0 k.2)

      -- memory was wanting behind some rows of the list
      pub judges_fails : ((start : PassValue AuthorisedValue) (before : List RawValue) → IsTally rules n start before pass' tally' → HasGrown rules n start (before ++ list) pass'')
          → (start : PassValue AuthorisedValue) (before : List RawValue) → IsTally rules n start before pass tally → HasGrown rules n start (before ++ rows) pass''
      unfolding HasJudged
      judges_fails next start before t =
          let k = so_far start before t in
          subst (λ l. HasGrown rules n start l pass'') (sym (joined_on (before ++ rows) k.0 k.1)) (grown_on rules n start (k.0 ++ list) rest pass'' pass'' (next start k.0 k.2) (later_self pass'') refl)

    -- all that waits is taken
    pub judges_all : (pass'' : PassValue AuthorisedValue) (tally'' : Tally) → ((start : PassValue AuthorisedValue) (before : List RawValue) → IsTally rules n start before pass' tally' → IsTally rules n start (before ++ waiting) pass'' tally'')
        → (start : PassValue AuthorisedValue) (before : List RawValue) → IsTally rules n start before pass tally → IsTally rules n start (before ++ rows) pass'' tally''
    unfolding HasJudged
    judges_all pass'' tally'' next start before t =
        let k = so_far start before t in
        subst (λ l. IsTally rules n start l pass'' tally'') (sym k.1) (next start k.0 k.2)
