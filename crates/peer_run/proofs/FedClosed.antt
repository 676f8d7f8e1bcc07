-- Feeds behind the sessions of a cell are all of the log with which that is closed.
use Rattle.std.proofs.Common.{◌≡◌, ◌⊎◌, inl, inr, ℕ, Bool, ◌∙◌, List, Contains, sym, subst, arith}
use mathlib.Core.List.{IsPrefix}
use Rattle.willow_outside.specs.Facts.{LinkFacts}
use Rattle.willow_entry.specs.declared.row.LogRow.{LogRow}
use Rattle.auth_entry.specs.Authorised.{AuthorisedValue}
use Rattle.auth_entry.specs.Rows.{entry_row}
use Rattle.ns_cell.specs.Closed.{IsClosed}
use Rattle.ns_cell.specs.Passes.{PassValue}
use Rattle.sync_link.specs.Run.{Answer}
use Rattle.peer_run.specs.Feeding.{AreFed, FeedsAll}
use Rattle.peer_run.specs.MetPasses.{HasMetAll}
use Rattle.peer_run.specs.declared.tails.Tail.{Tail}
use Rattle.peer_run.proofs.FedLog.{had_seen_all, has_seen_all}

-- The pass that fed met all the others before it did; with it they are all passes of the cell.
module _ (feed : Bool) (from : ℕ) (before met after : PassValue AuthorisedValue) (olds news all : List (PassValue AuthorisedValue)) (answers : List Answer) (links links' : List LinkFacts) (tails : List Tail) (log : List (LogRow AuthorisedValue))
    (have : HasMetAll before met olds news) (feeds : FeedsAll feed from met after answers links links' tails) (closed : IsClosed all log) (among : Contains all after)
    (others : (pass : PassValue AuthorisedValue) → Contains all pass → (pass ≡ after) ⊎ Contains news pass) where
  seen_so : (pass : PassValue AuthorisedValue) → Contains news pass → IsPrefix pass.seen met.seen
  seen_so pass here = subst (λ (p : PassValue AuthorisedValue). IsPrefix p.seen met.seen) here.2 (have.each here.0 pass pass (omega (arith, here.1, have.as_many))).seen

  less_or_same : (pass : PassValue AuthorisedValue) → Contains all pass → (pass ≡ after) ⊎ IsPrefix pass.seen met.seen
  less_or_same pass here = elim (others pass here) [ inl same ↦ inl same | inr one ↦ inr (seen_so pass one) ]

  had : met.seen ≡ log
  had = had_seen_all all log closed entry_row met after feeds.is_pass feeds.later feeds.own among less_or_same

  has : after.seen ≡ log
  has = has_seen_all all log closed entry_row met after feeds.is_pass feeds.later feeds.own among less_or_same

  pub fed_by_closed : AreFed feed log from answers links links' tails
  fed_by_closed = subst (λ (l : List (LogRow AuthorisedValue)). AreFed feed l from answers links links' tails) had (feeds.fed (has ∙ sym had))
