-- Passes that may have seen more.
use Rattle.std.proofs.Common.{◌<◌, List, length, get_or, ◌∙◌, arith}
use Rattle.std.specs.List.{All}
use Rattle.auth_entry.specs.Authorised.{AuthorisedValue}
use Rattle.ns_cell.specs.Passes.{PassValue}
use Rattle.sync_link.proofs.Offered.{later_trans}
use Rattle.peer_run.specs.Accepting.{HasOnlyRead}
use Rattle.peer_run.specs.Behind.{HaveOnlyRead}

pub read_twice : (before between after : PassValue AuthorisedValue) → HasOnlyRead before between → HasOnlyRead between after → HasOnlyRead before after
read_twice before between after one other = record { later = later_trans before between after one.later other.later; own = other.own ∙ one.own }

module _ (P : PassValue AuthorisedValue → Type 0) (olds news : List (PassValue AuthorisedValue)) (read : HaveOnlyRead olds news) where
  -- what holds of them had held before
  pub held_before : ((old new : PassValue AuthorisedValue) → HasOnlyRead old new → P new → P old) → All P news → All P olds
  held_before back all k d within = back (get_or olds k d) (get_or news k d) (read.each k d d within) (all k d (omega (arith, within, read.as_many)))

  -- or the other way round
  pub holds_on : ((old new : PassValue AuthorisedValue) → HasOnlyRead old new → P old → P new) → All P olds → All P news
  holds_on on all k d within =
      let here : k < length olds = omega (arith, within, read.as_many) in
      on (get_or olds k d) (get_or news k d) (read.each k d d here) (all k d here)
