-- What a side of an exchange says, as bytes.
use Rattle.std.specs.Prelude.{◌≡◌, ℕ, ◌<◌, List, ◌++◌, flat_map}
use Rattle.sync_msg.specs.Items.{item_spelling}
use Rattle.sync_core.specs.Place.{Place}
use Rattle.sync_core.specs.Runs.{left_to_say, says_all}
use Rattle.sync_link.specs.Sound.{IsSound}

-- bytes, and behind them all that a side says until it reads
abbrev pub with_speech : List ℕ → Place → List ℕ
with_speech bytes place = bytes ++ flat_map item_spelling (says_all place).0

-- A side said an item: with what it says behind that, the bytes are the same, and so is its place then.
pub record SaysOn (old new : Place) (bytes_old bytes_new : List ℕ) : Type 0 where
  pub bytes : with_speech bytes_new new ≡ with_speech bytes_old old
  pub last : (says_all new).1 ≡ (says_all old).1
  pub fewer : left_to_say new.doing < left_to_say old.doing
  pub sound : IsSound new

-- A side said all that it says until it reads.
pub record SaysAll (old new : Place) (bytes_old bytes_new : List ℕ) : Type 0 where
  pub place : new ≡ (says_all old).1
  pub bytes : bytes_new ≡ with_speech bytes_old old
  pub sound : IsSound new
