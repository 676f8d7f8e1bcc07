-- What a side of a session goes by, and what it says of itself.
use Rattle.std.specs.Prelude.{◌≡◌, ℕ, List, Option, None}
use Rattle.willow_outside.specs.Facts.{Names}
use Rattle.area_interest.specs.declared.interest.Interest.{Interest}
use Rattle.cap_codec.specs.Rows.{RawValue}
use Rattle.lms_core.specs.Use.{peer_rules}
use Rattle.mc_cap.specs.declared.capability.Capability.{Capability}
use Rattle.sync_msg.specs.declared.role.Role.{Role}
use Rattle.sync_link.specs.Sessions.{Party}
use Rattle.peer_words.specs.declared.command.AreaWords.{AreaWords}
use Rattle.peer_run.specs.Greeting.{own_hello, own_refusal}
use Rattle.peer_run.specs.PairDeeds.{HasImage, HoldsCapability}
use Rattle.peer_run.specs.Preparing.{nonce_of, no_nonce}

-- an image of a namespace with its rows in order, and a capability
pub record SideGiven : Type 0 where
  pub namespace : List ℕ
  pub rows : List RawValue
  pub cap : Capability

-- the names of an image and of a capability hold it, and nothing is against the own hello
pub record AreSideGiven (image_name cap_name : List ℕ) (area : AreaWords) (told : Option Names) (g : SideGiven) : Type 0 where
  pub image : HasImage told image_name g.namespace g.rows
  pub cap : HoldsCapability told cap_name g.cap
  pub passes : own_refusal g.namespace (own_hello area g.cap no_nonce) ≡ None

-- the side of this role, which offers as much as the limits leave: its hello has the own capability, the ask of the words, and the
-- first 16 bytes of a draw
abbrev pub party_of : Role → AreaWords → Interest → SideGiven → List ℕ → List ℕ → Party
party_of role area limits g draw signature = record { rules = peer_rules; namespace = g.namespace; role = role; hello = own_hello area g.cap (nonce_of draw); interest = limits; signature = signature }
