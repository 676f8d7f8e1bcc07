-- What keeps a session from going wrong: another side that answers over its link and feeds it behind that, and a signer that signs
-- for it.
use Rattle.std.specs.Prelude.{◌≡◌, ℕ, true, List, ◌∷◌, ◌++◌, Some, IsTrue}
use Rattle.willow_outside.specs.Counts.{HasRisen}
use Rattle.willow_outside.specs.Facts.{LinkFacts}
use Rattle.willow_area.specs.declared.area.Area.{Area}
use Rattle.willow_entry.specs.Row.{RowValue}
use Rattle.lms_core.specs.Use.{peer_rules}
use Rattle.mc_cap.specs.Grant.{receiver_of}
use Rattle.mc_cap.specs.Signature.{IsSignature}
use Rattle.mc_cap.specs.declared.capability.Capability.{Capability}
use Rattle.session_rules.specs.Rounds.{IsFront}
use Rattle.sync_follow.specs.FeedLaws.{AreFit}
use Rattle.sync_follow.specs.Feeds.{feed_spelling}
use Rattle.sync_link.specs.Ran.{AreBothRoles}
use Rattle.sync_link.specs.Sessions.{Party, out}
use Rattle.sync_link.specs.Settling.{Accepts, IsOpening}
use Rattle.peer_make.specs.KeySigners.{gives_of}
use Rattle.peer_make.specs.declared.key_signer.KeySigner.{KeySigner}

-- ---- the link

-- The other side, which has these rows, can meet one that brings this: it is of the other role, by the same scheme and in the
-- same namespace, and its hello and proof are accepted.
pub record CanAnswer (p other : Party) (rows : List RowValue) : Type 0 where
  pub roles : AreBothRoles p.role other.role
  pub same_rules : other.rules ≡ p.rules
  pub same_namespace : other.namespace ≡ p.namespace
  pub accepts : Accepts p other
  pub opens : IsOpening p.namespace rows

-- Such another side answered over the link, whatever the own signature is. The link tells its bytes: it gave what the other
-- side writes to all that it took, or a front of that; and a read met the end only where it gave all of it.
pub record IsAnsweredOver (p : List ℕ → Party) (link : LinkFacts) : Type 0 where
  pub taken : List ℕ
  pub held : List ℕ
  pub are_taken : link.taken ≡ Some taken
  pub are_held : link.held ≡ Some held
  pub other : Party
  pub rows : List RowValue
  pub can_answer : (signature : List ℕ) → CanAnswer (p signature) other rows
  pub hears : IsFront taken (out other rows held)
  pub hears_all : HasRisen 0 link.ends → taken ≡ out other rows held

-- each link is answered so, to a side that brings this by the draw at the same place
abbrev pub AreAnswered : (List ℕ → List ℕ → Party) → List (List ℕ) → List LinkFacts → Type 0
AreAnswered p (draw ∷ draws) (link ∷ links) = IsAnsweredOver (p draw) link × AreAnswered p draws links
AreAnswered p draws links = Unit {0}

-- A feed of such rows of the area came over the link, or a front of it, while it was followed. The link tells its bytes; a read met
-- the end only where the link gave all of it.
pub record GivesFeed (area : Area) (old new : LinkFacts) : Type 0 where
  pub rows : List RowValue
  pub fit : AreFit area rows
  pub before : List ℕ
  pub bytes : List ℕ
  pub had : old.taken ≡ Some before
  pub took : new.taken ≡ Some (before ++ bytes)
  pub hears : IsFront bytes (feed_spelling rows)
  pub hears_all : HasRisen old.ends new.ends → bytes ≡ feed_spelling rows

-- ---- the signer

-- whatever the signer may give of a message, and is a signature in form, is one of the capability's receiver
abbrev pub SignsFor : Capability → KeySigner → Type 0
SignsFor cap signer = (message signature : List ℕ) → IsSignature signature → gives_of signer message signature ≡ true → IsTrue (peer_rules.user (receiver_of cap) message signature)
