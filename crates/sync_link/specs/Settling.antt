-- Two stores that meet in a session, and what both have behind it.
use Rattle.std.specs.Prelude.{◌≡◌, ℕ, ◌≤◌, List, length, All, Option, None, Some, IsTrue}
use Rattle.willow_area.specs.Boxes.{Ranges}
use Rattle.willow_entry.specs.Frame.{HasFrame}
use Rattle.willow_entry.specs.Row.{RowValue, AreLive}
use Rattle.mc_cap.specs.Grant.{receiver_of}
use Rattle.mc_cap.specs.Signature.{IsSignature}
use Rattle.cap_codec.specs.Rows.{IsRawRow}
use Rattle.exchange_rules.specs.Items.{to_left, to_right}
use Rattle.exchange_rules.specs.Exchange.{Apart, exchange}
use Rattle.sync_msg.specs.declared.role.Role.TheVariants.{Caller, Answerer}
use Rattle.sync_hello.specs.Checked.{Passes}
use Rattle.sync_hello.specs.HelloForm.{IsHello}
use Rattle.sync_core.specs.declared.stage.TheConstants.{SNAPSHOT_MAX}
use Rattle.sync_core.specs.Flat.{TurnValue}
use Rattle.sync_core.specs.SyncRules.{sync_rules}
use Rattle.session_rules.specs.Reading.{Done}
use Rattle.sync_link.specs.Sessions.{Party, ending, got, box_with, offered_to, version_with}
use Rattle.sync_link.specs.Granting.{message_due}

-- What a store of the namespace has as a session begins: live rows, each of this namespace, not too many; their tokens are
-- in the grammar, and frames carry them.
pub record IsOpening (namespace : List ℕ) (rows : List RowValue) : Type 0 where
  pub live : AreLive rows
  pub own : All (λ row. row.entry.namespace ≡ namespace) rows
  pub few : length rows ≤ SNAPSHOT_MAX
  pub read_out : All IsRawRow rows
  pub framed : All HasFrame rows

-- The other's hello passes, and its signature is accepted as its proof.
pub record Accepts (p other : Party) : Type 0 where
  pub hello_fits : IsHello other.hello
  pub hello_passes : Passes p.rules p.namespace other.hello
  pub proof_fits : IsSignature other.signature
  pub proved : IsTrue (p.rules.user (receiver_of other.hello.capability) (message_due p.role p.hello other.hello) other.signature)

-- a caller and an answerer by one scheme and in one namespace, each of which accepts the other
pub record CanMeet (p q : Party) : Type 0 where
  pub calls : p.role ≡ Caller
  pub answers : q.role ≡ Answerer
  pub same_rules : q.rules ≡ p.rules
  pub same_namespace : q.namespace ≡ p.namespace
  pub accepts : Accepts p q
  pub is_accepted : Accepts q p

-- the exchange of the rows that they offer each other, in the version of their session, over the box of the area that both may
-- read
abbrev pub turns_between : Party → Party → List RowValue → List RowValue → List TurnValue
turns_between p q rows others = exchange (sync_rules (version_with p q.hello)) (offered_to p q.hello rows) (offered_to q p.hello others) (box_with p q.hello)

-- Both come to the end, and each is sent the rows that the exchange sends it. The caller reads the bytes on the right.
pub record AreDone (p q : Party) (rows others : List RowValue) (left right : List ℕ) : Type 0 where
  pub caller_done : ending p rows right ≡ Done
  pub caller_got : got p rows right ≡ to_left (turns_between p q rows others)
  pub answerer_done : ending q others left ≡ Done
  pub answerer_got : got q others left ≡ to_right (turns_between p q rows others)

-- the fingerprints of the exchange in a version over a box, if there is one, tell rows apart
abbrev pub AreApartIn : ℕ → Option Ranges → List RowValue → List RowValue → Type 0
AreApartIn version None rows others = Unit {0}
AreApartIn version (Some x) rows others = Apart (sync_rules version) rows others x

-- so do those of the exchange of the rows that a caller and an answerer offer each other
abbrev pub AreApartBetween : Party → Party → List RowValue → List RowValue → Type 0
AreApartBetween p q rows others = AreApartIn (version_with p q.hello) (box_with p q.hello) (offered_to p q.hello rows) (offered_to q p.hello others)
