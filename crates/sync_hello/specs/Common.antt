-- The area that both sides of an exchange may read.
use Rattle.std.specs.Prelude.{◌≡◌, ℕ, List, Option, Some, None}
use Rattle.scheme_core.specs.Rules.{Rules}
use Rattle.willow_area.specs.Area.{meet_area}
use Rattle.willow_area.specs.AreaMeaning.{Includes}
use Rattle.willow_area.specs.declared.area.Area.{Area}
use Rattle.mc_cap.specs.Grant.{granted}
use Rattle.sync_hello.specs.declared.hello.Hello.{Hello}
use Rattle.sync_hello.specs.HelloForm.{IsHello}
use Rattle.sync_hello.specs.Checked.{hello_refusal}

-- the intersection of the two asks
unfoldable pub common_area : Hello → Hello → Option Area
common_area one other = meet_area one.ask other.ask

-- what the capability of a hello grants includes each triple of the area
abbrev pub Grants : Hello → Area → Type 0
Grants h area = Includes (granted h.capability) area

-- a hello that is not refused asks for nothing that its capability does not grant
abbrev pub AsksWithinGrant : Type 0
AsksWithinGrant = (rules : Rules) (n : List ℕ) (h : Hello) → IsHello h → hello_refusal rules n h ≡ None → Grants h h.ask

-- of two that are not refused, both capabilities grant the common area
abbrev pub BothGrantCommon : Type 0
BothGrantCommon = (rules : Rules) (n : List ℕ) (one other : Hello) (area : Area) → IsHello one → IsHello other
    → hello_refusal rules n one ≡ None → hello_refusal rules n other ≡ None → common_area one other ≡ Some area → Grants one area × Grants other area
