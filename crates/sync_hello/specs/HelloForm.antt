-- Hellos: which are in the grammar, and how they are spelled.
use Rattle.std.specs.Prelude.{ℕ, ◌≤◌, ◌<◌, ◌^◌, List, [], ◌∷◌, ◌++◌, length}
use Rattle.std.specs.Int.{w32, to_be_bytes}
use Rattle.spelling.specs.Spelling.{text_spelling, AreSoManyBytes, IsText}
use Rattle.willow_area.specs.Area.{IsArea}
use Rattle.willow_area.specs.AreaSpelling.{area_spelling}
use Rattle.willow_area.specs.declared.area.Area.{Area}
use Rattle.willow_entry.specs.declared.frame.TheConstants.{MAX_FRAME}
use Rattle.mc_cap.specs.Forms.{capability_spelling, IsCapability}
use Rattle.sync_hello.specs.declared.hello.Hello.{Hello}

-- the text WSY
abbrev pub magic : List ℕ
magic = 87 ∷ 83 ∷ 89 ∷ []

-- a hello before its capability is read: the bytes of that field may be any
pub record Draft : Type 0 where
  pub version : ℕ
  pub nonce : List ℕ
  pub ask : Area
  pub text : List ℕ

-- The text WSY, the version in one byte, the nonce, the ask, the length of the capability in four bytes, and the
-- capability.
abbrev pub draft_spelling : Draft → List ℕ
draft_spelling d = magic ++ (d.version ∷ (d.nonce ++ (area_spelling d.ask ++ text_spelling (to_be_bytes w32) d.text)))

-- each field is within its limits
pub record IsDraft (d : Draft) : Type 0 where
  pub version_fits : d.version < 2 ^ 8
  pub nonce_fits : AreSoManyBytes 16 d.nonce
  pub ask_fits : IsArea d.ask
  pub text_fits : IsText MAX_FRAME d.text

-- the hello with its capability spelled out
abbrev pub draft_of : Hello → Draft
draft_of h = record { version = h.version; nonce = h.nonce; ask = h.ask; text = capability_spelling h.capability }

-- how a hello is spelled
unfoldable pub hello_spelling : Hello → List ℕ
hello_spelling h = draft_spelling (draft_of h)

-- what there is to know of a hello before it is spelled: the bytes of its capability are few enough for their field
abbrev pub HasSpelling : Hello → Type 0
HasSpelling h = length (capability_spelling h.capability) ≤ MAX_FRAME

-- each field is within its limits, and the capability within those of its field
pub record IsHello (h : Hello) : Type 0 where
  pub version_fits : h.version < 2 ^ 8
  pub nonce_fits : AreSoManyBytes 16 h.nonce
  pub ask_fits : IsArea h.ask
  pub capability_fits : IsCapability h.capability
  pub short : HasSpelling h
