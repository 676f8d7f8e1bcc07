-- How a session stands in memory, and what comes of a piece of bytes.
use Rattle.std.specs.Prelude.{◌≡◌, ℕ, List, ◌++◌, flat_map, Option, None, Some}
use Rattle.scheme_core.specs.Rules.{Rules}
use Rattle.willow_entry.specs.Row.{RowValue}
use Rattle.area_interest.specs.declared.interest.Interest.{Interest}
use Rattle.sync_msg.specs.declared.role.Role.{Role}
use Rattle.sync_hello.specs.declared.hello.Hello.{Hello}
use Rattle.sync_core.specs.Place.{Place, rows_of_area}
use Rattle.session_rules.specs.Reading.{Stand, read}
use Rattle.sync_link.specs.Sessions.{Party, SessionStage, SessionCause, session_of}

-- What contracts see of a side of a session: what it brings, with its signature once that is made; the rows that it has as
-- the session begins; and how it stands.
pub record Side : Type 0 where
  pub rules : Rules
  pub namespace : List ℕ
  pub role : Role
  pub hello : Hello
  pub interest : Interest
  pub signature : Option (List ℕ)
  pub rows : List RowValue
  pub stand : Stand SessionStage SessionCause

-- what it brings, where this is its signature
abbrev pub party_of : Side → List ℕ → Party
party_of side signature = record { rules = side.rules; namespace = side.namespace; role = side.role; hello = side.hello; interest = side.interest; signature = signature }

-- this may be the signature: it is the one that was made, or none was made yet
abbrev pub MayBe : Option (List ℕ) → List ℕ → Type 0
MayBe None signature = Unit {0}
MayBe (Some made) signature = made ≡ signature

-- A session that stands so and reads some bytes writes these, takes these rows, and then stands so.
pub record Reads (p : Party) (rows : List RowValue) (from : Stand SessionStage SessionCause) (bytes : List ℕ) (to : Stand SessionStage SessionCause) (written : List ℕ) (taken : List RowValue) : Type 0 where
  pub stands : (read (session_of p rows) from bytes).stand ≡ to
  pub writes : flat_map (session_of p rows).spelling (read (session_of p rows) from bytes).says ≡ written
  pub takes : (read (session_of p rows) from bytes).rows ≡ taken

-- A side read a piece: what it writes stands behind what was to be written, and the rows that it takes behind those that
-- came before. All else of it is as it was, but for its signature, which is made once.
pub record ReadsPiece (old new : Side) (piece out_old out_new : List ℕ) (rows_old rows_new : List RowValue) : Type 0 where
  pub written : List ℕ
  pub taken : List RowValue
  pub wrote : out_new ≡ out_old ++ written
  pub got : rows_new ≡ rows_old ++ taken
  pub kept : new ≡ record old { signature = new.signature; stand = new.stand }
  pub signed_once : (signature : List ℕ) → MayBe new.signature signature → MayBe old.signature signature
  pub reads : (signature : List ℕ) → MayBe new.signature signature → Reads (party_of old signature) old.rows old.stand piece new.stand written taken

-- ---- places

-- the place of a side of an exchange that has just the rows of the area
abbrev pub within : Place → Place
within place = record place { rows = rows_of_area place.area place.rows }
