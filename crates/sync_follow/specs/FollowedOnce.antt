-- A small run to look at: one row came into a server's log behind a session, is fed, and is followed.
use Rattle.std.specs.Prelude.{◌≡◌, true, ℕ, List, [], ◌∷◌, length, Option, None, Some}
use Rattle.spelling.specs.Form.{AreBytes}
use Rattle.scheme_core.specs.Rules.{Rules}
use Rattle.willow_outside.specs.Facts.{LinkFacts}
use Rattle.willow_area.specs.declared.area.Area.{Area}
use Rattle.willow_entry.specs.declared.row.LogRow.{LogRow}
use Rattle.cap_codec.specs.Rows.{RawValue, IsRaw, row_of}
use Rattle.auth_entry.specs.Authorised.{AuthorisedValue, IsAuthorised}
use Rattle.ns_cell.specs.Passes.{CellValue, PassValue}
use Rattle.sync_follow.specs.BothEnds.{Session}
use Rattle.sync_follow.specs.Feeds.{has_entry, feed_spelling}
use Rattle.sync_follow.specs.Followed.{Scene, IsFollowed}
use Rattle.sync_follow.specs.SmallSession.{Turnstile, Said, small_ends}
use Rattle.sync_follow.specs.declared.report.FollowReport.{FollowReport}

-- a pass of a cell, of a number, that has seen these rows and stored these
abbrev pub pass_with : CellValue → ℕ → List (LogRow AuthorisedValue) → List (LogRow AuthorisedValue) → PassValue AuthorisedValue
pass_with cell number seen own = record { cell = cell; number = number; turns = []; seen = seen; own = own }

-- a row, as a pass of a number stored it
abbrev pub stored_by : ℕ → List ℕ → RawValue → List (LogRow AuthorisedValue)
stored_by number namespace raw = record { pass = number; row = record { namespace = namespace; row = raw } } ∷ []

-- a session of pass 1 of a cell, over a log without rows, which stored none
abbrev pub idle_session : CellValue → Session
idle_session cell = record { before = pass_with cell 1 [] []; opening = []; after = pass_with cell 1 [] [] }

-- a link that has these bytes to read, gave these, and holds these
abbrev pub link_with : List ℕ → List ℕ → List ℕ → LinkFacts
link_with left taken held = record { left = Some left; taken = Some taken; held = Some held; read_faults = 0; write_faults = 0; ends = 0 }

-- what is told of one row that is stored
abbrev pub one_stored : FollowReport
one_stored = record { read = 1; stored = 1; kept = 0; refused = 0; first = None }

-- Sessions of two stores without rows met. A pass of number 2 then stored a row in the server's log, a pass of number 0 fed it,
-- and the caller stored it.
abbrev pub one_followed : Rules → List ℕ → Area → CellValue → CellValue → RawValue → Scene ℕ ℕ (Option ℕ) ℕ (Unit {0}) Turnstile Said ℕ (Unit {0})
one_followed rules namespace area cell other raw = record {
  rules = rules;
  namespace = namespace;
  area = area;
  ends = small_ends;
  caller = idle_session other;
  server = idle_session cell;
  feeder = pass_with cell 0 (stored_by 2 namespace raw) [];
  feeding = link_with [] [] [];
  feeding' = link_with [] [] (feed_spelling (row_of raw ∷ []));
  fed = record { count = 1; to = 1 };
  after = pass_with other 1 (stored_by 1 namespace raw) (stored_by 1 namespace raw);
  most = length (feed_spelling (row_of raw ∷ []));
  following = link_with (feed_spelling (row_of raw ∷ [])) [] [];
  following' = link_with [] (feed_spelling (row_of raw ∷ [])) [];
  report = one_stored;
}

-- so it is with each row of the area that is authorised in the namespace of the cell
abbrev pub OneIsFollowed : Type 0
OneIsFollowed =
    (rules : Rules) (namespace : List ℕ) (area : Area) (cell other : CellValue) (raw : RawValue)
    → cell.namespace ≡ namespace → IsRaw raw → IsAuthorised rules namespace raw → has_entry area (row_of raw) ≡ true → AreBytes (feed_spelling (row_of raw ∷ []))
    → IsFollowed (one_followed rules namespace area cell other raw)
