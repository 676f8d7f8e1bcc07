-- The headline of a meeting. Each side then has the join of its own rows and those that it was sent. Where fingerprints
-- tell rows apart, that is the join with all that the other offers in the area: its rows of interest there, which without limits
-- are all. The rows that are offered there alone decide what is said and sent, and what each side says its own and what it reads.
use Rattle.std.specs.Prelude.{◌≡◌, ℕ, ◌≤◌, List, ◌++◌, map, Option, Some, IsNone, IsSome}
use Rattle.std.specs.Option.{option_map}
use Rattle.std.specs.String.{string_bytes}
use Rattle.willow_area.specs.Boxes.{Ranges}
use Rattle.area_interest.specs.declared.interest.Interest.{Interest}
use Rattle.willow_entry.specs.Row.{RowValue, join}
use Rattle.willow_outside.specs.Names.{name_put}
use Rattle.exchange_rules.specs.Items.{to_left, to_right}
use Rattle.exchange_rules.specs.Exchange.{Apart}
use Rattle.sync_hello.specs.declared.version.TheConstants.{HIGHEST_VERSION}
use Rattle.sync_core.specs.Flat.{TurnValue}
use Rattle.sync_core.specs.Place.{rows_of_area}
use Rattle.sync_core.specs.SyncRules.{sync_rules}
use Rattle.sync_pair.specs.Alone.{SayAlone}
use Rattle.sync_pair.specs.Meeting.{meeting, turn_bytes}
use Rattle.peer_image.specs.Image.{image}
use Rattle.peer_report.specs.Report.{met_lines, first_line}
use Rattle.peer_rows.specs.Logged.{authorised_rows}
use Rattle.peer_stage.specs.Stages.{IsWritten}
use Rattle.peer_stage.specs.declared.outcome.MeetCounts.{MeetCounts}
use Rattle.peer_words.specs.Commands.{IsWords}
use Rattle.peer_words.specs.declared.command.Command.TheVariants as cmd
use Rattle.peer_run.specs.Exchanged.{boxed}
use Rattle.peer_run.specs.ImagesMet.{AreMetCounts}
use Rattle.peer_run.specs.Meet.{agreed_area}
use Rattle.peer_run.specs.Offered.{offer}
use Rattle.peer_run.specs.PairDeeds.{Given, AreGiven}
use Rattle.peer_run.specs.Run.{Run}
use Rattle.peer_run.specs.Transcript.{transcript}
use Rattle.peer_run.specs.declared.meeting.MeetWords.{MeetWords}

-- ---- two stores that meet

-- the rows of both, the box of the area that both sides may read, where there is one, and how much of it each offers
pub record Stores : Type 0 where
  pub left : List RowValue
  pub right : List RowValue
  pub area : Option Ranges
  pub limits : Interest

-- what each offers of its rows
abbrev pub left_offer : Stores → List RowValue
left_offer s = offer s.limits s.area s.left

abbrev pub right_offer : Stores → List RowValue
right_offer s = offer s.limits s.area s.right

-- those of a meeting: the authorised rows of its images, the area that its words and capabilities agree on, and the limits of
-- its words
abbrev pub stores_of : MeetWords → Given → Stores
stores_of words g =
    record {
      left = authorised_rows g.namespace g.left;
      right = authorised_rows g.namespace g.right;
      area = boxed (agreed_area words.area g.left_cap g.right_cap);
      limits = words.limits;
    }

-- the turns that they take in the version that this program speaks, the left one first, and what is said in them, as bytes
abbrev pub turns_of : Stores → List TurnValue
turns_of s = meeting HIGHEST_VERSION (left_offer s) (right_offer s) s.area

abbrev pub said : Stores → List ℕ
said s = transcript (map (turn_bytes HIGHEST_VERSION) (turns_of s))

-- what each side has then: its rows joined with those that it was sent
abbrev pub left_behind : Stores → List RowValue
left_behind s = join s.left (to_left (turns_of s))

abbrev pub right_behind : Stores → List RowValue
right_behind s = join s.right (to_right (turns_of s))

-- Fingerprints tell the rows that are offered apart: where both have the same one for a box that is asked for, both offer the
-- same rows there.
abbrev pub FingerprintsTell : Stores → Type 0
FingerprintsTell s = (box : Ranges) → s.area ≡ Some box → Apart (sync_rules HIGHEST_VERSION) (left_offer s) (right_offer s) box

-- the area is the same, and in it both left sides offer the same rows, and both right sides
pub record HaveSameInArea (s t : Stores) : Type 0 where
  pub area : s.area ≡ t.area
  pub left : rows_of_area s.area (left_offer s) ≡ rows_of_area t.area (left_offer t)
  pub right : rows_of_area s.area (right_offer s) ≡ rows_of_area t.area (right_offer t)

-- they say the same, and the same rows are sent to either side
pub record MeetAlike (s t : Stores) : Type 0 where
  pub said : said s ≡ said t
  pub to_left : to_left (turns_of s) ≡ to_left (turns_of t)
  pub to_right : to_right (turns_of s) ≡ to_right (turns_of t)

-- ---- a run of `meet`

-- the images of these rows were put under the names for the two sides, the left one first, and no other name changed
abbrev pub ArePut : MeetWords → Run → List ℕ → List RowValue → List RowValue → Type 0
ArePut words run n left right =
    run.new.shelf.names ≡ option_map (name_put (string_bytes words.right_out) (image n right)) (option_map (name_put (string_bytes words.left_out) (image n left)) run.old.shelf.names)

-- the three sentences, of stores in a namespace
pub record HaveMet (words : MeetWords) (run : Run) (n : List ℕ) (s : Stores) : Type 0 where
  -- each side joined its rows with those that it was sent, and the images of that are put
  pub joined : ArePut words run n (left_behind s) (right_behind s)
  -- where fingerprints tell rows apart, these are the joins with all that the other side offers in the area
  pub converged : FingerprintsTell s → ArePut words run n (join s.left (rows_of_area s.area (right_offer s))) (join s.right (rows_of_area s.area (left_offer s)))
  -- the output grew by what was said
  pub written : IsWritten run.old.output run.new.output (said s)
  -- the rows that are offered in the area alone decide what is said and sent, whatever the sides hold besides
  pub alike : (others : Stores) → HaveSameInArea s others → MeetAlike s others
  -- and so it is with each side by itself: what it says is a function of the rows that it offers there and of what it reads
  pub alone : SayAlone HIGHEST_VERSION (left_offer s) (right_offer s) s.area

-- a run in which what stood under the names of the words met, and its numbers were reported
pub record IsWholeMeeting (words : MeetWords) (run : Run) : Type 0 where
  -- the names held what the meeting goes by
  pub given : Given
  pub are_given : AreGiven words run.old.shelf.names given
  -- the stores met
  pub met : HaveMet words run given.namespace (stores_of words given)
  -- the report grew by the numbers of it, and the line of the first row of the images that is not authorised, if one is
  pub counts : MeetCounts
  pub counted : AreMetCounts given.namespace given.left given.right (turns_of (stores_of words given)) counts
  pub reported : IsWritten run.old.report run.new.report (met_lines counts ++ first_line counts.first)
  pub all_authorised : run.status ≡ 0 → IsNone counts.first
  pub some_refused : run.status ≡ 1 → IsSome counts.first

-- A `meet` that ends with status 0 or 1 is such a meeting.
abbrev pub MeetHeadline : Run → Type 0
MeetHeadline run =
    (words : MeetWords) → IsWords run.words (cmd.Meet words.left words.right words.left_cap words.right_cap words.left_out words.right_out words.area words.limits.newest words.limits.bytes)
    → run.status ≤ 1 → IsWholeMeeting words run
