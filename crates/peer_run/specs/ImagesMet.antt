-- What comes of it when the rows of two images meet.
use Rattle.std.specs.Prelude.{◌≡◌, ◌⊎◌, ℕ, ◌+◌, ◌-◌, ◌<◌, ◌^◌, List, ◌++◌, length, map, Option, Some, None, Result, Ok, Err, IfOk}
use Rattle.std.specs.List.{AllByRecursion}
use Rattle.spelling.specs.Answers.{or_else}
use Rattle.cap_codec.specs.Rows.{RawValue, IsRaw}
use Rattle.exchange_rules.specs.Items.{to_left, to_right, counted}
use Rattle.mc_cap.specs.declared.refusal.RefusedRow.{RefusedRow}
use Rattle.willow_area.specs.declared.area.Area.{Area}
use Rattle.area_interest.specs.declared.interest.Interest.{Interest}
use Rattle.willow_entry.specs.Row.{RowValue, join}
use Rattle.peer_image.specs.Image.{image}
use Rattle.ns_state.specs.Log.{StateValue}
use Rattle.auth_entry.specs.Authorised.{AuthorisedValue}
use Rattle.peer_rows.specs.Images.{LogsImage}
use Rattle.peer_rows.specs.RowLogs.{ArePastLog}
use Rattle.peer_rows.specs.Logged.{authorised_rows, first_refused}
use Rattle.peer_stage.specs.declared.outcome.JoinCounts.{JoinCounts}
use Rattle.peer_stage.specs.declared.outcome.MeetCounts.{MeetCounts}
use Rattle.peer_stage.specs.declared.outcome.SideCounts.{SideCounts}
use Rattle.peer_stage.specs.declared.outcome.Stop.{Stop}
use Rattle.peer_stage.specs.declared.outcome.Stop.TheVariants as stop
use Rattle.sync_hello.specs.declared.version.TheConstants.{HIGHEST_VERSION}
use Rattle.sync_core.specs.Flat.{TurnValue}
use Rattle.sync_pair.specs.Meeting.{turn_bytes}
use Rattle.peer_run.specs.Exchanged.{boxed, met, HasCome, IsPastOne}
use Rattle.peer_run.specs.Transcript.{transcript}
use Rattle.peer_run.specs.declared.exchanging.Came.{Came}
use Rattle.peer_run.specs.declared.exchanging.Exchanged.{Exchanged}
use Rattle.peer_run.specs.declared.images_met.Met.{Met}

-- what there is to know of the rows of an image: each is within its limits, and their number fits four bytes
pub record IsImageOfRows (rows : List RawValue) : Type 0 where
  pub fit : AllByRecursion IsRaw rows
  pub count : length rows < 2 ^ 32

-- the log of an image's rows is of the image's namespace
abbrev pub LogsOne : List ℕ → List RawValue → Result (StateValue AuthorisedValue × JoinCounts) Stop → Type 0
LogsOne n rows result = LogsImage n rows result × IfOk result (λ (x : StateValue AuthorisedValue × JoinCounts). x.0.namespace ≡ n)

-- ---- the numbers

-- the numbers of a side: the authorised rows of its image, and what became of the rows that came
abbrev pub side_counts : JoinCounts → Came → SideCounts
side_counts image came = record { rows = image.rows - image.refused; stored = came.stored; kept = came.kept }

-- a refused row behind so many others
abbrev pub refused_behind : ℕ → Option RefusedRow → Option RefusedRow
refused_behind before None = None
refused_behind before (Some first) = Some (record { row = before + first.row; refusal = first.refusal })

-- the first refused row of two images, counted over both
abbrev pub first_of_both : JoinCounts → JoinCounts → Option RefusedRow
first_of_both left right = or_else left.first (refused_behind left.rows right.first)

-- the numbers of a meeting
abbrev pub meet_counts : JoinCounts → JoinCounts → Exchanged → MeetCounts
meet_counts left right x =
    record { left = side_counts left x.left; right = side_counts right x.right; items = x.items; turns = length x.turns.items; first = first_of_both left right }

-- of these authorised rows of an image, and of the rows that came, these are the numbers
pub record IsSide (seen rows : List RowValue) (counts : SideCounts) : Type 0 where
  pub all : counts.rows ≡ length seen
  pub came : HasCome seen rows (record { stored = counts.stored; kept = counts.kept })

-- the numbers of a meeting of two images with these turns
pub record AreMetCounts (n : List ℕ) (left right : List RawValue) (turns : List TurnValue) (counts : MeetCounts) : Type 0 where
  pub left_side : IsSide (authorised_rows n left) (to_left turns) counts.left
  pub right_side : IsSide (authorised_rows n right) (to_right turns) counts.right
  pub of_items : counts.items ≡ counted turns
  pub of_turns : counts.turns ≡ length turns
  pub of_first : counts.first ≡ first_refused n (left ++ right)

-- ---- the meeting

-- the turns of the authorised rows of two images over an area, of which each side offers as much as the limits leave
abbrev pub image_turns : List ℕ → List RawValue → List RawValue → Option Area → Interest → List TurnValue
image_turns n left right area limits = met (authorised_rows n left) (authorised_rows n right) (boxed area) limits

-- Both sides took what came, of which each row that would be stored found room: these are the images of what they have
-- then, the transcript and the numbers.
pub record IsMeeting (n : List ℕ) (left right : List RawValue) (area : Option Area) (limits : Interest) (m : Met) : Type 0 where
  pub has_room : IsPastOne (authorised_rows n left) (authorised_rows n right) (boxed area) limits → ⊥
  pub left_image : m.left.items ≡ image n (join (authorised_rows n left) (to_left (image_turns n left right area limits)))
  pub right_image : m.right.items ≡ image n (join (authorised_rows n right) (to_right (image_turns n left right area limits)))
  pub told : m.transcript.items ≡ transcript (map (turn_bytes HIGHEST_VERSION) (image_turns n left right area limits))
  pub numbers : AreMetCounts n left right (image_turns n left right area limits) m.counts

-- the rows of an image, or what came to one side behind them, are too many for a log
abbrev pub MeetFullLog : List ℕ → List RawValue → List RawValue → Option Area → Interest → Type 0
MeetFullLog n left right area limits =
    ArePastLog (authorised_rows n left) ⊎ (ArePastLog (authorised_rows n right) ⊎ IsPastOne (authorised_rows n left) (authorised_rows n right) (boxed area) limits)

-- how the meeting of two images ends
abbrev pub MeetsImages : List ℕ → List RawValue → List RawValue → Option Area → Interest → Result Met Stop → Type 0
MeetsImages n left right area limits (Ok m) = IsMeeting n left right area limits m
MeetsImages n left right area limits (Err stop.LogFull) = MeetFullLog n left right area limits
MeetsImages n left right area limits (Err stop.NoMemory) = Unit {0}
MeetsImages n left right area limits (Err e) = ⊥
