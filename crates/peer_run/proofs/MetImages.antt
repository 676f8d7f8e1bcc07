-- What comes of two images when their rows have met.
use Rattle.std.proofs.Common.{◌≡◌, ℕ, List, ◌++◌, length, map, Option, inl, inr, sym, ap, ◌∙◌, subst, arith}
use Rattle.std.specs.Prelude.{Err}
use Rattle.std.specs.List.{All, AllByRecursion}
use Rattle.std.proofs.lemmas.List.{length-map}
use Rattle.std.proofs.lemmas.List.Elements.{All-from_recursion}
use Rattle.spelling.specs.Answers.{or_else}
use Rattle.spelling.specs.declared.ending.End.{End}
use Rattle.spelling.specs.declared.ending.End.TheVariants.{Refused, NoMemory}
use Rattle.willow_area.specs.declared.area.Area.{Area}
use Rattle.willow_entry.specs.Frame.{HasFrame}
use Rattle.willow_entry.specs.Row.{RowValue, live}
use Rattle.area_interest.specs.declared.interest.Interest.{Interest}
use Rattle.cap_codec.specs.Rows.{RawValue}
use Rattle.auth_entry.specs.Authorised.{AuthorisedValue}
use Rattle.exchange_rules.specs.Items.{to_left, to_right}
use Rattle.sync_hello.specs.declared.version.TheConstants.{HIGHEST_VERSION}
use Rattle.sync_core.specs.Flat.{TurnValue}
use Rattle.sync_pair.specs.Meeting.{turn_bytes}
use Rattle.peer_image.specs.Image.{image}
use Rattle.peer_rows.specs.Images.{LogsImage, log_stop}
use Rattle.auth_entry.specs.Rows.{entry_row}
use Rattle.peer_rows.specs.Logged.{authorised_rows, live_rows, first_refused, AreCounts}
use Rattle.ns_state.specs.Log.{StateValue}
use Rattle.ns_state.specs.declared.live_log.LogFull.{LogFull}
use Rattle.peer_rows.specs.RowLogs.{HasTaken}
use Rattle.peer_rows.proofs.Taken.{taken_live}
use Rattle.peer_stage.specs.declared.outcome.JoinCounts.{JoinCounts}
use Rattle.peer_stage.specs.declared.outcome.Stop.{Stop}
use Rattle.peer_stage.specs.declared.outcome.Stop.TheVariants as stop
use Rattle.peer_run.specs.Exchanged.{boxed, AreMet, Exchanges, HasCome, HasTakenUp}
use Rattle.peer_run.specs.ImagesMet.{IsImageOfRows, IsSide, AreMetCounts, IsMeeting, MeetsImages, meet_counts, refused_behind, side_counts, image_turns}
use Rattle.peer_run.specs.Transcript.{transcript}
use Rattle.peer_run.specs.declared.exchanging.Came.{Came}
use Rattle.peer_run.specs.declared.exchanging.Exchanged.{Exchanged}
use Rattle.peer_run.specs.declared.images_met.Met.{Met}
use Rattle.peer_rows.proofs.AuthorisedRows.{authorised_framed}
use Rattle.peer_run.proofs.FirstOfBoth.{first_behind}
use Rattle.peer_run.proofs.Members.{all_left, all_right, live_all}

-- ---- what a log holds

module _ (n : List ℕ) (rows : List RawValue) (log : StateValue AuthorisedValue) (takes : HasTaken entry_row (authorised_rows n rows) log) where
  pub logged_framed : IsImageOfRows rows → All HasFrame (live_rows log)
  logged_framed is = subst (All HasFrame) (sym (taken_live entry_row (authorised_rows n rows) log takes)) (All-from_recursion HasFrame (live (authorised_rows n rows)) (live_all HasFrame (authorised_rows n rows) (authorised_framed n rows is.fit)))

module _ (n : List ℕ) (left right : List RawValue) (area : Option Area) (limits : Interest) where
  abbrev a : List RowValue
  a = authorised_rows n left

  abbrev b : List RowValue
  b = authorised_rows n right

  abbrev turns : List TurnValue
  turns = image_turns n left right area limits

  -- ---- stops

  pub left_too_many : (e : Stop) → LogsImage n left (Err e) → MeetsImages n left right area limits (Err e)
  left_too_many stop.LogFull logs = inl logs
  left_too_many stop.NoMemory logs = tt
  left_too_many e logs = absurd logs

  pub right_too_many : (e : Stop) → LogsImage n right (Err e) → MeetsImages n left right area limits (Err e)
  right_too_many stop.LogFull logs = inr (inl logs)
  right_too_many stop.NoMemory logs = tt
  right_too_many e logs = absurd logs

  pub too_much_comes : (one other : StateValue AuthorisedValue) (e : End LogFull) → Exchanges a b (boxed area) limits one other (Err e) → MeetsImages n left right area limits (Err (log_stop e))
  too_much_comes one other (Refused full) exchanges = inr (inr exchanges)
  too_much_comes one other NoMemory exchanges = tt

  -- ---- frames of what both hold then

  pub left_framed : (log : StateValue AuthorisedValue) (came : Came) → IsImageOfRows left → IsImageOfRows right → HasTakenUp a (to_left turns) log came → AllByRecursion HasFrame (live_rows log)
  left_framed log came one other takes =
      subst (AllByRecursion HasFrame) (sym (taken_live entry_row (a ++ to_left turns) log takes.taken)) (live_all HasFrame (a ++ to_left turns) (all_left HasFrame a b (boxed area) limits (authorised_framed n left one.fit) (authorised_framed n right other.fit)))

  pub right_framed : (log : StateValue AuthorisedValue) (came : Came) → IsImageOfRows left → IsImageOfRows right → HasTakenUp b (to_right turns) log came → AllByRecursion HasFrame (live_rows log)
  right_framed log came one other takes =
      subst (AllByRecursion HasFrame) (sym (taken_live entry_row (b ++ to_right turns) log takes.taken)) (live_all HasFrame (b ++ to_right turns) (all_right HasFrame a b (boxed area) limits (authorised_framed n left one.fit) (authorised_framed n right other.fit)))

  -- ---- the numbers

  is_side : (rows : List RawValue) (sent : List RowValue) (counts : JoinCounts) (came : Came) → AreCounts n rows counts → HasCome (authorised_rows n rows) sent came → IsSide (authorised_rows n rows) sent (side_counts counts came)
  is_side rows sent counts came counted numbers = record { all = omega (arith, counted.all, counted.refused); came = numbers }

  pub are_counts : (one other : StateValue AuthorisedValue) (x : Exchanged) (left_counts right_counts : JoinCounts) → AreCounts n left left_counts → AreCounts n right right_counts → AreMet a b (boxed area) limits one other x
      → AreMetCounts n left right turns (meet_counts left_counts right_counts x)
  are_counts one other x left_counts right_counts counted counted_too is =
      record {
        left_side = is_side left (to_left turns) left_counts x.left counted is.left.numbers;
        right_side = is_side right (to_right turns) right_counts x.right counted_too is.right.numbers;
        of_items = is.items;
        of_turns = sym (length-map x.turns.items (λ t. t.items)) ∙ ap length is.turns ∙ length-map turns (turn_bytes HIGHEST_VERSION);
        of_first =
            ap (λ (first : Option _). or_else first (refused_behind left_counts.rows right_counts.first)) counted.first
            ∙ ap (λ (first : Option _). or_else (first_refused n left) (refused_behind left_counts.rows first)) counted_too.first
            ∙ first_behind n left right left_counts.rows counted.all;
      }

  -- ---- all of it

  pub is_meeting : (one other : StateValue AuthorisedValue) (x : Exchanged) (left_counts right_counts : JoinCounts) (m : Met) → AreCounts n left left_counts → AreCounts n right right_counts → AreMet a b (boxed area) limits one other x
      → m.left.items ≡ image n (live_rows one) → m.right.items ≡ image n (live_rows other) → m.transcript.items ≡ transcript (map (λ t. t.items) x.turns.items) → m.counts ≡ meet_counts left_counts right_counts x
      → IsMeeting n left right area limits m
  is_meeting one other x left_counts right_counts m counted counted_too is left_is right_is text_is counts_are =
      record {
        has_room = λ past. elim past [ inl passes ↦ is.left.room passes | inr passes ↦ is.right.room passes ];
        left_image = left_is ∙ ap (image n) (taken_live entry_row (a ++ to_left turns) one is.left.taken);
        right_image = right_is ∙ ap (image n) (taken_live entry_row (b ++ to_right turns) other is.right.taken);
        told = text_is ∙ ap transcript is.turns;
        numbers = subst (AreMetCounts n left right turns) (sym counts_are) (are_counts one other x left_counts right_counts counted counted_too is);
      }
