-- A run of a watch with status 0 or 1 is a whole watch.
use Rattle.std.proofs.Common.{◌≡◌, ◌≢◌, ℕ, List, false, refl, Option, Some, None, sym, ap, ◌∙◌, subst, arith}
use Rattle.std.proofs.lemmas.Bool.Decides.{nat_tests}
use Rattle.std.specs.Prelude.{Result, Ok, Err, IsSome, unwrap_or}
use Rattle.std.specs.String.{string_bytes}
use Rattle.std.specs.declared.string.String.{String}
use Rattle.std.specs.declared.alloc.Global.{Global}
use Rattle.willow_area.specs.Times.{ends_by}
use Rattle.mc_cap.specs.declared.refusal.RefusedRow.{RefusedRow}
use Rattle.peer_stage.specs.Stages.{IsWritten}
use Rattle.peer_stage.specs.Status.{status_of, first_status}
use Rattle.peer_stage.specs.declared.outcome.Done.{Done}
use Rattle.peer_stage.specs.declared.outcome.Stop.{Stop}
use Rattle.peer_stage.specs.declared.outcome.Stop.TheVariants as stop
use Rattle.peer_stage.specs.declared.outcome.WatchCounts.{WatchCounts}
use Rattle.peer_stage.proofs.Ends.{first_only}
use Rattle.peer_report.specs.Report.{report_of}
use Rattle.peer_rows.specs.Deeds.{watch_deed}
use Rattle.peer_rows.specs.Watch.{HasWatched, watched_area}
use Rattle.peer_rows.proofs.WholeWatch.{never_refused, whole_watch as watch_done}
use Rattle.peer_words.specs.Alike.{AreAlike}
use Rattle.peer_words.specs.Areas.{AreRising, is_empty}
use Rattle.peer_words.specs.Commands.{IsWords}
use Rattle.peer_words.specs.declared.command.AreaWords.{AreaWords}
use Rattle.peer_words.specs.declared.command.Command.{Command}
use Rattle.peer_words.specs.declared.command.Command.TheVariants as cmd
use Rattle.peer_words.proofs.OneCommand.{at_most_one}
use Rattle.peer_run.specs.Deeds.{deed_of}
use Rattle.peer_run.specs.Run.{Run, before_report}
use Rattle.peer_run.specs.Promises.{HasEnded, IsEnd}
use Rattle.peer_run.specs.WatchHeadline.{IsWholeWatch}

-- ---- the area of the words

-- times of words that do not end at 0 are some
some_times : (from : Option ℕ) (until : Option (Option ℕ)) → AreRising from until → until ≢ Some (Some 0) → ends_by (unwrap_or until None) (unwrap_or from 0) ≡ false
some_times None None rising some = refl
some_times None (Some None) rising some = refl
some_times None (Some (Some end)) rising some = above_zero end (λ zero. some (ap (λ (n : ℕ). Some (Some n)) zero))
  where
    above_zero : (n : ℕ) → n ≢ 0 → ends_by (Some n) 0 ≡ false
    above_zero n not = grind (arith, nat_tests)
some_times (Some start) None rising some = refl
some_times (Some start) (Some None) rising some = refl
some_times (Some start) (Some (Some end)) rising some = grind (arith, nat_tests)

pub watched_some : (words : List (List ℕ)) (image : String Global) (area : AreaWords) → IsWords words (cmd.Watch image area) → is_empty (watched_area area) ≡ false
watched_some words image area is = some_times area.from area.until is.values.area_given.rising is.values.some_time

-- ---- the command

-- words that are a watch are no other command, but for how their name stands in memory
record IsAlike (image : String Global) (area : AreaWords) (c : Command) : Type 0 where
  other : String Global
  same : string_bytes other ≡ string_bytes image
  is : c ≡ cmd.Watch other area

alike_is : (image : String Global) (area : AreaWords) (c : Command) → AreAlike (cmd.Watch image area) c → IsAlike image area c
alike_is image area (cmd.Watch other words) alike = record { other = other; same = sym alike.0; is = ap (cmd.Watch other) (sym alike.1) }
alike_is image area c alike = absurd alike

-- a first refused row by the status
all_fine : (first : Option RefusedRow) → first_status first ≡ 0 → first ≡ None
all_fine None zero = refl
all_fine (Some row) zero = absurd (omega (arith, zero))

one_refused : (first : Option RefusedRow) → first_status first ≡ 1 → IsSome first
one_refused None one = absurd (omega (arith, one))
one_refused (Some row) one = refl

whole : (run : Run) (image other : String Global) (area : AreaWords) (d : Done) → string_bytes other ≡ string_bytes image → (watch_deed other area).meets run.old (before_report run) (Ok d) → IsWritten run.old.report run.new.report (report_of (Ok d)) → run.status ≡ status_of (Ok d)
    → IsWholeWatch image area run
whole run image other area d same meets reported status_is =
    let w = watch_done other area run.old (before_report run) d meets in
    let counts : WatchCounts = w.0 in
    let status : run.status ≡ first_status counts.first = status_is ∙ ap (λ (e : Done). status_of (Ok e)) w.1 ∙ first_only counts.first in
    record {
      counts = counts;
      watched = subst (λ (name : List ℕ). HasWatched name area run.old (before_report run) counts) same w.2;
      reported = subst (λ (e : Done). IsWritten run.old.report run.new.report (report_of (Ok e))) w.1 reported;
      all_authorised = λ zero. all_fine counts.first (sym status ∙ zero);
      some_refused = λ one. one_refused counts.first (sym status ∙ one);
    }

pub whole_watch : (run : Run) (image : String Global) (area : AreaWords) → HasEnded run → IsWords run.words (cmd.Watch image area) → IsWholeWatch image area run
whole_watch run image area ended is_watch =
    let alike = alike_is image area ended.command (at_most_one run.words (cmd.Watch image area) ended.command is_watch ended.is_words) in
    go alike.other alike.same ended.end (subst (λ (k : Command). (deed_of k).meets run.old (before_report run) ended.end) alike.is ended.meets) ended.is_end ended.reported ended.status_is
  where
    go : (other : String Global) → string_bytes other ≡ string_bytes image → (end : Result Done Stop) → (watch_deed other area).meets run.old (before_report run) end → IsEnd end → IsWritten run.old.report run.new.report (report_of end) → run.status ≡ status_of end → IsWholeWatch image area run
    go other same (Ok d) meets is_end reported status_is = whole run image other area d same meets reported status_is
    go other same (Err (stop.Refused refusal)) meets is_end reported status_is = absurd (never_refused other area refusal run.old (before_report run) meets)
    go other same (Err e) meets is_end reported status_is = absurd is_end
