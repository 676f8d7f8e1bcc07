-- A run of a join with status 0 or 1 is a whole join.
use Rattle.std.proofs.Common.{◌≡◌, ℕ, inl, inr, List, sym, ap, ◌∙◌, subst}
use Rattle.willow_outside.specs.Facts.{SourceFacts, SinkFacts}
use Rattle.std.specs.Prelude.{Result, Ok, Err}
use Rattle.peer_stage.specs.Stages.{IsWritten}
use Rattle.peer_stage.specs.declared.outcome.Done.{Done}
use Rattle.peer_stage.specs.declared.outcome.Done.TheVariants as done
use Rattle.peer_stage.specs.declared.outcome.Stop.{Stop}
use Rattle.peer_stage.specs.declared.outcome.Stop.TheVariants as stop
use Rattle.peer_stage.specs.Status.{status_of, refused_status}
use Rattle.peer_stage.specs.World.{World}
use Rattle.peer_report.specs.Report.{report_of}
use Rattle.peer_rows.specs.Deeds.{join_deed}
use Rattle.peer_rows.specs.Join.{IsJoinRead}
use Rattle.peer_words.specs.Alike.{AreAlike}
use Rattle.peer_words.specs.Commands.{IsWords}
use Rattle.peer_words.specs.declared.command.Command.{Command}
use Rattle.peer_words.specs.declared.command.Command.TheVariants as cmd
use Rattle.peer_words.proofs.OneCommand.{at_most_one}
use Rattle.peer_run.specs.Deeds.{deed_of}
use Rattle.peer_run.specs.Run.{Run, before_report}
use Rattle.peer_run.specs.Headline.{IsWholeJoin}
use Rattle.peer_run.specs.Promises.{HasEnded, IsEnd}
use Rattle.peer_stage.proofs.Ends.{refused_only, refused_none, refused_some}

-- words that are a join are no other command
alike_is : (n : List ℕ) (c : Command) → AreAlike (cmd.Join n) c → c ≡ cmd.Join n
alike_is n (cmd.Join m) same = ap cmd.Join (sym same)
alike_is n c same = absurd same

one_join : (words : List (List ℕ)) (n : List ℕ) (c : Command) → IsWords words (cmd.Join n) → IsWords words c → c ≡ cmd.Join n
one_join words n c join other = alike_is n c (at_most_one words (cmd.Join n) c join other)

-- a join that gave an image read the input, and wrote the image behind what was held
whole : (run : Run) (n : List ℕ) (d : Done) → (join_deed n).meets run.old (before_report run) (Ok d) → IsWritten run.old.report run.new.report (report_of (Ok d)) → run.status ≡ status_of (Ok d) → IsWholeJoin n run
whole run n d meets reported status_is =
    let x = meets.value in
    let is : d ≡ done.Joined x.1 = meets.rest.does.1 in
    let status : run.status ≡ refused_status x.1.refused = status_is ∙ ap (λ (e : Done). status_of (Ok e)) is ∙ refused_only x.1.refused in
    let input : meets.between.input ≡ run.new.input = sym (ap (λ (w : World). w.input) meets.rest.others) in
    let output : meets.between.output ≡ run.old.output = ap (λ (w : World). w.output) meets.given.others in
    let read = subst (λ (i : SourceFacts). IsJoinRead n run.old.input i x.0 x.1) input meets.given.does in
    record {
      bytes = read.bytes;
      read = read.read;
      rows = read.join.rows;
      frames = read.join.frames;
      fits_log = read.join.fits_log;
      written = subst (λ (text : List ℕ). IsWritten run.old.output run.new.output text) read.join.is_image (subst (λ (o : SinkFacts). IsWritten o run.new.output x.0) output meets.rest.does.0);
      counts = x.1;
      counted = read.join.counted;
      reported = subst (λ (e : Done). IsWritten run.old.report run.new.report (report_of (Ok e))) is reported;
      all_authorised = λ zero_is. refused_none x.1.refused (sym status ∙ zero_is);
      some_refused = λ one_is. refused_some x.1.refused (sym status ∙ one_is);
    }

pub whole_join : (run : Run) (n : List ℕ) → HasEnded run → IsWords run.words (cmd.Join n) → IsWholeJoin n run
whole_join run n ended is_join =
    go ended.end (subst (λ (k : Command). (deed_of k).meets run.old (before_report run) ended.end) (one_join run.words n ended.command is_join ended.is_words) ended.meets) ended.is_end ended.reported ended.status_is
  where
    go : (end : Result Done Stop) → (join_deed n).meets run.old (before_report run) end → IsEnd end → IsWritten run.old.report run.new.report (report_of end) → run.status ≡ status_of end → IsWholeJoin n run
    go (Ok d) meets is_end reported status_is = whole run n d meets reported status_is
    go (Err (stop.Refused refusal)) (inl s) is_end reported status_is = absurd s.does
    go (Err (stop.Refused refusal)) (inr p) is_end reported status_is = absurd p.rest.does
    go (Err e) meets is_end reported status_is = absurd is_end
