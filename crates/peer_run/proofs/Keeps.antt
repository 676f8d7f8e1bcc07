-- What follows of every run.
use Rattle.std.proofs.Common.{◌≤◌}
use Rattle.peer_run.specs.Run.{Run, RunsWords}
use Rattle.peer_run.specs.Promises.{KeepsPromises}
use Rattle.peer_run.proofs.Causes.{ended, usage, is_command, read_fault, write_fault, bad_input, refused, log_full, key_spent, statuses}
use Rattle.peer_run.proofs.Complete.{complete}
use Rattle.peer_run.proofs.WholeJoin.{whole_join}
use Rattle.peer_run.proofs.WholeWatch.{whole_watch}
use Rattle.peer_run.proofs.WholeMeeting.{whole_meeting}
use Rattle.peer_run.proofs.WholeHost.{sync_promises, serve_promises}
use Rattle.peer_run.proofs.Reported.{counts_stand, none_passed_over, hides_none, report_stood}

pub keeps : (run : Run) → RunsWords run → run.old.report.faults ≤ run.new.report.faults → KeepsPromises run
keeps run runs faults =
    record {
      runs = runs;
      joined = λ namespace is_join small. whole_join run namespace (ended run runs small) is_join;
      watched = λ image area is_watch small. whole_watch run image area (ended run runs small) is_watch;
      met = λ words is_meet small. whole_meeting run words (ended run runs small) is_meet;
      synced = sync_promises run runs;
      served = serve_promises run runs;
      ended = ended run runs;
      usage = λ is. (usage run runs is).0;
      untouched = λ is. (usage run runs is).1;
      command = is_command run runs;
      read_fault = read_fault run runs;
      write_fault = write_fault run runs;
      bad_input = bad_input run runs;
      refused = refused run runs;
      log_full = log_full run runs;
      key_spent = key_spent run runs;
      unfailed = none_passed_over run runs;
      want = hides_none run runs;
      report_unfailed = report_stood run runs;
      statuses = statuses run runs;
      counts = counts_stand run runs faults;
      complete = complete run runs;
    }
