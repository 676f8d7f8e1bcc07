use Rattle.peer_rows.proofs.Watched.{rows_are, stored_up, stored_are, kept_up, kept_are, refused_up, refused_are}
use Rattle.peer_rows.proofs.watching.counts_behind.Goals as goal

pub overflow_sub-result-2 : goal.overflow_sub-result-2
overflow_sub-result-2 c =
    let r = c.requires in
    stored_up r.0 r.1 r.2 c.args.before.now c.args.counts.now r.3 r.4

pub overflow_sub-result-3 : goal.overflow_sub-result-3
overflow_sub-result-3 c =
    let r = c.requires in
    kept_up r.0 r.1 r.2 c.args.before.now c.args.counts.now r.3 r.4

pub overflow_sub-result-4 : goal.overflow_sub-result-4
overflow_sub-result-4 c =
    let r = c.requires in
    refused_up r.0 r.1 r.2 c.args.before.now c.args.counts.now r.3 r.4

pub returns-clause-counted : goal.returns-clause-counted
returns-clause-counted c = λ n had rows was is.
    let before = c.args.before.now in
    let counts = c.args.counts.now in
    record {
      all = rows_are n had rows before counts was is;
      stored = stored_are n had rows before counts was is;
      kept = kept_are n had rows before counts was is;
      refused = refused_are n had rows before counts was is;
      first = is.first;
    }
