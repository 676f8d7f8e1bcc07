use Rattle.auth_entry.specs.Batch.{pending_refusal}
use Rattle.auth_entry.proofs.Lists.{mapped_on}
use Rattle.auth_entry.proofs.turns.put_cause.Goals as goal

pub returns : goal.returns
returns g c = record {
  judged = rw c.in_ok-push.ensures.items (mapped_on (pending_refusal g.S.Verify.rules) c.args.pendings.now c.args.at c.args.causes.now.items c.in_ok-cause.cause c.requires.place c.requires.before c.in_ok-cause.ensures);
}
