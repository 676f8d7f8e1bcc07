use Rattle.std.proofs.Common.{ℕ, ◌+◌, ◌-◌, [], Ok, length, map, take}
use Rattle.cap_codec.specs.Rows.{row_of}
use Rattle.sync_link.specs.Signing.{OwesIn, SignsTo}
use Rattle.sync_link.specs.Taking.{waiting_side}
use Rattle.sync_link.specs.Asking.{AsksWhere, SignsOnce}
use Rattle.sync_link.specs.Talking.{SignsBy}
use Rattle.sync_link.specs.TakingAll.{TakesFront}
use Rattle.sync_link.proofs.side.take_all.take_all.Given as goal

abbrev pub invariant-loop-participant : goal.invariant-loop-participant
invariant-loop-participant g l = record {
  front : TakesFront g.S.Verify.rules g.R.Row.value l.fn.participant l.participant l.fn.due l.due l.bytes l.taken l.fn.out.items l.out.items (map row_of l.fn.lists.rows.items) (map row_of l.lists.rows.items);
  signing : SignsOnce g.K.Signer.gives g.K.Signer.asks g.K.Signer.left g.K.Signer.faults l.fn.participant.signature l.participant.signature l.fn.signer l.signer (Ok l.taken);
  signs : SignsBy (g.K.Signer.gives l.fn.signer) l.fn.participant.role l.fn.participant.hello l.fn.participant.signature l.participant.signature;
  greets : (at : ℕ) → SignsTo (g.K.Signer.gives l.fn.signer) (waiting_side g.S.Verify.rules g.R.Row.value l.fn.participant l.fn.due at []) (waiting_side g.S.Verify.rules g.R.Row.value l.participant l.due (at + l.taken) []) (take l.taken l.bytes);
  due : AsksWhere l.fn.participant.signature l.participant.signature l.fn.signer l.signer ((at : ℕ) → OwesIn (waiting_side g.S.Verify.rules g.R.Row.value l.fn.participant l.fn.due at []) l.bytes);
}

abbrev pub decreases-loop-participant : goal.decreases-loop-participant
decreases-loop-participant g l = length l.bytes - l.taken
