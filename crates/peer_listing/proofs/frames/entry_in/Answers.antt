use Rattle.std.proofs.lemmas.List.{take_rest}
use Rattle.peer_listing.proofs.frames.entry_in.Goals as goal

pub returns : goal.returns
returns c = take_rest c.args.signed.now 34
