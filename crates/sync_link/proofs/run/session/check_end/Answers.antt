use Rattle.std.proofs.Common.{rules, ◌≡◌, ◌<◌, None, arith}
use Rattle.session_rules.specs.Reading.{Done, ending_of}
use Rattle.sync_link.specs.UnderWay.{now_of}
use Rattle.sync_link.proofs.AskedFor.{unsigned_or_owes}
use Rattle.sync_link.proofs.LinkEnds.{as_done, as_bad, as_hello, as_core, bad_message, hello_refused, item_refused, log_full}
use Rattle.sync_link.proofs.run.session.check_end.Goals as goal

pub returns-in-BadMessage-clause-ends : goal.returns-in-BadMessage-clause-ends
returns-in-BadMessage-clause-ends g c start pass link left faults u =
    let now = now_of g.S.Verify.rules c.args.session.now pass link left faults in
    bad_message start now u (now.progress.side.signature ≡ None) (unsigned_or_owes start now.progress u.bytes u.written u.rows u.reached) c.in-BadMessage.at (as_bad (ending_of c.args.session.now.side.stand) c.in-BadMessage.at c.in-BadMessage.ensures)

pub returns-in-Hello-clause-ends : goal.returns-in-Hello-clause-ends
returns-in-Hello-clause-ends g c start pass link left faults u =
    let now = now_of g.S.Verify.rules c.args.session.now pass link left faults in
    hello_refused start now u (now.progress.side.signature ≡ None) (unsigned_or_owes start now.progress u.bytes u.written u.rows u.reached) c.in-Hello.cause (as_hello (ending_of c.args.session.now.side.stand) c.in-Hello.cause c.in-Hello.ensures)

pub returns-in-Core-clause-ends : goal.returns-in-Core-clause-ends
returns-in-Core-clause-ends g c start pass link left faults u =
    let now = now_of g.S.Verify.rules c.args.session.now pass link left faults in
    item_refused start now u (now.progress.side.signature ≡ None) (unsigned_or_owes start now.progress u.bytes u.written u.rows u.reached) c.in-Core.cause (as_core (ending_of c.args.session.now.side.stand) c.in-Core.cause c.in-Core.ensures)

pub returns-in_default-clause-ends : goal.returns-in_default-clause-ends
returns-in_default-clause-ends g c start pass link left faults u =
    let now = now_of g.S.Verify.rules c.args.session.now pass link left faults in
    let some : 0 < now.tally.missed = omega arith in
    let over : ending_of c.args.session.now.side.stand ≡ Done = as_done (ending_of c.args.session.now.side.stand) (search rules) in
    log_full start now u (now.progress.side.signature ≡ None) (unsigned_or_owes start now.progress u.bytes u.written u.rows u.reached) over some
