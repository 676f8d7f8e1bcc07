use Rattle.std.proofs.Common.{◌++◌, flat_map, ap}
use Rattle.session_rules.specs.Reading.{ending_of}
use Rattle.session_rules.proofs.Growing.{says_of, rows_of}
use Rattle.session_rules.proofs.Worlds.{same_read}
use Rattle.sync_link.specs.Greetings.{greeting}
use Rattle.sync_link.specs.Places.{offers_of, places}
use Rattle.sync_link.specs.Sessions.{own_part, session_of, without_limits}
use Rattle.sync_link.proofs.Offering.{offers_same}
use Rattle.sync_link.proofs.laws.limits.Goals as goal

pub returns-clause-out : goal.returns-clause-out
returns-clause-out c = λ p rows shown bytes opening are.
    let a = session_of p rows in
    ap (λ m. flat_map a.spelling (a.opening ++ says_of m))
    (same_read (greeting p.rules p.namespace) places (own_part p) (offers_of p.interest rows) (offers_of (without_limits p).interest shown) bytes (offers_same p rows shown bytes opening are))

pub returns-clause-got : goal.returns-clause-got
returns-clause-got c = λ p rows shown bytes opening are.
    ap rows_of
    (same_read (greeting p.rules p.namespace) places (own_part p) (offers_of p.interest rows) (offers_of (without_limits p).interest shown) bytes (offers_same p rows shown bytes opening are))

pub returns-clause-ending : goal.returns-clause-ending
returns-clause-ending c = λ p rows shown bytes opening are.
    ap (λ m. ending_of m.stand)
    (same_read (greeting p.rules p.namespace) places (own_part p) (offers_of p.interest rows) (offers_of (without_limits p).interest shown) bytes (offers_same p rows shown bytes opening are))
