use Rattle.std.proofs.Common.{◌++◌, flat_map, ap}
use Rattle.session_rules.specs.Reading.{ending_of}
use Rattle.session_rules.proofs.Growing.{says_of, rows_of}
use Rattle.session_rules.proofs.Worlds.{same_read}
use Rattle.sync_link.specs.Greetings.{greeting}
use Rattle.sync_link.specs.Places.{offers_of, places}
use Rattle.sync_link.specs.Sessions.{own_part, session_of}
use Rattle.sync_link.proofs.laws.worlds.Goals as goal

pub returns-clause-out : goal.returns-clause-out
returns-clause-out c = λ p rows others bytes same.
    let a = session_of p rows in
    ap (λ m. flat_map a.spelling (a.opening ++ says_of m)) (same_read (greeting p.rules p.namespace) places (own_part p) (offers_of p.interest rows) (offers_of p.interest others) bytes same)

pub returns-clause-got : goal.returns-clause-got
returns-clause-got c = λ p rows others bytes same. ap rows_of (same_read (greeting p.rules p.namespace) places (own_part p) (offers_of p.interest rows) (offers_of p.interest others) bytes same)

pub returns-clause-ending : goal.returns-clause-ending
returns-clause-ending c = λ p rows others bytes same. ap (λ m. ending_of m.stand) (same_read (greeting p.rules p.namespace) places (own_part p) (offers_of p.interest rows) (offers_of p.interest others) bytes same)
