use Rattle.std.proofs.Common.{◌++◌, flat_map, ap}
use Rattle.session_rules.specs.Reading.{ending_of}
use Rattle.session_rules.specs.Session.{session}
use Rattle.session_rules.proofs.Growing.{says_of, rows_of}
use Rattle.session_rules.proofs.Worlds.{same_read}
use Rattle.session_rules.proofs.laws.worlds.Goals as goal

pub returns-clause-out : goal.returns-clause-out
returns-clause-out g c = λ greeting k own offers others bytes same.
    let a = session greeting k own offers in
    ap (λ m. flat_map a.spelling (a.opening ++ says_of m)) (same_read greeting k own offers others bytes same)

pub returns-clause-got : goal.returns-clause-got
returns-clause-got g c = λ greeting k own offers others bytes same. ap rows_of (same_read greeting k own offers others bytes same)

pub returns-clause-ending : goal.returns-clause-ending
returns-clause-ending g c = λ greeting k own offers others bytes same. ap (λ m. ending_of m.stand) (same_read greeting k own offers others bytes same)
