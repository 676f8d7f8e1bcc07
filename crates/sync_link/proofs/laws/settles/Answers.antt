use Rattle.std.proofs.Common.{All, subst, sym}
use Rattle.willow_entry.specs.Row.{HasCovering, join}
use Rattle.sync_core.specs.Place.{rows_of_area}
use Rattle.sync_link.specs.Sessions.{box_with, offered_to, version_with}
use Rattle.sync_link.proofs.Offering.{offered_among, opening_offered}
use Rattle.sync_link.proofs.Settled.{meets, settled, caller_covers, answerer_covers}
use Rattle.sync_link.proofs.laws.settles.Goals as goal

pub returns-clause-they_meet : goal.returns-clause-they_meet
returns-clause-they_meet c = λ p q rows others can own theirs. meets p q can rows others own theirs

pub returns-clause-done : goal.returns-clause-done
returns-clause-done c = λ p q rows others left right can own theirs meet. settled p q can rows others left right own theirs meet

pub returns-clause-caller_covers : goal.returns-clause-caller_covers
returns-clause-caller_covers c = λ p q rows others left right can own theirs meet apart.
    let box = box_with p q.hello in
    let yours = offered_to q p.hello others in
    subst (λ sent. All (HasCovering (join rows sent)) (rows_of_area box yours)) (sym (settled p q can rows others left right own theirs meet).caller_got)
    (caller_covers p.namespace (offered_to p q.hello rows) yours (opening_offered p.namespace p.interest box rows own) (opening_offered p.namespace q.interest (box_with q p.hello) others theirs) rows (offered_among p.interest box rows) (version_with p q.hello) box apart)

pub returns-clause-answerer_covers : goal.returns-clause-answerer_covers
returns-clause-answerer_covers c = λ p q rows others left right can own theirs meet apart.
    let box = box_with p q.hello in
    let mine = offered_to p q.hello rows in
    subst (λ sent. All (HasCovering (join others sent)) (rows_of_area box mine)) (sym (settled p q can rows others left right own theirs meet).answerer_got)
    (answerer_covers p.namespace mine (offered_to q p.hello others) (opening_offered p.namespace p.interest box rows own) (opening_offered p.namespace q.interest (box_with q p.hello) others theirs) others (offered_among q.interest (box_with q p.hello) others) (version_with p q.hello) box apart)
