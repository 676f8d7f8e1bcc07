use Rattle.auth_entry.proofs.Meaning.{own_namespace, authorised_in_own}
use Rattle.auth_entry.proofs.authorised.AuthorisedEntry.new.Goals as goal

pub invariant_of-result : goal.invariant_of-result
invariant_of-result g c = authorised_in_own g.S.Verify.rules c.args.namespace c.args.row c.into_spelled.result c.into_spelled.ensures c.requires

pub returns-clause-namespace : goal.returns-clause-namespace
returns-clause-namespace g c = own_namespace g.S.Verify.rules c.args.namespace c.args.row c.into_spelled.result c.into_spelled.ensures c.requires
