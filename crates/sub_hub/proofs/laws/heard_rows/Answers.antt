use Rattle.sub_hub.proofs.Meaning.{heard_members, heard_rises, heard_in_pieces}
use Rattle.sub_hub.proofs.laws.heard_rows.Goals as goal

pub returns-clause-members : goal.returns-clause-members
returns-clause-members c = heard_members

pub returns-clause-rising : goal.returns-clause-rising
returns-clause-rising c = heard_rises

pub returns-clause-pieces : goal.returns-clause-pieces
returns-clause-pieces c = heard_in_pieces
