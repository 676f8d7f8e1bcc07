use Rattle.mesh_answers.proofs.Answering.{offered_so, met_so}
use Rattle.mesh_answers.proofs.answer.answer.Goals as goal

pub returns-in-Offer-clause-answer : goal.returns-in-Offer-clause-answer
returns-in-Offer-clause-answer g c =
    rw c.in-Offer.is
    (offered_so g.M.MeshStores.rules g.M.MeshStores.rows (g.M.MeshStores.rows c.args.nodes) c.in-Offer.node c.in-Offer.row c.args.out.now.items c.offer.result c.offer.ensures.rows)

pub returns-in-Meet-clause-answer : goal.returns-in-Meet-clause-answer
returns-in-Meet-clause-answer g c =
    rw c.in-Meet.is
    (met_so g.M.MeshStores.rules g.M.MeshStores.rows (g.M.MeshStores.rows c.args.nodes) c.in-Meet.left c.in-Meet.right c.in-Meet.subspace c.in-Meet.from c.args.out.now.items c.meet.result c.meet.ensures.rows)
