use Rattle.peer_run.proofs.run.run_maker.Goals as goal

pub returns-in-Key : goal.returns-in-Key
returns-in-Key g c = rw c.in-Key.is (λ others. c.make_key.ensures (record others { input = g.I.Source.facts c.args.input.now }))

pub returns-in-Grant : goal.returns-in-Grant
returns-in-Grant g c = rw c.in-Grant.is (λ others. c.grant.ensures (record others { input = g.I.Source.facts c.args.input.now; noise = g.N.Noise.facts c.args.noise.now }))

pub returns-in-Delegate : goal.returns-in-Delegate
returns-in-Delegate g c = rw c.in-Delegate.is (λ others. c.delegate.ensures (record others { noise = g.N.Noise.facts c.args.noise.now }))

pub returns-in-Write : goal.returns-in-Write
returns-in-Write g c = rw c.in-Write.is (λ others. c.write.ensures (record others { noise = g.N.Noise.facts c.args.noise.now }))
