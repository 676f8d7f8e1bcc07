use Rattle.peer_run.proofs.program.run_program.Goals as goal

pub returns : goal.returns
returns g c = record { promises = rw (← c.behind_name-words.ensures, c.from.ensures) c.peer_run-status.ensures.promises }
