use Rattle.recency_index.proofs.index.Recency.insert.Given as goal

abbrev pub ghosts-put : goal.ghosts-put
ghosts-put a = record { name = a.blank.name; parts = a.blank.parts }
