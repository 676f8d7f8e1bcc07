use Rattle.link_arena.proofs.arena.Arena.remove.Given as goal

abbrev pub ghosts-remove_both : goal.ghosts-remove_both
ghosts-remove_both g a = record { name = a.blank.name; parts = a.blank.parts }
