use Rattle.lms_core.proofs.known_tree.KnownTree.+value.Given as goal

abbrev pub decreases-value : goal.decreases-value
decreases-value l = l.level
