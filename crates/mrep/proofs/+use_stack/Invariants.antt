use Rattle.mrep.proofs.+use_stack.Given as goal

abbrev pub decreases-use_stack : goal.decreases-use_stack
decreases-use_stack l = l.frames
